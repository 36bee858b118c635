-- The image reader and writer as the code takes them. Assumes nothing.
use Rattle.serve.specs.declared.Event.TheVariants.{Refused as Declined}
use Rattle.std.specs.Prelude.{Bool, true, false, ◌&&◌, List, ◌≡◌, ◌⊎◌, ℕ, ◌+◌, ◌*◌, ◌≤◌, ◌<◌, length, slice_index_or, nat_le, None, Ok, Err}
use Rattle.std.proofs.Math.Path.{refl, sym, ap, subst}
use Rattle.std.proofs.Common.{◌∙◌, inl, inr, ⊎_elim, arith}
use borrow.Author.Tests.{ne_eqb, eq-eqb, le-leb, lt-leb, leb-true}
use Rattle.refusals.specs.declared.Refusal.{Refusal}
use Rattle.refusals.specs.declared.Refusal.TheVariants.{Unsound, NoSuchPage, AllServed}
use Rattle.refusals.specs.Numbers.{number, named, given}
use Rattle.refusals.specs.Laws.{number_some, named_number, number_named}
use Rattle.serve.specs.Event.{values}
use Rattle.serve.specs.declared.Event.{Event}
use Rattle.ranking.specs.declared.Ranks.{Ranks}
use Rattle.ranking.specs.Ranks.{fixed_ranks}
use Rattle.run.specs.declared.Run.{Run}
use Rattle.run.specs.declared.Restored.{Restored}
use Rattle.run.specs.declared.Served.{Served}
use Rattle.run.specs.declared.Stored.{Stored}
use Rattle.paging.specs.Sets.{◌=?◌, unless◌give◌else◌}
use Rattle.paging.specs.Tests.{truth, is, clash, le_or_lt}
use Rattle.words.specs.Words.{word_at, put}
use Rattle.image.specs.Layout.{image_length, pages_in, slots_in, image_refusal, image_layers, image_slots}
use Rattle.image.specs.Layout.{image_priorities, marks_agree, image_bytes}
use Rattle.image.proofs.Laws.{refusal_read, refusal_small}
use Rattle.run.specs.Numbers.{layer, blank_run}
use Rattle.counts.specs.Counts.{most_served}
use Rattle.run.specs.Sound.{Sound, sound}
use Rattle.run.specs.Request.{requested, refused}
use Rattle.run.proofs.Requesting.{refuse_unsound, requested_refused}
use Rattle.run.proofs.Theorems.{refused_8, refused_9, never_refused}
use Rattle.run.specs.Stored.{stored_bytes, image_counts, image_run, image_described, no_run, restored, restore_refusal, reading_number, image_of, store_refusal, stored, after_reading, requested_in}
use Rattle.run.proofs.SoundLaws.{sound_iff}

-- ---- reading

module _ (b : List ℕ) (n : ℕ) (told_is : n ≡ image_refusal b) where
  pub restored_refused :
      (r : Run) (x : Refusal) → number x ≡ n → r ≡ blank_run → ◌≡◌ {A = Restored} (record { run = r; event = Err x }) (restored b)
  unfolding restored
  restored_refused r x is e =
      rw (e, ne_eqb (image_refusal b) 0 (λ z. number_some x (is ∙ (told_is ∙ z))), sym (ap named (is ∙ told_is)), named_number x)

  module _ (z : n ≡ 0) where
    none : image_refusal b ≡ 0
    none = sym told_is ∙ z

    pub restored_unequal :
        (r : Run) →
        marks_agree (pages_in b) (slots_in b) b ≡ false →
        r ≡ blank_run →
        ◌≡◌ {A = Restored} (record { run = r; event = Err Unsound }) (restored b)
    unfolding restored
    restored_unequal r h e = rw (e, none, h)

    module _ (agree : marks_agree (pages_in b) (slots_in b) b ≡ true) where
      pub restored_unsound :
          (r : Run) →
          sound (image_run b) ≡ false →
          r ≡ blank_run →
          ◌≡◌ {A = Restored} (record { run = r; event = Err Unsound }) (restored b)
      unfolding restored
      restored_unsound r h e = rw (e, none, agree, h)

      pub restored_accepted :
          (r : Run) →
          r ≡ image_run b →
          sound r ≡ true →
          ◌≡◌ {A = Restored} (record { run = r; event = Ok tt }) (restored b)
      unfolding restored
      restored_accepted r e h = rw (none, agree, rw e at h, e)

-- the number of the answer is the first refusal that applies
number_of_cases : (n : ℕ) (a b : Bool) (r : Run) → (a ≡ false → number (named n) ≡ n) →
    reading_number (unless a give no_run (named n) else unless b give no_run Unsound else record { run = r; event = Ok tt }).event
    ≡ (unless a give n else unless b give 1 else 0)
unfolding reading_number
number_of_cases n false b r is = is refl
number_of_cases n true false r is = refl
number_of_cases n true true r is = refl

pub restored_number : (b : List ℕ) → reading_number (restored b).event ≡ restore_refusal b
unfolding restored restore_refusal
restored_number b =
    number_of_cases (image_refusal b) (image_refusal b =? 0) (marks_agree (pages_in b) (slots_in b) b && sound (image_run b)) (image_run b)
    (λ e. number_named (image_refusal b) (refusal_small b) (λ z. clash (eq-eqb (image_refusal b) 0 z) e))

-- What the reader's two promises say, from the first of them.
pub with_number : (b : List ℕ) (x : Restored) → x ≡ restored b → (x ≡ restored b) × (reading_number x.event ≡ restore_refusal b)
with_number b x e = (e, ap (λ (y : Restored). reading_number y.event) e ∙ restored_number b)

-- what an image with the right length and header has room for
pub image_fits :
    (b : List ℕ) (N k : ℕ) →
    image_refusal b ≡ 0 →
    N ≡ pages_in b →
    k ≡ slots_in b →
    (N ≤ 1024) × (k ≤ 64) × (36 + 3 * N + 2 * k ≤ length b)
unfolding image_length
image_fits b N k ok en ek =
    let w = refusal_read b ok in
    (omega (arith, w.limits), omega (arith, w.limits), omega (arith, w.total))

pub image_long : (b : List ℕ) → image_refusal b ≡ 0 → 36 ≤ length b
image_long b ok = (refusal_read b ok).long

pub image_run_is :
    (b : List ℕ) (N k served hits misses best : ℕ) (layers priorities slots : List ℕ) (ranks : Ranks) →
    N ≡ pages_in b →
    k ≡ slots_in b →
    served ≡ word_at 4 b 8 →
    hits ≡ word_at 4 b 12 →
    misses ≡ word_at 4 b 16 →
    best ≡ word_at 4 b 20 →
    layers ≡ image_layers N b →
    priorities ≡ image_priorities N k b →
    ranks ≡ fixed_ranks priorities →
    slots ≡ image_slots N k b →
    ◌≡◌ {A = Run}
    (record { pages = N; slots = k; counts = record { served = served; hits = hits; misses = misses; best = best }; layer = layers; ranks = ranks; held = slots })
    (image_run b)
unfolding image_run image_counts
image_run_is b N k served hits misses best layers priorities slots ranks en ek es eh em eb el ep er eo =
    rw (er, el, ep, eo, en, ek, es, eh, em, eb)

pub described_is : (b : List ℕ) → image_refusal b ≡ 0 → image_described b ≡ image_run b
unfolding image_described
described_is b z = rw z

pub described_blank : (b : List ℕ) → (image_refusal b ≡ 0 → ⊥) → blank_run ≡ image_described b
unfolding image_described
described_blank b ne = rw (ne_eqb (image_refusal b) 0 ne)

-- the run of an image has the image's N and k
module _ (b : List ℕ) (x : Run) (ex : x ≡ image_run b) where
  pub run_pages : x.pages ≡ pages_in b
  unfolding image_run
  run_pages = ap (λ (r : Run). r.pages) ex

  pub run_slots : x.slots ≡ slots_in b
  unfolding image_run
  run_slots = ap (λ (r : Run). r.slots) ex

  pub agree_in : marks_agree x.pages x.slots b ≡ marks_agree (pages_in b) (slots_in b) b
  agree_in = rw (run_pages, run_slots)

  pub sound_in : sound x ≡ sound (image_run b)
  sound_in = ap sound ex

-- ---- a request to the run in an image

module _ (b : List ℕ) (p : ℕ) where
  -- the reader refuses
  pub in_refused :
      (n : Refusal) (r : Run) (x : Served) →
      r ≡ blank_run →
      ◌≡◌ {A = Restored} (record { run = r; event = Err n }) (restored b) →
      x ≡ refused r n →
      x ≡ requested_in b p
  unfolding requested_in after_reading
  in_refused n r x er e ex =
      ex ∙ subst (λ (y : Restored). refused r n ≡ after_reading y.run y.event p) e refl

  -- it accepts, and the request is that of the run in the image
  pub in_accepted :
      (r : Run) (x : Served) →
      ◌≡◌ {A = Restored} (record { run = r; event = Ok tt }) (restored b) →
      x ≡ requested r p →
      x ≡ requested_in b p
  unfolding requested_in after_reading
  in_accepted r x e ex =
      ex ∙ subst (λ (y : Restored). requested r p ≡ after_reading y.run y.event p) e refl

-- a request gets 1 exactly where the run is not sound
pub one_unsound : (r : Run) (p : ℕ) → (requested r p).event ≡ Declined Unsound → sound r ≡ false
unfolding values
one_unsound r p e = ⊎_elim (λ s. absurd (not_one s)) (λ f. f) (truth (sound r))
  where
    not_one : sound r ≡ true → ⊥
    not_one s = ⊎_elim (λ h. eight h) (λ l. ⊎_elim (λ h. nine l h) (λ room. never_refused r w p l room Unsound e) (le_or_lt most_served r.counts.served)) (le_or_lt r.pages p)
      where
        w : Sound r
        w = (sound_iff r).0 s

        eight : r.pages ≤ p → ⊥
        eight h = let z : Declined NoSuchPage ≡ Declined Unsound = sym (refused_8 r w p h) ∙ e in let o : ◌≡◌ {A = ℕ} 8 1 = ap (λ (x : Event). (values x).refusal) z in omega arith

        nine : p < r.pages → most_served ≤ r.counts.served → ⊥
        nine l h = let z : Declined AllServed ≡ Declined Unsound = sym (refused_9 r w p l h) ∙ e in let o : ◌≡◌ {A = ℕ} 9 1 = ap (λ (x : Event). (values x).refusal) z in omega arith

pub not_one_sound : (r : Run) (p : ℕ) → ((requested r p).event ≡ Declined Unsound → ⊥) → sound r ≡ true
not_one_sound r p ne =
    is (sound r) (λ f. ne (sym (ap (λ (s : Served). s.event) (requested_refused r p Unsound (refuse_unsound r p f)))))

-- ---- writing

module _ (r : Run) (out : List ℕ) where
  pub store_unsound : sound r ≡ false → 1 ≡ store_refusal r out
  unfolding store_refusal
  store_unsound e = rw e

  pub store_short : sound r ≡ true → length out < image_length r.pages r.slots → 16 ≡ store_refusal r out
  unfolding store_refusal
  store_short e h = rw (e, lt-leb (image_length r.pages r.slots) (length out) h)

  pub store_none : sound r ≡ true → image_length r.pages r.slots ≤ length out → 0 ≡ store_refusal r out
  unfolding store_refusal
  store_none e h = rw (e, le-leb (image_length r.pages r.slots) (length out) h)

  module _ (n : ℕ) (told : n ≡ store_refusal r out) where
    pub stored_refused : (n ≡ 0 → ⊥) → ◌≡◌ {A = Stored} (record { length = 0; refusal = given n }) (stored r out)
    unfolding stored
    stored_refused ne = rw (ne_eqb (store_refusal r out) 0 (λ z. ne (told ∙ z)), told)

    pub stored_untouched : (n ≡ 0 → ⊥) → out ≡ stored_bytes r out
    unfolding stored_bytes
    stored_untouched ne = rw (ne_eqb (store_refusal r out) 0 (λ z. ne (told ∙ z)))

    pub stored_told :
        (l : ℕ) → n ≡ 0 → l ≡ image_length r.pages r.slots → ◌≡◌ {A = Stored} (record { length = l; refusal = None }) (stored r out)
    unfolding stored
    stored_told l z e = let none : store_refusal r out ≡ 0 = sym told ∙ z in rw (none, e)

    pub stored_put : (after : List ℕ) → n ≡ 0 → after ≡ put out 0 (image_of r) → after ≡ stored_bytes r out
    unfolding stored_bytes
    stored_put after z e = let none : store_refusal r out ≡ 0 = sym told ∙ z in e ∙ rw none

-- what the writer asks for
pub store_fits :
    (r : Run) (out : List ℕ) →
    store_refusal r out ≡ 0 →
    ((r.pages ≤ 1024) × (r.slots ≤ 64) × (image_length r.pages r.slots ≤ length out))
    × ((q : ℕ) → q < r.pages → layer r q ≤ 127)
unfolding store_refusal
store_fits r out h = go (truth (sound r)) (truth (nat_le (image_length r.pages r.slots) (length out)))
  where
    Test : Bool → Type 0
    Test b = (b ≡ true) ⊎ (b ≡ false)

    go :
        Test (sound r) →
        Test (nat_le (image_length r.pages r.slots) (length out)) →
        ((r.pages ≤ 1024) × (r.slots ≤ 64) × (image_length r.pages r.slots ≤ length out))
        × ((q : ℕ) → q < r.pages → layer r q ≤ 127)
    go (inr a) c = absurd (omega (arith, rw a at h))
    go (inl a) (inr c) = absurd (omega (arith, rw (a, c) at h))
    go (inl a) (inl c) =
        let w = (sound_iff r).0 a in (
          (w.pages.1, w.slots.1, leb-true (image_length r.pages r.slots) (length out) c),
          λ q l. omega (arith, w.layers q l, w.slots.1),
        )

-- The writer is given a run's parts: it asks of them what it asks of the run, and what it writes of them is the run's image.
module _
    (r : Run)
    {N k : ℕ}
    {layers priorities slots : List ℕ}
    (sizes : (N ≡ r.pages) × (k ≡ r.slots))
    (tables : (layers ≡ r.layer) × (priorities ≡ r.ranks.priority) × (slots ≡ r.held))
  where
    pub parts_fit :
        {n : ℕ} →
        ((r.pages ≤ 1024) × (r.slots ≤ 64) × (image_length r.pages r.slots ≤ n)) × ((q : ℕ) → q < r.pages → layer r q ≤ 127) →
        ((N ≤ 1024) × (k ≤ 64) × (image_length N k ≤ n)) × ((q : ℕ) → q < N → slice_index_or layers q 0 ≤ 127)
    parts_fit f = rw (sizes.0, sizes.1, tables.0) f

    pub parts_image :
        {served hits misses best : ℕ} →
        (served ≡ r.counts.served) × (hits ≡ r.counts.hits) × (misses ≡ r.counts.misses) × (best ≡ r.counts.best) →
        image_bytes N k served hits misses best layers priorities slots ≡ image_of r
    unfolding image_of
    parts_image numbers =
        rw (sizes.0, sizes.1, numbers.0, numbers.1, numbers.2, numbers.3, tables.0, tables.1, tables.2)

-- the length of an image
pub length_is : (N k : ℕ) → 36 + 3 * N + 2 * k ≡ image_length N k
unfolding image_length
length_is N k = refl
