-- What holds of stored runs: what the writer wrote reads back as the same run, only the exact layout is accepted, and a history
-- survives. Assumes nothing.
use Rattle.std.specs.Prelude.{Bool, true, false, ◌&&◌, List, ◌⊎◌, ◌≡◌, refl, ℕ, ◌≤◌, ◌<◌, length, set, nat_eq, slice_index_or, Result, Ok, Err}
use Rattle.std.specs.Result.{is_ok}
use Rattle.std.proofs.Common.{inl, inr, ⊎_elim, sym, ap, subst, ◌∙◌, arith, length-set, eqb-true}
use Rattle.run.specs.declared.Run.{Run}
use Rattle.refusals.specs.declared.Refusal.{Refusal}
use Rattle.run.specs.declared.Restored.{Restored}
use Rattle.paging.specs.Layers.{start_layer, next}
use Rattle.paging.specs.Tests.{truth, clash, bit_le, le_or_lt}
use Rattle.paging.specs.Tables.{table_length, table_at, table_past}
use Rattle.words.specs.Laws.{Bytes}
use Rattle.begin.specs.Limits.{most_pages, most_slots}
use Rattle.begin.specs.Begin.{start_layers, start_priorities, start_slots}
use Rattle.image.specs.Layout.{pages_in, slots_in, image_refusal, marks_agree}
use Rattle.image.proofs.Theorems.{Storable, stored_pages, stored_slots, stored_served, stored_hits, stored_misses}
use Rattle.image.proofs.Theorems.{stored_best, stored_accepted, stored_agree, stored_layer_table, stored_slot_table}
use Rattle.image.proofs.Theorems.{stored_priority_table, exact}
use Rattle.counts.specs.Counts.{no_counts, most_served, more}
use Rattle.run.specs.Numbers.{layer, blank_run}
use Rattle.run.specs.Cached.{slot_of}
use Rattle.run.specs.Sound.{Sound, sound}
use Rattle.run.specs.Start.{start_run, listed_run}
use Rattle.run.specs.Request.{counted, next_run, requested}
use Rattle.run.specs.Stored.{stored_bytes, image_counts, image_run, restored, image_of, store_refusal}
use Rattle.run.proofs.SoundLaws.{sound_iff}
use Rattle.run.specs.StartLaws.{accepted}
use Rattle.run.proofs.Storing.{restored_accepted, stored_untouched}
use Rattle.run.specs.History.{Begun, ComesFrom, begins, serves}
use Rattle.run.proofs.Theorems.{hit_or_miss, told}
use Rattle.run.specs.StoredTheorems.{Typed}

-- ---- What the image writer wrote, `restore` reads as the same run, for every sound run.

pub storable : (r : Run) → Sound r → Typed r → Storable r.pages r.slots r.counts.served r.counts.hits r.counts.misses r.counts.best r.layer r.ranks.priority r.held
storable r w t =
    record {
      limits = (w.pages.0, w.pages.1, w.slots.0, w.slots.1, w.slots.2);
      served_fits = omega (arith, w.served);
      hits_fit = omega (arith, w.counts, w.served);
      misses_fit = omega (arith, w.counts, w.served);
      best_fits = t.best;
      layers = λ q l. omega (arith, w.layers q l, w.slots.1);
      priorities = λ q l. t.wide q;
      slots = λ s l. omega (arith, w.holds s l, w.pages.1);
    }

module _ (r : Run) (w : Sound r) (t : Typed r) where
  st : Storable r.pages r.slots r.counts.served r.counts.hits r.counts.misses r.counts.best r.layer r.ranks.priority r.held
  st = storable r w t

  reads_as : image_run (image_of r) ≡ r
  unfolding image_of image_run image_counts
  reads_as =
      let N = stored_pages r.pages r.slots r.counts.served r.counts.hits r.counts.misses r.counts.best r.layer r.ranks.priority r.held st in
      let k = stored_slots r.pages r.slots r.counts.served r.counts.hits r.counts.misses r.counts.best r.layer r.ranks.priority r.held st in
      rw (
        N,
        k,
        stored_served r.pages r.slots r.counts.served r.counts.hits r.counts.misses r.counts.best r.layer r.ranks.priority r.held st,
        stored_hits r.pages r.slots r.counts.served r.counts.hits r.counts.misses r.counts.best r.layer r.ranks.priority r.held st,
        stored_misses r.pages r.slots r.counts.served r.counts.hits r.counts.misses r.counts.best r.layer r.ranks.priority r.held st,
        stored_best r.pages r.slots r.counts.served r.counts.hits r.counts.misses r.counts.best r.layer r.ranks.priority r.held st,
        stored_layer_table r.pages r.slots r.counts.served r.counts.hits r.counts.misses r.counts.best r.layer r.ranks.priority r.held st t.layers w.no_layer,
        stored_priority_table r.pages r.slots r.counts.served r.counts.hits r.counts.misses r.counts.best r.layer r.ranks.priority r.held st t.priorities w.no_priority,
        stored_slot_table r.pages r.slots r.counts.served r.counts.hits r.counts.misses r.counts.best r.layer r.ranks.priority r.held st t.slots w.empty,
      )

  agrees : marks_agree (pages_in (image_of r)) (slots_in (image_of r)) (image_of r) ≡ true
  unfolding image_of
  agrees =
      rw (
        stored_pages r.pages r.slots r.counts.served r.counts.hits r.counts.misses r.counts.best r.layer r.ranks.priority r.held st,
        stored_slots r.pages r.slots r.counts.served r.counts.hits r.counts.misses r.counts.best r.layer r.ranks.priority r.held st,
      )
      (stored_agree r.pages r.slots r.counts.served r.counts.hits r.counts.misses r.counts.best r.layer r.ranks.priority r.held st)

  none_refused : image_refusal (image_of r) ≡ 0
  unfolding image_of
  none_refused = stored_accepted r.pages r.slots r.counts.served r.counts.hits r.counts.misses r.counts.best r.layer r.ranks.priority r.held st

  pub stored_reads_back : restored (image_of r) ≡ record { run = r; event = Ok tt }
  stored_reads_back =
      sym
      (restored_accepted
      (image_of r)
      0
      (sym none_refused)
      refl
      agrees
      r
      (sym reads_as)
      ((sound_iff r).1 w))

-- ---- The reader accepts a byte string only if it is exactly the image of the run it gives.

whole : (b : List ℕ) → Bytes b → image_refusal b ≡ 0 → marks_agree (pages_in b) (slots_in b) b ≡ true → image_of (image_run b) ≡ b
unfolding image_of image_run image_counts
whole b byte z agree = exact b byte z agree

pub accepted_is_exact :
    (b : List ℕ) → Bytes b → (restored b).event ≡ Ok tt → (image_of (restored b).run ≡ b) × Sound (restored b).run
unfolding restored
accepted_is_exact b byte h =
    go
    (truth (nat_eq (image_refusal b) 0))
    (truth (marks_agree (pages_in b) (slots_in b) b))
    (truth (sound (image_run b)))
  where
    Test : Bool → Type 0
    Test x = (x ≡ true) ⊎ (x ≡ false)

    not_read : {x : Refusal} → ◌≡◌ {A = Result Unit Refusal} (Err x) (Ok tt) → ⊥
    not_read e = let o : ◌≡◌ {A = Bool} false true = ap is_ok e in clash refl (sym o)

    go :
        Test (nat_eq (image_refusal b) 0) →
        Test (marks_agree (pages_in b) (slots_in b) b) →
        Test (sound (image_run b)) →
        (image_of (restored b).run ≡ b) × Sound (restored b).run
    go (inr a) c d = absurd (not_read (rw a at h))
    go (inl a) (inr c) d = absurd (not_read (rw (a, c) at h))
    go (inl a) (inl c) (inr d) = absurd (not_read (rw (a, c, d) at h))
    go (inl a) (inl c) (inl d) = rw (a, c, d) (whole b byte (eqb-true (image_refusal b) 0 a) c, (sound_iff (image_run b)).0 d)

-- So no two different images mean the same run.
pub images_differ :
    (a b : List ℕ) → Bytes a → Bytes b → (restored a).event ≡ Ok tt → (restored b).event ≡ Ok tt → (restored a).run ≡ (restored b).run → a ≡ b
images_differ a b ba bb ea eb same =
    sym (accepted_is_exact a ba ea).0 ∙ (ap image_of same ∙ (accepted_is_exact b bb eb).0)

-- ---- A run with a history has its types, so that its image gives it back: a restored run has that history.

typed_start : (N k : ℕ) (ps pr : List ℕ) → N ≤ most_pages → k ≤ most_slots → ((q : ℕ) → slice_index_or pr q 0 ≤ 65535) → Typed (listed_run N k ps pr)
unfolding start_run no_counts start_layers start_priorities start_slots
typed_start N k ps pr n s wide =
    record {
      layers = table_length 1024 N 0 (start_layer ps) n;
      priorities = table_length 1024 N 0 (λ q. slice_index_or pr q 0) n;
      slots = table_length 64 k 65535 (λ t. slice_index_or ps t 65535) s;
      wide = λ q.
          ⊎_elim
          (λ h. omega (arith, table_past 1024 N 0 (λ q. slice_index_or pr q 0) q h))
          (λ h. omega (arith, table_at 1024 N 0 (λ q. slice_index_or pr q 0) q h, wide q))
          (le_or_lt N q);
      best = omega arith;
    }

typed_counted : (r : Run) (p hit miss : ℕ) (held : List ℕ) → Sound r → Typed r → length held ≡ most_slots → Typed (counted r p hit miss held)
unfolding counted next_run more
typed_counted r p hit miss held w t l =
    record {
      layers = table_length most_pages r.pages 0 (next r.slots p (layer r)) w.pages.1;
      priorities = t.priorities;
      slots = l;
      wide = t.wide;
      best = omega (arith, bit_le (nat_eq (layer r p) 0), w.best, w.counts, w.served);
    }

pub typed_request : (r : Run) (p : ℕ) → Sound r → Typed r → p < r.pages → r.counts.served < most_served → Typed (requested r p).run
typed_request r p w t l room =
    ⊎_elim
    (λ h. subst Typed (sym h.run) (typed_counted r p 1 0 r.held w t t.slots))
    (λ m.
    let (v, h) = m in
    subst Typed (sym h.run) (typed_counted r p 0 1 (set r.held (slot_of r v) p) w t (length-set r.held (slot_of r v) p ∙ t.slots)))
    (hit_or_miss r w p l room)

pub typed_history :
    (b : Begun) {ps : List ℕ} {r : Run} → ((q : ℕ) → slice_index_or b.priorities q 0 ≤ 65535) → ComesFrom b ps r → Typed r
typed_history b wide begins =
    let a = accepted b.pages b.slots b.list b.priorities b.accepted in
    subst Typed (sym a.run) (typed_start b.pages b.slots b.list b.priorities a.pages.1 a.slots.1 wide)
typed_history b wide (serves {ps = ps} {r = r} c p l room) =
    typed_request r p (told b c).sound_is (typed_history b wide c) l room

-- Demand 3, extended: a run restored from an image that the writer made of a run with a history has that history.
pub restored_history :
    (b : Begun) (ps : List ℕ) (r : Run) →
    ((q : ℕ) → slice_index_or b.priorities q 0 ≤ 65535) →
    ComesFrom b ps r →
    ComesFrom b ps (restored (image_of r)).run
restored_history b ps r wide c =
    subst (ComesFrom b ps) (sym (ap (λ (x : Restored). x.run) (stored_reads_back r (told b c).sound_is (typed_history b wide c)))) c

-- ---- A refused reader hands back the blank run; a refused writer changes no byte.

pub refused_read : (b : List ℕ) → ((restored b).event ≡ Ok tt → ⊥) → (restored b).run ≡ blank_run
unfolding restored
refused_read b ne =
    go
    (truth (nat_eq (image_refusal b) 0))
    (truth (marks_agree (pages_in b) (slots_in b) b && sound (image_run b)))
  where
    Test : Bool → Type 0
    Test x = (x ≡ true) ⊎ (x ≡ false)

    go : Test (nat_eq (image_refusal b) 0) → Test (marks_agree (pages_in b) (slots_in b) b && sound (image_run b)) → (restored b).run ≡ blank_run
    go (inr a) c = rw a
    go (inl a) (inr c) = rw (a, c)
    go (inl a) (inl c) = absurd (ne (rw (a, c)))

pub refused_store : (r : Run) (out : List ℕ) → (store_refusal r out ≡ 0 → ⊥) → stored_bytes r out ≡ out
refused_store r out ne = sym (stored_untouched r out (store_refusal r out) refl ne)
