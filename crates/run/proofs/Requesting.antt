-- A request as the code takes it: its refusals first, then the serving. Assumes nothing.
use Rattle.std.proofs.Math.Bool.{Bool}
use Rattle.std.specs.Prelude.{true, false, ◌⊎◌, ◌≡◌, refl, ℕ, ◌≤◌, ◌<◌, nat_lt, if◌then◌else◌}
use Rattle.std.proofs.Common.{inl, inr, ap, ◌∙◌, arith}
use Rattle.std.proofs.Math.Option.{Option, none, some}
use borrow.Author.Tests.{lt-ltb, le-ltb, ltb-true}
use Rattle.refusals.specs.declared.Refusal.{Refusal}
use Rattle.refusals.specs.declared.Refusal.TheVariants.{Unsound, NoSuchPage, AllServed}
use Rattle.refusals.specs.Numbers.{number}
use Rattle.refusals.specs.Laws.{number_once, number_some}
use Rattle.serve.specs.declared.Event.TheVariants.{Refused}
use Rattle.run.specs.declared.Run.{Run}
use Rattle.run.specs.declared.Served.{Served}
use Rattle.paging.specs.Sets.{unless◌give◌else◌}
use Rattle.paging.specs.Tests.{truth}
use Rattle.counts.specs.Counts.{most_served, page_refusal}
use Rattle.run.specs.Sound.{Sound, sound}
use Rattle.serve.specs.Event.{values}
use Rattle.run.specs.Cached.{cached, slot_of, victim_of}
use Rattle.run.specs.Request.{served, requested, refused, with_hit, with_miss, refusal_values, miss_values, request_values}
use Rattle.run.proofs.SoundLaws.{sound_iff}
use Rattle.run.specs.Requesting.{request_refusal}

-- ---- the paper's values of the answer

missed_values : (r : Run) (p : ℕ) (v : Option ℕ) → values (with_miss r p v).event ≡ miss_values r v
unfolding values with_miss miss_values
missed_values r p none = refl
missed_values r p (some v) = refl

served_values :
    (r : Run) (p : ℕ) (hit : Bool) →
    values (if hit then with_hit r p else with_miss r p (victim_of r p)).event
    ≡ (if hit then record { refusal = 0; miss = 0; slot = slot_of r p; victim = 0 } else miss_values r (victim_of r p))
unfolding values with_hit
served_values r p true = refl
served_values r p false = missed_values r p (victim_of r p)

-- The values of a request's event are those that document 01 gives.
pub requested_values : (r : Run) (p : ℕ) → values (requested r p).event ≡ request_values r p
unfolding requested request_values served values
requested_values r p = go (sound r) (nat_lt p r.pages) (nat_lt r.counts.served most_served)
  where
    go :
        (a b c : Bool) →
        values (unless a give refused r Unsound else unless b give refused r NoSuchPage else unless c give refused r AllServed else served r p).event
        ≡ (unless a give refusal_values 1 else unless b give refusal_values 8 else unless c give refusal_values 9 else
        if cached r p then record { refusal = 0; miss = 0; slot = slot_of r p; victim = 0 } else miss_values r (victim_of r p))
    go false b c = refl
    go true false c = refl
    go true true false = refl
    go true true true = served_values r p (cached r p)

-- What a request's two promises say, from the first of them.
pub with_values : (r : Run) (p : ℕ) (x : Served) → x ≡ requested r p → (x ≡ requested r p) × (values x.event ≡ request_values r p)
with_values r p x e = (e, ap (λ (y : Served). values y.event) e ∙ requested_values r p)

module _ (r : Run) (p : ℕ) where
  pub refuse_unsound : sound r ≡ false → 1 ≡ request_refusal r p
  unfolding request_refusal
  refuse_unsound e = rw e

  module _ (e : sound r ≡ true) where
    pub refusal_of_sound : (n : ℕ) → n ≡ page_refusal r.pages r.counts.served p → n ≡ request_refusal r p
    unfolding page_refusal request_refusal
    refusal_of_sound n h = h ∙ rw e

    pub refuse_page : r.pages ≤ p → 8 ≡ request_refusal r p
    unfolding request_refusal
    refuse_page h = rw (e, le-ltb p r.pages h)

    pub refuse_served : p < r.pages → most_served ≤ r.counts.served → 9 ≡ request_refusal r p
    unfolding request_refusal
    refuse_served l h = rw (e, lt-ltb p r.pages l, le-ltb r.counts.served most_served h)

    pub refuse_none : p < r.pages → r.counts.served < most_served → 0 ≡ request_refusal r p
    unfolding request_refusal
    refuse_none l h = rw (e, lt-ltb p r.pages l, lt-ltb r.counts.served most_served h)

  -- what it means that none of them applies
  pub not_refused : request_refusal r p ≡ 0 → Sound r × (p < r.pages) × (r.counts.served < most_served)
  unfolding request_refusal
  not_refused h = go (truth (sound r)) (truth (nat_lt p r.pages)) (truth (nat_lt r.counts.served most_served))
    where
      Test : Bool → Type 0
      Test b = (b ≡ true) ⊎ (b ≡ false)

      go : Test (sound r) → Test (nat_lt p r.pages) → Test (nat_lt r.counts.served most_served) → Sound r × (p < r.pages) × (r.counts.served < most_served)
      go (inr a) b c = absurd (omega (arith, rw a at h))
      go (inl a) (inr b) c = absurd (omega (arith, rw (a, b) at h))
      go (inl a) (inl b) (inr c) = absurd (omega (arith, rw (a, b, c) at h))
      go (inl a) (inl b) (inl c) = ((sound_iff r).0 a, ltb-true p r.pages b, ltb-true r.counts.served most_served c)

  pub requested_refused :
      (n : Refusal) → number n ≡ request_refusal r p → ◌≡◌ {A = Served} (record { run = r; event = Refused n; best = 0 }) (requested r p)
  unfolding request_refusal requested
  requested_refused n e = go (truth (sound r)) (truth (nat_lt p r.pages)) (truth (nat_lt r.counts.served most_served))
    where
      Test : Bool → Type 0
      Test b = (b ≡ true) ⊎ (b ≡ false)

      go : Test (sound r) → Test (nat_lt p r.pages) → Test (nat_lt r.counts.served most_served) → ◌≡◌ {A = Served} (record { run = r; event = Refused n; best = 0 }) (requested r p)
      go (inr a) b c = rw (number_once n Unsound (e ∙ rw a), a)
      go (inl a) (inr b) c = rw (number_once n NoSuchPage (e ∙ rw (a, b)), a, b)
      go (inl a) (inl b) (inr c) = rw (number_once n AllServed (e ∙ rw (a, b, c)), a, b, c)
      go (inl a) (inl b) (inl c) = absurd (number_some n (e ∙ rw (a, b, c)))

  -- the refusal of a number that is given
  pub refused_by : (request_refusal r p ≡ 0 → ⊥) → (n : Refusal) × (number n ≡ request_refusal r p)
  unfolding request_refusal
  refused_by ne = go (truth (sound r)) (truth (nat_lt p r.pages)) (truth (nat_lt r.counts.served most_served))
    where
      Test : Bool → Type 0
      Test b = (b ≡ true) ⊎ (b ≡ false)

      go : Test (sound r) → Test (nat_lt p r.pages) → Test (nat_lt r.counts.served most_served) → (n : Refusal) × (number n ≡ request_refusal r p)
      go (inr a) b c = (Unsound, rw a)
      go (inl a) (inr b) c = (NoSuchPage, rw (a, b))
      go (inl a) (inl b) (inr c) = (AllServed, rw (a, b, c))
      go (inl a) (inl b) (inl c) = absurd (ne (rw (a, b, c)))

  -- a refused request hands back its run
  pub refused_run : (request_refusal r p ≡ 0 → ⊥) → (requested r p).run ≡ r
  unfolding request_refusal requested
  refused_run ne = go (truth (sound r)) (truth (nat_lt p r.pages)) (truth (nat_lt r.counts.served most_served))
    where
      Test : Bool → Type 0
      Test b = (b ≡ true) ⊎ (b ≡ false)

      go : Test (sound r) → Test (nat_lt p r.pages) → Test (nat_lt r.counts.served most_served) → (requested r p).run ≡ r
      go (inr a) b c = rw a
      go (inl a) (inr b) c = rw (a, b)
      go (inl a) (inl b) (inr c) = rw (a, b, c)
      go (inl a) (inl b) (inl c) = absurd (ne (rw (a, b, c)))

  pub requested_served : request_refusal r p ≡ 0 → requested r p ≡ served r p
  unfolding requested
  requested_served z =
      let (w, l, room) = not_refused z in
      rw ((sound_iff r).1 w, lt-ltb p r.pages l, lt-ltb r.counts.served most_served room)
