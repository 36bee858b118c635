-- What an accepted image says, and that every outcome of a request to its run can be packed and written over it. Assumes nothing.
use Rattle.std.specs.Prelude.{Bool, true, false, List, ◌⊎◌, ◌≡◌, refl, ℕ, ◌<◌, length, nat_eq, Ok, Err}
use Rattle.std.specs.Result.{is_ok}
use Rattle.std.proofs.Common.{inl, inr, sym, ap, subst, ◌∙◌, arith, eqb-true}
use Rattle.std.proofs.Math.Logic.{⊎_elim}
use Rattle.serve.specs.declared.Event.{Event}
use Rattle.serve.specs.declared.Event.TheVariants.{Hit, Miss, Refused}
use Rattle.run.specs.declared.Run.{Run}
use Rattle.run.specs.declared.Served.{Served}
use Rattle.refusals.specs.declared.Refusal.{Refusal}
use Rattle.refusals.specs.declared.Refusal.TheVariants.{Unsound}
use Rattle.refusals.specs.Numbers.{named}
use Rattle.paging.specs.Tests.{truth, clash, same_or_not}
use Rattle.image.specs.Layout.{image_length, pages_in, slots_in, image_refusal, marks_agree}
use Rattle.image.proofs.Laws.{Read, refusal_read}
use Rattle.counts.specs.Counts.{most_served}
use Rattle.run.specs.Sound.{Sound, sound}
use Rattle.run.proofs.SoundLaws.{sound_iff}
use Rattle.run.specs.Request.{requested}
use Rattle.run.specs.Requesting.{request_refusal}
use Rattle.run.proofs.Requesting.{not_refused, refused_by, requested_refused}
use Rattle.run.proofs.RequestLaws.{slot_holds, victim_in}
use Rattle.run.specs.Stored.{image_run, restored, after_reading, requested_in}
use Rattle.run.proofs.Storing.{run_pages, run_slots}
use Rattle.run.specs.Theorems.{IsHit, IsMiss}
use Rattle.run.proofs.Theorems.{hit_or_miss, request_is_sound, pages_stay, slots_stay}
use Rattle.board.specs.Board.{Small, Fits, Settles}

-- ---- an image that the reader accepts

pub record Taken (b : List ℕ) : Type 0 where
  pub read_is : Read b
  pub run_is : (restored b).run ≡ image_run b
  pub sound_is : Sound (restored b).run
  pub total : length b ≡ image_length (restored b).run.pages (restored b).run.slots

taken_run : (b : List ℕ) → image_refusal b ≡ 0 → (restored b).run ≡ image_run b → sound (image_run b) ≡ true → Taken b
taken_run b none e s =
    let read = refusal_read b none in
    record {
      read_is = read;
      run_is = e;
      sound_is = subst Sound (sym e) ((sound_iff (image_run b)).0 s);
      total = rw (run_pages b (restored b).run e, run_slots b (restored b).run e) read.total;
    }

-- An image is accepted, or refused.
abbrev pub TakenOrNot : List ℕ → Type 0
TakenOrNot b = (((restored b).event ≡ Ok tt) × Taken b) ⊎ ((n : Refusal) × ((restored b).event ≡ Err n))

pub taken_or_not : (b : List ℕ) → TakenOrNot b
unfolding restored
taken_or_not b =
    go
    (truth (nat_eq (image_refusal b) 0))
    (truth (marks_agree (pages_in b) (slots_in b) b))
    (truth (sound (image_run b)))
  where
    Test : Bool → Type 0
    Test x = (x ≡ true) ⊎ (x ≡ false)

    go :
        Test (nat_eq (image_refusal b) 0) →
        Test (marks_agree (pages_in b) (slots_in b) b) →
        Test (sound (image_run b)) →
        TakenOrNot b
    go (inr a) c d = inr (named (image_refusal b), rw a)
    go (inl a) (inr c) d = inr (Unsound, rw (a, c))
    go (inl a) (inl c) (inr d) = inr (Unsound, rw (a, c, d))
    go (inl a) (inl c) (inl d) = inl (rw (a, c, d), taken_run b (eqb-true (image_refusal b) 0 a) (rw (a, c, d)) d)

pub taken : (b : List ℕ) → (restored b).event ≡ Ok tt → Taken b
taken b h = ⊎_elim (λ t. t.1) (λ u. absurd (other u.0 u.1)) (taken_or_not b)
  where
    other : (n : Refusal) → (restored b).event ≡ Err n → ⊥
    other n e = let o : ◌≡◌ {A = Bool} false true = ap is_ok (sym e ∙ h) in clash refl (sym o)

-- ---- a request to a sound run is a hit or a miss, or refused: then the run is as it was

abbrev pub ServedOrNot : Run → ℕ → Type 0
ServedOrNot r p =
    ((p < r.pages) × (r.counts.served < most_served) × (IsHit r p ⊎ ((v : ℕ) × IsMiss r p v)))
    ⊎ ((n : Refusal) × (◌≡◌ {A = Served} (requested r p) (record { run = r; event = Refused n; best = 0 })))

pub served_or_not : (r : Run) (p : ℕ) → Sound r → ServedOrNot r p
served_or_not r p w = ⊎_elim served_is refused_is (same_or_not (request_refusal r p) 0)
  where
    served_is : request_refusal r p ≡ 0 → ServedOrNot r p
    served_is z = let (_, l, room) = not_refused r p z in inl (l, room, hit_or_miss r w p l room)

    refused_is : (request_refusal r p ≡ 0 → ⊥) → ServedOrNot r p
    refused_is ne = let (n, is) = refused_by r p ne in inr (n, sym (requested_refused r p n is))

module _ (r : Run) (p : ℕ) (w : Sound r) where
  -- N and k stay, beside a refusal too
  pub request_pages : (requested r p).run.pages ≡ r.pages
  request_pages =
      ⊎_elim
      (λ s. pages_stay r w p s.0 s.1)
      (λ s. ap (λ (x : Served). x.run.pages) s.1)
      (served_or_not r p w)

  pub request_slots : (requested r p).run.slots ≡ r.slots
  request_slots =
      ⊎_elim
      (λ s. slots_stay r w p s.0 s.1)
      (λ s. ap (λ (x : Served). x.run.slots) s.1)
      (served_or_not r p w)

  pub small_event : Small (requested r p).event
  unfolding Small
  small_event =
      ⊎_elim
      (λ s. ⊎_elim hit (λ m. miss s.0 m.0 m.1) s.2)
      (λ s. rw s.1 tt)
      (served_or_not r p w)
    where
      hit : IsHit r p → Small (requested r p).event
      hit h = rw h.event (omega (arith, (slot_holds r w p h.cached_is).0, w.slots.1))

      miss : p < r.pages → (v : ℕ) → IsMiss r p v → Small (requested r p).event
      miss l v m =
          rw m.event (
            omega (arith, (slot_holds r w v m.victim_cached).0, w.slots.1),
            omega (arith, (victim_in r w p l v m.victim_is).0, w.pages.1),
          )

-- What comes of a request to the run in an accepted image can be packed, and written over that image.
pub request_fits : (b : List ℕ) (p : ℕ) → Taken b → Fits b (requested (restored b).run p)
request_fits b p t =
    let r = (restored b).run in
    let w = t.sound_is in
    record {
      sound_is = request_is_sound r p w;
      total = rw (request_pages r p w, request_slots r p w) t.total;
      small = small_event r p w;
    }

-- So of what the board's request answers: the reader's refusal, or what comes of the request.
fits_any : (b : List ℕ) (x : Served) (k : Event) → Fits b x → Settles b x k
unfolding Settles
fits_any b x (Hit slot) f = f
fits_any b x (Miss slot victim) f = f
fits_any b x (Refused n) f = tt

read_settles : (b : List ℕ) (p : ℕ) → (restored b).event ≡ Ok tt → Taken b → Settles b (requested_in b p) (requested_in b p).event
unfolding requested_in after_reading
read_settles b p h t = rw h (fits_any b (requested (restored b).run p) (requested (restored b).run p).event (request_fits b p t))

unread_settles : (b : List ℕ) (p : ℕ) (n : Refusal) → (restored b).event ≡ Err n → Settles b (requested_in b p) (requested_in b p).event
unfolding requested_in after_reading Settles
unread_settles b p n h = rw h tt

pub settles : (b : List ℕ) (p : ℕ) (s : Served) → s ≡ requested_in b p → Settles b s s.event
settles b p s e =
    rw e (⊎_elim (λ t. read_settles b p t.0 t.1) (λ u. unread_settles b p u.0 u.1) (taken_or_not b))
