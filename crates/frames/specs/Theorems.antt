-- What Fill and Look promise together: a refused Fill changes nothing, an accepted one only its page's frame, which Look then
-- shows; every other page's frame looks as before. Assumes nothing.
use Rattle.std.specs.Prelude.{true, List, ◌++◌, ◌⊎◌, ◌≡◌, refl, ℕ, ◌+◌, ◌*◌, ◌-◌, ◌≤◌, ◌<◌, take, slice_index_or}
use Rattle.std.proofs.Common.{inl, inr, ⊎_elim, sym, ap, ◌∙◌, arith, length-take, length-drop, length-take-le, get_or-drop, drop_at, ext_get_or}
use Rattle.std.proofs.Math.ListN.{length, drop, get_or-append}
use Rattle.std.proofs.Math.Seq.{get_or-take, take_at}
use Rattle.paging.specs.Tests.{same_or_not, le_or_lt}
use Rattle.words.specs.Words.{put}
use Rattle.words.specs.Laws.{drop_put, put_length}
use Rattle.run.specs.declared.Run.{Run}
use Rattle.run.specs.Numbers.{in_slot}
use Rattle.run.specs.Cached.{cached, slot_of}
use Rattle.run.proofs.RequestLaws.{slot_holds}
use Rattle.frames.specs.Frames.{fill_refusal, filled, look_refusal, looked}
use Rattle.frames.specs.Laws.{Frame, fill_allowed, look_allowed, look_size, looked_part, looked_nothing, refused}

-- ---- bytes put in at an offset

module _ (s : List ℕ) (at : ℕ) (new : List ℕ) (fits : at + length new ≤ length s) where
  ahead : (i : ℕ) → i < at → slice_index_or (put s at new) i 0 ≡ slice_index_or s i 0
  unfolding put
  ahead i h =
      get_or-append (take at s) (new ++ drop (at + length new) s) 0 i (rw (length-take-le at s (omega arith)) h)
      ∙ get_or-take at s i 0 h

  behind : (j : ℕ) → slice_index_or (put s at new) (at + length new + j) 0 ≡ slice_index_or s (at + length new + j) 0
  behind j =
      rw (← get_or-drop (at + length new) (put s at new) j 0, ← get_or-drop (at + length new) s j 0, drop_put s at new fits)

  -- every other byte stays,
  put_off : (i : ℕ) → (i < at) ⊎ (at + length new ≤ i) → slice_index_or (put s at new) i 0 ≡ slice_index_or s i 0
  put_off i = ⊎_elim (ahead i) past
    where
      past : at + length new ≤ i → slice_index_or (put s at new) i 0 ≡ slice_index_or s i 0
      past h =
          let whole : at + length new + (i - (at + length new)) ≡ i = omega arith in
          rw whole at (behind (i - (at + length new)))

  -- and they are found again
  put_there : take (length new) (drop at (put s at new)) ≡ new
  unfolding put
  put_there =
      rw (drop_at (take at s) (new ++ drop (at + length new) s) at (length-take-le at s (omega arith)), take_at new (drop (at + length new) s) (length new) refl)

-- two parts with the same bytes are the same
part_same :
    (xs ys : List ℕ) (at n : ℕ) →
    length xs ≡ length ys →
    ((i : ℕ) → i < n → slice_index_or xs (at + i) 0 ≡ slice_index_or ys (at + i) 0) →
    take n (drop at xs) ≡ take n (drop at ys)
part_same xs ys at n e same =
    ext_get_or 0 (take n (drop at xs)) (take n (drop at ys)) (simp (length-take, length-drop, e)) (λ i l. at_index i (below i l))
  where
    below : (i : ℕ) → i < length (take n (drop at xs)) → i < n
    below i l = omega (arith, length-take n (drop at xs))

    at_index : (i : ℕ) → i < n → slice_index_or (take n (drop at xs)) i 0 ≡ slice_index_or (take n (drop at ys)) i 0
    at_index i l = rw (get_or-take n (drop at xs) i 0 l, get_or-take n (drop at ys) i 0 l, get_or-drop at xs i 0, get_or-drop at ys i 0) (same i l)

-- ---- Fill

module _ (r : Run) (p : ℕ) (area page : List ℕ) where
  abbrev after : List ℕ
  after = filled r p area page

  -- A refused Fill leaves the area as it was.
  pub refused_fill : (fill_refusal r p area page ≡ 0 → ⊥) → filled r p area page ≡ area
  refused_fill ne = sym (refused r p area page (fill_refusal r p area page) refl ne).1

  accepted : fill_refusal r p area page ≡ 0 → filled r p area page ≡ put area (64 * slot_of r p) page
  unfolding filled
  accepted e = rw e

  filled_cases : (P : List ℕ → Type 0) → P area → (fill_refusal r p area page ≡ 0 → P (put area (64 * slot_of r p) page)) → P after
  filled_cases P old new =
      ⊎_elim
      (λ e. rw (accepted e) (new e))
      (λ ne. rw (refused_fill ne) old)
      (same_or_not (fill_refusal r p area page) 0)

  fits : fill_refusal r p area page ≡ 0 → 64 * slot_of r p + length page ≤ length area
  fits e = let (w, l) = fill_allowed r p area page e in omega (arith, w.fits)

  -- No Fill changes the length of the area,
  pub fill_length : length (filled r p area page) ≡ length area
  fill_length =
      filled_cases
      (λ x. length x ≡ length area)
      refl
      (λ e. put_length area (64 * slot_of r p) page (fits e))

  -- nor a byte outside its page's frame.
  pub fill_outside :
      (i : ℕ) → (i < 64 * slot_of r p) ⊎ (64 * slot_of r p + 64 ≤ i) → slice_index_or (filled r p area page) i 0 ≡ slice_index_or area i 0
  fill_outside i off = filled_cases (λ x. slice_index_or x i 0 ≡ slice_index_or area i 0) refl new
    where
      new : fill_refusal r p area page ≡ 0 → slice_index_or (put area (64 * slot_of r p) page) i 0 ≡ slice_index_or area i 0
      new e =
          let (w, l) = fill_allowed r p area page e in
          put_off area (64 * slot_of r p) page (fits e) i (rw l off)

  -- So Look refuses what it refused before,
  pub fill_look_refusal : (q : ℕ) → look_refusal r q (filled r p area page) ≡ look_refusal r q area
  fill_look_refusal q = look_size r q (filled r p area page) area fill_length

  -- the frame that was filled shows the page,
  pub fill_look : fill_refusal r p area page ≡ 0 → looked r p (filled r p area page) ≡ page
  fill_look e =
      let s = slot_of r p in
      let (w, l) = fill_allowed r p area page e in
      let shown : take 64 (drop (64 * s) (put area (64 * s) page)) ≡ page = rw l at (put_there area (64 * s) page (fits e)) in
      sym (looked_part r p after s (rw fill_length w)) ∙ rw (accepted e) shown

  -- and every other page's frame shows what it showed.
  pub fill_others : (q : ℕ) → (q ≡ p → ⊥) → looked r q (filled r p area page) ≡ looked r q area
  fill_others q ne =
      ⊎_elim
      (λ e. ⊎_elim (shown e) hidden (same_or_not (look_refusal r q area) 0))
      (λ no_fill. ap (looked r q) (refused_fill no_fill))
      (same_or_not (fill_refusal r p area page) 0)
    where
      hidden : (look_refusal r q area ≡ 0 → ⊥) → looked r q after ≡ looked r q area
      hidden no_look =
          sym (looked_nothing r q after (look_refusal r q area) (sym (fill_look_refusal q)) no_look)
          ∙ looked_nothing r q area (look_refusal r q area) refl no_look

      -- two pages are in different slots
      apart : Frame r p (length area) (slot_of r p) → cached r q ≡ true → slot_of r q ≡ slot_of r p → ⊥
      apart w held same =
          let (l, h) = slot_holds r w.begun.run q held in
          let (m, g) = slot_holds r w.begun.run p w.held in
          ne (sym h ∙ (ap (in_slot r) same ∙ g))

      off : (i s t : ℕ) → i < 64 → (t ≡ s → ⊥) → (64 * t + i < 64 * s) ⊎ (64 * s + 64 ≤ 64 * t + i)
      off i s t l differ = ⊎_elim (λ h. inr (omega arith)) (λ h. inl (omega arith)) (le_or_lt s t)

      shown : fill_refusal r p area page ≡ 0 → look_refusal r q area ≡ 0 → looked r q after ≡ looked r q area
      shown e z =
          let w = look_allowed r q area z in
          let differ = apart (fill_allowed r p area page e).0 w.held in
          sym (looked_part r q after (slot_of r q) (rw fill_length w))
          ∙ (part_same after area (64 * slot_of r q) 64 fill_length (λ i l. fill_outside (64 * slot_of r q + i) (off i (slot_of r p) (slot_of r q) l differ))
          ∙ looked_part r q area (slot_of r q) w)
