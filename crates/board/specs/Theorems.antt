-- What holds of a board call, whose contract is that it answers `board_answer` and leaves `board_image`. The refusal stands in
-- the answer's bits 24 to 31. Assumes nothing.
use Rattle.std.specs.Prelude.{List, ◌⊎◌, ◌≡◌, ℕ, ◌+◌, ◌*◌, ◌/◌, ◌≤◌, ◌<◌, length, take, drop, slice_index_or, Ok, Err}
use Rattle.std.proofs.Common.{inl, inr, ⊎_elim, sym, ap, subst, ◌∙◌, arith, length-drop, length-take-le}
use Rattle.serve.specs.declared.Event.TheVariants.{Hit, Miss, Refused}
use Rattle.run.specs.declared.Run.{Run}
use Rattle.run.specs.declared.Served.{Served}
use Rattle.refusals.specs.declared.Refusal.{Refusal}
use Rattle.refusals.specs.Numbers.{number}
use Rattle.refusals.specs.Laws.{number_some}
use Rattle.paging.specs.Tests.{le_or_lt}
use Rattle.paging.specs.Tables.{table_length, table_at, table_past}
use Rattle.words.specs.Words.{word_at, put}
use Rattle.words.specs.Laws.{Bytes, take_bytes, drop_bytes, number_below, put_all}
use Rattle.image.specs.Layout.{pages_in, slots_in, image_layers, image_slots, image_priorities}
use Rattle.image.proofs.Laws.{Read, read_room}
use Rattle.image.proofs.Theorems.{stored_length, stored_bytes}
use Rattle.counts.specs.Counts.{most_served}
use Rattle.run.specs.Cached.{slot_of}
use Rattle.run.specs.Sound.{Sound}
use Rattle.run.specs.Request.{requested}
use Rattle.run.specs.Stored.{image_counts, image_run, restored, image_of, after_reading, requested_in}
use Rattle.run.specs.StoredTheorems.{Typed}
use Rattle.run.proofs.StoredTheorems.{storable, stored_reads_back, typed_request}
use Rattle.run.specs.Theorems.{IsHit, IsMiss}
use Rattle.run.proofs.Theorems.{request_is_sound}
use Rattle.serve.specs.declared.Event.{Event}
use Rattle.serve.specs.Event.{Values, values}
use Rattle.board.specs.declared.Parts.{Parts}
use Rattle.board.specs.Board.{Small, packed, apart, image_after, board_answer, board_image}
use Rattle.board.specs.Laws.{Taken, taken_or_not, served_or_not, request_fits}

-- ---- A packed answer, taken apart, gives this paper's values of its event.

abbrev pub parts : Values → Parts
parts v = record { refusal = v.refusal; miss = v.miss; slot = v.slot; victim = v.victim }

four : {a b c d a' b' c' d' : ℕ} → a ≡ a' → b ≡ b' → c ≡ c' → d ≡ d' →
    ◌≡◌ {A = Parts} (record { refusal = a; miss = b; slot = c; victim = d }) (record { refusal = a'; miss = b'; slot = c'; victim = d' })
four p q r s = rw (p, q, r, s)

pub apart_packed : (e : Event) → Small e → apart (packed e) ≡ parts (values e)
unfolding apart packed values Small
apart_packed (Hit s) w = four (omega arith) (omega arith) (omega arith) (omega arith)
apart_packed (Miss s v) w = four (omega (arith, w)) (omega (arith, w)) (omega (arith, w)) (omega (arith, w))
apart_packed (Refused n) w = four (omega arith) (omega arith) (omega arith) (omega arith)

-- ---- A call is refused, or it serves its page and leaves the image of the next run.

pub record Kept (b : List ℕ) (page : ℕ) : Type 0 where
  pub number : ℕ
  pub some_number : 0 < number
  pub answer : board_answer b page ≡ 16777216 * number
  pub image : board_image b page ≡ b

pub record Moved (b : List ℕ) (page : ℕ) : Type 0 where
  pub taken_is : Taken b
  pub below : page < (restored b).run.pages
  pub room : (restored b).run.counts.served < most_served
  pub answer : board_answer b page < 16777216
  pub image : board_image b page ≡ image_of (requested (restored b).run page).run

-- The image of the next run has exactly the image's length.
next_length : (b : List ℕ) (page : ℕ) → Taken b → length (image_of (requested (restored b).run page).run) ≡ length b
unfolding image_of
next_length b page t =
    let r = (requested (restored b).run page).run in
    stored_length r.pages r.slots r.counts.served r.counts.hits r.counts.misses r.counts.best r.layer r.ranks.priority r.held
    ∙ sym (request_fits b page t).total

next_put :
    (b : List ℕ) (page : ℕ) →
    Taken b →
    put b 0 (image_of (requested (restored b).run page).run) ≡ image_of (requested (restored b).run page).run
next_put b page t = put_all b (image_of (requested (restored b).run page).run) (sym (next_length b page t))

module _ (b : List ℕ) (page : ℕ) where
  abbrev r : Run
  r = (restored b).run

  unread : (n : Refusal) → (restored b).event ≡ Err n → Kept b page
  unfolding board_answer board_image requested_in after_reading image_after packed values
  unread n e = record { number = number n; some_number = omega (arith, number_some n); answer = rw e (omega arith); image = rw e }

  module _ (e : (restored b).event ≡ Ok tt) (t : Taken b) where
    refused : (n : Refusal) → (requested r page).event ≡ Refused n → Kept b page
    unfolding board_answer board_image requested_in after_reading image_after packed values
    refused n h = record { number = number n; some_number = omega (arith, number_some n); answer = rw (e, h) (omega arith); image = rw (e, h) }

    moved :
        page < r.pages →
        r.counts.served < most_served →
        board_answer b page < 16777216 →
        board_image b page ≡ put b 0 (image_of (requested r page).run) →
        Moved b page
    moved l room small image =
        record { taken_is = t; below = l; room = room; answer = small; image = image ∙ next_put b page t }

    small : Small (requested r page).event
    small = (request_fits b page t).small

    hit : page < r.pages → r.counts.served < most_served → IsHit r page → Moved b page
    unfolding board_answer board_image requested_in after_reading image_after packed values Small
    hit l room h =
        let s : slot_of r page < 64 = rw h.event at small in
        moved l room (rw (e, h.event) (omega arith)) (rw (e, h.event))

    miss : page < r.pages → r.counts.served < most_served → (v : ℕ) → IsMiss r page v → Moved b page
    unfolding board_answer board_image requested_in after_reading image_after packed values Small
    miss l room v m =
        let s : (slot_of r v < 64) × (v < 1024) = rw m.event at small in
        moved l room (rw (e, m.event) (omega arith)) (rw (e, m.event))

    read : Kept b page ⊎ Moved b page
    read =
        ⊎_elim
        (λ s. inr (⊎_elim (hit s.0 s.1) (λ m. miss s.0 s.1 m.0 m.1) s.2))
        (λ s. inl (refused s.0 (ap (λ (x : Served). x.event) s.1)))
        (served_or_not r page t.sound_is)

  pub kept_or_moved : Kept b page ⊎ Moved b page
  kept_or_moved = ⊎_elim (λ t. read t.0 t.1) (λ u. inl (unread u.0 u.1)) (taken_or_not b)

  -- ---- A refused call leaves every byte of the image as it was.

  pub refused_changes_nothing : (board_answer b page / 16777216 ≡ 0 → ⊥) → board_image b page ≡ b
  refused_changes_nothing ne = ⊎_elim (λ k. k.image) (λ m. absurd (ne (omega (arith, m.answer)))) kept_or_moved

  -- ---- A call that is not refused leaves the image of the run after the request.

  pub served_moves : board_answer b page / 16777216 ≡ 0 → Moved b page
  served_moves z = ⊎_elim (λ k. absurd (omega (arith, k.answer, k.some_number))) (λ m. m) kept_or_moved

  -- ---- The image keeps its length.

  pub length_stays : length (board_image b page) ≡ length b
  length_stays =
      ⊎_elim
      (λ k. ap length k.image)
      (λ m. ap length m.image ∙ next_length b page m.taken_is)
      kept_or_moved

-- ---- The image of a call that is not refused reads back as the next run, so that a chain of calls is a chain of requests.

-- two bytes make a number below 65536
word_small : (b : List ℕ) (at : ℕ) → Bytes b → at + 2 ≤ length b → word_at 2 b at ≤ 65535
unfolding word_at
word_small b at byte h =
    let rest : 2 ≤ length (drop at b) = rw length-drop (omega arith) in
    let size : length (take 2 (drop at b)) ≡ 2 = length-take-le 2 (drop at b) rest in
    omega (arith, rw size at (number_below (take 2 (drop at b)) (take_bytes 2 (drop at b) (drop_bytes at b byte))))

image_wide :
    (b : List ℕ) → Bytes b → Read b → (q : ℕ) → slice_index_or (image_priorities (pages_in b) (slots_in b) b) q 0 ≤ 65535
unfolding image_priorities
image_wide b byte read q =
    ⊎_elim
    (λ h. omega (arith, table_past 1024 N 0 at q h))
    (λ h. omega (arith, table_at 1024 N 0 at q h, word_small b (36 + N + 2 * slots_in b + 2 * q) byte (omega (arith, read_room b read))))
    (le_or_lt N q)
  where
    N : ℕ
    N = pages_in b

    at : ℕ → ℕ
    at q = word_at 2 b (36 + N + 2 * slots_in b + 2 * q)

-- The run in an accepted image has the types of a run.
pub image_typed : (b : List ℕ) → Bytes b → Taken b → Typed (restored b).run
unfolding image_run image_counts image_layers image_slots image_priorities
image_typed b byte t =
    rw t.run_is
    (record {
      layers = table_length 1024 (pages_in b) 0 _ read.limits.1;
      priorities = table_length 1024 (pages_in b) 0 _ read.limits.1;
      slots = table_length 64 (slots_in b) 65535 _ read.limits.3;
      wide = image_wide b byte read;
      best = omega (arith, w.best, w.counts, w.served);
    })
  where
    read : Read b
    read = t.read_is

    w : Sound (image_run b)
    w = subst Sound t.run_is t.sound_is

image_of_bytes : (r : Run) → Sound r → Typed r → Bytes (image_of r)
unfolding image_of
image_of_bytes r w t =
    stored_bytes r.pages r.slots r.counts.served r.counts.hits r.counts.misses r.counts.best r.layer r.ranks.priority r.held (storable r w t)

module _ (b : List ℕ) (page : ℕ) (byte : Bytes b) where
  next_typed : Moved b page → Typed (requested (restored b).run page).run
  next_typed m =
      typed_request (restored b).run page m.taken_is.sound_is (image_typed b byte m.taken_is) m.below m.room

  next_sound : Moved b page → Sound (requested (restored b).run page).run
  next_sound m = request_is_sound (restored b).run page m.taken_is.sound_is

  pub served_reads_back :
      board_answer b page / 16777216 ≡ 0 →
      restored (board_image b page) ≡ record { run = (requested (restored b).run page).run; event = Ok tt }
  served_reads_back z =
      let m = served_moves b page z in
      rw m.image (stored_reads_back (requested (restored b).run page).run (next_sound m) (next_typed m))

  -- The image stays one of bytes.
  pub bytes_stay : Bytes (board_image b page)
  bytes_stay = ⊎_elim (λ k. subst Bytes (sym k.image) byte) (λ m. subst Bytes (sym m.image) (next_bytes m)) (kept_or_moved b page)
    where
      next_bytes : Moved b page → Bytes (image_of (requested (restored b).run page).run)
      next_bytes m = image_of_bytes (requested (restored b).run page).run (next_sound m) (next_typed m)
