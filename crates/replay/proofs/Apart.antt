-- Telling by what is told: of nothing, of what is written, of what is only measured; and where a loop of turns that tells of them
-- begins. Assumes nothing.
use Rattle.std.specs.Prelude.{Bool, true, false, List, ◌≡◌, refl, ℕ, ◌+◌, ◌≤◌, length}
use Rattle.std.proofs.Common.{arith}
use Rattle.words.specs.Words.{put}
use Rattle.run.specs.declared.Run.{Run}
use Rattle.trace.specs.Reading.{asked}
use Rattle.text.specs.Told.{told_length, told_room, told_bytes}
use Rattle.text.specs.Telling.{Telling, begin}
use Rattle.replay.specs.Told.{event_lines}

module _ (t w : Bool) (out : List ℕ) (at : ℕ) (a : List ℕ) where
  abbrev Room : Type 0
  Room = at + told_length t a ≤ told_room t w (length out)

  abbrev Told : ℕ → List ℕ → Type 0
  Told n after = (n ≡ at + told_length t a) × (after ≡ told_bytes t w out at a)

  pub tell_none : t ≡ false → Told at out
  unfolding told_length told_bytes
  tell_none e = rw e (omega arith, refl)

  module _ (t_is : t ≡ true) where
    pub write_room : w ≡ true → Room → at + length a ≤ length out
    unfolding told_length told_room
    write_room e h = rw (t_is, e) at h

    pub tell_written : w ≡ true → (n : ℕ) (after : List ℕ) → n ≡ at + length a → after ≡ put out at a → Told n after
    unfolding told_length told_bytes
    tell_written e n after g h = rw (t_is, e) (g, h)

    pub count_room : w ≡ false → Room → at + length a ≤ 18446744073709551615
    unfolding told_length told_room
    count_room e h = rw (t_is, e) at h

    pub tell_counted : w ≡ false → (n : ℕ) → n ≡ length a → Told (at + n) out
    unfolding told_length told_bytes
    tell_counted e n g = rw (t_is, e, g) (refl, refl)

module _ (start : Run) (b : List ℕ) (offset n : ℕ) (t w : Bool) (before : List ℕ) (at : ℕ) where
  abbrev all : List ℕ
  all = asked b offset n

  pub telling_first :
      at + told_length t (event_lines start all) ≤ told_room t w (length before) →
      Telling t w before at (event_lines start all) before at (event_lines start all)
  telling_first h = begin t w before at (event_lines start all) h
