-- What the board's calls leave, by the event of the request. Assumes nothing.
use mathlib.Core.List.{List}
use mathlib.Core.Path.{◌≡◌, refl, ap, ◌∙◌}
use Prim.Native.Nat.{ℕ, ◌≤◌, ◌<◌}
use native.Mathlib.Omega.{arith}
use lib.ListN.{length}
use Rattle.refusals.specs.declared.Refusal.{Refusal}
use Rattle.serve.specs.declared.Event.{Event}
use Rattle.serve.specs.declared.Event.TheVariants.{Hit, Miss, Refused}
use Rattle.words.specs.Words.{put}
use Rattle.image.specs.Layout.{image_length}
use Rattle.run.specs.declared.Served.{Served}
use Rattle.run.specs.Numbers.{layer}
use Rattle.run.specs.Stored.{image_of, requested_in}
use Rattle.board.specs.Board.{Fits, Settles, packed, image_after, board_answer, board_image}

-- ---- the image after a request

module _ (b : List ℕ) (s : Served) where
  pub untouched : (e : Event) (n : Refusal) → e ≡ Refused n → b ≡ image_after b s e
  unfolding image_after
  untouched e n h = rw h

  -- the code's third case is the refusal, so what is left of a request is a hit or a miss
  pub written : (e : Event) → ((n : Refusal) → e ≡ Refused n → ⊥) → put b 0 (image_of s.run) ≡ image_after b s e
  unfolding image_after
  written (Hit slot) k = refl
  written (Miss slot victim) k = refl
  written (Refused n) k = absurd (k n refl)

-- what the writer asks for
pub write_fits :
    (b : List ℕ) (s : Served) →
    Fits b s →
    ((s.run.pages ≤ 1024) × (s.run.slots ≤ 64) × (image_length s.run.pages s.run.slots ≤ length b))
    × ((q : ℕ) → q < s.run.pages → layer s.run q ≤ 127)
write_fits b s f =
    let w = f.sound_is in (
      (w.pages.1, w.slots.1, omega (arith, f.total)),
      λ q l. omega (arith, w.layers q l, w.slots.1),
    )

-- what a hit or a miss asks for
pub unrefused : (b : List ℕ) (s : Served) (e : Event) → Settles b s e → ((n : Refusal) → e ≡ Refused n → ⊥) → Fits b s
unfolding Settles
unrefused b s (Hit slot) f k = f
unrefused b s (Miss slot victim) f k = f
unrefused b s (Refused n) f k = absurd (k n refl)

-- ---- the answer, and the image

module _ (b : List ℕ) (page : ℕ) (s : Served) (told : s ≡ requested_in b page) where
  pub answered : (a : ℕ) → a ≡ packed s.event → a ≡ board_answer b page
  unfolding board_answer
  answered a e = e ∙ ap (λ (x : Served). packed x.event) told

  pub imaged : (after : List ℕ) → after ≡ image_after b s s.event → after ≡ board_image b page
  unfolding board_image
  imaged after e = e ∙ ap (λ (x : Served). image_after b x x.event) told
