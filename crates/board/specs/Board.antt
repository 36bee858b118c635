-- Document 01, 'House layouts': the board entry. The image is read, one request served, and the image written in place.
-- Assumes nothing.
use Rattle.std.specs.Prelude.{List, ◌≡◌, ℕ, ◌+◌, ◌*◌, ◌/◌, ◌%◌, ◌<◌, length}
use Rattle.words.specs.Words.{put}
use Rattle.serve.specs.declared.Event.{Event}
use Rattle.serve.specs.declared.Event.TheVariants.{Hit, Miss, Refused}
use Rattle.serve.specs.Event.{values}
use Rattle.board.specs.declared.Parts.{Parts}
use Rattle.image.specs.Layout.{image_length}
use Rattle.run.specs.declared.Served.{Served}
use Rattle.run.specs.Sound.{Sound}
use Rattle.run.specs.Stored.{image_of, requested_in}

-- The answer is one number: victim in bits 0 to 9 (0 on a hit), slot in bits 10 to 15, bit 16 set on a miss, refusal in bits
-- 24 to 31, all else 0.
unfoldable pub packed : Event → ℕ
packed e = (values e).victim + 1024 * (values e).slot + 65536 * (values e).miss + 16777216 * (values e).refusal

-- The four numbers in such an answer.
unfoldable pub apart : ℕ → Parts
apart n = record { refusal = n / 16777216; miss = n / 65536 % 2; slot = n / 1024 % 64; victim = n % 1024 }

-- An event whose numbers have room in their bits. Every event of a sound run is one (`small_event` of Laws); a refusal is a byte.
unfoldable pub Small : Event → Type 0
Small (Hit slot) = slot < 64
Small (Miss slot victim) = (slot < 64) × (victim < 1024)
Small (Refused n) = Unit {0}

-- What is in the image after a request: the next run's image, or, beside a refusal, what was there.
unfoldable pub image_after : List ℕ → Served → Event → List ℕ
image_after b s (Hit slot) = put b 0 (image_of s.run)
image_after b s (Miss slot victim) = put b 0 (image_of s.run)
image_after b s (Refused n) = b

-- A request's outcome that can be packed, and written over an image of exactly its run's length.
pub record Fits (b : List ℕ) (s : Served) : Type 0 where
  pub sound_is : Sound s.run
  pub total : length b ≡ image_length s.run.pages s.run.slots
  pub small : Small s.event

-- Nothing is packed but its number, and nothing written, beside a refusal.
unfoldable pub Settles : List ℕ → Served → Event → Type 0
Settles b s (Hit slot) = Fits b s
Settles b s (Miss slot victim) = Fits b s
Settles b s (Refused n) = Unit {0}

-- Refusals: image reader's, then request's (`requested_in`).
unfoldable pub board_answer : List ℕ → ℕ → ℕ
board_answer b page = packed (requested_in b page).event

unfoldable pub board_image : List ℕ → ℕ → List ℕ
board_image b page = image_after b (requested_in b page) (requested_in b page).event
