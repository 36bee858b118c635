-- Document 01, 'House layouts': a run in an image, and the answers of the image reader and writer. The layout itself stands in
-- Layout of the crate `image`. Assumes nothing.
use Rattle.std.specs.Prelude.{◌&&◌, List, ℕ, length, if◌then◌else◌, None, Result, Ok, Err}
use Rattle.paging.specs.Sets.{◌=?◌, ◌≤?◌, unless◌give◌else◌}
use Rattle.words.specs.Words.{word_at, put}
use Rattle.image.specs.Layout.{image_bytes, image_length, pages_in, slots_in, image_refusal, image_layers, image_slots, image_priorities, marks_agree}
use Rattle.ranking.specs.Ranks.{fixed_ranks}
use Rattle.refusals.specs.declared.Refusal.{Refusal}
use Rattle.refusals.specs.declared.Refusal.TheVariants.{Unsound}
use Rattle.refusals.specs.Numbers.{named, told, given}
use Rattle.counts.specs.declared.Counts.{Counts}
use Rattle.run.specs.declared.Run.{Run}
use Rattle.run.specs.declared.Restored.{Restored}
use Rattle.run.specs.declared.Stored.{Stored}
use Rattle.run.specs.declared.Served.{Served}
use Rattle.run.specs.Numbers.{blank_run}
use Rattle.run.specs.Sound.{sound}
use Rattle.run.specs.Request.{requested, refused}

-- This paper's number of each case: 0 where the image is accepted.
unfoldable pub reading_number : Result Unit Refusal → ℕ
reading_number e = told e

-- The counts and the run in an image.
unfoldable pub image_counts : List ℕ → Counts
image_counts b =
    record { served = word_at 4 b 8; hits = word_at 4 b 12; misses = word_at 4 b 16; best = word_at 4 b 20 }

unfoldable pub image_run : List ℕ → Run
image_run b =
    record {
      pages = pages_in b;
      slots = slots_in b;
      counts = image_counts b;
      layer = image_layers (pages_in b) b;
      ranks = fixed_ranks (image_priorities (pages_in b) (slots_in b) b);
      held = image_slots (pages_in b) (slots_in b) b;
    }

-- The run that an image describes, sound or not: the blank run where its length or header is wrong.
unfoldable pub image_described : List ℕ → Run
image_described b = if image_refusal b =? 0 then image_run b else blank_run

-- A refused image reader hands back the blank run.
abbrev pub no_run : Refusal → Restored
no_run n = record { run = blank_run; event = Err n }

-- Image reader: 13 (under 36), 2, 3, 15, 13 (total), 1. Unequal marks and slots make the run unsound.
unfoldable pub restored : List ℕ → Restored
restored b =
    unless image_refusal b =? 0 give no_run (named (image_refusal b)) else
    unless marks_agree (pages_in b) (slots_in b) b && sound (image_run b) give no_run Unsound else
    record { run = image_run b; event = Ok tt }

-- The first of these refusals that applies, 0 if none does: what `reading_number` reads off the answer.
unfoldable pub restore_refusal : List ℕ → ℕ
restore_refusal b =
    unless image_refusal b =? 0 give image_refusal b else
    unless marks_agree (pages_in b) (slots_in b) b && sound (image_run b) give 1 else
    0

-- The image of a run.
unfoldable pub image_of : Run → List ℕ
image_of r =
    image_bytes r.pages r.slots r.counts.served r.counts.hits r.counts.misses r.counts.best r.layer r.ranks.priority r.held

-- Image writer: 1, 16. It touches only the bytes it reports; no buffer changes beside a refusal.
unfoldable pub store_refusal : Run → List ℕ → ℕ
store_refusal r out =
    unless sound r give 1 else
    unless image_length r.pages r.slots ≤? length out give 16 else
    0

unfoldable pub stored : Run → List ℕ → Stored
stored r out =
    if store_refusal r out =? 0
    then record { length = image_length r.pages r.slots; refusal = None }
    else record { length = 0; refusal = given (store_refusal r out) }

unfoldable pub stored_bytes : Run → List ℕ → List ℕ
stored_bytes r out = if store_refusal r out =? 0 then put out 0 (image_of r) else out

-- A request to the run in an image: the image is read, one request served. Refusals: image reader's, then request's.
unfoldable pub after_reading : Run → Result Unit Refusal → ℕ → Served
after_reading r (Ok _) p = requested r p
after_reading r (Err n) p = refused r n

unfoldable pub requested_in : List ℕ → ℕ → Served
requested_in b p = after_reading (restored b).run (restored b).event p
