-- Document 01, 'Frames': filling a slot's frame and looking at it. The frame area has exactly 64k bytes. Assumes nothing.
use Rattle.std.specs.Prelude.{List, ℕ, ◌*◌, length, take, drop, if◌then◌else◌}
use Rattle.paging.specs.Sets.{◌=?◌, ◌<?◌, unless◌give◌else◌}
use Rattle.words.specs.Words.{put}
use Rattle.run.specs.declared.Run.{Run}
use Rattle.run.specs.Cached.{cached, slot_of}
use Rattle.run.specs.Sound.{sound}

-- Fill: 1, 8, 10, 11, 12. 0 where it is filled.
unfoldable pub fill_refusal : Run → ℕ → List ℕ → List ℕ → ℕ
fill_refusal r p area page =
    unless sound r give 1 else
    unless p <? r.pages give 8 else
    unless length area =? 64 * r.slots give 10 else
    unless length page =? 64 give 11 else
    unless cached r p give 12 else
    0

-- Only the 64 bytes of the part that starts at 64·slot change, and they equal the given page. No buffer changes beside a refusal.
unfoldable pub filled : Run → ℕ → List ℕ → List ℕ → List ℕ
filled r p area page = if fill_refusal r p area page =? 0 then put area (64 * slot_of r p) page else area

-- Look: 1, 8, 10, 12. 0 if Look accepts.
unfoldable pub look_refusal : Run → ℕ → List ℕ → ℕ
look_refusal r p area =
    unless sound r give 1 else
    unless p <? r.pages give 8 else
    unless length area =? 64 * r.slots give 10 else
    unless cached r p give 12 else
    0

-- Look answers the part of the caller's area; refused, it answers the empty part at the area's start.
unfoldable pub looked : Run → ℕ → List ℕ → List ℕ
looked r p area = if look_refusal r p area =? 0 then take 64 (drop (64 * slot_of r p) area) else take 0 area
