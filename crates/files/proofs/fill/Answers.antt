-- `files::fill` meets its contract, by what was read. Assumes nothing.
use mathlib.Core.Path.{◌≡◌, refl}
use native.Mathlib.Omega.{arith}
use lib.ListN.{length}
use Rattle.answers.specs.Laws.{page_known, page_bad, bytes_known, bytes_bad}
use Rattle.files.specs.Files.{fill_answer, fill_texts}
use Rattle.files.proofs.Steps.{lent}
use borrow.Author.Rules.{rules}
use Rattle.files.proofs.fill.Goals as goal

pub returns-in_default : goal.returns-in_default
unfolding fill_answer
returns-in_default c = search page_bad

pub returns-in_default-bytes : goal.returns-in_default-bytes
unfolding fill_answer fill_texts
returns-in_default-bytes c =
    page_known _ _ c.read_paged.ensures c.in-Some.is
    (bytes_bad c.word.ensures _ _ c.room-area.ensures.size (c.bytes.ensures.count, c.bytes.ensures.bytes) c.in_default-bytes.is c.bad-in_default-bytes.ensures)

pub returns-in_default-bytes-2 : goal.returns-in_default-bytes-2
unfolding fill_answer fill_texts
returns-in_default-bytes-2 c =
    page_known _ _ c.read_paged.ensures c.in-Some.is
    (bytes_known c.word.ensures _ _ c.room-area.ensures.size (c.bytes.ensures.count, c.bytes.ensures.bytes) c.in-Some-bytes.is refl
    (bytes_bad c.word-2.ensures _ _ c.room-bytes.ensures.size (c.bytes-2.ensures.count, c.bytes-2.ensures.bytes) c.in_default-bytes-2.is c.bad-in_default-bytes-2.ensures))

pub slice_bounds-area-end : goal.slice_bounds-area-end
slice_bounds-area-end c =
    let long : length c.bytes.new.out ≡ 131072 = search rules in
    omega (arith, (lent _ _ c.bytes.new.out c.room-area.ensures.size long (c.bytes.ensures.count, c.bytes.ensures.bytes) c.in-Some-bytes.is).0)

pub slice_bounds-filled-end : goal.slice_bounds-filled-end
slice_bounds-filled-end c =
    let long : length c.bytes.new.out ≡ 131072 = search rules in
    (lent _ _ c.bytes.new.out c.room-area.ensures.size long (c.bytes.ensures.count, c.bytes.ensures.bytes) c.in-Some-bytes.is).1

pub returns : goal.returns
unfolding fill_answer fill_texts
returns c =
    page_known _ _ c.read_paged.ensures c.in-Some.is
    (bytes_known c.word.ensures _ _ c.room-area.ensures.size (c.bytes.ensures.count, c.bytes.ensures.bytes) c.in-Some-bytes.is refl
    (bytes_known c.word-2.ensures _ _ c.room-bytes.ensures.size (c.bytes-2.ensures.count, c.bytes-2.ensures.bytes) c.in-Some-bytes-2.is c.first.ensures c.filled.ensures))
