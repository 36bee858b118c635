-- `files::trace_requested` meets its contract, by what was read. Assumes nothing.
use mathlib.Core.Path.{◌≡◌, refl}
use native.Mathlib.Omega.{arith}
use lib.ListN.{length}
use Rattle.answers.specs.Laws.{bytes_known, bytes_bad, numbers_known, numbers_bad}
use Rattle.files.specs.Files.{requested_texts}
use Rattle.files.proofs.Steps.{lent}
use borrow.Author.Rules.{rules}
use Rattle.files.proofs.trace_requested.Goals as goal

pub returns-in_default : goal.returns-in_default
unfolding requested_texts
returns-in_default c =
    numbers_bad c.word.ensures _ _ c.room-requests.ensures.size (c.list.ensures.count, c.list.ensures.numbers) c.in_default.is c.bad.ensures

pub returns-in_default-bytes : goal.returns-in_default-bytes
unfolding requested_texts
returns-in_default-bytes c =
    numbers_known c.word.ensures _ _ c.room-requests.ensures.size (c.list.ensures.count, c.list.ensures.numbers) c.in-Some.is refl
    (bytes_bad c.word-2.ensures _ _ c.room-buffer.ensures.size (c.bytes.ensures.count, c.bytes.ensures.bytes) c.in_default-bytes.is c.bad-in_default-bytes.ensures)

pub slice_bounds-buffer-end : goal.slice_bounds-buffer-end
slice_bounds-buffer-end c =
    let long : length c.bytes.new.out ≡ 131072 = search rules in
    omega (arith, (lent _ _ c.bytes.new.out c.room-buffer.ensures.size long (c.bytes.ensures.count, c.bytes.ensures.bytes) c.in-Some-bytes.is).0)

pub slice_bounds-trace_by-end : goal.slice_bounds-trace_by-end
slice_bounds-trace_by-end c =
    let long : length c.bytes.new.out ≡ 131072 = search rules in
    (lent _ _ c.bytes.new.out c.room-buffer.ensures.size long (c.bytes.ensures.count, c.bytes.ensures.bytes) c.in-Some-bytes.is).1

pub returns : goal.returns
unfolding requested_texts
returns c =
    numbers_known c.word.ensures _ _ c.room-requests.ensures.size (c.list.ensures.count, c.list.ensures.numbers) c.in-Some.is c.first.ensures
    (bytes_known c.word-2.ensures _ _ c.room-buffer.ensures.size (c.bytes.ensures.count, c.bytes.ensures.bytes) c.in-Some-bytes.is refl
    (rw c.word-3.ensures at c.trace_by.ensures))
