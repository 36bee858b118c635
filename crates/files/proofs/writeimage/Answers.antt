-- `files::writeimage` meets its contract, by what was read. Assumes nothing.
use mathlib.Core.Path.{◌≡◌, refl}
use native.Mathlib.Omega.{arith}
use lib.ListN.{length}
use Rattle.answers.specs.Laws.{run_known, run_bad, bytes_known, bytes_bad}
use Rattle.files.specs.Files.{writeimage_answer}
use Rattle.files.proofs.Steps.{lent}
use borrow.Author.Rules.{rules}
use Rattle.files.proofs.writeimage.Goals as goal

pub returns-in_default : goal.returns-in_default
unfolding writeimage_answer
returns-in_default c = search run_bad

pub returns-in_default-bytes : goal.returns-in_default-bytes
unfolding writeimage_answer
returns-in_default-bytes c =
    run_known c.word.ensures _ c.read_run.ensures c.in-Some.is
    (bytes_bad c.word-2.ensures _ _ c.room-buffer.ensures.size (c.bytes.ensures.count, c.bytes.ensures.bytes) c.in_default-bytes.is c.bad-in_default-bytes.ensures)

pub slice_bounds-buffer-end : goal.slice_bounds-buffer-end
slice_bounds-buffer-end c =
    let long : length c.bytes.new.out ≡ 131072 = search rules in
    omega (arith, (lent _ _ c.bytes.new.out c.room-buffer.ensures.size long (c.bytes.ensures.count, c.bytes.ensures.bytes) c.in-Some-bytes.is).0)

pub slice_bounds-stored-end : goal.slice_bounds-stored-end
slice_bounds-stored-end c =
    let long : length c.bytes.new.out ≡ 131072 = search rules in
    (lent _ _ c.bytes.new.out c.room-buffer.ensures.size long (c.bytes.ensures.count, c.bytes.ensures.bytes) c.in-Some-bytes.is).1

pub returns : goal.returns
unfolding writeimage_answer
returns c =
    run_known c.word.ensures _ c.read_run.ensures c.in-Some.is
    (bytes_known c.word-2.ensures _ _ c.room-buffer.ensures.size (c.bytes.ensures.count, c.bytes.ensures.bytes) c.in-Some-bytes.is refl c.stored.ensures)
