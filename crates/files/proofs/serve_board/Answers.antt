-- `files::serve_board` meets its contract, by what was read. Assumes nothing.
use mathlib.Core.Path.{◌≡◌, refl}
use native.Mathlib.Omega.{arith}
use lib.ListN.{length}
use Rattle.answers.specs.Laws.{number_known, number_bad, bytes_known, bytes_bad}
use Rattle.files.specs.Files.{board_answer}
use Rattle.files.proofs.Steps.{small_is, lent}
use borrow.Author.Rules.{rules}
use Rattle.files.proofs.serve_board.Goals as goal

pub returns-in_default : goal.returns-in_default
unfolding board_answer
returns-in_default c =
    bytes_bad c.word.ensures _ _ c.room-bytes.ensures.size (c.bytes.ensures.count, c.bytes.ensures.bytes) c.in_default.is c.bad.ensures

pub returns-in_default-read_number : goal.returns-in_default-read_number
unfolding board_answer
returns-in_default-read_number c =
    bytes_known c.word.ensures _ _ c.room-bytes.ensures.size (c.bytes.ensures.count, c.bytes.ensures.bytes) c.in-Some.is refl
    (number_bad c.word-2.ensures _ c.read_number.ensures c.in_default-read_number.is c.bad-in_default-read_number.ensures)

pub slice_bounds-bytes-end-2 : goal.slice_bounds-bytes-end-2
slice_bounds-bytes-end-2 c =
    let long : length c.bytes.new.out ≡ 131072 = search rules in
    omega (arith, (lent _ _ c.bytes.new.out c.room-bytes.ensures.size long (c.bytes.ensures.count, c.bytes.ensures.bytes) c.in-Some.is).0)

pub slice_bounds-boarded-end : goal.slice_bounds-boarded-end
slice_bounds-boarded-end c =
    let long : length c.bytes.new.out ≡ 131072 = search rules in
    (lent _ _ c.bytes.new.out c.room-bytes.ensures.size long (c.bytes.ensures.count, c.bytes.ensures.bytes) c.in-Some.is).1

pub overflow_cast-page : goal.overflow_cast-page
overflow_cast-page c = small_is _ _ c.in-Some-read_number.is c.read_number.ensures

pub returns : goal.returns
unfolding board_answer
returns c =
    bytes_known c.word.ensures _ _ c.room-bytes.ensures.size (c.bytes.ensures.count, c.bytes.ensures.bytes) c.in-Some.is refl
    (number_known c.word-2.ensures _ c.read_number.ensures c.in-Some-read_number.is c.boarded.ensures)
