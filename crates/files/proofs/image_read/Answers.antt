-- `files::image_read` meets its contract, refused or not. Assumes nothing.
use Rattle.hexadecimal.specs.Laws.{wrote_then}
use Rattle.files.specs.Files.{reading_texts, restored_texts}
use Rattle.files.proofs.image_read.Goals as goal

pub returns-in-Ok : goal.returns-in-Ok
unfolding restored_texts reading_texts
returns-in-Ok c = rw c.in-Ok.is (wrote_then c.first_word-next.ensures c.then_record.ensures)

pub returns-in-Err : goal.returns-in-Err
unfolding restored_texts reading_texts
returns-in-Err c = rw c.in-Err.is (rw c.number.ensures at c.refusal.ensures)
