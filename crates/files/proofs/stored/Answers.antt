-- `files::stored` meets its contract, by its calls in their order. Assumes nothing.
use Rattle.files.specs.Files.{stored_texts}
use Rattle.files.proofs.stored.Goals as goal

pub returns : goal.returns
unfolding stored_texts
returns c =
    rw (c.store-done.ensures.answer, c.store-done.ensures.buffer) at c.written.ensures
