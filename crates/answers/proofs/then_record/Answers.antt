-- `answers::then_record` meets its contract. Assumes nothing.
use Prim.Native.Nat.{ℕ}
use lib.ListN.{length-replicate}
use Rattle.answers.specs.Answers.{record_texts}
use Rattle.answers.specs.Laws.{record_told}
use Rattle.answers.proofs.then_record.Goals as goal

pub returns : goal.returns
unfolding record_texts
returns c =
    let is = record_told _ _ (length-replicate {A = ℕ} 3236 0) _ _ _ (c.store-stored.ensures.answer, c.store-stored.ensures.buffer) c.first.ensures in
    rw is at c.then_bytes.ensures
