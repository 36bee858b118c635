-- `Run::trial` meets its contract: it answers as the request does. Assumes nothing.
use Rattle.run.specs.Request.{tried}
use Rattle.run.proofs.Run.trial.Goals as goal

pub returns : goal.returns
unfolding tried
returns c = record { answer = rw c.request-served.ensures.answer; numbers = c.request-served.ensures.numbers }
