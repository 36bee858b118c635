-- `counts::counted` meets its contract, by the kind of event. Assumes nothing.
use Rattle.counts.specs.Counts.{turned}
use Rattle.counts.specs.Laws.{turned_hit, turned_miss}
use Rattle.counts.proofs.counted.Goals as goal

pub returns-in-Hit : goal.returns-in-Hit
returns-in-Hit c = rw c.in-Hit.is (turned_hit _ _ _)

pub returns-in-Miss : goal.returns-in-Miss
returns-in-Miss c = rw c.in-Miss.is (turned_miss _ _ _ _)

pub returns-in-Refused : goal.returns-in-Refused
unfolding turned
returns-in-Refused c = rw c.in-Refused.is
