-- `image::agree` meets its contract: the test of each mark is the test of each page. Assumes nothing.
use Prim.Native.Nat.{◌+◌, ◌-◌}
use lib.ListN.{take, drop}
use Rattle.std.proofs.Common.{◌∙◌, rules, tests, arith}
use Rattle.std.proofs.lemmas.Iterator.{YieldsList-from_slice}
use Rattle.std.proofs.lemmas.Iterator.Consumers.{YieldsList-from_enumerate}
use Rattle.std.proofs.lemmas.Iterator.Search.{all_from_yields_List}
use Rattle.image.proofs.Seats.{agreeing, agree_each}
use Rattle.image.proofs.agree.Goals as goal

pub returns : goal.returns
returns c =
    all_from_yields_List (agreeing c.seated_marks-marks.result) _ _ _ c.all.ensures.ran (YieldsList-from_enumerate (YieldsList-from_slice (take (36 + c.args.pages - 36) (drop 36 c.args.image.now)) cc) (search rules)) (λ x b q k. search (rules, tests))
    ∙ agree_each _ _ _ _ _ c.requires.0 (omega arith) c.slots-held.ensures c.seated_marks-marks.ensures
