-- `text::digits` meets its contract, by the power of ten that is not above the number. Assumes nothing.
use Rattle.text.proofs.Steps.{count_told}
use Rattle.text.proofs.digits.Goals as goal

pub returns : goal.returns
returns c =
    rw c.unwrap_or.ensures
    (count_told c.args.n _ c.checked_ilog10.ensures.none c.checked_ilog10.ensures.power_le c.checked_ilog10.ensures.next_power_gt c.checked_ilog10.ensures.bound)
