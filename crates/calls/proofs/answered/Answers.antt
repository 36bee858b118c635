-- `calls::answered` meets its contract, refused or not. Assumes nothing.
use Rattle.calls.proofs.Steps.{refused_served, accepted_served}
use Rattle.calls.proofs.answered.Goals as goal

pub returns-in-Refused : goal.returns-in-Refused
returns-in-Refused c = search refused_served

pub returns-in_default : goal.returns-in_default
returns-in_default c =
    accepted_served _ c.event-next.ensures c.in_default.not-Refused c.then_record.ensures
