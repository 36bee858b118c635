-- `trace::write_header` meets its contract. Assumes nothing.
use Rattle.trace.specs.Layout.{trace_header}
use Rattle.trace.proofs.write_header.Goals as goal

pub returns : goal.returns
unfolding trace_header
returns c = c.write_numbers.ensures
