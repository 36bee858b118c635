-- `Run::begun` meets its contract. Assumes nothing.
use native.Mathlib.Omega.{arith}
use mathlib.Core.Path.{◌∙◌}
use Rattle.begin.proofs.RefusalLaws.{begun_layers, begun_slots}
use Rattle.begin.proofs.Lists.{padded_slots}
use Rattle.run.specs.Start.{start_run}
use Rattle.run.proofs.Run.begun.Goals as goal

pub layers_of-requires : goal.layers_of-requires
layers_of-requires c = begun_layers _ _ _ c.requires

pub padded-requires : goal.padded-requires
padded-requires c = omega (arith, begun_slots _ _ _ c.requires)

pub returns : goal.returns
unfolding start_run
returns c = rw (c.none.ensures, c.layers_of.ensures, c.padded.ensures ∙ padded_slots _ _ (begun_slots _ _ _ c.requires).1)
