-- `image::layers` meets its contract, by the invariant of its loop. Assumes nothing.
use Prim.Native.Nat.{◌%◌}
use mathlib.Core.Path.{ap, ◌∙◌}
use native.Mathlib.Omega.{arith}
use Rattle.paging.specs.Tables.{fill_none, fill_more, fill_all}
use Rattle.image.specs.Layout.{image_layers}
use Rattle.image.proofs.Sections.{part_length, part_entry}
use Rattle.image.proofs.layers.Goals as goal

pub loop-q-init : goal.loop-q-init
loop-q-init c = fill_none 0 1024 _

pub loop-q-preserved : goal.loop-q-preserved
loop-q-preserved c =
    let long = part_length c.args.image.now 36 c.args.pages c.requires.1 in
    fill_more _ _ _ _ _ _ (omega arith) c.loop-q.invariant
    (c.mark_layer.ensures ∙ ap (λ m. m % 128) (part_entry c.args.image.now 36 c.args.pages c.loop-q.q 0 (omega arith)))

pub returns : goal.returns
unfolding image_layers
returns c =
    let long = part_length c.args.image.now 36 c.args.pages c.requires.1 in
    fill_all _ _ _ _ _ _ (omega arith) (omega arith) c.loop-q.invariant
