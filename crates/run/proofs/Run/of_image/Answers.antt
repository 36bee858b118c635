-- `Run::of_image` meets its contract: the header has room for what is read. Assumes nothing.
use native.Mathlib.Omega.{arith}
use Rattle.run.proofs.Storing.{image_fits, image_long, image_run_is}
use Rattle.run.proofs.Run.of_image.Goals as goal

pub read_u32-pages-requires : goal.read_u32-pages-requires
read_u32-pages-requires c = omega (arith, image_long _ c.requires)

pub read_u32-slots-requires : goal.read_u32-slots-requires
read_u32-slots-requires c = omega (arith, image_long _ c.requires)

pub read_u32-requires : goal.read_u32-requires
read_u32-requires c = omega (arith, image_long _ c.requires)

pub read_u32-requires-2 : goal.read_u32-requires-2
read_u32-requires-2 c = omega (arith, image_long _ c.requires)

pub read_u32-requires-3 : goal.read_u32-requires-3
read_u32-requires-3 c = omega (arith, image_long _ c.requires)

pub read_u32-requires-4 : goal.read_u32-requires-4
read_u32-requires-4 c = omega (arith, image_long _ c.requires)

pub layers-requires : goal.layers-requires
layers-requires c =
    let f = image_fits _ _ _ c.requires c.read_u32-pages.ensures c.read_u32-slots.ensures in
    (f.0, omega arith)

pub priorities-requires : goal.priorities-requires
priorities-requires c = image_fits _ _ _ c.requires c.read_u32-pages.ensures c.read_u32-slots.ensures

pub slots-requires : goal.slots-requires
slots-requires c =
    let f = image_fits _ _ _ c.requires c.read_u32-pages.ensures c.read_u32-slots.ensures in
    (f.0, f.1, omega arith)

pub returns : goal.returns
returns c =
    image_run_is _ _ _ _ _ _ _ _ _ _ _
    c.read_u32-pages.ensures
    c.read_u32-slots.ensures
    c.read_u32.ensures
    c.read_u32-2.ensures
    c.read_u32-3.ensures
    c.read_u32-4.ensures
    c.layers.ensures
    c.priorities.ensures
    c.fixed.ensures
    c.slots.ensures
