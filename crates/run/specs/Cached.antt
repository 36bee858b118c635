-- Document 01, 'Layers and selection', of a run: its cached pages, their slots, the selection and the victim. Assumes nothing.
use Rattle.std.proofs.Math.Option
use Rattle.std.proofs.Math.Option.{Option}
use Rattle.std.specs.Prelude.{ℕ}
use Rattle.paging.specs.Sets.{Pages}
use Rattle.paging.specs.Selection.{chosen}
use Rattle.paging.specs.Victim.{victim}
use Rattle.slots.specs.Slots.{seated, seat}
use Rattle.run.specs.declared.Run.{Run}
use Rattle.run.specs.Numbers.{layer, ranks}

-- A page is cached if a slot below k holds it.
abbrev pub cached : Run → Pages
cached r = seated r.held r.slots

-- The slot of a cached page.
abbrev pub slot_of : Run → ℕ → ℕ
slot_of r q = Option.get_or (seat r.held r.slots q) 0

-- The cached set is C_k.
abbrev pub selection : Run → Pages
selection r = chosen r.pages (ranks r) (layer r) r.slots

-- Which cached page makes room for p, if there is one.
abbrev pub victim_of : Run → ℕ → Option ℕ
victim_of r p = victim r.pages r.slots (ranks r) (layer r) (cached r) p
