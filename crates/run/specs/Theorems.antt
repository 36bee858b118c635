-- What a hit and a miss are, for the theorems about the calls on a run (proofs/Theorems.antt). Assumes nothing.
use Rattle.std.specs.Prelude.{false, ◌≡◌, ℕ, set}
use Rattle.std.proofs.Math.Option.{Option, some}
use Rattle.std.proofs.Math.Path.{Path}
use Rattle.serve.specs.declared.Event.TheVariants.{Hit, Miss}
use Rattle.run.specs.declared.Run.{Run}
use Rattle.paging.specs.Sets.{◌∈◌}
use Rattle.run.specs.Numbers.{in_slot}
use Rattle.run.specs.Cached.{cached, slot_of, victim_of}
use Rattle.run.specs.Request.{counted, requested}

-- A hit: p is cached, in the slot that is answered, and no slot changes.
pub record IsHit (r : Run) (p : ℕ) : Type 0 where
  pub cached_is : p ∈ cached r
  pub slot_is : in_slot r (slot_of r p) ≡ p
  pub event : (requested r p).event ≡ Hit (slot_of r p)
  pub run : (requested r p).run ≡ counted r p 1 0 r.held

-- A miss: p is not cached; the victim is, in the slot that is answered, and p takes that slot.
pub record IsMiss (r : Run) (p v : ℕ) : Type 0 where
  pub not_cached : cached r p ≡ false
  pub victim_is : Path (Option ℕ) (victim_of r p) (some v)
  pub victim_cached : v ∈ cached r
  pub slot_is : in_slot r (slot_of r v) ≡ v
  pub event : (requested r p).event ≡ Miss (slot_of r v) v
  pub run : (requested r p).run ≡ counted r p 0 1 (set r.held (slot_of r v) p)
