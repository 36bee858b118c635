-- The first layer that sinks where a page of layer i is requested: its own, or the last for a page of L_0. Assumes nothing.
use Rattle.std.specs.Prelude.{ℕ, zero, suc}

-- the first layer that sinks
unfoldable pub bar : ℕ → ℕ → ℕ
bar k zero = k
bar k (suc i) = suc i
