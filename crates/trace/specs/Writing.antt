-- What the writer asks of its input and its buffer, and the answer beside a refusal. Assumes nothing.
use Rattle.std.specs.Prelude.{List, ◌≡◌, ℕ, ◌+◌, ◌*◌, ◌≤◌}
use Rattle.std.proofs.Math.ListN.{length}
use Rattle.refusals.specs.Numbers.{given}
use Rattle.trace.specs.declared.Written.{Written}
use Rattle.trace.specs.Layout.{most_requests}

-- A trace with these lists fits its header and the buffer.
pub record Fits (N k : ℕ) (list priorities requests out : List ℕ) : Type 0 where
  pub pages : N ≤ 1024
  pub slots : k ≤ 64
  pub entries : length list ≡ k
  pub all : length priorities ≡ N
  pub few : length requests ≤ most_requests
  pub room : 24 + 2 * k + 2 * N + 2 * length requests ≤ length out

-- A refused write has written nothing.
unfoldable pub no_file : ℕ → Written
no_file n = record { length = 0; refusal = given n }
