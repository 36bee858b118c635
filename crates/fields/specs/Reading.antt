-- What was read of a word, as a caller sees it: how many bytes or numbers, and that they are the first of the buffer. Assumes
-- nothing.
use Rattle.std.specs.Prelude.{List, ◌≡◌, ℕ, ◌≤◌, take, Option, Some, None}
use Rattle.std.proofs.Math.ListN.{length}

-- What a reader of a word into a buffer has to do with what the word stands for.
unfoldable pub Read : Option (List ℕ) → List ℕ → List ℕ → Option ℕ → Type 0
Read o s last (Some n) = (o ≡ Some (take n last)) × (n ≤ length s)
Read o s last None = o ≡ None
