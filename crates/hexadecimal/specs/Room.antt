-- Text put into a buffer at an offset where it has room, and the offset behind it. Assumes nothing.
use Rattle.std.specs.Prelude.{List, [], ◌∷◌, ◌≡◌, ℕ, ◌+◌, length, if◌then◌else◌}
use Rattle.paging.specs.Sets.{◌≤?◌}
use Rattle.words.specs.Words.{put}

-- A text is written where it has room. Without it the buffer stays as it was.
unfoldable pub placed : List ℕ → ℕ → List ℕ → List ℕ
placed s at text = if at + length text ≤? length s then put s at text else s

unfoldable pub behind : List ℕ → ℕ → List ℕ → ℕ
behind s at text = if at + length text ≤? length s then at + length text else at

-- Texts written one behind the other, each where it has room.
unfoldable pub placed_all : List ℕ → ℕ → List (List ℕ) → List ℕ
placed_all s at [] = s
placed_all s at (t ∷ ts) = placed_all (placed s at t) (behind s at t) ts

unfoldable pub behind_all : List ℕ → ℕ → List (List ℕ) → ℕ
behind_all s at [] = at
behind_all s at (t ∷ ts) = behind_all (placed s at t) (behind s at t) ts

-- What a writer of texts promises of its answer and of its buffer at exit: the offset behind the texts, and the texts there.
pub record Wrote (s : List ℕ) (at : ℕ) (texts : List (List ℕ)) (next : ℕ) (s' : List ℕ) : Type 0 where
  pub offset : next ≡ behind_all s at texts
  pub text : s' ≡ placed_all s at texts
