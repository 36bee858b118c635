-- What a replay tells of its requests. Assumes nothing.
use Rattle.std.specs.Prelude.{List, [], ◌∷◌, ◌++◌, ℕ}
use Rattle.run.specs.declared.Run.{Run}
use Rattle.run.specs.Request.{requested}
use Rattle.text.specs.Text.{event_line}

-- One line for each request in order. A refused request leaves its run, and the next is served.
unfoldable pub event_lines : Run → List ℕ → List ℕ
event_lines r [] = []
event_lines r (p ∷ ps) = event_line p (requested r p).event (requested r p).best ++ event_lines (requested r p).run ps
