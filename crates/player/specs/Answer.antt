-- Document 01, 'Traces to work from': what the trace program prints of a file, as bytes. Assumes nothing.
use Rattle.std.specs.Prelude.{List, [], ◌∷◌, ◌++◌, ℕ, length, if◌then◌else◌}
use Rattle.paging.specs.Sets.{◌=?◌, ◌≤?◌}
use Rattle.words.specs.Words.{put}
use Rattle.run.specs.declared.Run.{Run}
use Rattle.run.specs.Request.{requested}
use Rattle.trace.specs.Layout.{trace_refusal, traced, requests_of}
use Rattle.text.specs.Text.{event_line, first_line, last_line, refused_line}

-- One line for each request in order, then the counts. A refused request leaves its run, and the next is served.
unfoldable pub lines : Run → List ℕ → List ℕ
lines r [] = last_line r.counts.served r.counts.hits r.counts.misses r.counts.best
lines r (p ∷ ps) = event_line p (requested r p).event (requested r p).best ++ lines (requested r p).run ps

-- The first line, the requests' lines, the last line. A refused file prints only `refused` and the number.
unfoldable pub answer_bytes : List ℕ → List ℕ
answer_bytes b =
    if trace_refusal b =? 0
    then first_line (traced b).run.pages (traced b).run.slots (traced b).requests ++ lines (traced b).run (requests_of b)
    else refused_line (trace_refusal b)

-- An answer is written to the start of a buffer that it fits in; any other stays as it is.
unfoldable pub answer_length : List ℕ → List ℕ → ℕ
answer_length b out = if length (answer_bytes b) ≤? length out then length (answer_bytes b) else 0

unfoldable pub answered : List ℕ → List ℕ → List ℕ
answered b out = if length (answer_bytes b) ≤? length out then put out 0 (answer_bytes b) else out
