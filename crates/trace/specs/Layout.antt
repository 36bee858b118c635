-- Document 01, 'House layouts': a trace file. Assumes nothing.
use Rattle.std.specs.Prelude.{Bool, ◌&&◌, List, [], ◌∷◌, ◌++◌, ℕ, ◌+◌, ◌*◌, length, if◌then◌else◌, None}
use Rattle.paging.specs.Sets.{◌=?◌, ◌≤?◌, unless◌give◌else◌, listed}
use Rattle.words.specs.Words.{words, word_at, put}
use Rattle.refusals.specs.Numbers.{given, number_in}
use Rattle.begin.specs.Limits.{limits_refusal}
use Rattle.begin.specs.Begin.{below, different}
use Rattle.run.specs.Numbers.{blank_run}
use Rattle.run.specs.Start.{listed_run, started}
use Rattle.trace.specs.declared.Traced.{Traced}
use Rattle.trace.specs.declared.Written.{Written}

-- Requests T in a trace file: 0 to 30,000.
abbrev pub most_requests : ℕ
most_requests = 30000

-- N, k, T, offset of start list (24), of priorities (24+2k), of requests (24+2k+2N); total 24+2k+2N+2T.
unfoldable pub trace_header : ℕ → ℕ → ℕ → List ℕ
trace_header N k T = N ∷ k ∷ T ∷ 24 ∷ (24 + 2 * k) ∷ (24 + 2 * k + 2 * N) ∷ []

unfoldable pub trace_length : ℕ → ℕ → ℕ → ℕ
trace_length N k T = 24 + 2 * k + 2 * N + 2 * T

-- All header numbers are 32-bit and all list entries 16-bit, low byte first; sections adjoin.
unfoldable pub trace_bytes : ℕ → ℕ → List ℕ → List ℕ → List ℕ → List ℕ
trace_bytes N k list priorities requests =
    words 4 (trace_header N k (length requests)) ++ (words 2 list ++ (words 2 priorities ++ words 2 requests))

-- ---- reading

abbrev pub pages_in : List ℕ → ℕ
pages_in b = word_at 4 b 0

abbrev pub slots_in : List ℕ → ℕ
slots_in b = word_at 4 b 4

abbrev pub requests_in : List ℕ → ℕ
requests_in b = word_at 4 b 8

abbrev pub request_offset : List ℕ → ℕ
request_offset b = 24 + 2 * slots_in b + 2 * pages_in b

unfoldable pub list_in : List ℕ → List ℕ
list_in b = listed (slots_in b) (λ i. word_at 2 b (24 + 2 * i))

unfoldable pub priorities_in : List ℕ → List ℕ
priorities_in b = listed (pages_in b) (λ q. word_at 2 b (24 + 2 * slots_in b + 2 * q))

unfoldable pub requests_of : List ℕ → List ℕ
requests_of b = listed (requests_in b) (λ i. word_at 2 b (request_offset b + 2 * i))

-- The header's three offsets are those of the layout.
unfoldable pub offsets_right : List ℕ → Bool
offsets_right b =
    word_at 4 b 12 =? 24
    && word_at 4 b 16 =? 24 + 2 * slots_in b
    && word_at 4 b 20 =? request_offset b

-- Trace reader: 13 (under 24 bytes), 2, 3, 14, 15, 13 (total), 5, 6. 0 where none applies.
unfoldable pub trace_refusal : List ℕ → ℕ
trace_refusal b =
    unless 24 ≤? length b give 13 else
    unless limits_refusal (pages_in b) (slots_in b) =? 0 give limits_refusal (pages_in b) (slots_in b) else
    unless requests_in b ≤? most_requests give 14 else
    unless offsets_right b give 15 else
    unless length b =? trace_length (pages_in b) (slots_in b) (requests_in b) give 13 else
    unless below (pages_in b) (list_in b) give 5 else
    unless different (list_in b) give 6 else
    0

-- The reader answers the started run, T and the offset of the requests; refused: the blank run, 0 and 0.
unfoldable pub traced : List ℕ → Traced
traced b =
    if trace_refusal b =? 0
    then record {
      run = listed_run (pages_in b) (slots_in b) (list_in b) (priorities_in b);
      requests = requests_in b;
      offset = request_offset b;
      refusal = None;
    }
    else record { run = blank_run; requests = 0; offset = 0; refusal = given (trace_refusal b) }

-- The request at a place of a file, 0 where the file ends before it.
unfoldable pub request_word : List ℕ → ℕ → ℕ → ℕ
request_word b offset i = if offset + 2 * i + 2 ≤? length b then word_at 2 b (offset + 2 * i) else 0

-- ---- writing

-- Trace writer: start's order, then 14, 16. 0 where it is written.
unfoldable pub write_refusal : ℕ → ℕ → List ℕ → List ℕ → List ℕ → List ℕ → ℕ
write_refusal N k list priorities requests out =
    unless number_in (started N k list priorities).refusal =? 0 give number_in (started N k list priorities).refusal else
    unless length requests ≤? most_requests give 14 else
    unless trace_length N k (length requests) ≤? length out give 16 else
    0

-- The writer touches only the bytes it reports.
unfoldable pub written : ℕ → ℕ → List ℕ → List ℕ → List ℕ → List ℕ → Written
written N k list priorities requests out =
    if write_refusal N k list priorities requests out =? 0
    then record { length = trace_length N k (length requests); refusal = None }
    else record { length = 0; refusal = given (write_refusal N k list priorities requests out) }

unfoldable pub written_bytes : ℕ → ℕ → List ℕ → List ℕ → List ℕ → List ℕ → List ℕ
written_bytes N k list priorities requests out =
    if write_refusal N k list priorities requests out =? 0
    then put out 0 (trace_bytes N k list priorities requests)
    else out
