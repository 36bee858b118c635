-- The reader as the code takes it: the refusals of a header, the answer beside one, the requests one at a time. Assumes nothing.
use Rattle.std.proofs.Math.Bool.{Bool}
use Rattle.std.specs.Prelude.{List, ℕ, length, Result, Ok, Err}
use Rattle.paging.specs.Sets.{◌=?◌, ◌≤?◌, unless◌give◌else◌, listed}
use Rattle.refusals.specs.declared.Refusal.{Refusal}
use Rattle.refusals.specs.Numbers.{named, given}
use Rattle.begin.specs.Limits.{limits_refusal}
use Rattle.run.specs.Numbers.{blank_run}
use Rattle.trace.specs.declared.Header.{Header}
use Rattle.trace.specs.declared.Traced.{Traced}
use Rattle.trace.specs.Layout.{most_requests, trace_length, pages_in, slots_in, requests_in}
use Rattle.trace.specs.Layout.{offsets_right, request_word}

-- The refusal that N and k of a file give.
abbrev pub limits_in : List ℕ → ℕ
limits_in b = limits_refusal (pages_in b) (slots_in b)

-- The file is as long as its header says.
abbrev pub total_right : List ℕ → Bool
total_right b = length b =? trace_length (pages_in b) (slots_in b) (requests_in b)

-- 13, 2, 3, 14, 15, 13, or 0.
unfoldable pub header_refusal : List ℕ → ℕ
header_refusal b =
    unless 24 ≤? length b give 13 else
    unless limits_in b =? 0 give limits_in b else
    unless requests_in b ≤? most_requests give 14 else
    unless offsets_right b give 15 else
    unless total_right b give 13 else
    0

-- What a header says: N, k and T.
abbrev pub header_in : List ℕ → Header
header_in b = record { pages = pages_in b; slots = slots_in b; requests = requests_in b }

-- The header of a file, or its refusal.
unfoldable pub header_told : List ℕ → Result Header Refusal
header_told b = unless header_refusal b =? 0 give Err (named (header_refusal b)) else Ok (header_in b)

-- A refused read hands back the blank run.
unfoldable pub no_trace : ℕ → Traced
no_trace n = record { run = blank_run; requests = 0; offset = 0; refusal = given n }

-- The requests that begin at an offset of a file, as they are read one at a time.
unfoldable pub asked : List ℕ → ℕ → ℕ → List ℕ
asked b offset n = listed n (request_word b offset)
