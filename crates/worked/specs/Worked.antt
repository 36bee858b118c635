-- Document 01, 'Traces to work from': trace A and P1 to P10, one table and one theorem, computed over the definitions that the
-- contracts of the calls cite. Assumes nothing.
use Rattle.std.specs.Prelude.{List, [], ◌∷◌, ◌++◌, map, ◌≡◌, refl, ℕ, zero, suc, ◌+◌, if◌then◌else◌}
use Rattle.serve.specs.declared.Event.{Event}
use Rattle.refusals.specs.Numbers as refusals
use Rattle.refusals.specs.Numbers.{number_in}
use Rattle.serve.specs.declared.Event.TheVariants.{Hit, Miss, Refused}
use Rattle.run.specs.declared.Run.{Run}
use Rattle.paging.specs.Sets.{Pages, count, each, any, first, lowest, listed, table, only}
use Rattle.paging.specs.Layers.{in_layer, start_layer, asked_new, asked_known, next}
use Rattle.paging.specs.Selection.{highest, together, chosen}
use Rattle.paging.specs.Victim.{cached_to, full, reach, lowest_to, victim}
use Rattle.ranking.specs.Outranks.{above}
use Rattle.slots.specs.Slots.{seated, seat}
use Rattle.begin.specs.Limits.{pages_fit, slots_fit}
use Rattle.begin.specs.Begin.{below, different, start_layers, start_priorities, start_slots}
use Rattle.run.specs.Numbers.{layer, blank_run}
use Rattle.run.specs.Cached.{cached}
use Rattle.run.specs.Sound.{sound}
use Rattle.counts.specs.Counts.{no_counts, more}
use Rattle.run.specs.Start.{start_run, started}
use Rattle.run.specs.Request.{served, counted, with_hit, with_miss, requested, next_run}
use Rattle.words.specs.Words.{bytes, number, words, word_at, put}
use Rattle.begin.specs.Limits.{limits_refusal}
use Rattle.image.specs.Layout.{mark_byte, image_header, image_length, image_bytes, offsets_right, image_refusal, image_layers, image_slots}
use Rattle.image.specs.Layout.{image_priorities, marks_agree}
use Rattle.run.specs.History.{run_after}
use Rattle.run.specs.Stored.{image_run, restored, image_of, image_counts, after_reading, requested_in}
use Rattle.serve.specs.Event.{values}
use Rattle.board.specs.Board.{packed, image_after, board_answer, board_image}

-- `swap` has page, slot, victim, best so far; `hit` page, slot, best so far. A refused request prints `refused`, page, number.
pub data Line : Type 0 where
  swap : ℕ → ℕ → ℕ → ℕ → Line
  hit : ℕ → ℕ → ℕ → Line
  refused : ℕ → ℕ → Line

unfoldable pub line : ℕ → Event → ℕ → Line
line p (Hit s) b = hit p s b
line p (Miss s v) b = swap p s v b
line p (Refused n) b = refused p (refusals.number n)

-- What is given: N, k, the start list and the priorities; how many requests, all hits, went before; the requests.
pub record Given : Type 0 where
  pub pages : ℕ
  pub slots : ℕ
  pub start : List ℕ
  pub priorities : List ℕ
  pub before : ℕ
  pub requests : List ℕ

-- What comes of it: a line for each request; at the end L_0 to L_k, the cached pages, and served, hits, misses, best; and the
-- board's answer to each request, served to the image that the one before it left.
pub record Outcome : Type 0 where
  pub lines : List Line
  pub layers : List (List ℕ)
  pub cached : List ℕ
  pub counts : List ℕ
  pub packed : List ℕ

-- The pages of a set, in order.
unfoldable pub members : ℕ → Pages → List ℕ
members zero f = []
members (suc n) f = members n f ++ (if f n then n ∷ [] else [])

-- A run with n hits more.
unfoldable pub later : ℕ → Run → Run
later n r = next_run r (record { served = r.counts.served + n; hits = r.counts.hits + n; misses = r.counts.misses; best = r.counts.best }) r.layer r.held

-- The line of each of some requests.
unfoldable pub lines_of : Run → List ℕ → List Line
lines_of r [] = []
lines_of r (p ∷ ps) =
    let s = requested r p in
    line p s.event s.best ∷ lines_of s.run ps

unfoldable pub answers : List ℕ → List ℕ → List ℕ
answers b [] = []
answers b (p ∷ ps) = board_answer b p ∷ answers (board_image b p) ps

unfoldable pub seen_at : Run → List Line → List ℕ → Outcome
seen_at r ls packed =
    record {
      lines = ls;
      layers = listed (suc r.slots) (λ j. members r.pages (in_layer (layer r) j));
      cached = members r.pages (cached r);
      counts = r.counts.served ∷ r.counts.hits ∷ r.counts.misses ∷ r.counts.best ∷ [];
      packed = packed;
    }

unfoldable pub begun : Given → Run
begun g = later g.before (started g.pages g.slots g.start g.priorities).run

unfoldable pub played : Given → Outcome
played g =
    seen_at (run_after (begun g) g.requests) (lines_of (begun g) g.requests) (answers (image_of (begun g)) g.requests)

abbrev pub given : ℕ → ℕ → List ℕ → List ℕ → ℕ → List ℕ → Given
given N k start priorities before requests =
    record { pages = N; slots = k; start = start; priorities = priorities; before = before; requests = requests }

abbrev pub gives : List Line → List (List ℕ) → List ℕ → List ℕ → List ℕ → Outcome
gives lines layers cached counts packed =
    record { lines = lines; layers = layers; cached = cached; counts = counts; packed = packed }

-- Trace A: N=6, k=3, start 1, 3, 0; priorities of pages 0 to 5: 10, 40, 20, 30, 50, 5.
abbrev pub trace_a : ℕ → List ℕ → Given
trace_a = given 6 3 (1 ∷ 3 ∷ 0 ∷ []) (10 ∷ 40 ∷ 20 ∷ 30 ∷ 50 ∷ 5 ∷ [])

unfoldable pub worked : List (Given × Outcome)
worked =
    -- P1 after the first request: L1={1}, L2={0,3}, L3={4}; cached 1, 3, 4.
    (
      trace_a 0 (4 ∷ []),
      gives
          (swap 4 2 0 1 ∷ [])
          ((2 ∷ 5 ∷ []) ∷ (1 ∷ []) ∷ (0 ∷ 3 ∷ []) ∷ (4 ∷ []) ∷ [])
          (1 ∷ 3 ∷ 4 ∷ [])
          (1 ∷ 0 ∷ 1 ∷ 1 ∷ [])
          (67584 ∷ []),
    )
    ∷
    -- P2 after the second: L1={1,3}, L2={4}, L3={0}; cached 0, 1, 4.
    (
      trace_a 0 (4 ∷ 0 ∷ []),
      gives
          (swap 4 2 0 1 ∷ swap 0 1 3 1 ∷ [])
          ((2 ∷ 5 ∷ []) ∷ (1 ∷ 3 ∷ []) ∷ (4 ∷ []) ∷ (0 ∷ []) ∷ [])
          (0 ∷ 1 ∷ 4 ∷ [])
          (2 ∷ 0 ∷ 2 ∷ 1 ∷ [])
          (67584 ∷ 66563 ∷ []),
    )
    ∷
    -- P3 after the third: L0={1,2,5}; cached 0, 3, 4.
    (
      trace_a 0 (4 ∷ 0 ∷ 3 ∷ []),
      gives
          (swap 4 2 0 1 ∷ swap 0 1 3 1 ∷ swap 3 0 1 1 ∷ [])
          ((1 ∷ 2 ∷ 5 ∷ []) ∷ (4 ∷ []) ∷ (0 ∷ []) ∷ (3 ∷ []) ∷ [])
          (0 ∷ 3 ∷ 4 ∷ [])
          (3 ∷ 0 ∷ 3 ∷ 1 ∷ [])
          (67584 ∷ 66563 ∷ 65537 ∷ []),
    )
    ∷
    -- P4 at the end: L0={1,2}, L1={0}, L2={3,4}, L3={5}; cached 3, 4, 5.
    (
      trace_a 0 (4 ∷ 0 ∷ 3 ∷ 4 ∷ 4 ∷ 5 ∷ []),
      gives
          (swap 4 2 0 1 ∷ swap 0 1 3 1 ∷ swap 3 0 1 1 ∷ hit 4 2 1 ∷ hit 4 2 1 ∷ swap 5 1 0 2 ∷ [])
          ((1 ∷ 2 ∷ []) ∷ (0 ∷ []) ∷ (3 ∷ 4 ∷ []) ∷ (5 ∷ []) ∷ [])
          (3 ∷ 4 ∷ 5 ∷ [])
          (6 ∷ 2 ∷ 4 ∷ 2 ∷ [])
          (67584 ∷ 66563 ∷ 65537 ∷ 2048 ∷ 2048 ∷ 66560 ∷ []),
    )
    ∷
    -- P5 N=3, k=2, start 0, 1, priorities 30, 20, 10, requests 2, 1: victims 1, then 0; best 1.
    (
      given 3 2 (0 ∷ 1 ∷ []) (30 ∷ 20 ∷ 10 ∷ []) 0 (2 ∷ 1 ∷ []),
      gives
          (swap 2 1 1 1 ∷ swap 1 0 0 1 ∷ [])
          ((0 ∷ []) ∷ (2 ∷ []) ∷ (1 ∷ []) ∷ [])
          (1 ∷ 2 ∷ [])
          (2 ∷ 0 ∷ 2 ∷ 1 ∷ [])
          (66561 ∷ 65536 ∷ []),
    )
    ∷
    -- P6 the same with all priorities 7, request 2: victim 1.
    (
      given 3 2 (0 ∷ 1 ∷ []) (7 ∷ 7 ∷ 7 ∷ []) 0 (2 ∷ []),
      gives
          (swap 2 1 1 1 ∷ [])
          ([] ∷ (0 ∷ 1 ∷ []) ∷ (2 ∷ []) ∷ [])
          (0 ∷ 2 ∷ [])
          (1 ∷ 0 ∷ 1 ∷ 1 ∷ [])
          (66561 ∷ []),
    )
    ∷
    -- P7 N=2, k=1, start 0, requests 1, 1, 0: victims 0, none, 1; best 2.
    (
      given 2 1 (0 ∷ []) (7 ∷ 7 ∷ []) 0 (1 ∷ 1 ∷ 0 ∷ []),
      gives
          (swap 1 0 0 1 ∷ hit 1 0 1 ∷ swap 0 0 1 2 ∷ [])
          ((1 ∷ []) ∷ (0 ∷ []) ∷ [])
          (0 ∷ [])
          (3 ∷ 1 ∷ 2 ∷ 2 ∷ [])
          (65536 ∷ 0 ∷ 65537 ∷ []),
    )
    ∷
    -- P8 N=2, k=2, start 0, 1, request 0: hit; L0 empty, L1={1}, L2={0}.
    (
      given 2 2 (0 ∷ 1 ∷ []) (7 ∷ 7 ∷ []) 0 (0 ∷ []),
      gives
          (hit 0 0 0 ∷ [])
          ([] ∷ (1 ∷ []) ∷ (0 ∷ []) ∷ [])
          (0 ∷ 1 ∷ [])
          (1 ∷ 1 ∷ 0 ∷ 0 ∷ [])
          (0 ∷ []),
    )
    ∷
    -- P9 page 6 in trace A: 8;
    (
      trace_a 0 (6 ∷ []),
      gives
          (refused 6 8 ∷ [])
          ((2 ∷ 4 ∷ 5 ∷ []) ∷ (1 ∷ []) ∷ (3 ∷ []) ∷ (0 ∷ []) ∷ [])
          (0 ∷ 1 ∷ 3 ∷ [])
          (0 ∷ 0 ∷ 0 ∷ 0 ∷ [])
          (134217728 ∷ []),
    )
    ∷
    -- also at served 1,000,000.
    (
      trace_a 1_000_000 (6 ∷ 4 ∷ []),
      gives
          (refused 6 8 ∷ refused 4 9 ∷ [])
          ((2 ∷ 4 ∷ 5 ∷ []) ∷ (1 ∷ []) ∷ (3 ∷ []) ∷ (0 ∷ []) ∷ [])
          (0 ∷ 1 ∷ 3 ∷ [])
          (1_000_000 ∷ 1_000_000 ∷ 0 ∷ 0 ∷ [])
          (134217728 ∷ 150994944 ∷ []),
    )
    ∷
    -- Served 999,999 serves one more, then 9.
    (
      trace_a 999_999 (4 ∷ 0 ∷ []),
      gives
          (swap 4 2 0 1 ∷ refused 0 9 ∷ [])
          ((2 ∷ 5 ∷ []) ∷ (1 ∷ []) ∷ (0 ∷ 3 ∷ []) ∷ (4 ∷ []) ∷ [])
          (1 ∷ 3 ∷ 4 ∷ [])
          (1_000_000 ∷ 999_999 ∷ 1 ∷ 1 ∷ [])
          (67584 ∷ 150994944 ∷ []),
    )
    ∷
    -- P10 board answers for trace A's first, second and fourth request: 67584, 66563, 2048; refusal 8 is 134217728.
    (
      trace_a 0 (4 ∷ 0 ∷ 3 ∷ 4 ∷ 6 ∷ []),
      gives
          (swap 4 2 0 1 ∷ swap 0 1 3 1 ∷ swap 3 0 1 1 ∷ hit 4 2 1 ∷ refused 6 8 ∷ [])
          ((1 ∷ 2 ∷ 5 ∷ []) ∷ (0 ∷ []) ∷ (3 ∷ []) ∷ (4 ∷ []) ∷ [])
          (0 ∷ 3 ∷ 4 ∷ [])
          (4 ∷ 1 ∷ 3 ∷ 1 ∷ [])
          (67584 ∷ 66563 ∷ 65537 ∷ 2048 ∷ 134217728 ∷ []),
    )
    ∷ []

pub all_hold : map (λ c. played c.0) worked ≡ map (λ c. c.1) worked
unfolding line members later lines_of run_after seen_at begun played worked count each any first lowest listed table only blank_run above start_layer asked_new asked_known next highest together chosen seated seat cached_to full reach lowest_to victim pages_fit slots_fit sound start_layers start_priorities start_slots start_run no_counts below different started more next_run counted with_hit with_miss served requested answers bytes number words word_at put limits_refusal mark_byte image_header image_length image_bytes offsets_right image_refusal image_layers image_slots image_priorities marks_agree image_counts image_run restored image_of after_reading requested_in values packed image_after board_answer board_image
all_hold = refl

-- The refusals of a start, in their order: each start is wrong in all that comes later, too, as far as it can be.
pub start_refusals :
    map (λ g. number_in (started g.pages g.slots g.start g.priorities).refusal) (
    given 1025 65 [] [] 0 []
    ∷ given 6 65 [] [] 0 []
    ∷ given 2 3 [] [] 0 []
    ∷ given 6 2 (6 ∷ 6 ∷ 6 ∷ []) [] 0 []
    ∷ given 6 3 (0 ∷ 0 ∷ 6 ∷ []) [] 0 []
    ∷ given 6 3 (0 ∷ 1 ∷ 0 ∷ []) [] 0 []
    ∷ given 6 3 (0 ∷ 1 ∷ 2 ∷ []) (7 ∷ []) 0 []
    ∷ given 1 1 (0 ∷ []) (7 ∷ []) 0 []
    ∷ [])
    ≡ 2 ∷ 3 ∷ 3 ∷ 4 ∷ 5 ∷ 6 ∷ 7 ∷ 0 ∷ []
unfolding started pages_fit slots_fit below different each
start_refusals = refl
