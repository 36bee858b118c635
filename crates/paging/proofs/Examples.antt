-- Document 01's trace A and its cases P5 and P7, computed over the definitions alone: what they say, and no proof between.
-- Assumes nothing.
use Rattle.std.specs.Prelude.{Bool, List, [], ◌∷◌, ◌++◌, map, ◌≡◌, refl, ℕ, zero, suc, slice_index_or, if◌then◌else◌}
use Rattle.std.proofs.Math.Option.{Option, some}
use Rattle.paging.specs.Sets.{◌<?◌, Pages, count, each, first, lowest, without, remove, insert}
use Rattle.paging.specs.Layers.{in_layer, start_layer, asked_new, asked_known, next}
use Rattle.paging.specs.Selection.{highest, together, chosen}
use Rattle.paging.specs.Victim.{cached_to, full, reach, lowest_to, victim}
use Rattle.paging.specs.Schedule.{loads}
use Rattle.paging.specs.Best.{serve, after, start}

-- the ranking by a list of different priorities
by : List ℕ → ℕ → ℕ → Bool
by priorities a b = slice_index_or priorities b 0 <? slice_index_or priorities a 0

-- the pages of a set, in order
members : ℕ → Pages → List ℕ
members zero f = []
members (suc n) f = members n f ++ (if f n then n ∷ [] else [])

-- the layers after some requests
layers : ℕ → List ℕ → List ℕ → ℕ → ℕ
layers k list ps = (after k (start list) ps).layer

-- trace A: N=6, k=3, start 1, 3, 0; priorities of pages 0 to 5: 10, 40, 20, 30, 50, 5.
priorities_a : List ℕ
priorities_a = 10 ∷ 40 ∷ 20 ∷ 30 ∷ 50 ∷ 5 ∷ []

layers_a : List ℕ → ℕ → ℕ
layers_a = layers 3 (1 ∷ 3 ∷ 0 ∷ [])

-- after these requests: L_0 to L_3, the cached set, and best
seen_a : List ℕ → List (List ℕ)
seen_a ps =
    map (λ j. members 6 (in_layer (layers_a ps) j)) (0 ∷ 1 ∷ 2 ∷ 3 ∷ [])
    ++ (members 6 (chosen 6 (by priorities_a) (layers_a ps) 3) ∷ ((after 3 (start (1 ∷ 3 ∷ 0 ∷ [])) ps).best ∷ []) ∷ [])

trace_a : map seen_a (
    [] ∷ (4 ∷ []) ∷ (4 ∷ 0 ∷ []) ∷ (4 ∷ 0 ∷ 3 ∷ []) ∷ (4 ∷ 0 ∷ 3 ∷ 4 ∷ 4 ∷ 5 ∷ []) ∷ [])
    ≡
    ((2 ∷ 4 ∷ 5 ∷ []) ∷ (1 ∷ []) ∷ (3 ∷ []) ∷ (0 ∷ []) ∷ (0 ∷ 1 ∷ 3 ∷ []) ∷ (0 ∷ []) ∷ [])
    -- P1 after the first request: L1={1}, L2={0,3}, L3={4}; cached 1, 3, 4.
    ∷ ((2 ∷ 5 ∷ []) ∷ (1 ∷ []) ∷ (0 ∷ 3 ∷ []) ∷ (4 ∷ []) ∷ (1 ∷ 3 ∷ 4 ∷ []) ∷ (1 ∷ []) ∷ [])
    -- P2 after the second: L1={1,3}, L2={4}, L3={0}; cached 0, 1, 4.
    ∷ ((2 ∷ 5 ∷ []) ∷ (1 ∷ 3 ∷ []) ∷ (4 ∷ []) ∷ (0 ∷ []) ∷ (0 ∷ 1 ∷ 4 ∷ []) ∷ (1 ∷ []) ∷ [])
    -- P3 after the third: L0={1,2,5}; cached 0, 3, 4.
    ∷ ((1 ∷ 2 ∷ 5 ∷ []) ∷ (4 ∷ []) ∷ (0 ∷ []) ∷ (3 ∷ []) ∷ (0 ∷ 3 ∷ 4 ∷ []) ∷ (1 ∷ []) ∷ [])
    -- P4 at the end: L0={1,2}, L1={0}, L2={3,4}, L3={5}; cached 3, 4, 5.
    ∷ ((1 ∷ 2 ∷ []) ∷ (0 ∷ []) ∷ (3 ∷ 4 ∷ []) ∷ (5 ∷ []) ∷ (3 ∷ 4 ∷ 5 ∷ []) ∷ (2 ∷ []) ∷ [])
    ∷ []
unfolding by members layers priorities_a layers_a seen_a count each first lowest start_layer asked_new asked_known next highest together chosen serve after
trace_a = refl

-- the victim of a request of p after the requests ps, which the cached set before it lacks
victim_of : ℕ → ℕ → List ℕ → List ℕ → List ℕ → ℕ → Option ℕ
victim_of N k priorities list ps p =
    victim N k (by priorities) (layers k list ps) (chosen N (by priorities) (layers k list ps) k) p

-- P5 N=3, k=2, start 0, 1, priorities 30, 20, 10, requests 2, 1: victims 1, then 0. P7 N=2, k=1, start 0: victims 0, 1.
-- Trace A's misses, the first, second, third and sixth request: victims 0, 3, 1, 0.
victims :
    victim_of 3 2 (30 ∷ 20 ∷ 10 ∷ []) (0 ∷ 1 ∷ []) [] 2
    ∷ victim_of 3 2 (30 ∷ 20 ∷ 10 ∷ []) (0 ∷ 1 ∷ []) (2 ∷ []) 1
    ∷ victim_of 2 1 (7 ∷ 6 ∷ []) (0 ∷ []) [] 1
    ∷ victim_of 2 1 (7 ∷ 6 ∷ []) (0 ∷ []) (1 ∷ 1 ∷ []) 0
    ∷ victim_of 6 3 priorities_a (1 ∷ 3 ∷ 0 ∷ []) [] 4
    ∷ victim_of 6 3 priorities_a (1 ∷ 3 ∷ 0 ∷ []) (4 ∷ []) 0
    ∷ victim_of 6 3 priorities_a (1 ∷ 3 ∷ 0 ∷ []) (4 ∷ 0 ∷ []) 3
    ∷ victim_of 6 3 priorities_a (1 ∷ 3 ∷ 0 ∷ []) (4 ∷ 0 ∷ 3 ∷ 4 ∷ 4 ∷ []) 5
    ∷ []
    ≡ some 1 ∷ some 0 ∷ some 0 ∷ some 1 ∷ some 0 ∷ some 3 ∷ some 1 ∷ some 0 ∷ []
unfolding by members layers priorities_a victim_of count each first lowest start_layer asked_new asked_known next highest together chosen cached_to full reach lowest_to victim serve after
victims = refl

-- A schedule that starts with 0 and 1 and holds 0 and 2, then 1 and 2, loads two pages.
two_loads :
    loads 3 (λ q. q <? 2) ((insert 2 (remove 1 (λ q. q <? 2))) ∷ (insert 2 (remove 0 (λ q. q <? 2))) ∷ []) ≡ 2
unfolding loads count without remove insert
two_loads = refl
