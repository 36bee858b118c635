-- What the clauses on the tables say, as facts: from the test to them and back; and how the code's test, which looks for the
-- certificate, comes to the same. Assumes nothing.
use Rattle.std.proofs.Math.Bool.{Bool, true}
use Rattle.std.specs.Prelude.{◌&&◌, List, ◌↔◌, ◌≡◌, drop, nat_eq, nat_le, nat_lt, slice_index_or}
use Rattle.std.specs.Bool.{beq}
use Rattle.std.proofs.Math.Path.{sym}
use Rattle.std.proofs.Common.{◌∙◌, arith}
use Prim.Native.Nat.{ℕ, suc, ◌≤◌, ◌<◌, zero-le}
use borrow.Author.Tests.{eqb-true, eq-eqb, leb-true, le-leb, ltb-true, lt-ltb}
use Rattle.paging.specs.Sets.{Pages, Same, ◌⇒◌, count, each, any, only}
use Rattle.paging.specs.Layers.{in_layer, Layered}
use Rattle.paging.specs.Selection.{chosen}
use Rattle.paging.specs.Tests.{same_test, and_in, and_left, and_right, implies_true, implies_in, beq_true, beq_in, before}
use Rattle.paging.specs.Words.{each_true, each_in, any_true, any_in, only_true, only_in}
use Rattle.ranking.specs.Key.{Keyed}
use Rattle.slots.specs.Slots.{no_page, seated, near_of, keys_of}
use Rattle.slots.specs.Laws.{Below, Different}
use Rattle.slots.specs.Held.{Seats}
use Rattle.certify.specs.Test.{room, none_late, certificate, layers_fit, ends_clear}
use Rattle.certify.specs.Tables.{seats_fit, tables_sound}
use Rattle.certify.specs.Certified.{certified}

-- ---- the seats

module _ (N k : ℕ) (held : List ℕ) where
  abbrev holds_page : ℕ → Bool
  holds_page s = nat_lt (slice_index_or held s no_page) N

  abbrev once : ℕ → ℕ → Bool
  once s t = nat_eq (slice_index_or held s no_page) (slice_index_or held t no_page) ⇒ nat_eq s t

  pub seats_below : seats_fit N k held ≡ true → Below held k N
  unfolding seats_fit
  seats_below e s l =
      ltb-true
      (slice_index_or held s no_page)
      N
      (each_true k holds_page (and_left (each k holds_page) (each k (λ s. each k (once s))) e) s l)

  pub seats_differ : seats_fit N k held ≡ true → Different held k
  unfolding seats_fit
  seats_differ e s t ls lt same =
      let rows = and_right (each k holds_page) (each k (λ s. each k (once s))) e in
      let here = each_true k (once s) (each_true k (λ s. each k (once s)) rows s ls) t lt in
      eqb-true
      s
      t
      (implies_true
      (nat_eq (slice_index_or held s no_page) (slice_index_or held t no_page))
      (nat_eq s t)
      here
      (eq-eqb (slice_index_or held s no_page) (slice_index_or held t no_page) same))

  pub seats_in : Below held k N → Different held k → seats_fit N k held ≡ true
  unfolding seats_fit
  seats_in below differ =
      and_in
      (each k holds_page)
      (each k (λ s. each k (once s)))
      (each_in k holds_page (λ s l. lt-ltb (slice_index_or held s no_page) N (below s l)))
      (each_in k (λ s. each k (once s)) (λ s ls. each_in k (once s) (λ t lt. here s t ls lt)))
    where
      here : (s t : ℕ) → s < k → t < k → once s t ≡ true
      here s t ls lt =
          implies_in
          (nat_eq (slice_index_or held s no_page) (slice_index_or held t no_page))
          (nat_eq s t)
          (λ e. eq-eqb s t (differ s t ls lt (eqb-true (slice_index_or held s no_page) (slice_index_or held t no_page) e)))

-- ---- the layers

module _ (N k : ℕ) (layer : List ℕ) where
  abbrev L : ℕ → ℕ
  L q = slice_index_or layer q 0

  abbrev low : Pages
  low q = nat_le (L q) k

  abbrev taken : ℕ → Bool
  taken j = any N (in_layer L (suc j))

  abbrev lone : Bool
  lone = nat_eq (count (in_layer L k) N) 1

  pub layers_layered : layers_fit N k layer ≡ true → Layered N k 0 (λ q. slice_index_or layer q 0)
  unfolding layers_fit
  layers_layered e =
      record {
        few = zero-le;
        bounded = λ q l. leb-true (L q) k (each_true N low (and_left (each N low) (each k taken) two) q l);
        filled = filled;
        last = λ z. eqb-true (count (in_layer L k) N) 1 (and_right (each N low && each k taken) lone e);
        gap = λ q l h. h;
        alone = λ z. absurd (omega arith);
      }
    where
      two : each N low && each k taken ≡ true
      two = and_left (each N low && each k taken) lone e

      filled : (j : ℕ) → 0 < j → j ≤ k → (q : ℕ) × (q < N) × (L q ≡ j)
      filled j pos le =
          let (i, is) = before j pos in
          let some = each_true k taken (and_right (each N low) (each k taken) two) i (omega arith) in
          let (q, l, u) = any_true N (in_layer L (suc i)) some in
          (q, l, eqb-true (L q) (suc i) u ∙ is)

  pub layers_in : 0 < k → Layered N k 0 (λ q. slice_index_or layer q 0) → layers_fit N k layer ≡ true
  unfolding layers_fit
  layers_in pos lay =
      and_in
      (each N low && each k taken)
      lone
      (and_in
      (each N low)
      (each k taken)
      (each_in N low (λ q l. le-leb (L q) k (lay.bounded q l)))
      (each_in k taken (λ j l. here j (lay.filled (suc j) (omega arith) (omega arith)))))
      (eq-eqb (count (in_layer L k) N) 1 (lay.last pos))
    where
      here : (j : ℕ) → (q : ℕ) × (q < N) × (L q ≡ suc j) → taken j ≡ true
      here j w = any_in N (in_layer L (suc j)) w.0 w.1 (eq-eqb (L w.0) (suc j) w.2)

-- ---- all clauses

module _ (N k : ℕ) (o : ℕ → ℕ → Bool) (layer held : List ℕ) where
  abbrev selection : Pages
  selection = chosen N o (λ q. slice_index_or layer q 0) k

  -- Document 01's clauses on the tables.
  pub record Clauses : Type 0 where
    pub layered : Layered N k 0 (λ q. slice_index_or layer q 0)
    pub below : Below held k N
    pub differ : Different held k
    pub selected : Same N (chosen N o (λ q. slice_index_or layer q 0) k) (seated held k)
    pub no_layer : (q : ℕ) → N ≤ q → slice_index_or layer q 0 ≡ 0
    pub no_seat : (s : ℕ) → k ≤ s → slice_index_or held s no_page ≡ no_page

  -- The parts of the test that the code makes. It makes another one for the selection.
  pub record Parts : Type 0 where
    pub layers : layers_fit N k layer ≡ true
    pub seats : seats_fit N k held ≡ true
    pub selected : Same N selection (seated held k)
    pub ends : ends_clear N k layer held ≡ true

  abbrev same : Pages
  same q = beq (seated held k q) (selection q)

  -- the tests of `tables_sound`, in its order
  abbrev F : Bool
  F = layers_fit N k layer

  abbrev S : Bool
  S = seats_fit N k held

  abbrev C : Bool
  C = each N same

  abbrev X : Bool
  X = only 0 (drop N layer)

  abbrev Z : Bool
  Z = only no_page (drop k held)

  pub sound_parts : tables_sound N k o layer held ≡ true → Parts
  unfolding tables_sound layers_fit ends_clear
  sound_parts e =
      let to_X = and_left (F && S && C && X) Z e in
      let to_C = and_left (F && S && C) X to_X in
      let to_S = and_left (F && S) C to_C in
      record {
        layers = and_left F S to_S;
        seats = and_right F S to_S;
        selected = λ q l. sym (beq_true (seated held k q) (selection q) (each_true N same (and_right (F && S) C to_C) q l));
        ends = and_in X Z (and_right (F && S && C) X to_X) (and_right (F && S && C && X) Z e);
      }

  pub parts_sound : Parts → tables_sound N k o layer held ≡ true
  unfolding tables_sound layers_fit ends_clear
  parts_sound w =
      let c = each_in N same (λ q l. beq_in (seated held k q) (selection q) (sym (w.selected q l))) in
      let to_C = and_in (F && S) C (and_in F S w.layers w.seats) c in
      let to_X = and_in (F && S && C) X to_C (and_left X Z w.ends) in
      and_in (F && S && C && X) Z to_X (and_right X Z w.ends)

  pub sound_clauses : tables_sound N k o layer held ≡ true → Clauses
  unfolding ends_clear
  sound_clauses e =
      let p = sound_parts e in
      record {
        layered = layers_layered N k layer p.layers;
        below = seats_below N k held p.seats;
        differ = seats_differ N k held p.seats;
        selected = p.selected;
        no_layer = only_true 0 N layer (and_left X Z p.ends);
        no_seat = only_true no_page k held (and_right X Z p.ends);
      }

  pub clauses_sound : 0 < k → Clauses → tables_sound N k o layer held ≡ true
  unfolding ends_clear
  clauses_sound pos w =
      parts_sound
      (record {
        layers = layers_in N k layer pos w.layered;
        seats = seats_in N k held w.below w.differ;
        selected = w.selected;
        ends = and_in X Z (only_in 0 N layer w.no_layer) (only_in no_page k held w.no_seat);
      })

  -- where the other parts hold, the certificate is all that is left to test
  pub certificate_sound :
      (key : ℕ → ℕ) →
      k ≤ 64 →
      0 < k →
      Keyed N o key →
      layers_fit N k layer ≡ true →
      seats_fit N k held ≡ true →
      ends_clear N k layer held ≡ true →
      certificate N k layer key held ≡ tables_sound N k o layer held
  unfolding certificate
  certificate_sound key slots pos keyed fit seats ends =
      same_test (T && R) (tables_sound N k o layer held) there back
    where
      R : Bool
      R = room (near_of layer held k) k

      T : Bool
      T = none_late N k layer key (seated held k) (near_of layer held k) (keys_of key held k)

      w : Seats N k o key held
      w = record { slots = slots; holds = seats_below N k held seats; one = seats_differ N k held seats; keyed = keyed }

      both : Same N selection (seated held k) ↔ ((R ≡ true) × (T ≡ true))
      both = certified N k o key layer held w pos (layers_layered N k layer fit)

      there : T && R ≡ true → tables_sound N k o layer held ≡ true
      there e = parts_sound (record { layers = fit; seats = seats; selected = both.1 (and_right T R e, and_left T R e); ends = ends })

      back : tables_sound N k o layer held ≡ true → T && R ≡ true
      back e = let t = both.0 (sound_parts e).selected in and_in T R t.1 t.0
