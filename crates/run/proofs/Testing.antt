-- The soundness test as the code makes it: the limits, the counts, the ranks, then the tables. Assumes nothing.
use Rattle.std.specs.Prelude.{Bool, true, false, ◌&&◌, List, ◌≡◌, ℕ, ◌≤◌, nat_eq}
use Rattle.std.proofs.Math.Path.{sym}
use Rattle.std.proofs.Common.{◌∙◌, eqb-true, eq-eqb, ne_eqb}
use Rattle.paging.specs.Tests.{same_test, and_in, and_left, and_right}
use Rattle.ranking.specs.declared.Ranks.{Ranks}
use Rattle.ranking.specs.Key.{Keyed, Narrow, key_at, page_keys}
use Rattle.ranking.proofs.KeyLaws.{ranks_keyed}
use Rattle.ranking.specs.Ranks.{fixed_ranks, ranked_by, ranks_clear}
use Rattle.begin.specs.Limits.{limits_refusal}
use Rattle.begin.specs.LimitLaws.{limits_none, limits_hold}
use Rattle.certify.specs.Tables.{tables_sound}
use Rattle.counts.specs.declared.Counts.{Counts}
use Rattle.counts.specs.Counts.{counts_fit}
use Rattle.run.specs.declared.Run.{Run}
use Rattle.run.specs.Sound.{sound}
use Rattle.run.proofs.SoundLaws.{test_parts, parts_test}
use Rattle.run.specs.Testing.{parts_sound}

-- it is the test of document 01's clauses
pub parts_are : (r : Run) → parts_sound r.pages r.slots r.counts r.layer r.ranks r.held ≡ sound r
unfolding parts_sound
parts_are r = same_test (A && B && C && D) (sound r) there back
  where
    A : Bool
    A = nat_eq (limits_refusal r.pages r.slots) 0

    B : Bool
    B = counts_fit r.counts

    C : Bool
    C = ranks_clear r.pages r.ranks

    D : Bool
    D = tables_sound r.pages r.slots (ranked_by r.ranks) r.layer r.held

    there : A && B && C && D ≡ true → sound r ≡ true
    there e =
        let to_C = and_left (A && B && C) D e in
        let to_B = and_left (A && B) C to_C in
        parts_test r
        (record {
          limits_fit = limits_hold r.pages r.slots (eqb-true (limits_refusal r.pages r.slots) 0 (and_left A B to_B));
          counts_are = and_right A B to_B;
          ranks_end = and_right (A && B) C to_C;
          tables_are = and_right (A && B && C) D e;
        })

    back : sound r ≡ true → A && B && C && D ≡ true
    back e =
        let w = test_parts r e in
        let fit = eq-eqb (limits_refusal r.pages r.slots) 0 (sym (limits_none r.pages r.slots w.limits_fit)) in
        and_in (A && B && C) D (and_in (A && B) C (and_in A B fit w.counts_are) w.ranks_end) w.tables_are

-- ---- the parts, tested one by one

module _ (N k : ℕ) (c : Counts) (layer : List ℕ) (ranks : Ranks) (held : List ℕ) where
  pub fails_limits : (limits_refusal N k ≡ 0 → ⊥) → false ≡ parts_sound N k c layer ranks held
  unfolding parts_sound
  fails_limits ne = rw (ne_eqb (limits_refusal N k) 0 ne)

  module _ (fit : limits_refusal N k ≡ 0) where
    pub fails_counts : false ≡ counts_fit c → false ≡ parts_sound N k c layer ranks held
    unfolding parts_sound
    fails_counts e = rw (fit, sym e)

    module _ (count : true ≡ counts_fit c) where
      pub fails_ranks : false ≡ ranks_clear N ranks → false ≡ parts_sound N k c layer ranks held
      unfolding parts_sound
      fails_ranks e = rw (fit, sym count, sym e)

      pub tables_decide :
          (t : Bool) → true ≡ ranks_clear N ranks → t ≡ tables_sound N k (ranked_by ranks) layer held → t ≡ parts_sound N k c layer ranks held
      unfolding parts_sound
      tables_decide t e h = rw (fit, sym count, sym e) h

-- a run tested by its parts
pub sound_by_parts :
    (r : Run) (x : Bool) →
    x ≡ parts_sound r.pages r.slots r.counts r.layer (fixed_ranks r.ranks.priority) r.held →
    x ≡ sound r
sound_by_parts r x e = e ∙ parts_are r

-- keys that the code made of priorities stand for the ranking by them
pub keyed_by :
    (N : ℕ) (keys priority : List ℕ) →
    N ≤ 1024 →
    keys ≡ page_keys priority →
    Narrow priority →
    Keyed N (ranked_by (fixed_ranks priority)) (key_at keys)
keyed_by N keys priority le e narrow = rw e (ranks_keyed priority N le narrow)
