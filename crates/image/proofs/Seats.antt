-- A loop that marks the pages in the slots, one a turn, and passes over a number from 1024 on; the marks of an image against these.
-- Assumes nothing.
use mathlib.Core.Bool.{Bool, true, false, ◌||◌, beq}
use mathlib.Core.List.{List}
use mathlib.Core.Logic.{⊎_elim}
use mathlib.Core.Path.{◌≡◌, refl, sym, ap, ◌∙◌}
use Prim.Native.Nat.{ℕ, suc, ◌+◌, ◌-◌, ◌≤◌, ◌<◌}
use native.Mathlib.Numerals.{add-one}
use native.Mathlib.Omega.{arith}
use lib.Dec.{eqb, leb}
use Rattle.std.specs.List.{list_all, enumerate_from}
use lib.ListN.{length, get_or, set, take, drop, replicate, length-set, length-replicate, get_or-replicate}
use lib.Seq.{get_or-set_same, get_or-set_other, ext_get_or}
use borrow.Author.Tests.{eq-eqb, ne_eqb}
use Rattle.paging.specs.Sets.{any, each, table}
use Rattle.paging.specs.Tests.{or_right, same_or_not}
use Rattle.paging.specs.Tables.{entry_any, table_at, table_length}
use Rattle.slots.specs.Slots.{no_page, seated}
use Rattle.begin.proofs.Lists.{each_placed, each_same}
use Rattle.image.proofs.Sections.{part_length, part_entry}
use Rattle.image.specs.Layout.{image_slots, marks_agree}

-- The pages in the first s slots are marked.
pub record Marked (held : List ℕ) (marks : List Bool) (s : ℕ) : Type 0 where
  pub size : length marks ≡ 1024
  pub marked : (q : ℕ) → q < 1024 → get_or marks q false ≡ seated held s q

pub marked_none : (held : List ℕ) → Marked held (replicate 1024 false) 0
unfolding seated any
marked_none held =
    record {
      size = length-replicate {A = Bool} 1024 false;
      marked = λ q l. get_or-replicate 1024 q false false l;
    }

module _ (held : List ℕ) (s q : ℕ) where
  seated_here : get_or held s no_page ≡ q → seated held (suc s) q ≡ true
  unfolding seated any
  seated_here e = or_right (seated held s q) (eqb (get_or held s no_page) q) (eq-eqb (get_or held s no_page) q e)

  seated_else : (get_or held s no_page ≡ q → ⊥) → seated held (suc s) q ≡ seated held s q
  unfolding seated any
  seated_else ne = rw (ne_eqb (get_or held s no_page) q ne) (go (seated held s q))
    where
      go : (b : Bool) → b || false ≡ b
      go true = refl
      go false = refl

module _ (held : List ℕ) (marks : List Bool) (s : ℕ) (l : s < length held) (w : Marked held marks s) where
  abbrev page : ℕ
  page = get_or held s 0

  page_is : get_or held s no_page ≡ page
  page_is = entry_any held s no_page 0 l

  pub marked_more : page < 1024 → Marked held (set marks page true) (s + 1)
  marked_more lp =
      rw (add-one s)
      (record {
        size = length-set marks page true ∙ w.size;
        marked = λ q lq. ⊎_elim (λ h. here q h) (λ h. other q lq h) (same_or_not page q);
      })
    where
      here : (q : ℕ) → page ≡ q → get_or (set marks page true) q false ≡ seated held (suc s) q
      here q h =
          rw (← h) (get_or-set_same marks page true false (omega (arith, w.size)) ∙ sym (seated_here held s page page_is))

      other : (q : ℕ) → q < 1024 → (page ≡ q → ⊥) → get_or (set marks page true) q false ≡ seated held (suc s) q
      other q lq ne =
          get_or-set_other marks page q true false (λ e. ne (sym e))
          ∙ (w.marked q lq ∙ sym (seated_else held s q (λ e. ne (sym page_is ∙ e))))

  pub marked_past : 1024 ≤ page → Marked held marks (s + 1)
  marked_past h =
      rw (add-one s)
      (record {
        size = w.size;
        marked = λ q lq. w.marked q lq ∙ sym (seated_else held s q (λ e. absurd (omega (arith, page_is))));
      })

pub marked_all :
    (held : List ℕ) (marks : List Bool) (s k : ℕ) →
    s ≤ k →
    k ≤ s →
    Marked held marks s →
    marks ≡ table 1024 1024 false (seated held k)
marked_all held marks s k a b w =
    ext_get_or
    false
    marks
    (table 1024 1024 false (seated held k))
    (w.size ∙ sym (table_length 1024 1024 false (seated held k) (omega arith)))
    (λ q l. at q (omega (arith, w.size)))
  where
    same : s ≡ k
    same = omega arith

    at : (q : ℕ) → q < 1024 → get_or marks q false ≡ get_or (table 1024 1024 false (seated held k)) q false
    at q l = w.marked q l ∙ (ap (λ (n : ℕ). seated held n q) same ∙ sym (table_at 1024 1024 false (seated held k) q l))

pub marked_at :
    (marks : List Bool) (f : ℕ → Bool) → marks ≡ table 1024 1024 false f → (q : ℕ) → q < 1024 → get_or marks q false ≡ f q
marked_at marks f e q l = rw e (table_at 1024 1024 false f q l)

-- ---- the marks of an image against these

-- the mark at a place is that of the page
abbrev pub agreeing : List Bool → ℕ × ℕ → Bool
agreeing marks e = beq (leb 128 e.1) (get_or marks e.0 false)

module _ (N k : ℕ) (b held : List ℕ) (marks : List Bool) (fits : N ≤ 1024) (long : 36 + N ≤ length b) where
  pub agree_each :
      held ≡ image_slots N k b →
      marks ≡ table 1024 1024 false (seated held k) →
      list_all (agreeing marks) (enumerate_from 0 (take (36 + N - 36) (drop 36 b))) ≡ marks_agree N k b
  unfolding marks_agree
  agree_each stored made =
      each_placed (agreeing marks) 0 (take (36 + N - 36) (drop 36 b))
      ∙ (ap (λ (n : ℕ). each n (λ q. agreeing marks (q, get_or (take (36 + N - 36) (drop 36 b)) q 0))) (part_length b 36 N long)
      ∙ each_same N _ _ (λ q l. rw (part_entry b 36 N q 0 l, marked_at marks (seated held k) made q (omega arith), stored) refl))
