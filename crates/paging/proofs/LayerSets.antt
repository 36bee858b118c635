-- The layers after a request, set by set, as document 01 prints the two rules. `L' q ≡ j` says that q is in the new L_j.
-- Assumes nothing.
use Rattle.std.specs.Prelude.{◌⊎◌, ◌≡◌, ℕ, ◌+◌, ◌-◌, ◌≤◌, ◌<◌}
use Rattle.std.proofs.Common.{inl, inr, ⊎_elim, ap, ◌∙◌, arith}
use Rattle.paging.specs.Layers.{next, Layered}
use Rattle.paging.specs.Tests.{same_or_not, le_or_lt}
use Rattle.paging.specs.Moves.{bar}
use Rattle.paging.proofs.Moves.{Moved, bar_zero, bar_pos, next_moved}
use Rattle.paging.specs.LayerSets.{New, Known}

module _ (N k p : ℕ) (L : ℕ → ℕ) (k_pos : 0 < k) (lay : Layered N k 0 L) (pN : p < N) where
  -- p itself, a page that sinks, a page that stays
  cases :
      {A : Type 0} (q : ℕ) → q < N →
      (q ≡ p → L q ≡ L p → next k p L q ≡ k → A) →
      ((q ≡ p → ⊥) → bar k (L p) ≤ L q → next k p L q + 1 ≡ L q → L q ≤ k → A) →
      ((q ≡ p → ⊥) → L q < bar k (L p) → next k p L q ≡ L q → L q ≤ k → A) → A
  cases q l self down same =
      ⊎_elim
      (λ s. self s (ap L s) (ap (next k p L) s ∙ mv.top))
      (λ s. ⊎_elim (λ h. down s h (mv.down q l s h) (lay.bounded q l)) (λ h. same s h (mv.same q l s h) (lay.bounded q l)) (le_or_lt (bar k (L p)) (L q)))
      (same_or_not q p)
    where
      mv : Moved N k (bar k (L p)) p L (next k p L)
      mv = next_moved N k p L k_pos lay.bounded

  pub request_known : 0 < L p → Known N k (L p) p L (next k p L)
  request_known pos =
      record {
        top = λ q l. cases q l
            (λ s a e. (λ _. s, λ _. e))
            (λ s h e b. (λ x. absurd (omega arith), λ x. absurd (s x)))
            (λ s h e b. (λ x. absurd (omega (arith, i_bar, pk)), λ x. absurd (s x)));
        joins = λ q l. cases q l
            (λ s a e. (λ x. absurd (omega (arith, pk)), ⊎_elim (λ x. absurd (omega arith)) (λ x. absurd (x.1 s))))
            (λ s h e b. (λ x. inr (omega (arith, i_bar), s), ⊎_elim (λ x. absurd (omega (arith, i_bar))) (λ x. omega (arith, x.0))))
            (λ s h e b. (λ x. inl (omega arith), ⊎_elim (λ x. omega arith) (λ x. absurd (omega (arith, x.0, i_bar)))));
        becomes = λ j a c q l. cases q l
            (λ s z e. (λ x. absurd (omega arith), λ x. absurd (omega arith)))
            (λ s h e b. (λ x. omega arith, λ x. omega arith))
            (λ s h e b. (λ x. absurd (omega (arith, i_bar)), λ x. absurd (omega (arith, i_bar))));
        stays = λ j a q l. cases q l
            (λ s z e. (λ x. absurd (omega (arith, pk)), λ x. absurd (omega arith)))
            (λ s h e b. (λ x. absurd (omega (arith, i_bar)), λ x. absurd (omega (arith, i_bar))))
            (λ s h e b. (λ x. omega arith, λ x. omega arith));
      }
    where
      i_bar : bar k (L p) ≡ L p
      i_bar = bar_pos k (L p) pos

      pk : L p ≤ k
      pk = lay.bounded p pN

  pub request_new : L p ≡ 0 → New N k p L (next k p L)
  request_new z =
      record {
        top = λ q l. cases q l
            (λ s a e. (λ _. s, λ _. e))
            (λ s h e b. (λ x. absurd (omega arith), λ x. absurd (s x)))
            (λ s h e b. (λ x. absurd (omega (arith, k_bar)), λ x. absurd (s x)));
        joins = λ q l. cases q l
            (λ s a e. (λ x. absurd (omega arith), λ x. absurd (x.0 s)))
            (λ s h e b. (λ x. (s, inr (omega arith)), λ x. omega (arith, k_bar)))
            (λ s h e b. (λ x. (s, inl (omega arith)), λ x. ⊎_elim (λ y. omega arith) (λ y. absurd (omega (arith, k_bar))) x.1));
        stays = λ j a q l. cases q l
            (λ s c e. (λ x. absurd (omega arith), λ x. absurd (x.0 s)))
            (λ s h e b. (λ x. absurd (omega (arith, k_bar)), λ x. absurd (omega (arith, x.1, k_bar))))
            (λ s h e b. (λ x. (s, omega arith), λ x. omega (arith, x.1)));
      }
    where
      k_bar : bar k (L p) ≡ k
      k_bar = bar_zero k (L p) z
