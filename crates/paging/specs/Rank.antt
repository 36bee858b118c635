-- The highest and the lowest page of a set that has one. Assumes nothing.
use Rattle.std.specs.Prelude.{Bool, true, false, ◌≡◌, ℕ, zero, suc, ◌≤◌, ◌<◌}
use Rattle.std.proofs.Common.{⊎_elim, sym, arith}
use Rattle.paging.specs.Sets.{Pages, ◌∈◌}
use Rattle.paging.specs.Ranking.{Ranking}
use Rattle.paging.specs.Tests.{truth, clash, same_or_not}
use Rattle.paging.specs.Count.{None, some_or_none}

-- b is the page of f that outranks all others below n
pub record Leader (o : ℕ → ℕ → Bool) (f : Pages) (n b : ℕ) : Type 0 where
  pub page : b < n
  pub member : b ∈ f
  pub outranks : (r : ℕ) → r < n → r ∈ f → (r ≡ b → ⊥) → o b r ≡ true

-- no page outranks one that outranks it
pub asym : (N : ℕ) (o : ℕ → ℕ → Bool) → Ranking N o → (a b : ℕ) → o a b ≡ true → o b a ≡ true → ⊥
asym N o ord a b p q = ord.irreflexive a (ord.transitive a b a p q)

-- the ranking the other way round
pub flip : (N : ℕ) (o : ℕ → ℕ → Bool) → Ranking N o → Ranking N (λ a b. o b a)
flip N o ord =
    record {
      irreflexive = ord.irreflexive;
      transitive = λ a b c p q. ord.transitive c b a q p;
      total = λ a b la lb ne. ord.total b a lb la (λ e. ne (sym e));
    }

module _ (N : ℕ) (o : ℕ → ℕ → Bool) (ord : Ranking N o) (f : Pages) where
  -- only n
  leader_last : (n : ℕ) → n ∈ f → None f n → Leader o f (suc n) n
  leader_last n e none = record { page = omega arith; member = e; outranks = λ r l u ne. absurd (none r (omega arith) u) }

  -- n is no member
  leader_skip : (n b : ℕ) → f n ≡ false → Leader o f n b → Leader o f (suc n) b
  leader_skip n b e w =
      record {
        page = omega (arith, w.page);
        member = w.member;
        outranks = λ r l u ne.
            ⊎_elim (λ s. absurd (clash u (rw s e))) (λ s. w.outranks r (omega arith) u ne) (same_or_not r n);
      }

  -- n is below the leader so far
  leader_keep : (n b : ℕ) → o b n ≡ true → Leader o f n b → Leader o f (suc n) b
  leader_keep n b h w =
      record {
        page = omega (arith, w.page);
        member = w.member;
        outranks = λ r l u ne. ⊎_elim (λ s. rw s h) (λ s. w.outranks r (omega arith) u ne) (same_or_not r n);
      }

  -- n is above it
  leader_new : (n b : ℕ) → n ∈ f → o n b ≡ true → Leader o f n b → Leader o f (suc n) n
  leader_new n b e h w =
      record {
        page = omega arith;
        member = e;
        outranks = λ r l u ne.
            ⊎_elim
            (λ s. rw s h)
            (λ s. ord.transitive n b r h (w.outranks r (omega arith) u s))
            (same_or_not r b);
      }

  -- one page more
  leader_next : (n b : ℕ) → n < N → Leader o f n b → (c : ℕ) × Leader o f (suc n) c
  leader_next n b nN w = ⊎_elim member (λ u. (b, leader_skip n b u w)) (truth (f n))
    where
      ne : b ≡ n → ⊥
      ne e = omega (arith, w.page)

      member : n ∈ f → (c : ℕ) × Leader o f (suc n) c
      member t =
          ⊎_elim
          (λ h. (b, leader_keep n b h w))
          (λ h. (n, leader_new n b t h w))
          (ord.total b n (omega (arith, w.page)) nN ne)

  -- a set with a member v below n has a best
  pub leader : (n v : ℕ) → n ≤ N → v < n → v ∈ f → (b : ℕ) × Leader o f n b
  leader zero v nN l e = absurd (omega arith)
  leader (suc n) v nN l e = ⊎_elim (λ s. more (leader n s.0 (omega arith) s.1 s.2)) first (some_or_none f n)
    where
      more : (b : ℕ) × Leader o f n b → (c : ℕ) × Leader o f (suc n) c
      more s = leader_next n s.0 nN s.1

      first : None f n → (c : ℕ) × Leader o f (suc n) c
      first none =
          let fn = ⊎_elim (λ s. rw s at e) (λ s. absurd (none v (omega arith) e)) (same_or_not v n) in
          (n, leader_last n fn none)
