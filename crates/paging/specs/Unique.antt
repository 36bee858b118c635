-- At most one set is justified. Assumes nothing.
use Rattle.std.specs.Prelude.{Bool, true, false, not, ◌⊎◌, ◌≡◌, refl, ℕ, ◌<◌}
use Rattle.std.proofs.Common.{inl, inr, ⊎_elim, arith}
use Rattle.paging.specs.Sets.{Pages, ◌∈◌}
use Rattle.paging.specs.Ranking.{Ranking}
use Rattle.paging.specs.Tests.{truth, clash, isnt}
use Rattle.paging.specs.Count.{Some, None, count_none, count_less, some_or_none}
use Rattle.paging.specs.Certificate.{upto, upto_in, upto_member, upto_layer, held, Witness, Justified}
use Rattle.paging.specs.Rank.{Leader, asym, leader}

-- two tests differ
abbrev unlike : Bool → Bool → Bool
unlike true b = not b
unlike false b = b

unlike_yes : (a b : Bool) → a ≡ true → b ≡ false → unlike a b ≡ true
unlike_yes a b p q = rw (p, q)

unlike_sym : (a b : Bool) → unlike a b ≡ true → unlike b a ≡ true
unlike_sym true true e = e
unlike_sym true false e = refl
unlike_sym false true e = refl
unlike_sym false false e = e

unlike_cases : (a b : Bool) → unlike a b ≡ true → ((a ≡ true) × (b ≡ false)) ⊎ ((a ≡ false) × (b ≡ true))
unlike_cases true true e = absurd (clash e refl)
unlike_cases true false e = inl (refl, refl)
unlike_cases false true e = inr (refl, refl)
unlike_cases false false e = absurd (clash e refl)

unlike_no : (a b : Bool) → (unlike a b ≡ true → ⊥) → a ≡ b
unlike_no true true h = refl
unlike_no true false h = absurd (h refl)
unlike_no false true h = absurd (h refl)
unlike_no false false h = refl

module _ (N k : ℕ) (L : ℕ → ℕ) (o : ℕ → ℕ → Bool) (ord : Ranking N o) where
  -- The highest-ranking page q in which two justified sets differ cannot be in the second:
  -- the pages of the first that keep q out are in the second too, and with q they are too many.
  module _
      (f g : Pages)
      (jf : Justified N k L o f)
      (jg : Justified N k L o g)
      (q : ℕ)
      (top : Leader o (λ r. unlike (f r) (g r)) N q)
      (fq : f q ≡ false)
      (gq : q ∈ g)
    where
      above_shared : (r : ℕ) → r < N → o r q ≡ true → r ∈ f → r ∈ g
      above_shared r l rq fr = ⊎_elim (λ gr. gr) (λ gr. absurd (apart gr)) (truth (g r))
        where
          apart : g r ≡ false → ⊥
          apart gr =
              let qr = top.outranks r l (unlike_yes (f r) (g r) fr gr) (λ s. clash fr (rw s fq)) in
              asym N o ord r q rq qr

      too_many : (j : ℕ) → Witness N k L o f q j → ⊥
      too_many j w = omega (arith, more, w.tight, jg.fits j w.within)
        where
          out : upto L f j q ≡ false
          out = isnt (upto L f j q) (λ u. clash (upto_member L f j q u) fq)

          inside : (r : ℕ) → r < N → r ∈ upto L f j → r ∈ upto L g j
          inside r l u =
              let fr = upto_member L f j r u in
              let lr = upto_layer L f j r u in
              upto_in L g j r (above_shared r l (w.outranked r l fr lr) fr) lr

          more : held N L f j < held N L g j
          more = count_less (upto L f j) (upto L g j) N q top.page out (upto_in L g j q gq w.covers) inside

      not_second : ⊥
      not_second =
          let (j, w) = jf.why q top.page fq in
          too_many j w

  pub unique : (f g : Pages) → Justified N k L o f → Justified N k L o g → (q : ℕ) → q < N → f q ≡ g q
  unique f g jf jg q l =
      ⊎_elim (λ s. absurd (differ s)) (λ none. unlike_no (f q) (g q) (none q l)) (some_or_none (λ r. unlike (f r) (g r)) N)
    where
      turned : (b : ℕ) → Leader o (λ r. unlike (f r) (g r)) N b → Leader o (λ r. unlike (g r) (f r)) N b
      turned b w =
          record {
            page = w.page;
            member = unlike_sym (f b) (g b) w.member;
            outranks = λ r lr u ne. w.outranks r lr (unlike_sym (g r) (f r) u) ne;
          }

      differ : Some (λ r. unlike (f r) (g r)) N → ⊥
      differ s =
          let (b, w) = leader N o ord (λ r. unlike (f r) (g r)) N s.0 (omega arith) s.1 s.2 in
          ⊎_elim
          (λ c. not_second g f jg jf b (turned b w) c.1 c.0)
          (λ c. not_second f g jf jg b w c.0 c.1)
          (unlike_cases (f b) (g b) w.member)

  -- a page that outranks all others is left out only from layer 0
  module _
      (f : Pages)
      (jf : Justified N k L o f)
      (p : ℕ)
      (pN : p < N)
      (fp : f p ≡ false)
      (all : (r : ℕ) → r < N → (r ≡ p → ⊥) → o p r ≡ true)
    where
      none_above : (j : ℕ) → Witness N k L o f p j → None (upto L f j) N
      none_above j w r l u =
          let fr = upto_member L f j r u in
          let rp = w.outranked r l fr (upto_layer L f j r u) in
          asym N o ord r p rp (all r l (λ s. clash fr (rw s fp)))

      pub first_in : L p ≡ 0
      first_in =
          let (j, w) = jf.why p pN fp in
          let none = count_none (upto L f j) N (none_above j w) in
          omega (arith, w.tight, w.covers)
