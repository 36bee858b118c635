-- The slots that hold a page of a layer up to j are as many as the cached pages up to that layer; and which of the keys of the
-- pages in the slots is the least. Assumes nothing.
use Rattle.std.specs.Prelude.{Bool, ◌&&◌, List, ◌≡◌, refl, ℕ, ◌≤◌, ◌<◌, nat_le, slice_index_or}
use Rattle.std.proofs.Math.Bool.{true}
use Rattle.std.proofs.Math.Path.{sym, subst}
use Rattle.std.proofs.Common.{ap, ◌∙◌, arith, leb-true}
use Rattle.paging.specs.Sets.{Pages, count}
use Rattle.paging.specs.Tests.{and_in, and_left}
use Rattle.paging.specs.Count.{count_same, count_some, count_all}
use Rattle.paging.specs.Certificate.{upto}
use Rattle.ranking.specs.Key.{Keyed, page_of, no_key}
use Rattle.slots.specs.Slots.{no_page, seated, near_of, keys_of, near_to, least_key}
use Rattle.slots.specs.Laws.{near_at, keys_at, count_seated, least_is}

-- The tables of a run whose first k slots hold different pages below N, and keys that stand for its ranking.
pub record Seats (N k : ℕ) (o : ℕ → ℕ → Bool) (key : ℕ → ℕ) (held : List ℕ) : Type 0 where
  pub slots : k ≤ 64
  pub holds : (s : ℕ) → s < k → slice_index_or held s no_page < N
  pub one : (s t : ℕ) → s < k → t < k → slice_index_or held s no_page ≡ slice_index_or held t no_page → s ≡ t
  pub keyed : Keyed N o key

module _ (N k : ℕ) (o : ℕ → ℕ → Bool) (key : ℕ → ℕ) (layer held : List ℕ) (w : Seats N k o key held) where
  abbrev L : ℕ → ℕ
  L q = slice_index_or layer q 0

  abbrev M : Pages
  M = seated held k

  abbrev in_slot : ℕ → ℕ
  in_slot s = slice_index_or held s no_page

  abbrev near : List ℕ
  near = near_of layer held k

  abbrev keys : List ℕ
  keys = keys_of key held k

  pub near_held : (j : ℕ) → near_to near k j ≡ count (upto L M j) N
  unfolding near_to upto
  near_held j =
      count_same (λ s. nat_le (slice_index_or near s 0) j) (λ s. nat_le (L (in_slot s)) j) k there back
      ∙ sym (count_seated held (λ q. nat_le (L q) j) k N w.holds w.one)
    where
      there : (s : ℕ) → s < k → nat_le (slice_index_or near s 0) j ≡ true → nat_le (L (in_slot s)) j ≡ true
      there s l e = subst (λ (x : ℕ). nat_le x j ≡ true) (near_at layer held k s l) e

      back : (s : ℕ) → s < k → nat_le (L (in_slot s)) j ≡ true → nat_le (slice_index_or near s 0) j ≡ true
      back s l e = subst (λ (x : ℕ). nat_le x j ≡ true) (sym (near_at layer held k s l)) e

  -- the cached pages are k
  pub seated_count : count M N ≡ k
  seated_count =
      count_same M (λ q. M q && nat_le 0 0) N (λ q l e. and_in (M q) true e refl) (λ q l e. and_left (M q) true e)
      ∙ (count_seated held (λ q. true) k N w.holds w.one ∙ all k)
    where
      all : (n : ℕ) → count (λ s. true) n ≡ n
      all n = count_all n

  -- a slot with the least key up to layer j, and its page
  pub least_slot :
      (j s : ℕ) → s < k → slice_index_or near s 0 ≤ j →
      (t : ℕ) × (t < k) × (slice_index_or near t 0 ≤ j) × (in_slot t ≡ page_of (least_key near keys j k)) × (least_key near keys j k ≡ key (in_slot t))
  least_slot j s l le =
      let fits : slice_index_or keys s 0 ≤ no_key = omega (arith, keys_at key held k s l, w.keyed.small (in_slot s) (w.holds s l)) in
      let (t, lt, ht, e) = least_is near keys j k s l le fits in
      let is = e ∙ keys_at key held k t lt in
      (t, lt, ht, sym (ap page_of is ∙ w.keyed.back (in_slot t) (w.holds t lt)), is)

-- where some slot holds a page of a layer up to j, there is one
pub near_some : (near : List ℕ) (k j : ℕ) → 0 < near_to near k j → (s : ℕ) × (s < k) × (slice_index_or near s 0 ≤ j)
unfolding near_to
near_some near k j pos =
    let (s, l, e) = count_some (λ s. nat_le (slice_index_or near s 0) j) k pos in
    (s, l, leb-true (slice_index_or near s 0) j e)
