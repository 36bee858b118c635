-- Keys that stand for a ranking stand for no other, and tell pages apart; the keys of a table of priorities stand for its ranking.
-- Assumes nothing.
use Rattle.std.specs.Prelude.{Bool, true, List, ◌↔◌, ◌≡◌, ℕ, ◌+◌, ◌*◌, ◌-◌, ◌≤◌, ◌<◌, length, nat_lt, slice_index_or}
use Rattle.std.proofs.Common.{inl, inr, ⊎_elim, sym, ap, ◌∙◌, arith, ltb-true, lt-ltb}
use Rattle.paging.specs.Tables.{table_at, table_length}
use Rattle.paging.specs.Tests.{same_test, le_or_lt}
use Rattle.ranking.specs.Outranks.{above, outranks}
use Rattle.ranking.proofs.Order.{Above, above_true, above_in, outranks_ranking}
use Rattle.ranking.specs.Key.{key_of, page_of, no_key, page_keys, key_at, Narrow, Keyed, by_key}

-- where keys stand for a ranking, it is that one
pub keyed_same : (N : ℕ) (o : ℕ → ℕ → Bool) (key : ℕ → ℕ) → Keyed N o key → (a b : ℕ) → a < N → b < N → by_key key a b ≡ o a b
keyed_same N o key w a b la lb =
    same_test (nat_lt (key b) (key a)) (o a b) (λ t. both.0 (ltb-true (key b) (key a) t)) (λ t. lt-ltb (key b) (key a) (both.1 t))
  where
    both : (key b < key a) ↔ (o a b ≡ true)
    both = w.order a b la lb

-- pages with the same key are the same page
pub keyed_apart : (N : ℕ) (o : ℕ → ℕ → Bool) (key : ℕ → ℕ) → Keyed N o key → (a b : ℕ) → a < N → b < N → key a ≡ key b → a ≡ b
keyed_apart N o key w a b la lb e = sym (w.back a la) ∙ (ap page_of e ∙ w.back b lb)

-- ---- the keys of a table of priorities

-- the page with the greater key is the one that outranks
key_order : (x a y b : ℕ) → a < 1024 → b < 1024 → (key_of y b < key_of x a) ↔ (above x a y b ≡ true)
unfolding key_of
key_order x a y b la lb = (
  λ h. above_in x a y b (greater h),
  λ e. ⊎_elim (λ h. omega arith) (λ h. omega arith) (above_true x a y b e),
)
  where
    greater : y * 1024 + (1023 - b) < x * 1024 + (1023 - a) → Above x a y b
    greater h =
        ⊎_elim (λ g. inr (omega arith, omega arith)) (λ g. inl g) (le_or_lt x y)

key_page : (priority page : ℕ) → page < 1024 → page_of (key_of priority page) ≡ page
unfolding key_of page_of
key_page priority page l = omega arith

key_small : (priority page : ℕ) → priority ≤ 65535 → key_of priority page < no_key
unfolding key_of
key_small priority page l = omega arith

module _ (priority : List ℕ) where
  pub keys_length : length (page_keys priority) ≡ 1024
  unfolding page_keys
  keys_length = table_length 1024 1024 0 (λ q. key_of (slice_index_or priority q 0) q) (omega arith)

  pub keys_entry : (q : ℕ) → q < 1024 → key_at (page_keys priority) q ≡ key_of (slice_index_or priority q 0) q
  unfolding page_keys
  keys_entry q l = table_at 1024 1024 0 (λ q. key_of (slice_index_or priority q 0) q) q l

  -- They stand for the ranking by these priorities.
  pub ranks_keyed : (N : ℕ) → N ≤ 1024 → Narrow priority → Keyed N (outranks (λ q. slice_index_or priority q 0)) (key_at (page_keys priority))
  ranks_keyed N le narrow =
      record {
        ranking = outranks_ranking N (λ q. slice_index_or priority q 0);
        order = λ a b la lb.
            rw (keys_entry a (omega arith), keys_entry b (omega arith))
            (key_order (slice_index_or priority a 0) a (slice_index_or priority b 0) b (omega arith) (omega arith));
        back = λ q l. ap page_of (keys_entry q (omega arith)) ∙ key_page (slice_index_or priority q 0) q (omega arith);
        small = λ q l. rw (keys_entry q (omega arith)) (key_small (slice_index_or priority q 0) q (narrow q));
      }
