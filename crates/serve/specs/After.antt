-- What the step leaves in the tables by slots: the layers and keys of the pages in the slots after the request. Assumes nothing.
use Rattle.std.specs.Prelude.{List, ◌≡◌, ℕ, ◌≤◌, ◌<◌, length, set, slice_index_or}
use Rattle.std.proofs.Common.{⊎_elim, sym, ap, ◌∙◌, arith, length-set, get_or-set_same, get_or-set_other, ext_get_or}
use Rattle.paging.specs.Tests.{same_or_not, le_or_lt}
use Rattle.paging.specs.Tables.{table_past}
use Rattle.paging.specs.Moves.{bar}
use Rattle.paging.proofs.Moves.{next_moved}
use Rattle.layers.specs.Asked.{layer_at, asked, lowered, sunk}
use Rattle.layers.specs.Laws.{asked_at, next_lowered, sunk_length, sunk_at, sunk_past}
use Rattle.slots.specs.Slots.{no_page, near_of, keys_of}
use Rattle.slots.specs.Laws.{near_at, near_length, keys_at, keys_length}
use Rattle.serve.specs.Step.{Ready}

near_past : (layer h : List ℕ) (k s : ℕ) → k ≤ s → slice_index_or (near_of layer h k) s 0 ≡ 0
unfolding near_of
near_past layer h k s l = table_past 64 k 0 (λ s. slice_index_or layer (slice_index_or h s no_page) 0) s l

keys_past : (key : ℕ → ℕ) (h : List ℕ) (k s : ℕ) → k ≤ s → slice_index_or (keys_of key h k) s 0 ≡ 0
unfolding keys_of
keys_past key h k s l = table_past 64 k 0 (λ s. key (slice_index_or h s no_page)) s l

module _ (N k p : ℕ) (layer held : List ℕ) (w : Ready N k p layer held) where
  abbrev L : ℕ → ℕ
  L = layer_at layer

  abbrev from : ℕ
  from = bar k (L p)

  -- held' is held, but for the slot s, which has p now
  pub near_after :
      (held' : List ℕ) (s : ℕ) →
      s < k →
      slice_index_or held' s no_page ≡ p →
      ((t : ℕ) → t < k → (t ≡ s → ⊥) → (slice_index_or held' t no_page ≡ slice_index_or held t no_page) × (slice_index_or held t no_page ≡ p → ⊥)) →
      set (sunk from k (near_of layer held k)) s k ≡ near_of (asked N k p layer) held' k
  near_after held' s l here other = ext_get_or 0 old new size same
    where
      old : List ℕ
      old = set (sunk from k (near_of layer held k)) s k

      new : List ℕ
      new = near_of (asked N k p layer) held' k

      near_size : length (sunk from k (near_of layer held k)) ≡ 64
      near_size = sunk_length from k (near_of layer held k) 64 (near_length layer held k w.slots.1) w.slots.1

      size : length old ≡ length new
      size =
          length-set (sunk from k (near_of layer held k)) s k
          ∙ (near_size ∙ sym (near_length (asked N k p layer) held' k w.slots.1))

      at_s : slice_index_or old s 0 ≡ slice_index_or new s 0
      at_s =
          get_or-set_same (sunk from k (near_of layer held k)) s k 0 (omega (arith, near_size, w.slots.1))
          ∙ sym
          (near_at (asked N k p layer) held' k s l
          ∙ (ap (λ (q : ℕ). slice_index_or (asked N k p layer) q 0) here
          ∙ (asked_at N k p layer p w.page ∙ (next_moved N k p L w.slots.0 w.layered.bounded).top)))

      off : (t : ℕ) → (t ≡ s → ⊥) → slice_index_or old t 0 ≡ slice_index_or (sunk from k (near_of layer held k)) t 0
      off t ne = get_or-set_other (sunk from k (near_of layer held k)) s t k 0 ne

      below : (t : ℕ) → t < k → (t ≡ s → ⊥) → slice_index_or old t 0 ≡ slice_index_or new t 0
      below t lt ne =
          let (e, np) = other t lt ne in
          let q = slice_index_or held t no_page in
          off t ne
          ∙ (sunk_at from k (near_of layer held k) t lt
          ∙ (ap (lowered from) (near_at layer held k t lt)
          ∙ (sym (next_lowered N k p L w.slots.0 w.layered.bounded q (w.holds t lt) np)
          ∙ sym (near_at (asked N k p layer) held' k t lt ∙ (ap (λ (x : ℕ). slice_index_or (asked N k p layer) x 0) e ∙ asked_at N k p layer q (w.holds t lt))))))

      past : (t : ℕ) → k ≤ t → slice_index_or old t 0 ≡ slice_index_or new t 0
      past t h =
          off t (λ e. omega arith)
          ∙ (sunk_past from k (near_of layer held k) t h
          ∙ (near_past layer held k t h ∙ sym (near_past (asked N k p layer) held' k t h)))

      same : (t : ℕ) → t < length old → slice_index_or old t 0 ≡ slice_index_or new t 0
      same t _ =
          ⊎_elim
          (λ e. ap (λ (x : ℕ). slice_index_or old x 0) e ∙ (at_s ∙ sym (ap (λ (x : ℕ). slice_index_or new x 0) e)))
          (λ ne. ⊎_elim (past t) (λ lt. below t lt ne) (le_or_lt k t))
          (same_or_not t s)

  -- a slot that has p now has its new key; held' is held, but for that slot
  pub keys_after :
      (key key' : ℕ → ℕ) (new : ℕ) →
      ((q : ℕ) → (q ≡ p → ⊥) → key' q ≡ key q) →
      key' p ≡ new →
      (held' : List ℕ) (s : ℕ) →
      s < k →
      slice_index_or held' s no_page ≡ p →
      ((t : ℕ) → t < k → (t ≡ s → ⊥) → (slice_index_or held' t no_page ≡ slice_index_or held t no_page) × (slice_index_or held t no_page ≡ p → ⊥)) →
      set (keys_of key held k) s new ≡ keys_of key' held' k
  keys_after key key' new others own held' s l here other = ext_get_or 0 old keys' size same
    where
      old : List ℕ
      old = set (keys_of key held k) s new

      keys' : List ℕ
      keys' = keys_of key' held' k

      size : length old ≡ length keys'
      size =
          length-set (keys_of key held k) s new
          ∙ (keys_length key held k w.slots.1 ∙ sym (keys_length key' held' k w.slots.1))

      at_s : slice_index_or old s 0 ≡ slice_index_or keys' s 0
      at_s =
          get_or-set_same (keys_of key held k) s new 0 (omega (arith, keys_length key held k w.slots.1, w.slots.1))
          ∙ sym (keys_at key' held' k s l ∙ (ap key' here ∙ own))

      off : (t : ℕ) → (t ≡ s → ⊥) → slice_index_or old t 0 ≡ slice_index_or (keys_of key held k) t 0
      off t ne = get_or-set_other (keys_of key held k) s t new 0 ne

      below : (t : ℕ) → t < k → (t ≡ s → ⊥) → slice_index_or old t 0 ≡ slice_index_or keys' t 0
      below t lt ne =
          let (e, np) = other t lt ne in
          off t ne
          ∙ (keys_at key held k t lt
          ∙ sym (keys_at key' held' k t lt ∙ (ap key' e ∙ others (slice_index_or held t no_page) np)))

      same : (t : ℕ) → t < length old → slice_index_or old t 0 ≡ slice_index_or keys' t 0
      same t _ =
          ⊎_elim
          (λ e. ap (λ (x : ℕ). slice_index_or old x 0) e ∙ (at_s ∙ sym (ap (λ (x : ℕ). slice_index_or keys' x 0) e)))
          (λ ne.
          ⊎_elim
          (λ h. off t ne ∙ (keys_past key held k t h ∙ sym (keys_past key' held' k t h)))
          (λ lt. below t lt ne)
          (le_or_lt k t))
          (same_or_not t s)
