-- The turns of a request: a hit stays in its slot; a miss finds its victim, in a slot. Assumes nothing.
use Rattle.std.specs.Prelude.{Some, None}
use Rattle.std.specs.Prelude as rust
use mathlib.Core.Bool.{Bool, true, false}
use mathlib.Core.List.{List}
use mathlib.Core.Option.{Option, some, none-ne-some}
use mathlib.Core.Path.{Path, ◌≡◌, sym, ap, ◌∙◌}
use Prim.Native.Nat.{ℕ, ◌<◌}
use lib.ListN.{set}
use Rattle.paging.specs.Moves.{bar}
use Rattle.layers.specs.Asked.{layer_at, asked, sunk}
use Rattle.refusals.specs.declared.Refusal.{Refusal}
use Rattle.slots.specs.Slots.{seated, seat, found, near_of}
use Rattle.slots.specs.Laws.{seat_found, seat_some, seat_none, found_at, found_none}
use Rattle.serve.specs.declared.Event.TheVariants.{Hit, Miss, Refused}
use Rattle.serve.specs.Step.{Ready, Ranked, Steps, victim_in, least_page, search_to}
use Rattle.serve.specs.Searches.{victim_seated}
use Rattle.serve.specs.Steps.{victim_found_by_slots, victim_is_there, hit_stepped, top_stepped, miss_stepped}

-- a page that `find` does not find is in no slot
pub away : (held : List ℕ) (k p : ℕ) → None ≡ found (seat held k p) → seated held k p ≡ false
away held k p e = seat_none held k p (found_none (seat held k p) e)

pub here : (held : List ℕ) (k p s : ℕ) → Some s ≡ found (seat held k p) → s < k
here held k p s e = (seat_some held k p s (found_at (seat held k p) s e)).0

-- what the search of a miss answers
abbrev pub Searched : (near keys layer : List ℕ) (k p : ℕ) → rust.Option ℕ → Type 0
Searched near keys layer k p x = x ≡ found (least_page near keys k (search_to near k (layer_at layer p)))

module _ {N k p : ℕ} {layer held near keys : List ℕ} {new : ℕ} (w : Ready N k p layer held) (en : near ≡ near_of layer held k) where
  -- ---- a hit

  pub stayed :
      (s : ℕ) (layer' near' : List ℕ) →
      Some s ≡ found (seat held k p) →
      layer' ≡ asked N k p layer →
      near' ≡ set (sunk (bar k (layer_at layer p)) k near) s k →
      Steps N k p layer held keys new (Hit s) layer' held near' (set keys s new)
  stayed s layer' near' h el e o key key' r =
      rw (el, e, en) (hit_stepped N k p o key key' layer held keys new w r s (found_at (seat held k p) s h))

  pub unmoved :
      (s : ℕ) →
      Some s ≡ found (seat held k p) →
      layer_at layer p ≡ k →
      Steps N k p layer held keys new (Hit s) layer held near (set keys s new)
  unmoved s h top o key key' r =
      rw en (top_stepped N k p o key key' layer held keys new w r s (found_at (seat held k p) s h) top)

  -- ---- a miss

  module _ (o : ℕ → ℕ → Bool) (key key' : ℕ → ℕ) (r : Ranked N k p o key key' layer held keys new) where
    searched : (x : rust.Option ℕ) → Searched near keys layer k p x → x ≡ found (victim_in N k p o layer held)
    searched x e =
        e ∙ rw (en, r.keys_are) (ap found (victim_found_by_slots N k p o key key' layer held keys new w r))

    victim_at : (v : ℕ) → Searched near keys layer k p (Some v) → Path (Option ℕ) (victim_in N k p o layer held) (some v)
    victim_at v e = found_at (victim_in N k p o layer held) v (searched (Some v) e)

    seated_at : (v : ℕ) → Searched near keys layer k p (Some v) → (v < N) × (seated held k v ≡ true)
    seated_at v e = victim_seated N k p o key layer held w r.keyed r.cached v (victim_at v e)

  -- the search always finds a victim, so that what is answered where it finds none does not matter
  pub no_victim :
      {layer' held' near' keys' : List ℕ} (n : Refusal) →
      Searched near keys layer k p None →
      Steps N k p layer held keys new (Refused n) layer' held' near' keys'
  no_victim n e o key key' r =
      let (v, is) = victim_is_there N k p o key key' layer held keys new w r in
      absurd (none-ne-some v (sym (found_none (victim_in N k p o layer held) (searched o key key' r None e)) ∙ is))

  -- and it is in a slot
  pub no_place :
      {layer' held' near' keys' : List ℕ} (n : Refusal) (v : ℕ) →
      Searched near keys layer k p (Some v) →
      None ≡ found (seat held k v) →
      Steps N k p layer held keys new (Refused n) layer' held' near' keys'
  no_place n v e h o key key' r =
      let (s, is) = seat_found held k v (seated_at o key key' r v e).1 in
      absurd (none-ne-some s (sym (found_none (seat held k v) h) ∙ is))

  -- all is as the rule says
  pub swapped :
      (v s : ℕ) (layer' near' : List ℕ) →
      seated held k p ≡ false →
      Searched near keys layer k p (Some v) →
      Some s ≡ found (seat held k v) →
      layer' ≡ asked N k p layer →
      near' ≡ set (sunk (bar k (layer_at layer p)) k near) s k →
      Steps N k p layer held keys new (Miss s v) layer' (set held s p) near' (set keys s new)
  swapped v s layer' near' out e h el e' o key key' r =
      rw (el, e', en)
      (miss_stepped N k p o key key' layer held keys new w r v s out (victim_at o key key' r v e) (found_at (seat held k v) s h))
