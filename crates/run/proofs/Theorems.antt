-- What holds of the calls on a run. Each call's contract is that it answers as `started`, `requested`, `tried` and the others say
-- (Start, Request, Questions), so these are theorems about the calls. Assumes nothing.
use Rattle.std.proofs.Math.Bool.{true}
use Rattle.std.specs.Prelude.{false, List, [], ◌∷◌, ◌++◌, ◌⊎◌, ◌≡◌, refl, ℕ, ◌+◌, ◌≤◌, ◌<◌, set, nat_eq, None}
use Rattle.std.proofs.Math.Logic.{inl, ⊎_elim}
use Rattle.std.proofs.Common.{inr, sym, subst, ◌∙◌, arith}
use Rattle.std.proofs.Math.Option.{some}
use Rattle.std.proofs.Math.Path.{ap}
use Rattle.serve.specs.declared.Event.TheVariants.{Hit, Miss, Refused}
use Rattle.serve.specs.declared.Event.{Event}
use Rattle.serve.specs.Event.{values}
use Rattle.refusals.specs.declared.Refusal.{Refusal}
use Rattle.refusals.specs.declared.Refusal.TheVariants.{NoSuchPage, AllServed, NoVictim}
use Rattle.run.specs.declared.Run.{Run}
use Rattle.run.specs.declared.Served.{Served}
use Rattle.paging.specs.Sets.{bit, remove, insert}
use Rattle.paging.specs.Layers.{start_layer, next}
use Rattle.paging.specs.Schedule.{Below, Least}
use Rattle.paging.specs.Best.{State, after, seen, start}
use Rattle.paging.specs.Tests.{truth, same_or_not, le_or_lt}
use Rattle.paging.proofs.Lower.{after_full}
use Rattle.paging.proofs.FullRuns.{serve_full_is, after_more, below_more, least_same}
use Rattle.paging.proofs.Theorems.{start_least}
use Rattle.ranking.specs.Defaults.{default_priorities}
use Rattle.counts.specs.Counts.{no_counts, most_served, more}
use Rattle.run.specs.Numbers.{layer, in_slot}
use Rattle.run.specs.Cached.{cached, slot_of, selection}
use Rattle.run.specs.Sound.{Sound}
use Rattle.run.specs.Start.{start_run, started, started_default}
use Rattle.run.specs.Request.{served, counted, next_run, with_hit, with_miss, requested, tried}
use Rattle.run.proofs.SoundLaws.{sound_iff}
use Rattle.run.proofs.RequestLaws.{victim_in, slot_holds, counted_layers, hit_sound, victim_there, fresh_at, fresh_off}
use Rattle.run.proofs.RequestLaws.{swapped_set, miss_sound}
use Rattle.run.specs.StartLaws.{start_layers_are, start_cached, start_sound, Accepted, accepted, started_sound}
use Rattle.run.specs.Requesting.{request_refusal}
use Rattle.run.proofs.Requesting.{refuse_page, refuse_served, refuse_none, not_refused, requested_refused, refused_run}
use Rattle.run.proofs.Requesting.{requested_served, refused_run}
use Rattle.run.specs.History.{Begun, first_run, ComesFrom, begins, serves}
use Rattle.run.specs.Theorems.{IsHit, IsMiss}

-- ---- A request of a page below N, to a sound run that may serve one more, is a hit or a miss.

module _ (r : Run) (w : Sound r) (p : ℕ) (pN : p < r.pages) (room : r.counts.served < most_served) where
  answers : requested r p ≡ served r p
  answers = requested_served r p (sym (refuse_none r p ((sound_iff r).1 w) pN room))

  pub hit_or_miss : IsHit r p ⊎ ((v : ℕ) × IsMiss r p v)
  unfolding served with_hit with_miss
  hit_or_miss = ⊎_elim hit miss (truth (cached r p))
    where
      hit : cached r p ≡ true → IsHit r p ⊎ ((v : ℕ) × IsMiss r p v)
      hit e =
          let is : requested r p ≡ with_hit r p = answers ∙ rw e in
          inl
          (record {
            cached_is = e;
            slot_is = (slot_holds r w p e).1;
            event = ap (λ (s : Served). s.event) is;
            run = ap (λ (s : Served). s.run) is;
          })

      miss : cached r p ≡ false → IsHit r p ⊎ ((v : ℕ) × IsMiss r p v)
      miss e =
          let (v, is_v) = victim_there r w p pN in
          let m = (victim_in r w p pN v is_v).1 in
          let is : requested r p ≡ with_miss r p (some v) = answers ∙ rw (e, is_v) in
          inr (
            v,
            record {
              not_cached = e;
              victim_is = is_v;
              victim_cached = m;
              slot_is = (slot_holds r w v m).1;
              event = ap (λ (s : Served). s.event) is;
              run = ap (λ (s : Served). s.run) is;
            },
          )

-- ---- Every accepted start is sound, and from a sound run every request that is not refused gives a sound run.

pub start_is_sound : (N k : ℕ) (ps pr : List ℕ) → (started N k ps pr).refusal ≡ None → Sound (started N k ps pr).run
start_is_sound = started_sound

pub default_is_sound : (N k : ℕ) (ps : List ℕ) → (started_default N k ps).refusal ≡ None → Sound (started_default N k ps).run
unfolding started_default
default_is_sound N k ps h = started_sound N k ps (default_priorities N) h

pub request_is_sound : (r : Run) (p : ℕ) → Sound r → Sound (requested r p).run
request_is_sound r p w = ⊎_elim served_is refused_is (same_or_not (request_refusal r p) 0)
  where
    served_is : request_refusal r p ≡ 0 → Sound (requested r p).run
    served_is z =
        let (_, pN, room) = not_refused r p z in
        ⊎_elim
        (λ h. subst Sound (sym h.run) (hit_sound r w p pN h.cached_is room))
        (λ m.
        let (v, h) = m in
        subst Sound (sym h.run) (miss_sound r w p pN v h.not_cached h.victim_is room))
        (hit_or_miss r w p pN room)

    refused_is : (request_refusal r p ≡ 0 → ⊥) → Sound (requested r p).run
    refused_is ne = subst Sound (sym (refused_run r p ne)) w

-- So the cached set is the selection after every request.
pub cached_is_selection :
    (r : Run) (p : ℕ) → Sound r → (q : ℕ) → q < (requested r p).run.pages → cached (requested r p).run q ≡ selection (requested r p).run q
cached_is_selection r p w = (request_is_sound r p w).chosen

-- ---- A hit changes no cached page; a miss removes exactly one and adds exactly the requested one.

pub hit_changes_none : (r : Run) (p : ℕ) → IsHit r p → (q : ℕ) → cached (requested r p).run q ≡ cached r q
unfolding counted next_run more
hit_changes_none r p h q = ap (λ (u : Run). cached u q) h.run

pub miss_changes_one :
    (r : Run) → Sound r → (p : ℕ) → p < r.pages → (v : ℕ) → IsMiss r p v → (q : ℕ) → cached (requested r p).run q ≡ insert p (remove v (cached r)) q
unfolding counted next_run more
miss_changes_one r w p pN v h q =
    ap (λ (u : Run). cached u q) h.run ∙ sym (swapped_set r w p pN v h.not_cached h.victim_is q)

-- The new page takes the victim's slot, and every other slot keeps its page.
pub miss_slots :
    (r : Run) → Sound r → (p : ℕ) → p < r.pages → (v : ℕ) → IsMiss r p v →
    (in_slot (requested r p).run (slot_of r v) ≡ p)
    × ((s : ℕ) → (s ≡ slot_of r v → ⊥) → in_slot (requested r p).run s ≡ in_slot r s)
unfolding counted next_run more
miss_slots r w p pN v h = (
  ap (λ (u : Run). in_slot u (slot_of r v)) h.run ∙ fresh_at r w p pN v h.not_cached h.victim_is,
  λ s ne. ap (λ (u : Run). in_slot u s) h.run ∙ fresh_off r w p pN v h.not_cached h.victim_is s ne,
)

-- ---- The layers after a served request are those of the two rules, and a request to L_0 adds 1 to best.

module _ (r : Run) (w : Sound r) (p : ℕ) (pN : p < r.pages) (room : r.counts.served < most_served) where
  pub layers_move : layer (requested r p).run ≡ next r.slots p (layer r)
  layers_move =
      ⊎_elim
      (λ h. ap layer h.run ∙ counted_layers r w p pN 1 0 r.held)
      (λ m.
      let (v, h) = m in
      ap layer h.run ∙ counted_layers r w p pN 0 1 (set r.held (slot_of r v) p))
      (hit_or_miss r w p pN room)

  pub best_counts : (requested r p).run.counts.best ≡ r.counts.best + bit (nat_eq (layer r p) 0)
  unfolding counted next_run more
  best_counts =
      ⊎_elim
      (λ h. ap (λ (u : Run). u.counts.best) h.run)
      (λ m. ap (λ (u : Run). u.counts.best) m.1.run)
      (hit_or_miss r w p pN room)

  -- N and k stay.
  pub pages_stay : (requested r p).run.pages ≡ r.pages
  unfolding counted next_run more
  pages_stay =
      ⊎_elim
      (λ h. ap (λ (u : Run). u.pages) h.run)
      (λ m. ap (λ (u : Run). u.pages) m.1.run)
      (hit_or_miss r w p pN room)

  pub slots_stay : (requested r p).run.slots ≡ r.slots
  unfolding counted next_run more
  slots_stay =
      ⊎_elim
      (λ h. ap (λ (u : Run). u.slots) h.run)
      (λ m. ap (λ (u : Run). u.slots) m.1.run)
      (hit_or_miss r w p pN room)

-- ---- A sound run's request is refused exactly for 8 and 9, never 17.

module _ (r : Run) (w : Sound r) (p : ℕ) where
  pub refused_8 : r.pages ≤ p → (requested r p).event ≡ Refused NoSuchPage
  refused_8 h =
      sym (ap (λ (s : Served). s.event) (requested_refused r p NoSuchPage (refuse_page r p ((sound_iff r).1 w) h)))

  pub refused_9 : p < r.pages → most_served ≤ r.counts.served → (requested r p).event ≡ Refused AllServed
  refused_9 l h =
      sym (ap (λ (s : Served). s.event) (requested_refused r p AllServed (refuse_served r p ((sound_iff r).1 w) l h)))

  pub never_refused : p < r.pages → r.counts.served < most_served → (n : Refusal) → (requested r p).event ≡ Refused n → ⊥
  never_refused l room n e =
      ⊎_elim
      (λ h. let z : Hit (slot_of r p) ≡ Refused n = sym h.event ∙ e in let o : ◌≡◌ {A = ℕ} 0 1 = cc in omega arith)
      (λ m.
      let (v, h) = m in
      let z : Miss (slot_of r v) v ≡ Refused n = sym h.event ∙ e in
      let o : ◌≡◌ {A = ℕ} 0 1 = cc in
      omega arith)
      (hit_or_miss r w p l room)

  pub never_17 : (requested r p).event ≡ Refused NoVictim → ⊥
  unfolding values
  never_17 e =
      ⊎_elim
      (λ h. let z : Refused NoSuchPage ≡ Refused NoVictim = sym (refused_8 h) ∙ e in let o : ◌≡◌ {A = ℕ} 8 17 = ap (λ (x : Event). (values x).refusal) z in omega arith)
      (λ l.
      ⊎_elim
      (λ h. let z : Refused AllServed ≡ Refused NoVictim = sym (refused_9 l h) ∙ e in let o : ◌≡◌ {A = ℕ} 9 17 = ap (λ (x : Event). (values x).refusal) z in omega arith)
      (λ room. never_refused l room NoVictim e)
      (le_or_lt most_served r.counts.served))
      (le_or_lt r.pages p)

-- ---- Request and trial agree in everything but the run that they hand back.

pub trial_agrees :
    (r : Run) (p : ℕ) → ((tried r p).run ≡ r) × ((tried r p).event ≡ (requested r p).event) × ((tried r p).best ≡ (requested r p).best)
unfolding tried
trial_agrees r p = (refl, refl, refl)

-- ---- Demand 3: for a run that comes from an accepted start by served requests, best is the least number of loads of all
-- schedules that start with the pages of that start.

-- What a history says of the run: it is sound, its layers and best are those that the requests make of the start's.
pub record Told (b : Begun) (ps : List ℕ) (r : Run) : Type 0 where
  pub sound_is : Sound r
  pub pages_are : r.pages ≡ b.pages
  pub slots_are : r.slots ≡ b.slots
  pub below : Below b.pages ps
  pub layers_are : layer r ≡ (after b.slots (start b.list) ps).layer
  pub best_is : r.counts.best ≡ (after b.slots (start b.list) ps).best

told_start : (b : Begun) → Told b [] (first_run b)
unfolding after start_run no_counts
told_start b =
    let a = accepted b.pages b.slots b.list b.priorities b.accepted in
    rw a.run
    (record {
      sound_is = start_sound b.pages b.slots b.list b.priorities a.pages a.slots a.list;
      pages_are = refl;
      slots_are = refl;
      below = tt;
      layers_are = start_layers_are b.pages b.slots b.list b.priorities a.pages a.slots a.list;
      best_is = refl;
    })

told_more :
    (b : Begun) (ps : List ℕ) (r : Run) (p : ℕ) → Told b ps r → p < r.pages → r.counts.served < most_served → Told b (ps ++ (p ∷ [])) (requested r p).run
told_more b ps r p t l room =
    record {
      sound_is = request_is_sound r p w;
      pages_are = pages_stay r w p l room ∙ t.pages_are;
      slots_are = slots_stay r w p l room ∙ t.slots_are;
      below = below_more b.pages ps p t.below (subst (λ (n : ℕ). p < n) t.pages_are l);
      layers_are =
          layers_move r w p l room
          ∙ (ap (λ (n : ℕ). next n p (layer r)) t.slots_are
          ∙ (ap (next b.slots p) t.layers_are ∙ sym (ap (λ (u : State). u.layer) next_state)));
      best_is =
          best_counts r w p l room
          ∙ (ap (λ (n : ℕ). r.counts.best + bit (nat_eq n 0)) (ap (λ (F : ℕ → ℕ). F p) t.layers_are)
          ∙ (ap (λ (n : ℕ). n + bit (nat_eq (s.layer p) 0)) t.best_is ∙ sym (ap (λ (u : State). u.best) next_state)));
    }
  where
    w : Sound r
    w = t.sound_is

    s : State
    s = after b.slots (start b.list) ps

    next_state :
        after b.slots (start b.list) (ps ++ (p ∷ []))
        ≡ record { free = 0; layer = next b.slots p s.layer; best = s.best + bit (nat_eq (s.layer p) 0) }
    next_state =
        after_more b.slots (start b.list) ps p
        ∙ serve_full_is b.slots s p (after_full b.slots (start b.list) ps refl)

pub told : (b : Begun) {ps : List ℕ} {r : Run} → ComesFrom b ps r → Told b ps r
told b begins = told_start b
told b (serves {ps = ps} {r = r} c p l room) = told_more b ps r p (told b c) l room

pub best_is_least :
    (b : Begun) (ps : List ℕ) (r : Run) → ComesFrom b ps r → Least b.pages b.slots (cached (first_run b)) ps r.counts.best
best_is_least b ps r c =
    let t = told b c in
    let a = accepted b.pages b.slots b.list b.priorities b.accepted in
    rw t.best_is
    (least_same
    b.pages
    b.slots
    (seen (start_layer b.list))
    (cached (first_run b))
    ps
    (after b.slots (start b.list) ps).best
    (λ q l. sym (start_pages a q))
    (start_least b.pages b.slots b.list ps a.slots.0 a.list t.below))
  where
    start_pages : Accepted b.pages b.slots b.list b.priorities → (q : ℕ) → cached (first_run b) q ≡ seen (start_layer b.list) q
    start_pages a q = rw a.run (start_cached b.pages b.slots b.list b.priorities a.pages a.slots a.list q)

-- With no requests best is 0.
pub best_at_start : (b : Begun) → (first_run b).counts.best ≡ 0
unfolding after
best_at_start b = (told b begins).best_is
