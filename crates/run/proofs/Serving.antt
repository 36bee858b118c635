-- A request as the code takes it: the step's event and tables, and the counts by the kind of event. Assumes nothing.
use Rattle.std.specs.Prelude.{List, ◌≡◌, ℕ, ◌%◌, ◌≤◌, ◌<◌, length, nat_eq, slice_index_or}
use Rattle.std.proofs.Math.Logic.{⊎_elim}
use Rattle.std.proofs.Math.Option.{Option, none, some, none-ne-some}
use Rattle.std.proofs.Math.Path.{Path, refl}
use Rattle.std.proofs.Common.{sym, ◌∙◌, mod-eq_of_lt, arith, ext_get_or}
use Rattle.serve.specs.declared.Event.{Event}
use Rattle.serve.specs.declared.Event.TheVariants.{Hit}
use Rattle.run.specs.declared.Run.{Run}
use Rattle.run.specs.declared.Served.{Served}
use Rattle.paging.specs.Sets.{bit, table}
use Rattle.paging.specs.Layers.{next}
use Rattle.paging.specs.Tests.{truth, le_or_lt}
use Rattle.paging.specs.Tables.{table_length, table_at, table_past}
use Rattle.layers.specs.Asked.{asked}
use Rattle.layers.specs.Laws.{asked_length, asked_at, asked_past}
use Rattle.begin.specs.Limits.{most_pages}
use Rattle.ranking.specs.Key.{Keyed, key_at}
use Rattle.ranking.proofs.KeyLaws.{ranks_keyed}
use Rattle.slots.specs.Slots.{keys_of}
use Rattle.serve.specs.Step.{Ready, Ranked, Steps, missed, replaced, event_of, held_after}
use Rattle.counts.specs.declared.Turn.{Turn}
use Rattle.counts.specs.Counts.{more, turned}
use Rattle.run.specs.Numbers.{layer, in_slot, ranks}
use Rattle.run.specs.Cached.{cached, slot_of, victim_of}
use Rattle.run.specs.Sound.{Sound}
use Rattle.run.specs.Request.{served, counted, next_run, with_hit, with_miss}
use Rattle.run.proofs.SoundLaws.{run_layered}
use Rattle.run.proofs.RequestLaws.{run_cached, victim_there}
use Rattle.run.specs.Serving.{RunKeys}

-- The answer of a request, from what it comes to and the tables after it.
abbrev pub answered : Run → Turn → List ℕ → List ℕ → Served
answered r t layer held = record { run = next_run r t.counts layer held; event = t.event; best = t.best }

module _ (r : Run) (p : ℕ) where
  abbrev layers_next : List ℕ
  layers_next = table most_pages r.pages 0 (next r.slots p (layer r))

  abbrev new : ℕ
  new = bit (nat_eq (layer r p) 0)

  abbrev event : Event
  event = event_of r.pages r.slots p (ranks r) r.layer r.held

  abbrev held_next : List ℕ
  held_next = held_after r.pages r.slots p (ranks r) r.layer r.held

  -- what the step comes to is document 01's answer: a miss of a sound run has its victim
  missed_answered :
      (x : Option ℕ) (v : ℕ) →
      Path (Option ℕ) x (some v) →
      answered r (turned r.counts new (missed r.held r.slots x)) layers_next (replaced r.held r.slots p x) ≡ with_miss r p x
  unfolding with_miss counted turned more next_run missed replaced
  missed_answered none v is = absurd (none-ne-some v is)
  missed_answered (some u) v is = refl

  hit_answered : answered r (turned r.counts new (Hit (slot_of r p))) layers_next r.held ≡ with_hit r p
  unfolding with_hit counted turned more next_run
  hit_answered = refl

  served_answered : Sound r → p < r.pages → answered r (turned r.counts new event) layers_next held_next ≡ served r p
  unfolding served event_of held_after
  served_answered w pN = ⊎_elim (λ e. rw e hit_answered) (λ e. rw e miss) (truth (cached r p))
    where
      miss :
          answered r (turned r.counts new (missed r.held r.slots (victim_of r p))) layers_next (replaced r.held r.slots p (victim_of r p))
          ≡ with_miss r p (victim_of r p)
      miss = let (v, is) = victim_there r w p pN in missed_answered (victim_of r p) v is

  -- the table that the step leaves is that of the rule
  pub layers_asked :
      Sound r → p < r.pages → length r.layer ≡ 1024 → asked r.pages r.slots p r.layer ≡ layers_next
  layers_asked w pN long =
      ext_get_or 0 (asked r.pages r.slots p r.layer) layers_next size (λ q _. same q)
    where
      size : length (asked r.pages r.slots p r.layer) ≡ length layers_next
      size =
          asked_length r.pages r.slots p r.layer 1024 long w.pages.1
          ∙ sym (table_length most_pages r.pages 0 (next r.slots p (layer r)) w.pages.1)

      same : (q : ℕ) → slice_index_or (asked r.pages r.slots p r.layer) q 0 ≡ slice_index_or layers_next q 0
      same q =
          ⊎_elim
          (λ h.
          asked_past r.pages r.slots p r.layer q h
          ∙ (w.no_layer q h ∙ sym (table_past most_pages r.pages 0 (next r.slots p (layer r)) q h)))
          (λ h.
          asked_at r.pages r.slots p r.layer q h
          ∙ sym (table_at most_pages r.pages 0 (next r.slots p (layer r)) q h))
          (le_or_lt r.pages q)

-- a sound run is ready for the step
pub run_ready :
    (r : Run) (p : ℕ) →
    Sound r →
    p < r.pages →
    length r.layer ≡ 1024 →
    length r.held ≡ 64 →
    Ready r.pages r.slots p r.layer r.held
run_ready r p w pN long seats =
    record {
      pages = w.pages.1;
      slots = (w.slots.0, w.slots.1);
      page = pN;
      layered = run_layered r w;
      holds = w.holds;
      one = w.one;
      long = (long, seats);
    }

-- they stand for its ranking
pub run_keyed : (r : Run) (keys : List ℕ) → r.pages ≤ 1024 → RunKeys r keys → Keyed r.pages (ranks r) (key_at keys)
run_keyed r keys le w = rw w.table (ranks_keyed r.ranks.priority r.pages le w.narrow)

-- so that the step is told of it: the requested page keeps its key
pub run_ranked :
    (r : Run) (p : ℕ) (keys seats : List ℕ) (new : ℕ) →
    Sound r →
    RunKeys r keys →
    seats ≡ keys_of (key_at keys) r.held r.slots →
    new ≡ key_at keys p →
    Ranked r.pages r.slots p (ranks r) (key_at keys) (key_at keys) r.layer r.held seats new
run_ranked r p keys seats new w k es en =
    record {
      keyed = run_keyed r keys w.pages.1 k;
      cached = run_cached r w;
      keys_are = es;
      others = λ q ne. refl;
      own = sym en;
    }

-- what the code answers, from what the step ensures
pub step_taken :
    (r : Run) (p new key : ℕ) (keys seats : List ℕ) (e : Event) (t : Turn) (layer' held' near' keys' : List ℕ) →
    Sound r →
    p < r.pages →
    RunKeys r keys →
    seats ≡ keys_of (key_at keys) r.held r.slots →
    key ≡ key_at keys p →
    new ≡ bit (nat_eq (layer r p) 0) →
    Steps r.pages r.slots p r.layer r.held seats key e layer' held' near' keys' →
    t ≡ turned r.counts new e →
    answered r t layer' held' ≡ served r p
step_taken r p new key keys seats e t layer' held' near' keys' w pN k es ek en steps et =
    let st = steps (ranks r) (key_at keys) (key_at keys) (run_ranked r p keys seats key w k es ek) in
    rw (et, en, st.event_is, st.layer_is ∙ layers_asked r p w pN st.long, st.held_is) (served_answered r p w pN)

-- ---- the numbers as the step takes them

pub slots_byte : (r : Run) → Sound r → r.slots % 256 ≡ r.slots
slots_byte r w = mod-eq_of_lt (omega (arith, w.slots.1))

pub page_short : (r : Run) (p : ℕ) → Sound r → p < r.pages → p % 65536 ≡ p
page_short r p w pN = mod-eq_of_lt (omega (arith, w.pages.1))

pub slots_hold : (r : Run) → Sound r → (r.slots ≤ 64) × ((s : ℕ) → s < r.slots → in_slot r s < 1024)
slots_hold r w = (w.slots.1, λ s l. omega (arith, w.holds s l, w.pages.1))
