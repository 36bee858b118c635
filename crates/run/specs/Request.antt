-- Document 01, the answer of a request and of a trial. Assumes nothing.
use Rattle.std.specs.Prelude.{List, ℕ, set, if◌then◌else◌}
use Rattle.std.proofs.Math.Option.{Option, none, some}
use Rattle.run.specs.declared.Run.{Run}
use Rattle.run.specs.declared.Served.{Served}
use Rattle.refusals.specs.declared.Refusal.{Refusal}
use Rattle.refusals.specs.declared.Refusal.TheVariants.{Unsound, NoSuchPage, AllServed, NoVictim}
use Rattle.serve.specs.declared.Event.{Event}
use Rattle.serve.specs.declared.Event.TheVariants.{Hit, Miss, Refused}
use Rattle.serve.specs.Event.{Values}
use Rattle.paging.specs.Sets.{◌=?◌, ◌<?◌, unless◌give◌else◌, bit, table}
use Rattle.paging.specs.Layers.{next}
use Rattle.begin.specs.Limits.{most_pages}
use Rattle.counts.specs.declared.Counts.{Counts}
use Rattle.counts.specs.Counts.{most_served, more}
use Rattle.run.specs.Numbers.{layer}
use Rattle.run.specs.Cached.{cached, slot_of, victim_of}
use Rattle.run.specs.Sound.{sound}

-- The run with other counts, layers and slots.
unfoldable pub next_run : Run → Counts → List ℕ → List ℕ → Run
next_run r counts layer held =
    record {
      pages = r.pages;
      slots = r.slots;
      counts = counts;
      layer = layer;
      ranks = r.ranks;
      held = held;
    }

-- Counts: every served request adds 1 to served and to either hits or misses. A request to L_0 adds 1 to best.
unfoldable pub counted : Run → ℕ → ℕ → ℕ → List ℕ → Run
counted r p hit miss held =
    next_run r (more r.counts hit miss (bit (layer r p =? 0))) (table most_pages r.pages 0 (next r.slots p (layer r))) held

-- Answer: hit with slot, or miss with slot and victim; beside it best, this request counted.
abbrev pub answer : Run → Event → Served
answer r e = record { run = r; event = e; best = r.counts.best }

-- A refused request hands back its run. Every other value beside a refusal is 0.
abbrev pub refused : Run → Refusal → Served
refused r n = record { run = r; event = Refused n; best = 0 }

unfoldable pub with_hit : Run → ℕ → Served
with_hit r p = answer (counted r p 1 0 r.held) (Hit (slot_of r p))

-- The victim is taken from the layers before they change. The new page takes the victim's slot. 17: a miss finds no j.
unfoldable pub with_miss : Run → ℕ → Option ℕ → Served
with_miss r p none = refused r NoVictim
with_miss r p (some v) = answer (counted r p 0 1 (set r.held (slot_of r v) p)) (Miss (slot_of r v) v)

-- A request of a page below N to a sound run that may still serve one.
unfoldable pub served : Run → ℕ → Served
served r p = if cached r p then with_hit r p else with_miss r p (victim_of r p)

-- Request and trial: 1, 8, 9, 17.
unfoldable pub requested : Run → ℕ → Served
requested r p =
    unless sound r give refused r Unsound else
    unless p <? r.pages give refused r NoSuchPage else
    unless r.counts.served <? most_served give refused r AllServed else
    served r p

-- This paper's number and values of the answer to a request or trial, without the enum: 1, 8, 9; then hit or miss, the slot
-- and the victim; 17. `values` reads them off an event.
abbrev pub refusal_values : ℕ → Values
refusal_values n = record { refusal = n; miss = 0; slot = 0; victim = 0 }

unfoldable pub miss_values : Run → Option ℕ → Values
miss_values r none = refusal_values 17
miss_values r (some v) = record { refusal = 0; miss = 1; slot = slot_of r v; victim = v }

unfoldable pub request_values : Run → ℕ → Values
request_values r p =
    unless sound r give refusal_values 1 else
    unless p <? r.pages give refusal_values 8 else
    unless r.counts.served <? most_served give refusal_values 9 else
    if cached r p then record { refusal = 0; miss = 0; slot = slot_of r p; victim = 0 } else miss_values r (victim_of r p)

-- A trial request answers and keeps nothing.
unfoldable pub tried : Run → ℕ → Served
tried r p = record { run = r; event = (requested r p).event; best = (requested r p).best }
