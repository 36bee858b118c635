-- A turn is a request, and a loop of turns is the requests one after the other, told as they come. Assumes nothing.
use Rattle.std.specs.Prelude.{Bool, List, [], ◌++◌, ◌≡◌, refl, length, set, take, drop, nat_eq, slice_index_or}
use Rattle.std.proofs.Common.{⊎_elim, subst, ◌∙◌, length-set, length-drop, drop-drop}
use Rattle.std.proofs.Math.Path.{sym, ap}
use Prim.Native.Nat.{ℕ, suc, ◌+◌, ◌*◌, ◌-◌, ◌≤◌, ◌<◌, min}
use native.Mathlib.Omega.{arith}
use Rattle.std.proofs.Math.Seq.{take-length}
use Rattle.paging.specs.Sets.{bit}
use Rattle.paging.specs.Tests.{le_or_lt}
use Rattle.paging.specs.Tables.{entry_any, fill_more, table_length, listed_same}
use Rattle.words.specs.Words.{word_at}
use Rattle.ranking.specs.Key.{key_of, key_at, page_keys}
use Rattle.ranking.proofs.KeyLaws.{keys_entry}
use Rattle.slots.specs.Slots.{no_page, keys_of}
use Rattle.serve.specs.declared.Event.{Event}
use Rattle.refusals.specs.declared.Refusal.{Refusal}
use Rattle.refusals.specs.Numbers.{number}
use Rattle.serve.specs.declared.Event.TheVariants.{Refused}
use Rattle.serve.specs.Step.{Ready, Steps}
use Rattle.run.specs.declared.Run.{Run}
use Rattle.run.specs.declared.Served.{Served}
use Rattle.run.specs.Numbers.{ranks}
use Rattle.run.specs.Sound.{Sound}
use Rattle.run.proofs.SoundLaws.{sound_iff, run_counts}
use Rattle.run.specs.Cached.{slot_of}
use Rattle.run.specs.Request.{requested, next_run, counted}
use Rattle.run.specs.History.{run_after}
use Rattle.run.specs.Requesting.{request_refusal}
use Rattle.run.proofs.Requesting.{refusal_of_sound, refuse_page, refuse_served, refuse_none, requested_refused, requested_served, refused_run}
use Rattle.run.specs.Serving.{RunKeys}
use Rattle.run.proofs.Serving.{run_ready, run_ranked, step_taken}
use Rattle.run.proofs.Theorems.{hit_or_miss, request_is_sound}
use Rattle.trace.specs.Layout.{request_word}
use Rattle.trace.specs.Reading.{asked}
use Rattle.trace.proofs.Reading.{asked_next, asked_last, request_past, request_there}
use Rattle.text.specs.Text.{event_line}
use Rattle.text.specs.Told.{told_length, told_room, told_bytes}
use Rattle.text.specs.Telling.{Telling, next_room, more, done}
use Rattle.counts.specs.declared.Counts.{Counts}
use Rattle.counts.specs.declared.Turn.{Turn}
use Rattle.counts.specs.Counts.{most_served, page_refusal, turned}
use Rattle.counts.specs.Laws.{counts_room, number_allowed}
use Rattle.replay.specs.Replay.{state, outcome, Seated}
use Rattle.replay.specs.Told.{event_lines}

module _ (N k : ℕ) (c : Counts) (layer priority held : List ℕ) (w : Sound (state N k c layer priority held)) (p : ℕ) where
  abbrev r : Run
  r = state N k c layer priority held

  -- a page that is not below N, or a run that has served all it may
  pub refused_turn :
      (n : Refusal) → number n ≡ page_refusal N c.served p → outcome N k (record { event = Refused n; best = 0; counts = c }) layer priority held ≡ requested r p
  refused_turn n e = requested_refused r p n (refusal_of_sound r p ((sound_iff r).1 w) (number n) e)

  module _ (n : ℕ) (told_is : n ≡ page_refusal N c.served p) (z : n ≡ 0) where
    allowed : (p < N) × (c.served < most_served)
    allowed = number_allowed N c.served p (sym told_is ∙ z)

    -- no count is at its end
    pub turn_counts :
        (new x : ℕ) → new ≡ bit (nat_eq x 0) →
        (c.served + 1 ≤ 4294967295) × (c.hits + 1 ≤ 4294967295) × (c.misses + 1 ≤ 4294967295) × (c.best + 1 ≤ 4294967295) × (new ≤ 1)
    turn_counts new x e = counts_room c (run_counts r w) allowed.1 new x e

    -- the page is an index
    pub turn_page : p < 1024
    turn_page = omega (arith, allowed.0, w.pages)

    pub turn_ready : length layer ≡ 1024 → length held ≡ 64 → Ready N k p layer held
    turn_ready long seats = run_ready r p w allowed.0 long seats

    pub turn_slots : k ≤ 64
    turn_slots = w.slots.1

    module _
        (new key : ℕ)
        (e : Event)
        (near keys layer' held' near' keys' : List ℕ)
        (seated_is : Seated k layer priority held near keys)
        (key_is : key ≡ key_of (slice_index_or priority p 0) p)
        (steps : Steps N k p layer held keys key e layer' held' near' keys')
      where
        own : key ≡ key_at (page_keys priority) p
        own = key_is ∙ sym (keys_entry priority p turn_page)

        run_keys : RunKeys r (page_keys priority)
        run_keys = record { table = refl; narrow = seated_is.narrow }

        pub turn_is :
            new ≡ bit (nat_eq (slice_index_or layer p 0) 0) →
            (t : Turn) →
            t ≡ turned c new e →
            outcome N k t layer' priority held' ≡ requested r p
        unfolding next_run
        turn_is new_is t et =
            step_taken r p new key (page_keys priority) keys e t layer' held' near' keys' w allowed.0 run_keys seated_is.by_key own new_is steps et
            ∙ sym (requested_served r p (sym (refuse_none r p ((sound_iff r).1 w) allowed.0 allowed.1)))

        pub turn_seated : Seated k layer' priority held' near' keys'
        turn_seated =
            let st = steps (ranks r) (key_at (page_keys priority)) (key_at (page_keys priority)) (run_ranked r p (page_keys priority) keys key w run_keys seated_is.by_key own) in
            record { by_near = st.near_is; by_key = st.keys_is; narrow = seated_is.narrow }

-- ---- the keys by slots, one slot more

module _ (priority h : List ℕ) (s : ℕ) (i : s < length h) (held_is : slice_index_or h s no_page < 1024) where
  pub seat_page : slice_index_or h s 0 < 1024
  seat_page = omega (arith, entry_any h s 0 no_page i)

  pub seat_next :
      (keys : List ℕ) (key : ℕ) →
      s < 64 →
      key ≡ key_of (slice_index_or priority (slice_index_or h s 0) 0) (slice_index_or h s 0) →
      keys ≡ keys_of (key_at (page_keys priority)) h s →
      set keys s key ≡ keys_of (key_at (page_keys priority)) h (s + 1)
  unfolding keys_of
  seat_next keys key l e k =
      fill_more 0 64 s (λ t. key_at (page_keys priority) (slice_index_or h t no_page)) keys key l k
      (e ∙ (sym (keys_entry priority (slice_index_or h s 0) seat_page) ∙ ap (key_at (page_keys priority)) (entry_any h s 0 no_page i)))

-- ---- the tables keep their lengths

pub record Long (r : Run) : Type 0 where
  pub layers : length r.layer ≡ 1024
  pub slots : length r.held ≡ 64

counted_long : (r : Run) (p hit miss : ℕ) (held : List ℕ) → r.pages ≤ 1024 → length held ≡ 64 → Long (counted r p hit miss held)
unfolding counted next_run
counted_long r p hit miss held l h =
    record { layers = table_length 1024 r.pages 0 _ l; slots = h }

request_long : (r : Run) (p : ℕ) → Sound r → Long r → Long (requested r p).run
request_long r p w long = ⊎_elim past below (le_or_lt r.pages p)
  where
    refused_long : (request_refusal r p ≡ 0 → ⊥) → Long (requested r p).run
    refused_long ne = subst Long (sym (refused_run r p ne)) long

    past : r.pages ≤ p → Long (requested r p).run
    past h = refused_long (λ z. omega (arith, refuse_page r p ((sound_iff r).1 w) h))

    below : p < r.pages → Long (requested r p).run
    below l = ⊎_elim full room (le_or_lt most_served r.counts.served)
      where
        full : most_served ≤ r.counts.served → Long (requested r p).run
        full h = refused_long (λ z. omega (arith, refuse_served r p ((sound_iff r).1 w) l h))

        room : r.counts.served < most_served → Long (requested r p).run
        room h =
            ⊎_elim
            (λ i. subst Long (sym i.run) (counted_long r p 1 0 r.held w.pages.1 long.slots))
            (λ m.
            let (v, i) = m in
            subst Long (sym i.run) (counted_long r p 0 1 (set r.held (slot_of r v) p) w.pages.1 (length-set r.held (slot_of r v) p ∙ long.slots)))
            (hit_or_miss r w p l h)

-- ---- a loop of turns

-- Before request i of qs: the run in hand is sound, and what is left of the requests makes of it what all make of the start.
pub record Replaying (start : Run) (qs : List ℕ) (n : ℕ) (r : Run) (near keys : List ℕ) (i : ℕ) : Type 0 where
  pub sound_is : Sound r
  pub long_is : Long r
  pub nears : Seated r.slots r.layer r.ranks.priority r.held near keys
  pub reached : i ≤ n
  pub left : run_after r (drop i qs) ≡ run_after start qs

module _ (start : Run) (b : List ℕ) (offset n : ℕ) where
  abbrev qs : List ℕ
  qs = asked b offset n

  pub replaying_first :
      (near keys : List ℕ) → Sound start → Long start →
      Seated start.slots start.layer start.ranks.priority start.held near keys →
      Replaying start qs n start near keys 0
  replaying_first near keys w long seats =
      record { sound_is = w; long_is = long; nears = seats; reached = omega arith; left = refl }

  module _ (r : Run) (near keys : List ℕ) (i : ℕ) (now_is : Replaying start qs n r near keys i) where
    pub replaying_next :
        (p : ℕ) (s : Served) (near' keys' : List ℕ) →
        i < n → p ≡ request_word b offset i → s ≡ requested r p →
        Seated s.run.slots s.run.layer s.run.ranks.priority s.run.held near' keys' →
        Replaying start qs n s.run near' keys' (i + 1)
    unfolding run_after
    replaying_next p s near' keys' l e f seats =
        let one : i + 1 ≡ suc i = omega arith in
        rw (one, f, e)
        (record {
          sound_is = request_is_sound r (request_word b offset i) now_is.sound_is;
          long_is = request_long r (request_word b offset i) now_is.sound_is now_is.long_is;
          nears = rw (f, e) at seats;
          reached = l;
          left = rw (asked_next b offset n i l) at now_is.left;
        })

    pub replaying_last : n ≤ i → r ≡ run_after start qs
    unfolding run_after
    replaying_last l =
        let end : i ≡ n = omega (arith, now_is.reached) in
        rw (end, asked_last b offset n) at now_is.left

-- ---- the requests of a file, in the part of it that begins with them

part_request : (b : List ℕ) (offset from i : ℕ) → from ≡ min offset (length b) → request_word (drop from b) 0 i ≡ request_word b offset i
unfolding word_at
part_request b offset from i e = ⊎_elim there past (le_or_lt (offset + 2 * i + 2) (length b))
  where
    size : length (drop from b) ≡ length b - from
    size = length-drop from b

    there : offset + 2 * i + 2 ≤ length b → request_word (drop from b) 0 i ≡ request_word b offset i
    there h =
        let same : from + (0 + 2 * i) ≡ offset + 2 * i = omega arith in
        let here = request_there (drop from b) 0 i _ (omega (arith, size)) refl in
        request_there b offset i _ h (sym here ∙ (rw (drop-drop, same)))

    past : length b < offset + 2 * i + 2 → request_word (drop from b) 0 i ≡ request_word b offset i
    past h = sym (request_past (drop from b) 0 i (omega (arith, size))) ∙ request_past b offset i h

pub part_asked :
    (b : List ℕ) (offset from n : ℕ) → from ≡ min offset (length b) → asked (take (length b - from) (drop from b)) 0 n ≡ asked b offset n
unfolding asked
part_asked b offset from n e =
    let whole : take (length b - from) (drop from b) ≡ drop from b = rw (← length-drop from b) (take-length (drop from b)) in
    rw whole (listed_same n (request_word (drop from b) 0) (request_word b offset) (λ i l. part_request b offset from i e))

-- ---- a loop of turns that tells of them

module _ (start : Run) (b : List ℕ) (offset n : ℕ) (t w : Bool) (before : List ℕ) (at : ℕ) where
  abbrev all : List ℕ
  all = asked b offset n

  -- Before request i, what is left to tell is the lines of the requests from it on.
  module _ (out : List ℕ) (r : Run) (next i : ℕ) (now_is : Telling t w before at (event_lines start all) out next (event_lines r (drop i all))) where
    module _ (p : ℕ) (s : Served) (l : i < n) (e : p ≡ request_word b offset i) (f : s ≡ requested r p) where
      abbrev line : List ℕ
      line = event_line p s.event s.best

      abbrev later : List ℕ
      later = event_lines s.run (drop (suc i) all)

      split : event_lines r (drop i all) ≡ line ++ later
      unfolding event_lines
      split = rw (f, e, asked_next b offset n i l)

      turn : Telling t w before at (event_lines start all) out next (line ++ later)
      turn = subst (Telling t w before at (event_lines start all) out next) split now_is

      pub line_fits : next + told_length t (event_line p s.event s.best) ≤ told_room t w (length out)
      line_fits = next_room line later turn

      pub telling_next :
          (after : List ℕ) (then : ℕ) →
          then ≡ next + told_length t (event_line p s.event s.best) →
          after ≡ told_bytes t w out next (event_line p s.event s.best) →
          Telling t w before at (event_lines start all) after then (event_lines s.run (drop (i + 1) all))
      telling_next after then g h =
          let one : i + 1 ≡ suc i = omega arith in
          rw one (more line later turn g h)

    pub telling_last :
        i ≡ n → (next ≡ at + told_length t (event_lines start all)) × (out ≡ told_bytes t w before at (event_lines start all))
    unfolding event_lines
    telling_last e = done (subst (Telling t w before at (event_lines start all) out next) none now_is)
      where
        none : event_lines r (drop i all) ≡ []
        none = rw (e, asked_last b offset n)
