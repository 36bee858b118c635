-- The refusals of Fill and Look as the code finds them: first what both begin with, then the page's bytes, then its slot.
-- Each law says what an answer of the code is. Assumes nothing.
use Rattle.std.specs.Prelude as rust
use Rattle.std.specs.Prelude.{Some, None, Bool, true, false, List, [], ◌≡◌, ℕ, ◌+◌, ◌*◌, ◌-◌, ◌≤◌, ◌<◌, length, take, drop, nat_eq, nat_lt}
use Rattle.std.proofs.Math.Option
use Rattle.std.proofs.Math.Option.{Option, some}
use Rattle.std.proofs.Math.Path.{Path, refl}
use Rattle.std.proofs.Common.{sym, ap, ◌∙◌, arith}
use borrow.Author.Tests.{lt-ltb, le-ltb, ltb-true, eqb-true, eq-eqb, ne_eqb}
use Rattle.paging.specs.Sets.{◌=?◌, ◌<?◌, unless◌give◌else◌}
use Rattle.slots.specs.Slots.{seat, found}
use Rattle.slots.specs.Laws.{seated_in, seat_some, seat_none, found_at, found_none}
use Rattle.words.specs.Words.{put}
use Rattle.run.specs.declared.Run.{Run}
use Rattle.run.specs.Cached.{cached, slot_of}
use Rattle.run.specs.Sound.{Sound, sound}
use Rattle.run.proofs.SoundLaws.{sound_iff}
use Rattle.run.proofs.RequestLaws.{slot_holds}
use Rattle.frames.specs.Frames.{fill_refusal, filled, look_refusal, looked}

-- ---- what Fill and Look begin with

-- For an area of some size: 1, 8, 10, or else what the rest gives.
unfoldable pub area_refusal : Run → ℕ → ℕ → ℕ → ℕ
area_refusal r p size rest =
    unless sound r give 1 else
    unless p <? r.pages give 8 else
    unless size =? 64 * r.slots give 10 else
    rest

-- Nothing of that applies.
pub record Begun (r : Run) (p size : ℕ) : Type 0 where
  pub run : Sound r
  pub page : p < r.pages
  pub area : size ≡ 64 * r.slots

-- the ways through a chain of three tests: a number whatever the rest is, or the rest
chain_cases :
    (a b c : Bool) (P : (ℕ → ℕ) → Type 0) →
    P (λ _. 1) →
    P (λ _. 8) →
    P (λ _. 10) →
    (a ≡ true → b ≡ true → c ≡ true → P (λ rest. rest)) →
    P (λ rest. unless a give 1 else unless b give 8 else unless c give 10 else rest)
chain_cases true true true P x y z w = w refl refl refl
chain_cases true true false P x y z w = z
chain_cases true false c P x y z w = y
chain_cases false b c P x y z w = x

module _ (r : Run) (p size : ℕ) where
  -- the same of Fill's and Look's three
  area_cases : (P : (ℕ → ℕ) → Type 0) → P (λ _. 1) → P (λ _. 8) → P (λ _. 10) → (Begun r p size → P (λ rest. rest)) → P (area_refusal r p size)
  unfolding area_refusal
  area_cases P x y z w =
      chain_cases (sound r) (nat_lt p r.pages) (nat_eq size (64 * r.slots)) P x y z (λ a b c. w (record { run = (sound_iff r).0 a; page = ltb-true p r.pages b; area = eqb-true size (64 * r.slots) c }))

  -- where one of them refuses, the rest does not matter
  pub area_stops : (n : ℕ) → n ≡ area_refusal r p size 0 → (n ≡ 0 → ⊥) → (rest : ℕ) → n ≡ area_refusal r p size rest
  area_stops n e ne rest =
      e ∙ area_cases (λ f. (f 0 ≡ 0 → ⊥) → f 0 ≡ f rest) (λ _. refl) (λ _. refl) (λ _. refl) (λ w no_zero. absurd (no_zero refl)) (λ z. ne (e ∙ z))

  -- 0 is told only where nothing applies
  pub area_zero : (rest : ℕ) → area_refusal r p size rest ≡ 0 → Begun r p size × (rest ≡ 0)
  area_zero rest =
      area_cases (λ f. f rest ≡ 0 → Begun r p size × (rest ≡ 0)) (λ e. absurd (omega arith)) (λ e. absurd (omega arith)) (λ e. absurd (omega arith)) (λ w e. (w, e))

  pub area_passed : (n : ℕ) → n ≡ area_refusal r p size 0 → n ≡ 0 → Begun r p size
  area_passed n e z = (area_zero 0 (sym e ∙ z)).0

  -- then the rest is the answer
  pub area_rest : Begun r p size → (n rest : ℕ) → n ≡ rest → n ≡ area_refusal r p size rest
  unfolding area_refusal
  area_rest w n rest e =
      rw ((sound_iff r).1 w.run, lt-ltb p r.pages w.page, eq-eqb size (64 * r.slots) w.area) e

  -- the four answers of the code
  pub area_unsound : sound r ≡ false → 1 ≡ area_refusal r p size 0
  unfolding area_refusal
  area_unsound e = rw e

  pub area_page : sound r ≡ true → r.pages ≤ p → 8 ≡ area_refusal r p size 0
  unfolding area_refusal
  area_page e h = rw (e, le-ltb p r.pages h)

  pub area_size : sound r ≡ true → p < r.pages → (size ≡ 64 * r.slots → ⊥) → 10 ≡ area_refusal r p size 0
  unfolding area_refusal
  area_size e l h = rw (e, lt-ltb p r.pages l, ne_eqb size (64 * r.slots) h)

  pub area_right : sound r ≡ true → p < r.pages → size ≡ 64 * r.slots → 0 ≡ area_refusal r p size 0
  area_right e l h = area_rest (record { run = (sound_iff r).0 e; page = l; area = h }) 0 0 refl

-- ---- the slot of a page, as `find` gives it

-- What `find` answers.
abbrev pub place : Run → ℕ → rust.Option ℕ
place r p = found (seat r.held r.slots p)

away : (r : Run) (p : ℕ) → None ≡ place r p → cached r p ≡ false
away r p e = seat_none r.held r.slots p (found_none (seat r.held r.slots p) e)

-- A page of a run that Fill and Look do not refuse, in slot s: its frame lies in the area.
pub record Frame (r : Run) (p size s : ℕ) : Type 0 where
  pub begun : Begun r p size
  pub held : cached r p ≡ true
  pub slot : slot_of r p ≡ s
  pub few : s < 64
  pub fits : 64 * s + 64 ≤ size

pub frame_of : (r : Run) (p size : ℕ) → Begun r p size → cached r p ≡ true → Frame r p size (slot_of r p)
frame_of r p size w e =
    let (l, h) = slot_holds r w.run p e in
    record {
      begun = w;
      held = e;
      slot = refl;
      few = omega (arith, w.run.slots);
      fits = omega (arith, w.area);
    }

pub frame : (r : Run) (p size s : ℕ) → Begun r p size → Some s ≡ place r p → Frame r p size s
frame r p size s w e =
    let is : Path (Option ℕ) (seat r.held r.slots p) (some s) = found_at (seat r.held r.slots p) s e in
    let (l, h) = seat_some r.held r.slots p s is in
    let at : slot_of r p ≡ s = ap (λ (x : Option ℕ). Option.get_or x 0) is in
    rw at at (frame_of r p size w (seated_in r.held r.slots p s l h))

-- ---- what comes after it: 11, which Look cannot meet, and 12

abbrev rest : Bool → Bool → ℕ
rest bytes held = unless bytes give 11 else unless held give 12 else 0

rest_zero : (bytes held : Bool) → rest bytes held ≡ 0 → (bytes ≡ true) × (held ≡ true)
rest_zero true true e = (refl, refl)
rest_zero true false e = absurd (omega arith)
rest_zero false held e = absurd (omega arith)

-- ---- Fill

module _ (r : Run) (p : ℕ) (area page : List ℕ) where
  -- The answer of Fill: its number, and the area after it.
  abbrev pub Filled : ℕ → List ℕ → Type 0
  Filled n last = (n ≡ fill_refusal r p area page) × (last ≡ filled r p area page)

  abbrev own : ℕ
  own = rest (length page =? 64) (cached r p)

  fill_begins : area_refusal r p (length area) own ≡ fill_refusal r p area page
  unfolding area_refusal fill_refusal
  fill_begins = refl

  pub refused : (n : ℕ) → n ≡ fill_refusal r p area page → (n ≡ 0 → ⊥) → Filled n area
  unfolding filled
  refused n e ne = (e, rw (ne_eqb (fill_refusal r p area page) 0 (λ z. ne (e ∙ z))))

  pub fill_stopped : (n : ℕ) → n ≡ area_refusal r p (length area) 0 → (n ≡ 0 → ⊥) → Filled n area
  fill_stopped n e ne = refused n (area_stops r p (length area) n e ne own ∙ fill_begins) ne

  module _ (w : Begun r p (length area)) where
    begun : (n : ℕ) → n ≡ own → n ≡ fill_refusal r p area page
    begun n e = area_rest r p (length area) w n own e ∙ fill_begins

    pub fill_bytes : (length page ≡ 64 → ⊥) → Filled 11 area
    fill_bytes ne = refused 11 (begun 11 (rw (ne_eqb (length page) 64 ne))) (λ z. omega arith)

    pub fill_away : length page ≡ 64 → None ≡ place r p → Filled 12 area
    fill_away l e = refused 12 (begun 12 (rw (l, away r p e))) (λ z. omega arith)

  -- not refused, it has a frame to fill and a page's bytes to fill it with
  pub fill_allowed : fill_refusal r p area page ≡ 0 → Frame r p (length area) (slot_of r p) × (length page ≡ 64)
  fill_allowed e =
      let (w, rest) = area_zero r p (length area) own (fill_begins ∙ e) in
      let (l, held) = rest_zero (nat_eq (length page) 64) (cached r p) rest in
      (frame_of r p (length area) w held, eqb-true (length page) 64 l)

  pub fill_done :
      (s : ℕ) (last : List ℕ) →
      Frame r p (length area) s →
      length page ≡ 64 →
      last ≡ put area (64 * s) page →
      Filled 0 last
  unfolding filled
  fill_done s last w l e =
      let zero : 0 ≡ fill_refusal r p area page = begun w.begun 0 (rw (l, w.held)) in
      (zero, rw (← zero, w.slot) e)

-- ---- Look

module _ (r : Run) (p : ℕ) (area : List ℕ) where
  abbrev own_look : ℕ
  own_look = rest true (cached r p)

  look_begins : area_refusal r p (length area) own_look ≡ look_refusal r p area
  unfolding area_refusal look_refusal
  look_begins = refl

  pub look_stopped : (n : ℕ) → n ≡ area_refusal r p (length area) 0 → (n ≡ 0 → ⊥) → n ≡ look_refusal r p area
  look_stopped n e ne = area_stops r p (length area) n e ne own_look ∙ look_begins

  pub look_away : Begun r p (length area) → None ≡ place r p → 12 ≡ look_refusal r p area
  look_away w e = area_rest r p (length area) w 12 own_look (rw (away r p e)) ∙ look_begins

  pub look_none : (s : ℕ) → Frame r p (length area) s → 0 ≡ look_refusal r p area
  look_none s w = area_rest r p (length area) w.begun 0 own_look (rw w.held) ∙ look_begins

  pub look_allowed : look_refusal r p area ≡ 0 → Frame r p (length area) (slot_of r p)
  look_allowed e =
      let (w, rest) = area_zero r p (length area) own_look (look_begins ∙ e) in
      frame_of r p (length area) w (rest_zero true (cached r p) rest).1

  pub looked_nothing : (n : ℕ) → n ≡ look_refusal r p area → (n ≡ 0 → ⊥) → [] ≡ looked r p area
  unfolding looked
  looked_nothing n e ne = rw (ne_eqb (look_refusal r p area) 0 (λ z. ne (e ∙ z)))

  pub looked_part : (s : ℕ) → Frame r p (length area) s → take 64 (drop (64 * s) area) ≡ looked r p area
  unfolding looked
  looked_part s w = rw (← look_none s w, w.slot)

  -- as the code has its end
  pub looked_frame :
      (s : ℕ) → Frame r p (length area) s → take (64 * s + 64 - 64 * s) (drop (64 * s) area) ≡ looked r p area
  looked_frame s w = let size : 64 * s + 64 - 64 * s ≡ 64 = omega arith in rw size (looked_part s w)

-- of the area, Look's refusal reads only the length
pub look_size : (r : Run) (p : ℕ) (a b : List ℕ) → length a ≡ length b → look_refusal r p a ≡ look_refusal r p b
unfolding look_refusal
look_size r p a b e = rw e
