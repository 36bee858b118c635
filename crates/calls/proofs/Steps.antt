-- What a request's answer goes on with, what a turn of the loop over a set's pages leaves, and a selection's answer. Assumes
-- nothing.
use Rattle.refusals.specs.declared.Refusal.{Refusal}
use Rattle.refusals.specs.Numbers.{number_in}
use Rattle.std.specs.Prelude.{if◌then◌else◌}
use mathlib.Core.Bool.{Bool, true, false}
use mathlib.Core.List.{List, [], ◌∷◌}
use mathlib.Core.Path.{◌≡◌, refl, sym, ◌∙◌}
use Prim.Native.Nat.{ℕ, suc, ◌+◌, ◌≤◌, ◌<◌}
use native.Mathlib.Omega.{arith}
use borrow.Author.Tests.{eq-eqb, ne_eqb}
use lib.ListN.{length, get_or, set, take, drop, length-set, drop_of_length-le}
use lib.Seq.{drop-cons}
use Rattle.paging.specs.Sets.{bit}
use Rattle.words.specs.Words.{put}
use Rattle.words.specs.Laws.{put_none}
use Rattle.serve.specs.declared.Event.{Event}
use Rattle.serve.specs.declared.Event.TheVariants.{Hit, Miss, Refused}
use Rattle.run.specs.declared.Run.{Run}
use Rattle.run.specs.declared.Served.{Served}
use Rattle.run.specs.declared.SelectionAnswer.{SelectionAnswer}
use Rattle.hexadecimal.specs.Room.{Wrote}
use Rattle.hexadecimal.specs.Laws.{none_wrote, wrote_then}
use Rattle.fields.specs.Fields.{list_texts}
use Rattle.fields.specs.Laws.{put_more}
use Rattle.fields.proofs.Reading.{first_put}
use Rattle.answers.specs.Answers.{refusal_texts, record_texts, event_texts}
use Rattle.calls.specs.Calls.{next_texts, served_texts, pages_from, pages_of, selection_texts}

-- ---- a request's answer

refused_next : (e : Event) (n : Refusal) (r : Run) → e ≡ Refused n → next_texts e r ≡ []
unfolding next_texts
refused_next e n r h = rw h

-- the third case is the refusal, so what is left is a hit or a miss
served_next : (e : Event) (r : Run) → ((n : Refusal) → e ≡ Refused n → ⊥) → next_texts e r ≡ record_texts r
unfolding next_texts
served_next (Hit slot) r k = refl
served_next (Miss slot victim) r k = refl
served_next (Refused n) r k = absurd (k n refl)

module _ (x : Served) {s : List ℕ} {at mid : ℕ} {t : List ℕ} (first : Wrote s at (event_texts x.event x.best) mid t) where
  pub refused_served : {n : Refusal} → x.event ≡ Refused n → Wrote s at (served_texts x) mid t
  unfolding served_texts
  refused_served {n} e = wrote_then first (rw (refused_next x.event n x.run e) none_wrote)

  pub accepted_served :
      {r : ℕ} {last : List ℕ} →
      ((n : Refusal) → x.event ≡ Refused n → ⊥) →
      Wrote t mid (record_texts x.run) r last →
      Wrote s at (served_texts x) r last
  unfolding served_texts
  accepted_served k more = wrote_then first (rw (served_next x.event x.run k) more)

-- ---- the loop over the marks of a set

module _ (marks : List Bool) where
  abbrev left : ℕ → List ℕ
  left q = pages_from q (drop q marks)

  left_next : (q : ℕ) (t : Bool) → q < length marks → get_or marks q false ≡ t → left q ≡ (if t then q ∷ left (suc q) else left (suc q))
  unfolding pages_from
  left_next q true l e = rw (drop-cons marks q false l, e)
  left_next q false l e = rw (drop-cons marks q false l, e)

  left_none : (q : ℕ) → length marks ≤ q → left q ≡ []
  unfolding pages_from
  left_none q l = rw (drop_of_length-le marks {i = q} l)

  -- Before page q: the pages that are left, put behind those that are there, make the whole.
  pub record Gathering (entry list : List ℕ) (n q : ℕ) : Type 0 where
    pub few : n ≤ q
    pub size : length list ≡ length entry
    pub count : n + length (left q) ≡ length (pages_of marks)
    pub pages : put list n (left q) ≡ put entry 0 (pages_of marks)

  module _ (entry : List ℕ) where
    pub gathering_first : Gathering entry entry 0 0
    unfolding pages_of
    gathering_first = record { few = omega arith; size = refl; count = omega arith; pages = refl }

    module _ (list : List ℕ) (n q : ℕ) (now_is : Gathering entry list n q) where
      pub gathering_next :
          (t : Bool) (after : List ℕ) (m : ℕ) →
          q < length marks →
          n < length list →
          t ≡ get_or marks q false →
          (m ≡ n + bit t) × (after ≡ (if t then set list n q else list)) →
          Gathering entry after m (q + 1)
      gathering_next true after m l h e p =
          let one : q + 1 ≡ suc q = omega arith in
          let more : left q ≡ q ∷ left (suc q) = left_next q true l (sym e) in
          let added : n + 1 ≡ suc n = omega arith in
          let pages = rw more at now_is.pages in
          rw (one, p.0, p.1) (record {
            few = omega (arith, now_is.few);
            size = rw length-set now_is.size;
            count = omega (arith, (rw more at now_is.count));
            pages = sym (put_more list n q (left (suc q)) h) ∙ pages;
          })
      gathering_next false after m l h e p =
          let one : q + 1 ≡ suc q = omega arith in
          let same : left q ≡ left (suc q) = left_next q false l (sym e) in
          let added : n + 0 ≡ n = omega arith in
          rw (one, p.0, p.1, added) (record {
            few = omega (arith, now_is.few);
            size = now_is.size;
            count = rw same at now_is.count;
            pages = rw same at now_is.pages;
          })

      pub gathering_last : length marks ≤ q → (n ≡ length (pages_of marks)) × (list ≡ put entry 0 (pages_of marks))
      gathering_last l =
          let none = left_none q l in
          (omega (arith, (rw none at now_is.count)), sym (put_none list n) ∙ (rw none at now_is.pages))

-- ---- the answer of a selection

pages_few : (q : ℕ) (marks : List Bool) → length (pages_from q marks) ≤ length marks
unfolding pages_from
pages_few q [] = omega arith
pages_few q (true ∷ marks) = omega (arith, pages_few (suc q) marks)
pages_few q (false ∷ marks) = omega (arith, pages_few (suc q) marks)

module _ (a : SelectionAnswer) {s : List ℕ} {at r : ℕ} {last : List ℕ} where
  pub selection_refused : (number_in a.refusal ≡ 0 → ⊥) → Wrote s at (refusal_texts (number_in a.refusal)) r last → Wrote s at (selection_texts a) r last
  unfolding selection_texts
  selection_refused ne told = rw (ne_eqb (number_in a.refusal) 0 ne) told

  -- the first of a buffer are the pages that were gathered in it
  pub selection_wrote :
      (entry : List ℕ) {mid n : ℕ} {t list first : List ℕ} →
      number_in a.refusal ≡ 0 →
      length a.pages ≤ length entry →
      (n ≡ length (pages_of a.pages)) × (list ≡ put entry 0 (pages_of a.pages)) →
      first ≡ take n list →
      Wrote s at ((48 ∷ 32 ∷ []) ∷ []) mid t →
      Wrote t mid (list_texts first) r last →
      Wrote s at (selection_texts a) r last
  unfolding selection_texts pages_of
  selection_wrote entry {n = n} z l p e word told =
      let few = pages_few 0 a.pages in
      let is = first_put entry (pages_from 0 a.pages) {n = n} (omega (arith, few)) (omega (arith, p.0), p.1) e in
      rw (eq-eqb (number_in a.refusal) 0 z) (wrote_then word (rw is at told))
