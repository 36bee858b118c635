-- Laws of what a line asks: the run of a record, a run with a page, and the words of a start. Assumes nothing.
use Rattle.std.specs.Prelude.{Bool, true, false, List, ◌≡◌, refl, ℕ, Option, Some, None}
use Rattle.std.proofs.Common.{sym, ◌∙◌}
use borrow.Author.Tests.{eq-eqb, ne_eqb}
use Rattle.image.specs.Layout.{pages_in, slots_in, image_refusal, marks_agree}
use Rattle.run.specs.declared.Run.{Run}
use Rattle.run.specs.Numbers.{blank_run}
use Rattle.run.specs.Stored.{image_run}
use Rattle.fields.specs.Fields.{word_of, bytes_in}
use Rattle.asked.specs.declared.Paged.{Paged}
use Rattle.asked.specs.declared.StartWords.{StartWords}
use Rattle.asked.specs.Asked.{longest_record, number_in, run_in, run_of_bytes, run_of, paged, paged_of, start_words}

-- ---- the run in an image

module _ (b : List ℕ) where
  pub agreeing : (m : Bool) (r : Run) → m ≡ true → m ≡ marks_agree (pages_in b) (slots_in b) b → r ≡ image_run b → r ≡ run_in b
  unfolding run_in
  agreeing m r t e f = f ∙ rw (sym e ∙ t)

  pub differing : (m : Bool) (r : Run) → m ≡ false → m ≡ marks_agree (pages_in b) (slots_in b) b → r ≡ blank_run → r ≡ run_in b
  unfolding run_in
  differing m r t e f = f ∙ rw (sym e ∙ t)

-- ---- the run of a record

module _ (word : List ℕ) where
  pub no_bytes : bytes_in longest_record word ≡ None → None ≡ run_of word
  unfolding run_of run_of_bytes
  no_bytes e = rw e

  module _ (b : List ℕ) (b_is : bytes_in longest_record word ≡ Some b) where
    pub no_image : (image_refusal b ≡ 0 → ⊥) → None ≡ run_of word
    unfolding run_of run_of_bytes
    no_image n = rw (b_is, ne_eqb (image_refusal b) 0 n)

    pub an_image : (r : Run) → image_refusal b ≡ 0 → r ≡ run_in b → Some r ≡ run_of word
    unfolding run_of run_of_bytes
    an_image r e f = rw (f, b_is, eq-eqb (image_refusal b) 0 e)

-- ---- what was read of a word

pub run_read : {w word : List ℕ} {v u : Option Run} → w ≡ word → v ≡ run_of w → v ≡ u → run_of word ≡ u
run_read e f g = rw (← e) (sym f ∙ g)

pub number_read : {w word : List ℕ} {v u : Option ℕ} → w ≡ word → v ≡ number_in w → v ≡ u → number_in word ≡ u
number_read e f g = rw (← e) (sym f ∙ g)

-- ---- a run and a page

module _ (line : List ℕ) where
  pub no_run_paged : run_of (word_of 1 line) ≡ None → None ≡ paged_of line
  unfolding paged_of paged
  no_run_paged e = rw e

  pub no_number_paged : (r : Run) → run_of (word_of 1 line) ≡ Some r → number_in (word_of 2 line) ≡ None → None ≡ paged_of line
  unfolding paged_of paged
  no_number_paged r e g = rw (e, g)

  pub all_paged :
      (r : Run) (p : ℕ) →
      run_of (word_of 1 line) ≡ Some r →
      number_in (word_of 2 line) ≡ Some p →
      Some (record { run = r; page = p }) ≡ paged_of line
  unfolding paged_of paged
  all_paged r p e g = rw (e, g)

-- what a caller knows of them
pub good_page : (o : Option Run) (v : Option ℕ) (x : Paged) → Some x ≡ paged o v → (o ≡ Some x.run) × (v ≡ Some x.page)
unfolding paged
good_page (Some r) (Some p) x e = (cc, cc)
good_page (Some r) None x e = absurd (cc)
good_page None v x e = absurd (cc)

-- ---- the words of a start

pub no_pages_start : (v u c : Option ℕ) → v ≡ None → None ≡ start_words v u c
unfolding start_words
no_pages_start v u c e = rw e

pub no_slots_start : (v u c : Option ℕ) → u ≡ None → None ≡ start_words v u c
unfolding start_words
no_slots_start (Some N) u c e = rw e
no_slots_start None u c e = refl

pub no_list_start : (v u c : Option ℕ) → c ≡ None → None ≡ start_words v u c
unfolding start_words
no_list_start (Some N) (Some k) c e = rw e
no_list_start (Some N) None c e = refl
no_list_start None u c e = refl

pub all_start :
    (v u c : Option ℕ) {N k n : ℕ} →
    v ≡ Some N →
    u ≡ Some k →
    c ≡ Some n →
    Some (record { pages = N; slots = k; listed = n }) ≡ start_words v u c
unfolding start_words
all_start v u c e f g = rw (e, f, g)

-- what a caller knows of them
pub good_start :
    (v u c : Option ℕ) (x : StartWords) →
    Some x ≡ start_words v u c →
    (v ≡ Some x.pages) × (u ≡ Some x.slots) × (c ≡ Some x.listed)
unfolding start_words
good_start (Some N) (Some k) (Some n) x e = (cc, cc, cc)
good_start (Some N) (Some k) None x e = absurd (cc)
good_start (Some N) None c x e = absurd (cc)
good_start None u c x e = absurd (cc)
