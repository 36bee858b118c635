-- Laws of the answers' texts: the record that is stored, an answer that ends with its refusal or goes on, and words that stand
-- for something or not. Assumes nothing.
use Rattle.std.specs.Prelude.{Bool, true, false, List, ◌⊎◌, ◌≡◌, refl, ℕ, ◌+◌, ◌≤◌, take, if◌then◌else◌, Option, Some, None}
use Rattle.std.proofs.Common.{inl, inr, sym, ◌∙◌, arith, eq-eqb, ne_eqb}
use Rattle.std.proofs.Math.ListN.{length}
use Rattle.paging.specs.Tests.{truth}
use Rattle.words.specs.Laws.{take_put}
use Rattle.image.specs.Layout.{image_length}
use Rattle.image.proofs.Theorems.{stored_length}
use Rattle.run.specs.declared.Run.{Run}
use Rattle.run.specs.declared.Stored.{Stored}
use Rattle.run.specs.Sound.{sound}
use Rattle.run.proofs.SoundLaws.{sound_iff}
use Rattle.run.specs.Stored.{image_of, stored, stored_bytes}
use Rattle.run.proofs.Storing.{store_unsound, store_none, length_is}
use Rattle.hexadecimal.specs.Room.{Wrote}
use Rattle.hexadecimal.specs.Laws.{wrote_then, wrote_as}
use Rattle.fields.specs.Fields.{word_of, bytes_count, bytes_after, list_in, count_of, list_after, same_text}
use Rattle.fields.proofs.Reading.{some_bytes, no_bytes_in, some_numbers, no_numbers_in, same_told}
use Rattle.asked.specs.declared.Paged.{Paged}
use Rattle.asked.specs.declared.StartWords.{StartWords}
use Rattle.asked.specs.Asked.{most_in_word, number_in, run_of, paged, paged_of, start_words, start_of}
use Rattle.asked.specs.Laws.{good_page, good_start}
use Rattle.answers.specs.Answers.{Texts, bad_line, refusal_texts, record_of, unless_refused, with_number, with_list, with_bytes, with_numbers, with_run, with_page, with_start}

-- ---- the record of a run

module _ (r : Run) (room : List ℕ) (size : length room ≡ 3236) where
  unsound_first : sound r ≡ false → take (stored r room).length (stored_bytes r room) ≡ record_of r
  unfolding stored stored_bytes record_of
  unsound_first e = rw (e, ← store_unsound r room e)

  image_size : length (image_of r) ≡ image_length r.pages r.slots
  unfolding image_of
  image_size = stored_length r.pages r.slots r.counts.served r.counts.hits r.counts.misses r.counts.best r.layer r.ranks.priority r.held

  sound_first : sound r ≡ true → take (stored r room).length (stored_bytes r room) ≡ record_of r
  unfolding stored stored_bytes record_of
  sound_first e =
      let w = (sound_iff r).0 e in
      let fits : image_length r.pages r.slots ≤ length room =
      omega (arith, size, w.pages.1, w.slots.1, length_is r.pages r.slots) in
      let whole : 0 + length (image_of r) ≡ image_length r.pages r.slots = omega (arith, image_size) in
      rw (e, ← store_none r room e fits) (rw whole at (take_put room 0 (image_of r) (omega (arith, whole, fits))))

  record_first : take (stored r room).length (stored_bytes r room) ≡ record_of r
  record_first = go (truth (sound r))
    where
      go : (sound r ≡ true) ⊎ (sound r ≡ false) → take (stored r room).length (stored_bytes r room) ≡ record_of r
      go (inl e) = sound_first e
      go (inr e) = unsound_first e

  -- the first bytes of a buffer after a run was stored in it
  pub record_told :
      (x : Stored) (image first : List ℕ) →
      (x ≡ stored r room) × (image ≡ stored_bytes r room) →
      first ≡ take x.length image →
      first ≡ record_of r
  record_told x image first p e = e ∙ rw (p.0, p.1) record_first

-- ---- a refusal, and an answer behind it

module _ {n : ℕ} {s : List ℕ} {at mid : ℕ} {t : List ℕ} (first : Wrote s at (refusal_texts n) mid t) where
  pub refused_wrote : (rest : Texts) → (n ≡ 0 → ⊥) → Wrote s at (unless_refused n rest) mid t
  unfolding unless_refused
  refused_wrote rest ne = rw (ne_eqb n 0 ne) first

  pub accepted_wrote : {rest : Texts} {r : ℕ} {last : List ℕ} → n ≡ 0 → Wrote t mid rest r last → Wrote s at (unless_refused n rest) r last
  unfolding unless_refused
  accepted_wrote e more = rw (eq-eqb n 0 e) (wrote_then first more)

-- ---- a word that stands for something, or not

module _ {s : List ℕ} {at r : ℕ} {last w word : List ℕ} (w_is : w ≡ word) where
  module _ {v : Option ℕ} (answer : ℕ → Texts) (read : v ≡ number_in w) where
    pub number_known : {n : ℕ} → v ≡ Some n → Wrote s at (answer n) r last → Wrote s at (with_number (number_in word) answer) r last
    unfolding with_number
    number_known e told = rw (← w_is, ← read, e) told

    pub number_bad : v ≡ None → Wrote s at bad_line r last → Wrote s at (with_number (number_in word) answer) r last
    unfolding with_number
    number_bad e told = rw (← w_is, ← read, e) told

  module _ (room : List ℕ) {c : Option ℕ} {after : List ℕ} (answer : List ℕ → Texts) (size : most_in_word ≡ length room) where
    module _ (read : (c ≡ bytes_count w room) × (after ≡ bytes_after w room)) where
      pub bytes_known : {n : ℕ} {x : List ℕ} → c ≡ Some n → x ≡ take n after → Wrote s at (answer x) r last → Wrote s at (with_bytes word answer) r last
      unfolding with_bytes with_list
      bytes_known e f told = rw (← w_is, some_bytes w room (sym size) read e f) told

      pub bytes_bad : c ≡ None → Wrote s at bad_line r last → Wrote s at (with_bytes word answer) r last
      unfolding with_bytes with_list
      bytes_bad e told = rw (← w_is, no_bytes_in w room (sym size) read e) told

    module _ (read : (c ≡ count_of (list_in (length room) w)) × (after ≡ list_after w room)) where
      pub numbers_known : {n : ℕ} {x : List ℕ} → c ≡ Some n → x ≡ take n after → Wrote s at (answer x) r last → Wrote s at (with_numbers word answer) r last
      unfolding with_numbers with_list
      numbers_known e f told = rw (← w_is, some_numbers w room (sym size) read e f) told

      pub numbers_bad : c ≡ None → Wrote s at bad_line r last → Wrote s at (with_numbers word answer) r last
      unfolding with_numbers with_list
      numbers_bad e told = rw (← w_is, no_numbers_in w room (sym size) read e) told

  -- a record, as it was read
  module _ {d : Option Run} (answer : Run → Texts) (read : d ≡ run_of w) where
    pub run_known : {x : Run} → d ≡ Some x → Wrote s at (answer x) r last → Wrote s at (with_run (run_of word) answer) r last
    unfolding with_run
    run_known e told = rw (← w_is, ← read, e) told

    pub run_bad : d ≡ None → Wrote s at bad_line r last → Wrote s at (with_run (run_of word) answer) r last
    unfolding with_run
    run_bad e told = rw (← w_is, ← read, e) told

-- ---- words that stand for something together, or not

-- a record and a page, of which one is bad
page_none :
    (o : Option Run) (v : Option ℕ) (answer : Run → ℕ → Texts) →
    None ≡ paged o v →
    with_run o (λ r. with_number v (λ p. answer r p)) ≡ bad_line
unfolding with_run with_number paged
page_none None v answer e = refl
page_none (Some r) None answer e = refl
page_none (Some r) (Some p) answer e = absurd (cc)

-- the words of a start, of which one is bad
start_none :
    (v u : Option ℕ) (o : Option (List ℕ)) (answer : ℕ → ℕ → List ℕ → Texts) →
    None ≡ start_words v u (count_of o) →
    with_number v (λ N. with_number u (λ k. with_list o (λ list. answer N k list))) ≡ bad_line
unfolding with_number with_list start_words count_of
start_none None u o answer e = refl
start_none (Some N) None o answer e = refl
start_none (Some N) (Some k) None answer e = refl
start_none (Some N) (Some k) (Some list) answer e = absurd (cc)

module _ (line : List ℕ) {s : List ℕ} {at r : ℕ} {last : List ℕ} where
  -- a record and a page, as they were read
  module _ {o : Option Paged} (answer : Run → ℕ → Texts) (read : o ≡ paged_of line) where
    pub page_known : {x : Paged} → o ≡ Some x → Wrote s at (answer x.run x.page) r last → Wrote s at (with_page line answer) r last
    unfolding with_page with_run with_number paged_of
    page_known {x} e told =
        let is = good_page _ _ x (sym e ∙ read) in
        rw (is.0, is.1) told

    pub page_bad : o ≡ None → Wrote s at bad_line r last → Wrote s at (with_page line answer) r last
    unfolding with_page paged_of
    page_bad e told = wrote_as (page_none _ _ answer (sym e ∙ read)) told

  -- the words of a start, as they were read
  module _ (room : List ℕ) {o : Option StartWords} {after : List ℕ} (answer : ℕ → ℕ → List ℕ → Texts) (size : most_in_word ≡ length room) where
    module _ (read : (o ≡ start_of (length room) line) × (after ≡ list_after (word_of 3 line) room)) where
      pub start_known :
          {x : StartWords} {list : List ℕ} →
          o ≡ Some x →
          list ≡ take x.listed after →
          Wrote s at (answer x.pages x.slots list) r last →
          Wrote s at (with_start line answer) r last
      unfolding with_start with_numbers with_number with_list start_of
      start_known {x} e f told =
          let is = good_start _ _ _ x (sym e ∙ read.0) in
          rw (is.0, is.1, some_numbers (word_of 3 line) room (sym size) (refl, read.1) is.2 f) told

      pub start_bad : o ≡ None → Wrote s at bad_line r last → Wrote s at (with_start line answer) r last
      unfolding with_start with_numbers start_of
      start_bad e told = wrote_as (start_none _ _ _ answer (rw (← size) at (sym e ∙ read.0))) told

-- ---- one of two answers, by a comparison with a word

module _ {word other : List ℕ} {same : Bool} (told : (same ≡ true → word ≡ other) × (word ≡ other → same ≡ true)) where
  module _ {s : List ℕ} {at r : ℕ} {last : List ℕ} where
    pub same_wrote : {xs : Texts} (ys : Texts) → same ≡ true → Wrote s at xs r last → Wrote s at (if same_text word other then xs else ys) r last
    same_wrote ys e wrote = rw (sym (same_told word other same told) ∙ e) wrote

    pub other_wrote : (xs : Texts) {ys : Texts} → same ≡ false → Wrote s at ys r last → Wrote s at (if same_text word other then xs else ys) r last
    other_wrote xs e wrote = rw (sym (same_told word other same told) ∙ e) wrote
