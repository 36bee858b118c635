-- What holds of trace files, of the definitions alone: written and read back, read and written back, what a refusal leaves, and what a
-- reader is handed. Assumes nothing.
use Rattle.std.specs.Prelude.{Bool, true, false, ◌&&◌, ◌⊎◌, ◌≡◌, ℕ, ◌+◌, ◌*◌, ◌≤◌, ◌<◌, drop, nat_eq, nat_le, slice_index_or, Option, Some, None}
use mathlib.Core.List.{List, [], ◌++◌, append_assoc, append-nil}
use Rattle.std.proofs.Common.{inl, inr, ⊎_elim, ap, ◌∙◌, arith, length-drop, take-append-drop, take_all, drop-drop}
use Rattle.std.proofs.Math.Path.{refl, sym}
use Rattle.std.proofs.Math.ListN.{length, take, length-append}
use borrow.Author.Tests.{eqb-true, eqb-false, eq-eqb, leb-true}
use Rattle.paging.specs.Sets.{listed}
use Rattle.paging.specs.Tests.{truth, same_or_not, and_left, and_right}
use Rattle.paging.specs.Tables.{listed_length, listed_entry, listed_same}
use Rattle.words.specs.Words.{words, word_at}
use Rattle.words.specs.Laws.{Bytes, words_length, word_at_words, listed_words, words_word_at, number_bytes_4, take_put, drop_put}
use Rattle.refusals.specs.declared.Refusal.{Refusal}
use Rattle.refusals.specs.Numbers.{given, number_in}
use Rattle.refusals.specs.Laws.{number_some, none_given, number_given}
use Rattle.ranking.specs.Defaults.{default_priority, default_priorities}
use Rattle.begin.specs.LimitLaws.{limits_none}
use Rattle.run.specs.declared.Started.{Started}
use Rattle.run.specs.Start.{started}
use Rattle.run.specs.StartLaws.{Accepted, accepted, started_sound}
use Rattle.run.specs.Sound.{Sound}
use Rattle.trace.specs.Layout.{most_requests, trace_header, trace_length, trace_bytes, pages_in, slots_in, requests_in, request_offset}
use Rattle.trace.specs.Layout.{list_in, priorities_in, requests_of, offsets_right, trace_refusal, traced, request_word}
use Rattle.trace.specs.Layout.{write_refusal, written, written_bytes}
use Rattle.trace.specs.Reading.{header_refusal}
use Rattle.trace.proofs.Reading.{header_none, header_refuses, header_holds, Header, right_two, start_of, start_refuses, refusal_small}
use Rattle.trace.specs.Reading.{no_trace, asked}
use Rattle.trace.proofs.Reading.{traced_refused, request_there}
use Rattle.trace.proofs.Writing.{header_length, trace_bytes_length, answer_refused, write_kept}
use Rattle.trace.specs.Writing.{no_file}
use Rattle.trace.specs.Theorems.{Small, Says}

-- ---- written and read back

-- the default priorities are
pub default_small : (N : ℕ) → Small (default_priorities N)
unfolding default_priorities default_priority
default_small N =
    record {
      at = λ i l. omega (arith, listed_length N default_priority, listed_entry N default_priority 0 i (omega (arith, listed_length N default_priority)));
    }

-- the numbers of a header
header_word :
    (N k T : ℕ) (ys : List ℕ) (i v : ℕ) →
    i < 6 →
    slice_index_or (trace_header N k T) i 0 ≡ v →
    v ≤ 4294967295 →
    word_at 4 (words 4 (trace_header N k T) ++ ys) (0 + 4 * i) ≡ v
unfolding trace_header
header_word N k T ys i v l e h =
    word_at_words 4 (trace_header N k T) [] ys 0 refl i l ∙ rw e (number_bytes_4 v h)

-- a section of 16-bit numbers
section_list :
    (b xs vs ys : List ℕ) (at n : ℕ) →
    b ≡ xs ++ (words 2 vs ++ ys) →
    length xs ≡ at →
    n ≡ length vs →
    Small vs →
    listed n (λ i. word_at 2 b (at + 2 * i)) ≡ vs
section_list b xs vs ys at n eb ea en s =
    rw (en, eb) (listed_words 2 vs xs ys at ea (λ i l. omega (arith, s.at i l)))

module _
    (N k : ℕ)
    (list priorities requests : List ℕ)
    (ok : (started N k list priorities).refusal ≡ None)
    (all : Small priorities)
    (asked : Small requests)
    (few : length requests ≤ most_requests)
  where
    abbrev b : List ℕ
    b = trace_bytes N k list priorities requests

    a : Accepted N k list priorities
    a = accepted N k list priorities ok

    head : List ℕ
    head = words 4 (trace_header N k (length requests))

    rest : List ℕ
    rest = words 2 list ++ (words 2 priorities ++ words 2 requests)

    word : (i v : ℕ) → i < 6 → slice_index_or (trace_header N k (length requests)) i 0 ≡ v → v ≤ 4294967295 → word_at 4 b (0 + 4 * i) ≡ v
    unfolding trace_bytes rest
    word i v l e h = header_word N k (length requests) rest i v l e h

    pages_are : pages_in b ≡ N
    unfolding trace_header
    pages_are = word 0 N (omega arith) refl (omega (arith, a.pages.1))

    slots_are : slots_in b ≡ k
    unfolding trace_header
    slots_are = word 1 k (omega arith) refl (omega (arith, a.slots.1))

    requests_are : requests_in b ≡ length requests
    unfolding trace_header
    requests_are = word 2 (length requests) (omega arith) refl (omega arith)

    first_offset : word_at 4 b 12 ≡ 24
    unfolding trace_header
    first_offset = word 3 24 (omega arith) refl (omega arith)

    second_offset : word_at 4 b 16 ≡ 24 + 2 * k
    unfolding trace_header
    second_offset = word 4 (24 + 2 * k) (omega arith) refl (omega (arith, a.slots.1))

    third_offset : word_at 4 b 20 ≡ 24 + 2 * k + 2 * N
    unfolding trace_header
    third_offset = word 5 (24 + 2 * k + 2 * N) (omega arith) refl (omega (arith, a.slots.1, a.pages.1))

    offsets : offsets_right b ≡ true
    offsets =
        sym (right_two b k 24 (24 + 2 * k) (sym slots_are) (sym first_offset) (sym second_offset) refl N (24 + 2 * k + 2 * N) (sym pages_are) (sym third_offset) refl)
        ∙ eq-eqb (24 + 2 * k + 2 * N) (24 + 2 * k + 2 * N) refl

    size : length b ≡ 24 + 2 * k + 2 * N + 2 * length requests
    unfolding trace_length
    size = trace_bytes_length N k list priorities requests a.list.entries a.priorities

    header : header_refusal b ≡ 0
    header =
        sym
        (header_none b (omega (arith, size)) N k 0 (sym pages_are) (sym slots_are)
        (limits_none N k (a.pages.0, a.pages.1, a.slots.0, a.slots.1, a.slots.2))
        refl (length requests) (sym requests_are) few offsets size)

    pages_small : Small list
    pages_small = record { at = λ i l. omega (arith, a.list.below i (omega (arith, a.list.entries)), a.pages.1) }

    list_is : list_in b ≡ list
    unfolding list_in trace_bytes head
    list_is =
        section_list b head list (words 2 priorities ++ words 2 requests) 24 (slots_in b) refl
        (header_length N k (length requests))
        (slots_are ∙ sym a.list.entries)
        pages_small

    priorities_is : priorities_in b ≡ priorities
    unfolding priorities_in trace_bytes head
    priorities_is =
        section_list b (head ++ words 2 list) priorities (words 2 requests) (24 + 2 * slots_in b) (pages_in b)
        (sym (append_assoc head (words 2 list) (words 2 priorities ++ words 2 requests)))
        (simp length-append (omega (arith, header_length N k (length requests), words_length 2 list, slots_are, a.list.entries)))
        (pages_are ∙ sym a.priorities)
        all

    requests_is : requests_of b ≡ requests
    unfolding requests_of trace_bytes head
    requests_is =
        section_list b ((head ++ words 2 list) ++ words 2 priorities) requests [] (request_offset b) (requests_in b)
        (simp (append_assoc, append-nil))
        (simp length-append (omega (arith, header_length N k (length requests), words_length 2 list, words_length 2 priorities, slots_are, pages_are, a.list.entries, a.priorities)))
        requests_are
        asked

    same_start : start_of b ≡ started N k list priorities
    same_start = rw (list_is, priorities_is, pages_are, slots_are)

    none : trace_refusal b ≡ 0
    none = none_given (trace_refusal b) (sym (start_refuses b header) ∙ (ap (λ (s : Started). s.refusal) same_start ∙ ok))

    run_is : (traced b).run ≡ (started N k list priorities).run
    unfolding traced
    run_is = rw (none, list_is, priorities_is, pages_are, slots_are) (sym a.run)

    -- what the writer writes, the reader reads
    pub round_trip : Says (trace_bytes N k list priorities requests) N k list priorities requests
    round_trip =
        record {
          refusal = none;
          pages = pages_are;
          slots = slots_are;
          list = list_is;
          priorities = priorities_is;
          requests = requests_is;
          run = run_is;
        }

-- ---- read and written back

-- what the header says of a file that is not refused
read_clear : (b : List ℕ) → trace_refusal b ≡ 0 → header_refusal b ≡ 0
read_clear b ok = ⊎_elim (λ z. z) (λ ne. header_refuses b ne ∙ ok) (same_or_not (header_refusal b) 0)

pub read_header : (b : List ℕ) → trace_refusal b ≡ 0 → Header b
read_header b ok = header_holds b (read_clear b ok)

-- four parts, one after the other, are the whole
four_parts :
    (s : List ℕ) (a b c d : ℕ) →
    length s ≡ a + b + c + d →
    take a s ++ (take b (drop a s) ++ (take c (drop (a + b) s) ++ take d (drop (a + b + c) s))) ≡ s
four_parts s a b c d e =
    let last : take d (drop (a + b + c) s) ≡ drop (a + b + c) s =
    take_all d (drop (a + b + c) s) (simp length-drop (omega arith)) in
    rw (last, ← drop-drop c (a + b) s, take-append-drop c (drop (a + b) s), ← drop-drop b a s, take-append-drop b (drop a s), take-append-drop a s)

module _ (b : List ℕ) (eight : Bytes b) (ok : trace_refusal b ≡ 0) where
  h : Header b
  h = read_header b ok

  header_of : trace_header (pages_in b) (slots_in b) (requests_in b) ≡ listed 6 (λ i. word_at 4 b (0 + 4 * i))
  unfolding trace_header listed offsets_right
  header_of =
      let two = and_left (nat_eq (word_at 4 b 12) 24 && nat_eq (word_at 4 b 16) (24 + 2 * slots_in b)) (nat_eq (word_at 4 b 20) (request_offset b)) h.offsets in
      let one = eqb-true (word_at 4 b 12) 24 (and_left (nat_eq (word_at 4 b 12) 24) (nat_eq (word_at 4 b 16) (24 + 2 * slots_in b)) two) in
      let second = eqb-true (word_at 4 b 16) (24 + 2 * slots_in b) (and_right (nat_eq (word_at 4 b 12) 24) (nat_eq (word_at 4 b 16) (24 + 2 * slots_in b)) two) in
      let third = eqb-true (word_at 4 b 20) (request_offset b) (and_right (nat_eq (word_at 4 b 12) 24 && nat_eq (word_at 4 b 16) (24 + 2 * slots_in b)) (nat_eq (word_at 4 b 20) (request_offset b)) h.offsets) in
      cc

  -- a file that is read is the one that is written from what was read
  pub exact : trace_bytes (pages_in b) (slots_in b) (list_in b) (priorities_in b) (requests_of b) ≡ b
  unfolding trace_bytes list_in priorities_in requests_of
  exact =
      let count : length (listed (requests_in b) (λ i. word_at 2 b (request_offset b + 2 * i))) ≡ requests_in b =
      listed_length (requests_in b) (λ i. word_at 2 b (request_offset b + 2 * i)) in
      let first : words 4 (listed 6 (λ i. word_at 4 b (0 + 4 * i))) ≡ take 24 b =
      words_word_at 4 6 b 0 h.long eight in
      let second = words_word_at 2 (slots_in b) b 24 (omega (arith, h.total)) eight in
      let third = words_word_at 2 (pages_in b) b (24 + 2 * slots_in b) (omega (arith, h.total)) eight in
      let fourth = words_word_at 2 (requests_in b) b (request_offset b) (omega (arith, h.total)) eight in
      rw (count, header_of, first, second, third, fourth)
      (four_parts b 24 (2 * slots_in b) (2 * pages_in b) (2 * requests_in b) h.total)

-- no two different files mean the same
pub unique :
    (b d : List ℕ) →
    Bytes b →
    Bytes d →
    trace_refusal b ≡ 0 →
    trace_refusal d ≡ 0 →
    pages_in b ≡ pages_in d →
    slots_in b ≡ slots_in d →
    list_in b ≡ list_in d →
    priorities_in b ≡ priorities_in d →
    requests_of b ≡ requests_of d →
    b ≡ d
unique b d eb ed ob od pages slots list priorities requests =
    sym (exact b eb ob) ∙ (rw (list, priorities, requests, pages, slots) (exact d ed od))

-- ---- what a reader is handed

-- a refused read: the blank run, 0 and 0
pub refused_read : (b : List ℕ) → (trace_refusal b ≡ 0 → ⊥) → traced b ≡ no_trace (trace_refusal b)
refused_read b ne = sym (traced_refused b (trace_refusal b) (no_trace (trace_refusal b)) refl ne refl)

-- any other: the started run, sound, with its requests
pub accepted_read :
    (b : List ℕ) →
    trace_refusal b ≡ 0 →
    traced b
    ≡ record { run = (started (pages_in b) (slots_in b) (list_in b) (priorities_in b)).run; requests = requests_in b; offset = request_offset b; refusal = None }
unfolding traced
accepted_read b ok =
    let fine : (start_of b).refusal ≡ None = start_refuses b (read_clear b ok) ∙ ap given ok in
    rw (ok, (accepted (pages_in b) (slots_in b) (list_in b) (priorities_in b) fine).run)

pub read_sound : (b : List ℕ) → trace_refusal b ≡ 0 → Sound (traced b).run
read_sound b ok =
    let fine : (start_of b).refusal ≡ None = start_refuses b (read_clear b ok) ∙ ap given ok in
    rw (accepted_read b ok) (started_sound (pages_in b) (slots_in b) (list_in b) (priorities_in b) fine)

-- its requests, one by one
pub read_request :
    (b : List ℕ) (i : ℕ) →
    trace_refusal b ≡ 0 →
    i < requests_in b →
    request_word b (request_offset b) i ≡ slice_index_or (requests_of b) i 0
unfolding requests_of
read_request b i ok l =
    let h = read_header b ok in
    sym (request_there b (request_offset b) i (word_at 2 b (request_offset b + 2 * i)) (omega (arith, h.total)) refl)
    ∙ sym (listed_entry (requests_in b) (λ i. word_at 2 b (request_offset b + 2 * i)) 0 i l)

-- ---- what a writer leaves

module _ (N k : ℕ) (list priorities requests out : List ℕ) where
  -- a refused write changes no byte
  pub refused_write :
      (write_refusal N k list priorities requests out ≡ 0 → ⊥) →
      (written_bytes N k list priorities requests out ≡ out)
      × (written N k list priorities requests out ≡ record { length = 0; refusal = given (write_refusal N k list priorities requests out) })
  unfolding no_file
  refused_write ne = (
    sym (write_kept N k list priorities requests out (write_refusal N k list priorities requests out) refl ne),
    sym (answer_refused N k list priorities requests out (write_refusal N k list priorities requests out) refl ne),
  )

-- an answer whose number is 0 has no refusal
number_none : (o : Option Refusal) → number_in o ≡ 0 → o ≡ None
number_none None e = refl
number_none (Some r) e = absurd (number_some r e)

-- what it means that a write is not refused
pub write_passed :
    (N k : ℕ) (list priorities requests out : List ℕ) →
    write_refusal N k list priorities requests out ≡ 0 →
    ((started N k list priorities).refusal ≡ None) × (length requests ≤ most_requests) × (trace_length N k (length requests) ≤ length out)
unfolding write_refusal
write_passed N k list priorities requests out ok =
    go (truth (nat_eq refusal 0)) (truth (nat_le (length requests) most_requests)) (truth (nat_le size (length out)))
  where
    refusal : ℕ
    refusal = number_in (started N k list priorities).refusal

    size : ℕ
    size = trace_length N k (length requests)

    Test : Bool → Type 0
    Test t = (t ≡ true) ⊎ (t ≡ false)

    go :
        Test (nat_eq refusal 0) →
        Test (nat_le (length requests) most_requests) →
        Test (nat_le size (length out)) →
        ((started N k list priorities).refusal ≡ None) × (length requests ≤ most_requests) × (size ≤ length out)
    go (inr u) v w = absurd (eqb-false refusal 0 u (rw u at ok))
    go (inl u) (inr v) w = absurd (omega (arith, rw (u, v) at ok))
    go (inl u) (inl v) (inr w) = absurd (omega (arith, rw (u, v, w) at ok))
    go (inl u) (inl v) (inl w) = (number_none (started N k list priorities).refusal (eqb-true refusal 0 u), leb-true (length requests) most_requests v, leb-true size (length out) w)

module _ (N k : ℕ) (list priorities requests out : List ℕ) (ok : write_refusal N k list priorities requests out ≡ 0) where
  passed : ((started N k list priorities).refusal ≡ None) × (length requests ≤ most_requests) × (trace_length N k (length requests) ≤ length out)
  passed = write_passed N k list priorities requests out ok

  new_length : 0 + length (trace_bytes N k list priorities requests) ≡ trace_length N k (length requests)
  new_length =
      let a = accepted N k list priorities passed.0 in
      omega (arith, trace_bytes_length N k list priorities requests a.list.entries a.priorities)

  pub told_length : (written N k list priorities requests out).length ≡ trace_length N k (length requests)
  unfolding written
  told_length = rw ok

  -- the writer touches only the bytes it reports: they are the file, and the others are as they were
  pub written_there : take (trace_length N k (length requests)) (written_bytes N k list priorities requests out) ≡ trace_bytes N k list priorities requests
  unfolding written_bytes
  written_there = rw (ok, ← new_length) (take_put out 0 (trace_bytes N k list priorities requests) (omega (arith, new_length, passed.2)))

  pub written_past : drop (trace_length N k (length requests)) (written_bytes N k list priorities requests out) ≡ drop (trace_length N k (length requests)) out
  unfolding written_bytes
  written_past = rw (ok, ← new_length) (drop_put out 0 (trace_bytes N k list priorities requests) (omega (arith, new_length, passed.2)))

  -- and they are read as they were meant
  pub written_read :
      Small priorities →
      Small requests →
      Says (take (written N k list priorities requests out).length (written_bytes N k list priorities requests out)) N k list priorities requests
  written_read all asked =
      rw (told_length, written_there) (round_trip N k list priorities requests passed.0 all asked passed.1)

-- Read one at a time, they are the file's requests
pub asked_all : (b : List ℕ) → trace_refusal b ≡ 0 → asked b (request_offset b) (requests_in b) ≡ requests_of b
unfolding asked requests_of
asked_all b ok =
    listed_same
    (requests_in b)
    (request_word b (request_offset b))
    (λ i. word_at 2 b (request_offset b + 2 * i))
    (λ i l. sym (request_there b (request_offset b) i (word_at 2 b (request_offset b + 2 * i)) (omega (arith, (read_header b ok).total)) refl))

-- The number of what the reader answers is the file's refusal.
pub told_refusal : (b : List ℕ) → number_in (traced b).refusal ≡ trace_refusal b
unfolding no_trace
told_refusal b = ⊎_elim fine bad (same_or_not (trace_refusal b) 0)
  where
    fine : trace_refusal b ≡ 0 → number_in (traced b).refusal ≡ trace_refusal b
    fine ok = rw (accepted_read b ok, ok)

    bad : (trace_refusal b ≡ 0 → ⊥) → number_in (traced b).refusal ≡ trace_refusal b
    bad ne = rw (refused_read b ne) (number_given (trace_refusal b) (refusal_small b))
