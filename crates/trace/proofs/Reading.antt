-- The reader as the code takes it: the header's refusals first, then those of a start with the lists that are read. Assumes nothing.
use Rattle.std.proofs.Math.Bool.{Bool}
use Rattle.std.specs.Prelude.{true, false, List, [], ◌∷◌, ◌⊎◌, ◌≡◌, refl, ℕ, suc, ◌+◌, ◌*◌, ◌≤◌, ◌<◌, length, take, nat_eq, nat_le, Option, Some, None, Result, Ok, Err}
use Rattle.std.proofs.Common.{inl, inr, ⊎_elim, ◌∙◌, arith, take_at, drop-cons}
use Rattle.std.proofs.Math.Path.{sym, ap}
use Rattle.std.proofs.Math.ListN.{drop}
use Rattle.std.proofs.Math.Seq.{drop-length}
use borrow.Author.Tests.{eqb-true, eqb-false, eq-eqb, ne_eqb, leb-true, le-leb, lt-leb}
use Rattle.paging.specs.Sets.{unless◌give◌else◌, listed, table}
use Rattle.paging.specs.Tests.{truth, same_or_not}
use Rattle.paging.specs.Tables.{listed_length, listed_entry}
use Rattle.words.specs.Words.{word_at}
use Rattle.refusals.specs.declared.Refusal.{Refusal}
use Rattle.refusals.specs.Numbers.{number, told, given, number_in}
use Rattle.refusals.specs.Laws.{number_some, named_number, number_named, none_given, given_some, number_given}
use Rattle.begin.specs.Limits.{pages_fit, slots_fit, limits_refusal}
use Rattle.begin.specs.Begin.{below, different}
use Rattle.begin.specs.LimitLaws.{Limits, limits_hold, limits_small, pages_within, slots_within}
use Rattle.run.specs.declared.Started.{Started}
use Rattle.run.specs.Start.{listed_run, started}
use Rattle.run.specs.StartLaws.{accepted}
use Rattle.trace.specs.declared.Header.{Header as Said}
use Rattle.trace.specs.declared.Traced.{Traced}
use Rattle.trace.specs.Layout.{most_requests, trace_length, pages_in, slots_in, requests_in}
use Rattle.trace.specs.Layout.{list_in, priorities_in, offsets_right, trace_refusal, traced, request_word}
use Rattle.trace.specs.Reading.{limits_in, total_right, header_refusal, header_in, header_told, no_trace, asked}

pub list_length : (b : List ℕ) → length (list_in b) ≡ slots_in b
unfolding list_in
list_length b = listed_length (slots_in b) (λ i. word_at 2 b (24 + 2 * i))

pub priorities_length : (b : List ℕ) → length (priorities_in b) ≡ pages_in b
unfolding priorities_in
priorities_length b = listed_length (pages_in b) (λ q. word_at 2 b (24 + 2 * slots_in b + 2 * q))

-- an answer that names no refusal has none
pub unrefused : (o : Option Refusal) → ((r : Refusal) → o ≡ Some r → ⊥) → o ≡ None
unrefused None h = refl
unrefused (Some r) h = absurd (h r refl)

-- the refusal of a number is the one that has it
pub given_number : (r : Refusal) → Some r ≡ given (number r)
given_number r = given_some r (number r) refl

-- ---- each refusal, from the numbers

pub wrong_first : (b : List ℕ) (x : ℕ) → x ≡ word_at 4 b 12 → (x ≡ 24 → ⊥) → false ≡ offsets_right b
unfolding offsets_right
wrong_first b x ex ne = rw (ne_eqb (word_at 4 b 12) 24 (λ e. ne (ex ∙ e)))

module _ (b : List ℕ) (k x y : ℕ) (ek : k ≡ slots_in b) (ex : x ≡ word_at 4 b 12) (ey : y ≡ word_at 4 b 16) (is : x ≡ 24) where
  pub wrong_second : (y ≡ 24 + 2 * k → ⊥) → false ≡ offsets_right b
  unfolding offsets_right
  wrong_second ne =
      rw (eq-eqb (word_at 4 b 12) 24 (sym ex ∙ is), ne_eqb (word_at 4 b 16) (24 + 2 * slots_in b) (λ e. ne (omega arith)))

  pub right_two : (N z : ℕ) → N ≡ pages_in b → z ≡ word_at 4 b 20 → y ≡ 24 + 2 * k → nat_eq z (24 + 2 * k + 2 * N) ≡ offsets_right b
  unfolding offsets_right
  right_two N z eN ez same =
      rw (eq-eqb (word_at 4 b 12) 24 (sym ex ∙ is), eq-eqb (word_at 4 b 16) (24 + 2 * slots_in b) (omega arith), ez, ek, eN)

module _ (b : List ℕ) where
  pub header_short : length b < 24 → 13 ≡ header_refusal b
  unfolding header_refusal
  header_short h = rw (lt-leb 24 (length b) h)

  module _ (long : 24 ≤ length b) (N k n : ℕ) (eN : N ≡ pages_in b) (ek : k ≡ slots_in b) (told : n ≡ limits_refusal N k) where
    here : n ≡ limits_in b
    here = told ∙ rw (eN, ek)

    pub header_limits : (n ≡ 0 → ⊥) → n ≡ header_refusal b
    unfolding header_refusal
    header_limits ne = rw (le-leb 24 (length b) long, ne_eqb (limits_in b) 0 (λ z. ne (here ∙ z))) here

    module _ (z : n ≡ 0) where
      none : limits_in b ≡ 0
      none = sym here ∙ z

      pub header_requests : (T : ℕ) → T ≡ requests_in b → most_requests < T → 14 ≡ header_refusal b
      unfolding header_refusal
      header_requests T e h = rw (le-leb 24 (length b) long, none, lt-leb (requests_in b) most_requests (omega arith))

      module _ (T : ℕ) (eT : T ≡ requests_in b) (few : T ≤ most_requests) where
        fits : nat_le (requests_in b) most_requests ≡ true
        fits = le-leb (requests_in b) most_requests (omega arith)

        pub header_offsets : offsets_right b ≡ false → 15 ≡ header_refusal b
        unfolding header_refusal
        header_offsets h = rw (le-leb 24 (length b) long, none, fits, h)

        total : trace_length N k T ≡ trace_length (pages_in b) (slots_in b) (requests_in b)
        total = rw (eN, ek, eT)

        pub header_total : offsets_right b ≡ true → (length b ≡ 24 + 2 * k + 2 * N + 2 * T → ⊥) → 13 ≡ header_refusal b
        unfolding header_refusal trace_length
        header_total h ne =
            rw (le-leb 24 (length b) long, none, fits, h, ne_eqb (length b) (trace_length (pages_in b) (slots_in b) (requests_in b)) (λ e. ne (e ∙ sym total)))

        pub header_none : offsets_right b ≡ true → length b ≡ 24 + 2 * k + 2 * N + 2 * T → 0 ≡ header_refusal b
        unfolding header_refusal trace_length
        header_none h e =
            rw (le-leb 24 (length b) long, none, fits, h, eq-eqb (length b) (trace_length (pages_in b) (slots_in b) (requests_in b)) (e ∙ total))

-- ---- the cases of the header's refusals

module _ (b : List ℕ) (P : ℕ → Type 0) where
  pub header_cases :
      (nat_le 24 (length b) ≡ false → P 13) →
      (nat_le 24 (length b) ≡ true → nat_eq (limits_in b) 0 ≡ false → P (limits_in b)) →
      (nat_le 24 (length b) ≡ true → nat_eq (limits_in b) 0 ≡ true → nat_le (requests_in b) most_requests ≡ false → P 14) →
      (nat_le 24 (length b) ≡ true → nat_eq (limits_in b) 0 ≡ true → nat_le (requests_in b) most_requests ≡ true → offsets_right b ≡ false → P 15) →
      (nat_le 24 (length b) ≡ true → nat_eq (limits_in b) 0 ≡ true → nat_le (requests_in b) most_requests ≡ true → offsets_right b ≡ true → total_right b ≡ false → P 13) →
      (nat_le 24 (length b) ≡ true → nat_eq (limits_in b) 0 ≡ true → nat_le (requests_in b) most_requests ≡ true → offsets_right b ≡ true → total_right b ≡ true → P 0) →
      P (header_refusal b)
  unfolding header_refusal
  header_cases short limits requests offsets total none =
      go (truth (nat_le 24 (length b))) (truth (nat_eq (limits_in b) 0)) (truth (nat_le (requests_in b) most_requests)) (truth (offsets_right b)) (truth (total_right b))
    where
      Test : Bool → Type 0
      Test t = (t ≡ true) ⊎ (t ≡ false)

      go : Test (nat_le 24 (length b)) → Test (nat_eq (limits_in b) 0) → Test (nat_le (requests_in b) most_requests) → Test (offsets_right b) → Test (total_right b) → P (header_refusal b)
      go (inr a) l r o t = rw a (short a)
      go (inl a) (inr l) r o t = rw (a, l) (limits a l)
      go (inl a) (inl l) (inr r) o t = rw (a, l, r) (requests a l r)
      go (inl a) (inl l) (inl r) (inr o) t = rw (a, l, r, o) (offsets a l r o)
      go (inl a) (inl l) (inl r) (inl o) (inr t) = rw (a, l, r, o, t) (total a l r o t)
      go (inl a) (inl l) (inl r) (inl o) (inl t) = rw (a, l, r, o, t) (none a l r o t)

-- what it means that none of them applies
pub record Header (b : List ℕ) : Type 0 where
  pub long : 24 ≤ length b
  pub limits : Limits (pages_in b) (slots_in b)
  pub no_limit : limits_in b ≡ 0
  pub requests : requests_in b ≤ most_requests
  pub offsets : offsets_right b ≡ true
  pub total : length b ≡ 24 + 2 * slots_in b + 2 * pages_in b + 2 * requests_in b

pub header_holds : (b : List ℕ) → header_refusal b ≡ 0 → Header b
unfolding trace_length
header_holds b =
    header_cases
    b
    (λ n. n ≡ 0 → Header b)
    (λ a z. absurd (omega arith))
    (λ a l z. absurd (eqb-false (limits_in b) 0 l z))
    (λ a l r z. absurd (omega arith))
    (λ a l r o z. absurd (omega arith))
    (λ a l r o t z. absurd (omega arith))
    (λ a l r o t z.
    let none = eqb-true (limits_in b) 0 l in
    record {
      long = leb-true 24 (length b) a;
      limits = limits_hold (pages_in b) (slots_in b) none;
      no_limit = none;
      requests = leb-true (requests_in b) most_requests r;
      offsets = o;
      total = eqb-true (length b) (trace_length (pages_in b) (slots_in b) (requests_in b)) t;
    })

-- ---- the header as it is read

module _ (b : List ℕ) where
  header_small : header_refusal b ≤ 17
  header_small =
      header_cases
      b
      (λ n. n ≤ 17)
      (λ a. omega arith)
      (λ a l. omega (arith, limits_small (pages_in b) (slots_in b)))
      (λ a l r. omega arith)
      (λ a l r o. omega arith)
      (λ a l r o t. omega arith)
      (λ a l r o t. omega arith)

  said_number : told (header_told b) ≡ header_refusal b
  unfolding header_told
  said_number =
      ⊎_elim
      (λ z. rw z refl)
      (λ ne. rw (ne_eqb (header_refusal b) 0 ne) (number_named (header_refusal b) header_small ne))
      (same_or_not (header_refusal b) 0)

  pub said_err : (r : Refusal) → number r ≡ header_refusal b → (a : Result Said Refusal) → a ≡ Err r → a ≡ header_told b
  unfolding header_told
  said_err r n a e =
      e
      ∙ rw (ne_eqb (header_refusal b) 0 (λ z. number_some r (n ∙ z)), ← n) (ap (λ (x : Refusal). Err x) (sym (named_number r)))

  pub said_ok : header_refusal b ≡ 0 → Ok (header_in b) ≡ header_told b
  unfolding header_told
  said_ok z = rw z

  module _ (a : Result Said Refusal) (e : a ≡ header_told b) where
    pub said_refusal : (r : Refusal) → a ≡ Err r → number r ≡ header_refusal b
    said_refusal r is = sym (ap told is) ∙ (ap told e ∙ said_number)

    pub said_header : (h : Said) → a ≡ Ok h → (h ≡ header_in b) × (header_refusal b ≡ 0)
    said_header h is = (ap said (sym is ∙ (e ∙ sym (said_ok passed))), passed)
      where
        passed : header_refusal b ≡ 0
        passed = sym (ap told e ∙ said_number) ∙ ap told is

        said : Result Said Refusal → Said
        said (Ok h) = h
        said (Err r) = header_in b

-- what the code asks of a file that the header lets pass
pub header_room :
    (b : List ℕ) (a : Result Said Refusal) (h : Said) →
    a ≡ header_told b →
    a ≡ Ok h →
    (24 + 2 * h.slots + 2 * h.pages ≤ length b) × (h.pages ≤ 1024) × (h.slots ≤ 64)
header_room b a h e is =
    let (same, ok) = said_header b a e h is in
    let w = header_holds b ok in
    rw same (omega (arith, w.total), w.limits.1, w.limits.3)

-- a file that the header refuses is refused so
pub header_refuses : (b : List ℕ) → (header_refusal b ≡ 0 → ⊥) → header_refusal b ≡ trace_refusal b
unfolding trace_refusal
header_refuses b =
    header_cases
    b
    (λ n. (n ≡ 0 → ⊥) → n ≡ trace_refusal b)
    (λ a ne. rw a)
    (λ a l ne. rw (a, l))
    (λ a l r ne. rw (a, l, r))
    (λ a l r o ne. rw (a, l, r, o))
    (λ a l r o t ne. rw (a, l, r, o, t))
    (λ a l r o t ne. absurd (ne refl))

-- each refusal has a number of the table
pub refusal_small : (b : List ℕ) → trace_refusal b ≤ 17
unfolding trace_refusal
refusal_small b =
    header_cases
    b
    (λ n. trace_refusal b ≤ 17)
    (λ a. rw a (omega arith))
    (λ a l. rw (a, l) (omega (arith, limits_small (pages_in b) (slots_in b))))
    (λ a l r. rw (a, l, r) (omega arith))
    (λ a l r o. rw (a, l, r, o) (omega arith))
    (λ a l r o t. rw (a, l, r, o, t) (omega arith))
    (λ a l r o t. rw (a, l, r, o, t) (go (truth (below (pages_in b) (list_in b))) (truth (different (list_in b)))))
  where
    Test : Bool → Type 0
    Test t = (t ≡ true) ⊎ (t ≡ false)

    go :
        Test (below (pages_in b) (list_in b)) →
        Test (different (list_in b)) →
        (unless below (pages_in b) (list_in b) give 5 else unless different (list_in b) give 6 else 0) ≤ 17
    go (inr u) v = rw u (omega arith)
    go (inl u) (inr v) = rw (u, v) (omega arith)
    go (inl u) (inl v) = rw (u, v) (omega arith)

-- any other as a start with its lists is
abbrev pub start_of : List ℕ → Started
start_of b = started (pages_in b) (slots_in b) (list_in b) (priorities_in b)

pub start_refuses : (b : List ℕ) → header_refusal b ≡ 0 → (start_of b).refusal ≡ given (trace_refusal b)
unfolding trace_refusal started trace_length
start_refuses b z = go (truth (below (pages_in b) (list_in b))) (truth (different (list_in b)))
  where
    h : Header b
    h = header_holds b z

    Test : Bool → Type 0
    Test t = (t ≡ true) ⊎ (t ≡ false)

    a : nat_le 24 (length b) ≡ true
    a = le-leb 24 (length b) h.long

    r : nat_le (requests_in b) most_requests ≡ true
    r = le-leb (requests_in b) most_requests h.requests

    t : nat_eq (length b) (24 + 2 * slots_in b + 2 * pages_in b + 2 * requests_in b) ≡ true
    t = eq-eqb (length b) (24 + 2 * slots_in b + 2 * pages_in b + 2 * requests_in b) h.total

    p : pages_fit (pages_in b) ≡ true
    p = pages_within (pages_in b) h.limits.0 h.limits.1

    s : slots_fit (pages_in b) (slots_in b) ≡ true
    s = slots_within (pages_in b) (slots_in b) h.limits.2 h.limits.3 h.limits.4

    ll : nat_eq (length (list_in b)) (slots_in b) ≡ true
    ll = eq-eqb (length (list_in b)) (slots_in b) (list_length b)

    pl : nat_eq (length (priorities_in b)) (pages_in b) ≡ true
    pl = eq-eqb (length (priorities_in b)) (pages_in b) (priorities_length b)

    go : Test (below (pages_in b) (list_in b)) → Test (different (list_in b)) → (start_of b).refusal ≡ given (trace_refusal b)
    go (inr u) v = rw (a, h.no_limit, r, h.offsets, t, p, s, ll, u)
    go (inl u) (inr v) = rw (a, h.no_limit, r, h.offsets, t, p, s, ll, u, v)
    go (inl u) (inl v) = rw (a, h.no_limit, r, h.offsets, t, p, s, ll, u, v, pl)

-- ---- what the code answers

pub traced_refused : (b : List ℕ) (n : ℕ) (r : Traced) → n ≡ trace_refusal b → (n ≡ 0 → ⊥) → r ≡ no_trace n → r ≡ traced b
unfolding traced no_trace
traced_refused b n r e ne er = er ∙ rw (ne_eqb (trace_refusal b) 0 (λ z. ne (e ∙ z)), e)

-- the part of an array that holds the entries
pub take_entries : {A : Type 0} (size n : ℕ) (d : A) (f : ℕ → A) → take n (table size n d f) ≡ listed n f
unfolding table
take_entries size n d f = take_at (listed n f) _ n (listed_length n f)

pub part_length : (size n : ℕ) (d : ℕ) (f : ℕ → ℕ) (array : List ℕ) → array ≡ table size n d f → n ≡ length (take n array)
part_length size n d f array e = rw (e, take_entries size n d f) (sym (listed_length n f))

module _ (b : List ℕ) (a : Result Said Refusal) (h : Said) (e : a ≡ header_told b) (is : a ≡ Ok h) where
  same : h ≡ header_in b
  same = (said_header b a e h is).0

  module _
      (list priorities : List ℕ)
      (el : list ≡ table 64 h.slots 0 (λ i. word_at 2 b (24 + 2 * i)))
      (ep : priorities ≡ table 1024 h.pages 0 (λ q. word_at 2 b (24 + 2 * h.slots + 2 * q)))
    where
      list_is : take h.slots list ≡ list_in b
      unfolding list_in
      list_is = rw (el, take_entries 64 h.slots 0 (λ i. word_at 2 b (24 + 2 * i)), same)

      priorities_are : take h.pages priorities ≡ priorities_in b
      unfolding priorities_in
      priorities_are = rw (ep, take_entries 1024 h.pages 0 (λ q. word_at 2 b (24 + 2 * h.slots + 2 * q)), same)

      module _ (s : Started) (es : s ≡ started h.pages h.slots (take h.slots list) (take h.pages priorities)) where
        began : s ≡ start_of b
        began = es ∙ rw (list_is, priorities_are, same)

        answered : s.refusal ≡ given (trace_refusal b)
        answered = ap (λ (x : Started). x.refusal) began ∙ start_refuses b (said_header b a e h is).1

        pub read_refused : (n : Refusal) (r : Traced) → s.refusal ≡ Some n → r ≡ no_trace (number n) → r ≡ traced b
        read_refused n r some er = traced_refused b (number n) r number_is (number_some n) er
          where
            number_is : number n ≡ trace_refusal b
            number_is = ap number_in (sym some ∙ answered) ∙ number_given (trace_refusal b) (refusal_small b)

        pub read_told :
            s.refusal ≡ None →
            ◌≡◌ {A = Traced} (record { run = s.run; requests = h.requests; offset = 24 + 2 * h.slots + 2 * h.pages; refusal = None }) (traced b)
        unfolding traced
        read_told fine =
            let none : trace_refusal b ≡ 0 = none_given (trace_refusal b) (sym answered ∙ fine) in
            let run : s.run ≡ listed_run (pages_in b) (slots_in b) (list_in b) (priorities_in b) =
            ap (λ (x : Started). x.run) began
            ∙ (accepted (pages_in b) (slots_in b) (list_in b) (priorities_in b) (ap (λ (x : Started). x.refusal) (sym began) ∙ fine)).run in
            rw (none, run, same)

-- the request at a place
pub request_past : (b : List ℕ) (offset i : ℕ) → length b < offset + 2 * i + 2 → 0 ≡ request_word b offset i
unfolding request_word
request_past b offset i h = rw (lt-leb (offset + 2 * i + 2) (length b) h)

pub request_there :
    (b : List ℕ) (offset i v : ℕ) → offset + 2 * i + 2 ≤ length b → v ≡ word_at 2 b (offset + 2 * i) → v ≡ request_word b offset i
unfolding request_word
request_there b offset i v h e = e ∙ rw (le-leb (offset + 2 * i + 2) (length b) h)

module _ (b : List ℕ) (offset n : ℕ) where
  pub asked_next : (i : ℕ) → i < n → drop i (asked b offset n) ≡ request_word b offset i ∷ drop (suc i) (asked b offset n)
  unfolding asked
  asked_next i l =
      rw (listed_entry n (request_word b offset) 0 i l) at
      (drop-cons (listed n (request_word b offset)) i 0 (omega (arith, listed_length n (request_word b offset))))

  pub asked_last : drop n (asked b offset n) ≡ []
  unfolding asked
  asked_last =
      ap (λ (m : ℕ). drop m (listed n (request_word b offset))) (sym (listed_length n (request_word b offset)))
      ∙ drop-length (listed n (request_word b offset))
