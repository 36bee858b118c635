-- The writer as the code takes it: its refusals, and the sections one after the other. Assumes nothing.
use Rattle.std.specs.Prelude.{List, [], ◌∷◌, ◌++◌, ◌≡◌, refl, ℕ, ◌+◌, ◌*◌, ◌≤◌, ◌<◌, take, slice_index_or, Some, None, Result, Err}
use Rattle.std.proofs.Common.{append_assoc, sym, ap, ◌∙◌, arith, length-append}
use Rattle.std.proofs.Math.ListN.{length}
use borrow.Author.Tests.{ne_eqb, le-leb, lt-leb}
use Rattle.words.specs.Words.{bytes, words, put}
use Rattle.words.specs.Laws.{words_length, words_append, words_one, put_then}
use Rattle.paging.specs.Sets.{listed}
use Rattle.paging.specs.Tables.{listed_same, listed_entry}
use Rattle.refusals.specs.declared.Refusal.{Refusal}
use Rattle.refusals.specs.Numbers.{told, number_in}
use Rattle.refusals.specs.Laws.{told_fine, number_given}
use Rattle.ranking.specs.Defaults.{default_priority, default_priorities}
use Rattle.begin.specs.Limits.{limits_refusal}
use Rattle.begin.specs.LimitLaws.{limits_hold}
use Rattle.begin.specs.Begin.{start_priorities}
use Rattle.run.specs.declared.Started.{Started}
use Rattle.run.specs.Start.{started}
use Rattle.run.specs.StartLaws.{accepted}
use Rattle.begin.specs.Refusals.{list_refusal}
use Rattle.begin.proofs.RefusalLaws.{refuse_limits, refusal_small}
use Rattle.run.specs.Starting.{refused_list}
use Rattle.trace.specs.declared.Written.{Written}
use Rattle.trace.specs.Layout.{most_requests, trace_header, trace_length, trace_bytes, write_refusal, written, written_bytes}
use Rattle.trace.proofs.Reading.{take_entries, part_length, unrefused}
use Rattle.trace.specs.Writing.{Fits, no_file}

-- ---- the header, number by number

pub one_more :
    (w : ℕ) (s t last vs : List ℕ) (next v : ℕ) →
    t ≡ put s 0 (words w vs) →
    last ≡ put t next (bytes w v) →
    next ≡ w * length vs →
    next ≤ length s →
    last ≡ put s 0 (words w (vs ++ (v ∷ [])))
one_more w s t last vs next v p q e h =
    rw (words_append w vs (v ∷ []), words_one w v)
    (put_then s t last 0 next (words w vs) (bytes w v) p q (omega (arith, words_length w vs)) h)

pub header_written :
    (s a b c d e f : List ℕ) (N k T x y : ℕ) →
    24 ≤ length s →
    x ≡ 24 + 2 * k →
    y ≡ 24 + 2 * k + 2 * N →
    a ≡ put s 0 (bytes 4 N) →
    b ≡ put a 4 (bytes 4 k) →
    c ≡ put b 8 (bytes 4 T) →
    d ≡ put c 12 (bytes 4 24) →
    e ≡ put d 16 (bytes 4 x) →
    f ≡ put e 20 (bytes 4 y) →
    f ≡ put s 0 (words 4 (trace_header N k T))
unfolding trace_header
header_written s a b c d e f N k T x y long ex ey ha hb hc hd he hf =
    let one : a ≡ put s 0 (words 4 (N ∷ [])) = rw (words_one 4 N) ha in
    let two = one_more 4 s a b (N ∷ []) 4 k one hb refl (omega arith) in
    let three = one_more 4 s b c (N ∷ k ∷ []) 8 T two hc refl (omega arith) in
    let four = one_more 4 s c d (N ∷ k ∷ T ∷ []) 12 24 three hd refl (omega arith) in
    let five = one_more 4 s d e (N ∷ k ∷ T ∷ 24 ∷ []) 16 x four he refl (omega arith) in
    let six = one_more 4 s e f (N ∷ k ∷ T ∷ 24 ∷ x ∷ []) 20 y five hf refl (omega arith) in
    rw (ex, ey) at six

-- ---- the sections

pub header_length : (N k T : ℕ) → length (words 4 (trace_header N k T)) ≡ 24
unfolding trace_header
header_length N k T = words_length 4 (N ∷ k ∷ T ∷ 24 ∷ (24 + 2 * k) ∷ (24 + 2 * k + 2 * N) ∷ [])

pub trace_bytes_length :
    (N k : ℕ) (list priorities requests : List ℕ) →
    length list ≡ k →
    length priorities ≡ N →
    length (trace_bytes N k list priorities requests) ≡ trace_length N k (length requests)
unfolding trace_bytes trace_length
trace_bytes_length N k list priorities requests e g =
    simp (length-append, header_length, words_length) (omega arith)

pub sections_written :
    (s a b c d : List ℕ) (N k : ℕ) (list priorities requests : List ℕ) →
    Fits N k list priorities requests s →
    a ≡ put s 0 (words 4 (trace_header N k (length requests))) →
    b ≡ put a 24 (words 2 list) →
    c ≡ put b (24 + 2 * k) (words 2 priorities) →
    d ≡ put c (24 + 2 * k + 2 * N) (words 2 requests) →
    d ≡ put s 0 (trace_bytes N k list priorities requests)
unfolding trace_bytes
sections_written s a b c d N k list priorities requests fits ha hb hc hd =
    let head = words 4 (trace_header N k (length requests)) in
    let size : length head ≡ 24 = header_length N k (length requests) in
    let l : length (words 2 list) ≡ 2 * length list = words_length 2 list in
    let p : length (words 2 priorities) ≡ 2 * length priorities = words_length 2 priorities in
    let two : b ≡ put s 0 (head ++ words 2 list) =
    put_then s a b 0 24 head (words 2 list) ha hb (omega arith) (omega (arith, fits.room)) in
    let three : c ≡ put s 0 ((head ++ words 2 list) ++ words 2 priorities) =
    put_then s b c 0 (24 + 2 * k) (head ++ words 2 list) (words 2 priorities) two hc
    (simp length-append (omega (arith, fits.entries)))
    (omega (arith, fits.room)) in
    let four : d ≡ put s 0 (((head ++ words 2 list) ++ words 2 priorities) ++ words 2 requests) =
    put_then s c d 0 (24 + 2 * k + 2 * N) ((head ++ words 2 list) ++ words 2 priorities) (words 2 requests) three hd
    (simp length-append (omega (arith, fits.entries, fits.all)))
    (omega (arith, fits.room)) in
    simp append_assoc at four

-- ---- the refusals

pub start_limits :
    (N k : ℕ) (list priorities : List ℕ) (s : Started) → s ≡ started N k list priorities → ((r : Refusal) → s.refusal ≡ Some r → ⊥) → (N ≤ 1024) × (k ≤ 64)
start_limits N k list priorities s es h =
    let a = accepted N k list priorities (ap (λ (x : Started). x.refusal) (sym es) ∙ unrefused s.refusal h) in
    (a.pages.1, a.slots.1)

module _ (N k : ℕ) (list priorities requests out : List ℕ) where
  module _ (n : ℕ) (e : n ≡ write_refusal N k list priorities requests out) (ne : n ≡ 0 → ⊥) where
    pub answer_refused : no_file n ≡ written N k list priorities requests out
    unfolding no_file written
    answer_refused = rw (ne_eqb (write_refusal N k list priorities requests out) 0 (λ z. ne (e ∙ z)), e)

    pub write_kept : out ≡ written_bytes N k list priorities requests out
    unfolding written_bytes
    write_kept = rw (ne_eqb (write_refusal N k list priorities requests out) 0 (λ z. ne (e ∙ z)))

    pub write_refused :
        (w : Written) → w ≡ no_file n → (w ≡ written N k list priorities requests out) × (out ≡ written_bytes N k list priorities requests out)
    write_refused w ew = (ew ∙ answer_refused, write_kept)

  module _ (e : write_refusal N k list priorities requests out ≡ 0) where
    pub answer_told :
        ◌≡◌ {A = Written} (record { length = 24 + 2 * k + 2 * N + 2 * length requests; refusal = None }) (written N k list priorities requests out)
    unfolding written trace_length
    answer_told = rw e

    pub write_done :
        (new : List ℕ) → new ≡ put out 0 (trace_bytes N k list priorities requests) → new ≡ written_bytes N k list priorities requests out
    unfolding written_bytes
    write_done new h = h ∙ rw e

    pub write_told :
        (new : List ℕ) →
        new ≡ put out 0 (trace_bytes N k list priorities requests) →
        (◌≡◌ {A = Written} (record { length = 24 + 2 * k + 2 * N + 2 * length requests; refusal = None }) (written N k list priorities requests out))
        × (new ≡ written_bytes N k list priorities requests out)
    write_told new h = (answer_told, write_done new h)

  module _ (s : Started) (es : s ≡ started N k list priorities) where
    same_refusal : s.refusal ≡ (started N k list priorities).refusal
    same_refusal = ap (λ (x : Started). x.refusal) es

    pub refuse_start : (n : ℕ) → number_in s.refusal ≡ n → (n ≡ 0 → ⊥) → n ≡ write_refusal N k list priorities requests out
    unfolding write_refusal
    refuse_start n e ne =
        let same : n ≡ number_in (started N k list priorities).refusal = sym e ∙ ap number_in same_refusal in
        rw (ne_eqb (number_in (started N k list priorities).refusal) 0 (λ z. ne (same ∙ z))) same

    module _ (z : s.refusal ≡ None) where
      none : (started N k list priorities).refusal ≡ None
      none = sym same_refusal ∙ z

      pub refuse_requests : most_requests < length requests → 14 ≡ write_refusal N k list priorities requests out
      unfolding write_refusal
      refuse_requests h = rw (none, lt-leb (length requests) most_requests h)

      module _ (few : length requests ≤ most_requests) where
        pub refuse_room : length out < 24 + 2 * k + 2 * N + 2 * length requests → 16 ≡ write_refusal N k list priorities requests out
        unfolding write_refusal trace_length
        refuse_room h =
            rw (none, le-leb (length requests) most_requests few, lt-leb (24 + 2 * k + 2 * N + 2 * length requests) (length out) h)

        module _ (room : 24 + 2 * k + 2 * N + 2 * length requests ≤ length out) where
          pub refuse_none : write_refusal N k list priorities requests out ≡ 0
          unfolding write_refusal trace_length
          refuse_none =
              rw (none, le-leb (length requests) most_requests few, le-leb (24 + 2 * k + 2 * N + 2 * length requests) (length out) room)

          pub write_fits : Fits N k list priorities requests out
          write_fits =
              let a = accepted N k list priorities none in
              record {
                pages = a.pages.1;
                slots = a.slots.1;
                entries = a.list.entries;
                all = a.priorities;
                few = few;
                room = room;
              }

  -- what the limits refuse is refused so, whatever the priorities are
  pub refuse_limited : (n : ℕ) → n ≡ limits_refusal N k → (n ≡ 0 → ⊥) → n ≡ write_refusal N k list priorities requests out
  refuse_limited n e ne =
      let by_list : n ≡ list_refusal N k list = refuse_limits N k list n e ne in
      let start = refused_list N k list priorities (λ z. ne (by_list ∙ z)) in
      let same : number_in (started N k list priorities).refusal ≡ n =
      ap (λ (x : Started). number_in x.refusal) start ∙ (number_given (list_refusal N k list) (omega (arith, refusal_small N k list)) ∙ sym by_list) in
      refuse_start (started N k list priorities) refl n same ne

-- the part of the code's array that holds the default priorities
pub default_part : (N : ℕ) (array : List ℕ) → array ≡ start_priorities N (default_priorities N) → take N array ≡ default_priorities N
unfolding start_priorities default_priorities
default_part N array e =
    rw (e, take_entries 1024 N 0 (λ q. slice_index_or (listed N default_priority) q 0))
    (listed_same N (λ q. slice_index_or (listed N default_priority) q 0) default_priority (λ q l. listed_entry N default_priority 0 q l))

pub limit_pages : (N k : ℕ) (a : Result Unit Refusal) → told a ≡ limits_refusal N k → ((r : Refusal) → a ≡ Err r → ⊥) → N ≤ 1024
limit_pages N k a e none = (limits_hold N k (sym e ∙ told_fine a none)).1

-- as long as the part that the code takes of it
pub default_length : (N : ℕ) (array : List ℕ) → array ≡ start_priorities N (default_priorities N) → N ≡ length (take N array)
unfolding start_priorities
default_length N array e = part_length 1024 N 0 (λ q. slice_index_or (default_priorities N) q 0) array e
