-- A run is stored and read back, and what is read is stored again byte for byte: the round trip and the exactness of a stored run,
-- of the layout's definitions alone. Assumes nothing.
use Rattle.std.specs.Prelude.{true, ◌≡◌, ℕ, ◌+◌, ◌*◌, ◌%◌, ◌≤◌, ◌<◌, take, drop, nat_le, slice_index_or}
use mathlib.Core.List.{List, [], ◌++◌, append_assoc, append-nil}
use Rattle.std.proofs.Common.{⊎_elim, ◌∙◌, take-append-drop, length-drop, take_all, drop-drop, ext_get_or}
use Rattle.std.proofs.Math.Path.{refl, sym, ap}
use native.Mathlib.Omega.{arith}
use Rattle.std.proofs.Math.ListN.{length, length-append, get_or-append}
use Rattle.std.proofs.Math.Seq.{get_or-append-add}
use Rattle.paging.specs.Sets.{listed, table}
use Rattle.paging.specs.Tests.{same_test, beq_true, beq_in, le_or_lt}
use Rattle.paging.specs.Words.{each_true, each_in}
use Rattle.paging.specs.Tables.{listed_length, listed_entry, listed_same, table_at, table_past, table_length}
use Rattle.words.specs.Words.{bytes, number, words, word_at}
use Rattle.words.specs.Laws.{Bytes, append_bytes, words_bytes, number_bytes_2, number_bytes_4, word_at_words, words_word_at}
use Rattle.slots.specs.Slots.{no_page, seated}
use Rattle.slots.specs.Laws.{seated_in, seated_was}
use Rattle.begin.specs.Limits.{most_pages, most_slots, limits_refusal}
use Rattle.begin.specs.LimitLaws.{Limits, limits_none}
use Rattle.image.specs.Layout.{mark_byte, image_header, image_length, image_bytes, pages_in, slots_in}
use Rattle.image.specs.Layout.{offsets_right, image_refusal, image_layers, image_slots, image_priorities, marks_agree}
use Rattle.image.proofs.Laws.{Read, Offsets, mark_small, layer_of_mark, cached_of_mark, mark_of_byte, listed_part, header_length, list_length}
use Rattle.image.proofs.Laws.{offsets_in, refusal_none, refusal_read}

-- ---- the tables of an image, entry by entry

module _ (N : ℕ) (b : List ℕ) where
  pub layers_at : (q : ℕ) → q < N → slice_index_or (image_layers N b) q 0 ≡ slice_index_or b (36 + q) 0 % 128
  unfolding image_layers
  layers_at q l = table_at most_pages N 0 (λ q. slice_index_or b (36 + q) 0 % 128) q l

module _ (N k : ℕ) (b : List ℕ) where
  pub slots_at : (s : ℕ) → s < k → slice_index_or (image_slots N k b) s no_page ≡ word_at 2 b (36 + N + 2 * s)
  unfolding image_slots
  slots_at s l = table_at most_slots k no_page (λ s. word_at 2 b (36 + N + 2 * s)) s l

  pub priorities_at : (q : ℕ) → q < N → slice_index_or (image_priorities N k b) q 0 ≡ word_at 2 b (36 + N + 2 * k + 2 * q)
  unfolding image_priorities
  priorities_at q l = table_at most_pages N 0 (λ q. word_at 2 b (36 + N + 2 * k + 2 * q)) q l

-- a table that has the entries of a list is the list
whole :
    (size n d : ℕ) (f : ℕ → ℕ) (l : List ℕ) →
    n ≤ size →
    length l ≡ size →
    ((q : ℕ) → q < n → slice_index_or (table size n d f) q d ≡ slice_index_or l q d) →
    ((q : ℕ) → n ≤ q → slice_index_or l q d ≡ d) →
    table size n d f ≡ l
whole size n d f l h e same clear =
    ext_get_or
    d
    (table size n d f)
    l
    (table_length size n d f h ∙ sym e)
    (λ q lq. ⊎_elim (λ p. table_past size n d f q p ∙ sym (clear q p)) (same q) (le_or_lt n q))

-- only the first k slots say which pages are cached
seated_there :
    (k q : ℕ) (g h : List ℕ) →
    ((s : ℕ) → s < k → slice_index_or g s no_page ≡ slice_index_or h s no_page) →
    seated g k q ≡ true →
    seated h k q ≡ true
seated_there k q g h same e =
    let (s, l, at) = seated_was g k q e in
    seated_in h k q s l (sym (same s l) ∙ at)

pub seated_same :
    (k q : ℕ) (g h : List ℕ) → ((s : ℕ) → s < k → slice_index_or g s no_page ≡ slice_index_or h s no_page) → seated g k q ≡ seated h k q
seated_same k q g h same =
    same_test
    (seated g k q)
    (seated h k q)
    (seated_there k q g h same)
    (seated_there k q h g (λ s l. sym (same s l)))

-- an entry of a list of 16-bit numbers among other sections
entry_of :
    (xs ys b : List ℕ) (at n : ℕ) (f : ℕ → ℕ) →
    b ≡ xs ++ (words 2 (listed n f) ++ ys) →
    length xs ≡ at →
    (i : ℕ) → i < n → word_at 2 b (at + 2 * i) ≡ number (bytes 2 (f i))
entry_of xs ys b at n f cut size i l =
    let inside : i < length (listed n f) = rw (listed_length n f) l in
    rw cut
    (word_at_words 2 (listed n f) xs ys at size i inside ∙ ap (λ (v : ℕ). number (bytes 2 v)) (listed_entry n f 0 i l))

-- ---- stored and read back

-- A run whose numbers fit the fields of the layout.
pub record Storable (N k served hits misses best : ℕ) (layer priority held : List ℕ) : Type 0 where
  pub limits : Limits N k
  pub served_fits : served ≤ 4294967295
  pub hits_fit : hits ≤ 4294967295
  pub misses_fit : misses ≤ 4294967295
  pub best_fits : best ≤ 4294967295
  pub layers : (q : ℕ) → q < N → slice_index_or layer q 0 ≤ 127
  pub priorities : (q : ℕ) → q < N → slice_index_or priority q 0 ≤ 65535
  pub slots : (s : ℕ) → s < k → slice_index_or held s no_page ≤ 65535

module _ (N k served hits misses best : ℕ) (layer priority held : List ℕ) where
  abbrev image : List ℕ
  image = image_bytes N k served hits misses best layer priority held

  abbrev mark_at : ℕ → ℕ
  mark_at q = mark_byte (slice_index_or layer q 0) (seated held k q)

  abbrev slot_at : ℕ → ℕ
  slot_at s = slice_index_or held s no_page

  abbrev priority_at : ℕ → ℕ
  priority_at q = slice_index_or priority q 0

  -- the four sections
  header : List ℕ
  header = words 4 (image_header N k served hits misses best)

  marks : List ℕ
  marks = listed N mark_at

  slots : List ℕ
  slots = words 2 (listed k slot_at)

  priorities : List ℕ
  priorities = words 2 (listed N priority_at)

  image_is : image ≡ header ++ (marks ++ (slots ++ priorities))
  unfolding image_bytes header marks slots priorities
  image_is = refl

  header_size : length header ≡ 36
  unfolding header
  header_size = header_length N k served hits misses best

  marks_length : length marks ≡ N
  unfolding marks
  marks_length = listed_length N mark_at

  slots_length : length slots ≡ 2 * k
  unfolding slots
  slots_length = list_length 2 k slot_at

  priorities_length : length priorities ≡ 2 * N
  unfolding priorities
  priorities_length = list_length 2 N priority_at

  pub stored_length : length image ≡ image_length N k
  unfolding image_length
  stored_length =
      rw (image_is, length-append, length-append, length-append)
      (omega (arith, header_size, marks_length, slots_length, priorities_length))

  -- entry i of the header, of the marks, of the slots and of the priorities
  number_at : (i : ℕ) → i < 9 → word_at 4 image (4 * i) ≡ number (bytes 4 (slice_index_or (image_header N k served hits misses best) i 0))
  unfolding header image_header
  number_at i l =
      let at : 4 * i ≡ 0 + 4 * i = omega arith in
      rw (image_is, at) (word_at_words 4 (image_header N k served hits misses best) [] (marks ++ (slots ++ priorities)) 0 refl i l)

  stored_mark : (q : ℕ) → q < N → slice_index_or image (36 + q) 0 ≡ mark_at q
  unfolding marks
  stored_mark q l =
      let inside : q < length marks = rw marks_length l in
      rw (image_is, ← header_size, get_or-append-add header (marks ++ (slots ++ priorities)) q 0)
      (get_or-append marks (slots ++ priorities) 0 q inside ∙ listed_entry N mark_at 0 q l)

  stored_slot : (s : ℕ) → s < k → word_at 2 image (36 + N + 2 * s) ≡ number (bytes 2 (slot_at s))
  unfolding slots
  stored_slot = entry_of (header ++ marks) priorities image (36 + N) k slot_at cut size
    where
      cut : image ≡ header ++ marks ++ (slots ++ priorities)
      cut = image_is ∙ sym (append_assoc header marks (slots ++ priorities))

      size : length (header ++ marks) ≡ 36 + N
      size = rw length-append (omega (arith, header_size, marks_length))

  stored_priority : (q : ℕ) → q < N → word_at 2 image (36 + N + 2 * k + 2 * q) ≡ number (bytes 2 (priority_at q))
  unfolding priorities
  stored_priority = entry_of (header ++ (marks ++ slots)) [] image (36 + N + 2 * k) N priority_at cut size
    where
      cut : image ≡ header ++ (marks ++ slots) ++ (priorities ++ [])
      cut = image_is ∙ simp (append_assoc, append-nil)

      size : length (header ++ (marks ++ slots)) ≡ 36 + N + 2 * k
      size = rw (length-append, length-append) (omega (arith, header_size, marks_length, slots_length))

  -- what fits its fields is read back
  module _ (w : Storable N k served hits misses best layer priority held) where
    pub stored_pages : pages_in image ≡ N
    unfolding image_header
    stored_pages = number_at 0 (omega arith) ∙ number_bytes_4 N (omega (arith, w.limits))

    pub stored_slots : slots_in image ≡ k
    unfolding image_header
    stored_slots = number_at 1 (omega arith) ∙ number_bytes_4 k (omega (arith, w.limits))

    pub stored_served : word_at 4 image 8 ≡ served
    unfolding image_header
    stored_served = number_at 2 (omega arith) ∙ number_bytes_4 served w.served_fits

    pub stored_hits : word_at 4 image 12 ≡ hits
    unfolding image_header
    stored_hits = number_at 3 (omega arith) ∙ number_bytes_4 hits w.hits_fit

    pub stored_misses : word_at 4 image 16 ≡ misses
    unfolding image_header
    stored_misses = number_at 4 (omega arith) ∙ number_bytes_4 misses w.misses_fit

    pub stored_best : word_at 4 image 20 ≡ best
    unfolding image_header
    stored_best = number_at 5 (omega arith) ∙ number_bytes_4 best w.best_fits

    stored_offsets : Offsets image
    unfolding image_header
    stored_offsets =
        record {
          marks = number_at 6 (omega arith) ∙ number_bytes_4 36 (omega arith);
          slots = rw stored_pages (number_at 7 (omega arith) ∙ number_bytes_4 (36 + N) (omega (arith, w.limits)));
          priorities =
              rw (stored_pages, stored_slots)
              (number_at 8 (omega arith) ∙ number_bytes_4 (36 + N + 2 * k) (omega (arith, w.limits)));
        }

    pub stored_right : offsets_right image ≡ true
    stored_right = offsets_in image stored_offsets

    pub stored_accepted : image_refusal image ≡ 0
    unfolding image_length
    stored_accepted = sym (refusal_none image long within stored_right total)
      where
        long : 36 ≤ length image
        long = omega (arith, stored_length)

        within : limits_refusal (pages_in image) (slots_in image) ≡ 0
        within = rw (stored_pages, stored_slots) (sym (limits_none N k w.limits))

        total : length image ≡ image_length (pages_in image) (slots_in image)
        total = rw (stored_pages, stored_slots) stored_length

    pub stored_layer : (q : ℕ) → q < N → slice_index_or (image_layers N image) q 0 ≡ slice_index_or layer q 0
    stored_layer q l =
        layers_at N image q l
        ∙ (ap (λ (m : ℕ). m % 128) (stored_mark q l) ∙ layer_of_mark (slice_index_or layer q 0) (seated held k q) (w.layers q l))

    pub stored_held : (s : ℕ) → s < k → slice_index_or (image_slots N k image) s no_page ≡ slice_index_or held s no_page
    stored_held s l = slots_at N k image s l ∙ (stored_slot s l ∙ number_bytes_2 (slot_at s) (w.slots s l))

    pub stored_priorities : (q : ℕ) → q < N → slice_index_or (image_priorities N k image) q 0 ≡ slice_index_or priority q 0
    stored_priorities q l =
        priorities_at N k image q l ∙ (stored_priority q l ∙ number_bytes_2 (priority_at q) (w.priorities q l))

    pub stored_agree : marks_agree N k image ≡ true
    unfolding marks_agree
    stored_agree = each_in N _ (λ q l. beq_in _ _ (same q l))
      where
        same : (q : ℕ) → q < N → nat_le 128 (slice_index_or image (36 + q) 0) ≡ seated (image_slots N k image) k q
        same q l =
            ap (nat_le 128) (stored_mark q l)
            ∙ (cached_of_mark (slice_index_or layer q 0) (seated held k q) (w.layers q l)
            ∙ sym (seated_same k q (image_slots N k image) held stored_held))

    -- a table that is as long as it should be, and clear from its end on, comes back whole
    pub stored_layer_table :
        length layer ≡ most_pages → ((q : ℕ) → N ≤ q → slice_index_or layer q 0 ≡ 0) → image_layers N image ≡ layer
    unfolding image_layers
    stored_layer_table size clear = whole most_pages N 0 _ layer w.limits.1 size stored_layer clear

    pub stored_slot_table :
        length held ≡ most_slots → ((s : ℕ) → k ≤ s → slice_index_or held s no_page ≡ no_page) → image_slots N k image ≡ held
    unfolding image_slots
    stored_slot_table size clear = whole most_slots k no_page _ held w.limits.3 size stored_held clear

    pub stored_priority_table :
        length priority ≡ most_pages → ((q : ℕ) → N ≤ q → slice_index_or priority q 0 ≡ 0) → image_priorities N k image ≡ priority
    unfolding image_priorities
    stored_priority_table size clear = whole most_pages N 0 _ priority w.limits.1 size stored_priorities clear

    pub stored_bytes : Bytes image
    unfolding header marks slots priorities
    stored_bytes =
        rw image_is
        (append_bytes header (marks ++ (slots ++ priorities)) (words_bytes 4 (image_header N k served hits misses best))
        (append_bytes marks (slots ++ priorities) (record { at = mark_byte_at })
        (append_bytes slots priorities (words_bytes 2 (listed k slot_at)) (words_bytes 2 (listed N priority_at)))))
      where
        mark_byte_at : (q : ℕ) → q < length (listed N mark_at) → slice_index_or (listed N mark_at) q 0 ≤ 255
        mark_byte_at q l =
            let page : q < N = rw (listed_length N mark_at) at l in
            rw (listed_entry N mark_at 0 q page) (mark_small (slice_index_or layer q 0) (seated held k q) (w.layers q page))

-- ---- read and stored again

-- a list in four adjoining parts, the last of which goes to its end
four_parts :
    (b : List ℕ) (at₁ at₂ at₃ n₁ n₂ n₃ : ℕ) →
    at₂ ≡ at₁ + n₁ →
    at₃ ≡ at₂ + n₂ →
    length b ≤ at₃ + n₃ →
    take at₁ (drop 0 b) ++ (take n₁ (drop at₁ b) ++ (take n₂ (drop at₂ b) ++ take n₃ (drop at₃ b))) ≡ b
four_parts b at₁ at₂ at₃ n₁ n₂ n₃ e f h =
    let rest : length (drop at₃ b) ≤ n₃ = rw length-drop (omega arith) in
    rw (take_all n₃ (drop at₃ b) rest, f, ← drop-drop n₂ at₂ b, take-append-drop n₂ (drop at₂ b), e, ← drop-drop n₁ at₁ b, take-append-drop n₁ (drop at₁ b))
    (take-append-drop at₁ b)

module _ (b : List ℕ) (byte : Bytes b) (accepted : image_refusal b ≡ 0) (agree : marks_agree (pages_in b) (slots_in b) b ≡ true) where
  abbrev N : ℕ
  N = pages_in b

  abbrev k : ℕ
  k = slots_in b

  read : Read b
  read = refusal_read b accepted

  -- the header's last three numbers are those of the layout
  header_read :
      image_header N k (word_at 4 b 8) (word_at 4 b 12) (word_at 4 b 16) (word_at 4 b 20)
      ≡ listed 9 (λ i. word_at 4 b (0 + 4 * i))
  unfolding image_header listed
  header_read = let o = read.offsets in rw (o.marks, o.slots, o.priorities)

  exact_header :
      words 4 (image_header N k (word_at 4 b 8) (word_at 4 b 12) (word_at 4 b 16) (word_at 4 b 20)) ≡ take 36 (drop 0 b)
  exact_header = ap (words 4) header_read ∙ words_word_at 4 9 b 0 (omega (arith, read.long)) byte

  exact_marks :
      listed N (λ q. mark_byte (slice_index_or (image_layers N b) q 0) (seated (image_slots N k b) k q)) ≡ take N (drop 36 b)
  unfolding marks_agree image_length
  exact_marks =
      listed_same N _ (λ q. slice_index_or b (36 + q) 0) same ∙ listed_part N b 36 0 (omega (arith, read.total))
    where
      same : (q : ℕ) → q < N → mark_byte (slice_index_or (image_layers N b) q 0) (seated (image_slots N k b) k q) ≡ slice_index_or b (36 + q) 0
      same q l =
          let cached : nat_le 128 (slice_index_or b (36 + q) 0) ≡ seated (image_slots N k b) k q = beq_true _ _ (each_true N _ agree q l) in
          rw (layers_at N b q l, ← cached) (mark_of_byte (slice_index_or b (36 + q) 0) (byte.at (36 + q) (omega (arith, read.total))))

  exact_slots : words 2 (listed k (λ s. slice_index_or (image_slots N k b) s no_page)) ≡ take (2 * k) (drop (36 + N) b)
  unfolding image_length
  exact_slots =
      ap (words 2) (listed_same k _ _ (slots_at N k b)) ∙ words_word_at 2 k b (36 + N) (omega (arith, read.total)) byte

  exact_priorities : words 2 (listed N (λ q. slice_index_or (image_priorities N k b) q 0)) ≡ take (2 * N) (drop (36 + N + 2 * k) b)
  unfolding image_length
  exact_priorities =
      ap (words 2) (listed_same N _ _ (priorities_at N k b))
      ∙ words_word_at 2 N b (36 + N + 2 * k) (omega (arith, read.total)) byte

  pub exact :
      image_bytes
      (pages_in b)
      (slots_in b)
      (word_at 4 b 8)
      (word_at 4 b 12)
      (word_at 4 b 16)
      (word_at 4 b 20)
      (image_layers (pages_in b) b)
      (image_priorities (pages_in b) (slots_in b) b)
      (image_slots (pages_in b) (slots_in b) b)
      ≡ b
  unfolding image_bytes image_length
  exact =
      rw (exact_header, exact_marks, exact_slots, exact_priorities)
      (four_parts b 36 (36 + N) (36 + N + 2 * k) N (2 * k) (2 * N) refl refl (omega (arith, read.total)))
