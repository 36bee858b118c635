-- Document 01, 'House layouts': a stored run. `layer`, `priority` and `held` are a run's tables. Assumes nothing.
use Rattle.std.specs.Prelude.{Bool, ◌&&◌, List, [], ◌∷◌, ◌++◌, ℕ, ◌+◌, ◌*◌, ◌%◌, length, slice_index_or}
use Rattle.std.specs.Bool.{beq}
use Rattle.paging.specs.Sets.{◌=?◌, ◌≤?◌, unless◌give◌else◌, bit, each, listed, table}
use Rattle.words.specs.Words.{words, word_at}
use Rattle.slots.specs.Slots.{no_page, seated}
use Rattle.begin.specs.Limits.{most_pages, most_slots, limits_refusal}

-- A mark byte has the layer in bits 0 to 6 and cached in bit 7.
unfoldable pub mark_byte : ℕ → Bool → ℕ
mark_byte layer cached = layer + 128 * bit cached

-- N, k, served, hits, misses, best, offset of marks (36), of slots (36+N), of priorities (36+N+2k); total 36+3N+2k.
unfoldable pub image_header : ℕ → ℕ → ℕ → ℕ → ℕ → ℕ → List ℕ
image_header N k served hits misses best =
    N ∷ k ∷ served ∷ hits ∷ misses ∷ best ∷ 36 ∷ (36 + N) ∷ (36 + N + 2 * k) ∷ []

unfoldable pub image_length : ℕ → ℕ → ℕ
image_length N k = 36 + 3 * N + 2 * k

-- All header numbers are 32-bit and all list entries 16-bit, low byte first; sections adjoin. The slot list gives each slot's page.
unfoldable pub image_bytes : ℕ → ℕ → ℕ → ℕ → ℕ → ℕ → List ℕ → List ℕ → List ℕ → List ℕ
image_bytes N k served hits misses best layer priority held =
    words 4 (image_header N k served hits misses best)
    ++ (listed N (λ q. mark_byte (slice_index_or layer q 0) (seated held k q))
    ++ (words 2 (listed k (λ s. slice_index_or held s no_page))
    ++ words 2 (listed N (λ q. slice_index_or priority q 0))))

-- ---- reading

abbrev pub pages_in : List ℕ → ℕ
pages_in b = word_at 4 b 0

abbrev pub slots_in : List ℕ → ℕ
slots_in b = word_at 4 b 4

-- The header's three offsets are those of the layout.
unfoldable pub offsets_right : List ℕ → Bool
offsets_right b =
    word_at 4 b 24 =? 36
    && word_at 4 b 28 =? 36 + pages_in b
    && word_at 4 b 32 =? 36 + pages_in b + 2 * slots_in b

-- Image reader, before its run is looked at: 13 (under 36), 2, 3, 15, 13 (total). 0 where none applies.
unfoldable pub image_refusal : List ℕ → ℕ
image_refusal b =
    unless 36 ≤? length b give 13 else
    unless limits_refusal (pages_in b) (slots_in b) =? 0 give limits_refusal (pages_in b) (slots_in b) else
    unless offsets_right b give 15 else
    unless length b =? image_length (pages_in b) (slots_in b) give 13 else
    0

-- The tables of the run in an image, for N pages and k slots.
unfoldable pub image_layers : ℕ → List ℕ → List ℕ
image_layers N b = table most_pages N 0 (λ q. slice_index_or b (36 + q) 0 % 128)

unfoldable pub image_slots : ℕ → ℕ → List ℕ → List ℕ
image_slots N k b = table most_slots k no_page (λ s. word_at 2 b (36 + N + 2 * s))

unfoldable pub image_priorities : ℕ → ℕ → List ℕ → List ℕ
image_priorities N k b = table most_pages N 0 (λ q. word_at 2 b (36 + N + 2 * k + 2 * q))

-- A mark says cached exactly where a slot holds the page. Unequal marks and slots make the run unsound.
unfoldable pub marks_agree : ℕ → ℕ → List ℕ → Bool
marks_agree N k b = each N (λ q. beq (128 ≤? slice_index_or b (36 + q) 0) (seated (image_slots N k b) k q))
