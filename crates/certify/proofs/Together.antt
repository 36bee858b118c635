-- The parts of the test put together: the certificate over the tables that the code makes, and all clauses. Assumes nothing.
use mathlib.Core.Bool.{Bool, true, false, ◌||◌}
use mathlib.Core.List.{List}
use mathlib.Core.Path.{◌≡◌, sym, ap, ◌∙◌}
use Prim.Native.Nat.{ℕ, suc, ◌≤◌, ◌<◌}
use native.Mathlib.Omega.{arith}
use lib.Dec.{eqb, leb, ltb}
use lib.ListN.{get_or}
use Rattle.paging.specs.Sets.{each, table}
use Rattle.paging.specs.Tests.{clash, isnt, same_test}
use Rattle.paging.specs.Words.{each_true, each_in}
use Rattle.paging.specs.Tables.{table_at}
use Rattle.ranking.specs.Key.{key_at}
use Rattle.slots.specs.Slots.{seated, near_of, keys_of, near_to}
use Rattle.certify.specs.Test.{room, bar_key, none_late, certificate}
use Rattle.certify.specs.ByLayer.{Tabled}
use Rattle.certify.specs.Tables.{tables_sound}
use Rattle.certify.specs.Laws.{Parts, sound_parts}
use Rattle.certify.proofs.Passes.{refused, granted, stop_left, go_on, timely, roomy}
use Rattle.certify.proofs.LayerBars.{count_at}

-- ---- the certificate

each_same : (n : ℕ) (f g : ℕ → Bool) → ((q : ℕ) → q < n → f q ≡ g q) → each n f ≡ each n g
each_same n f g h =
    same_test
    (each n f)
    (each n g)
    (λ e. each_in n g (λ q l. sym (h q l) ∙ each_true n f e q l))
    (λ e. each_in n f (λ q l. h q l ∙ each_true n g e q l))

-- the tables that the code has made for `none_late`; `pages` has the key of each page
pub record Made (N k : ℕ) (layer pages held near keys bars : List ℕ) (marks : List Bool) : Type 0 where
  pub by_near : near ≡ near_of layer held k
  pub by_key : keys ≡ keys_of (key_at pages) held k
  pub by_bar : bars ≡ table 65 (suc k) 0 (bar_key near keys k)
  pub by_mark : marks ≡ table 1024 N false (seated held k)
  pub bounded : (q : ℕ) → q < N → get_or layer q 0 ≤ k

module _
    (N k : ℕ)
    (layer pages held near keys bars : List ℕ)
    (marks : List Bool)
    (w : Made N k layer pages held near keys bars marks)
  where
    abbrev near₀ : List ℕ
    near₀ = near_of layer held k

    abbrev keys₀ : List ℕ
    keys₀ = keys_of (key_at pages) held k

    late_is : each N (timely marks layer pages bars) ≡ none_late N k layer (key_at pages) (seated held k) near₀ keys₀
    unfolding none_late
    late_is = each_same N (timely marks layer pages bars) late page
      where
        late : ℕ → Bool
        late q =
            seated held k q
            || eqb (get_or layer q 0) 0
            || ltb (key_at pages q) (bar_key near₀ keys₀ k (get_or layer q 0))

        marked : (q : ℕ) → q < N → get_or marks q false ≡ seated held k q
        marked q l = rw w.by_mark (table_at 1024 N false (seated held k) q l)

        bar : (i : ℕ) → i ≤ k → get_or bars i 0 ≡ bar_key near₀ keys₀ k i
        bar i l = rw (w.by_bar, w.by_near, w.by_key) (table_at 65 (suc k) 0 (bar_key near₀ keys₀ k) i (omega arith))

        page : (q : ℕ) → q < N → timely marks layer pages bars q ≡ late q
        page q l = rw (marked q l, bar (get_or layer q 0) (w.bounded q l))

    pub certificate_not :
        (r : Bool) →
        r ≡ each N (timely marks layer pages bars) →
        r ≡ false →
        false ≡ certificate N k layer (key_at pages) held
    unfolding certificate
    certificate_not r e h = stop_left _ _ (refused r _ (e ∙ late_is) h)

    pub certificate_is :
        (counts lows : List ℕ) (t r : Bool) →
        Tabled near keys k counts lows →
        t ≡ each N (timely marks layer pages bars) →
        t ≡ true →
        r ≡ each (suc k) (roomy counts) →
        r ≡ certificate N k layer (key_at pages) held
    unfolding certificate room
    certificate_is counts lows t r v e h er =
        go_on r _ _ (granted t _ (e ∙ late_is) h) (er ∙ (room_is ∙ ap (λ (l : List ℕ). room l k) w.by_near))
      where
        room_is : each (suc k) (roomy counts) ≡ room near k
        room_is =
            each_same
            (suc k)
            (roomy counts)
            (λ j. leb (near_to near k j) j)
            (λ j l. ap (λ (n : ℕ). leb n j) (count_at near keys k counts lows v j (omega arith)))

-- ---- all clauses

pub unsound :
    (N k : ℕ) (layer held : List ℕ) (b : Bool) →
    ((o : ℕ → ℕ → Bool) → Parts N k o layer held → b ≡ true) →
    false ≡ b →
    (o : ℕ → ℕ → Bool) →
    false ≡ tables_sound N k o layer held
unsound N k layer held b part e o =
    sym (isnt (tables_sound N k o layer held) (λ t. clash (part o (sound_parts N k o layer held t)) (sym e)))
