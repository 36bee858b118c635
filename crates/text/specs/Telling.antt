-- Text that is told a piece behind another: what is left, told behind what is told already, makes the whole. Assumes nothing.
use Rattle.std.specs.Prelude.{Bool, true, false, List, [], ◌++◌, ◌≡◌, refl, ℕ, ◌+◌, ◌≤◌, length}
use Rattle.std.proofs.Common.{sym, ap, ◌∙◌, arith, length-append}
use Rattle.words.specs.Laws.{put_put, put_length, put_none}
use Rattle.text.specs.Told.{told_length, told_room, told_bytes}

told_more : (t : Bool) (a b : List ℕ) → told_length t (a ++ b) ≡ told_length t a + told_length t b
unfolding told_length
told_more true a b = length-append a b
told_more false a b = refl

told_size :
    (t w : Bool) (out : List ℕ) (at : ℕ) (a : List ℕ) →
    at + told_length t a ≤ told_room t w (length out) →
    length (told_bytes t w out at a) ≡ length out
unfolding told_length told_room told_bytes
told_size true true out at a h = put_length out at a h
told_size true false out at a h = refl
told_size false w out at a h = refl

told_then :
    (t w : Bool) (out : List ℕ) (at : ℕ) (a b : List ℕ) →
    at + told_length t a ≤ told_room t w (length out) →
    told_bytes t w (told_bytes t w out at a) (at + told_length t a) b ≡ told_bytes t w out at (a ++ b)
unfolding told_length told_room told_bytes
told_then true true out at a b h = put_put out at a b h
told_then true false out at a b h = refl
told_then false w out at a b h = refl

told_none : (t : Bool) → told_length t [] ≡ 0
unfolding told_length
told_none true = refl
told_none false = refl

told_nothing : (t w : Bool) (out : List ℕ) (at : ℕ) → told_bytes t w out at [] ≡ out
unfolding told_bytes
told_nothing true true out at = put_none out at
told_nothing true false out at = refl
told_nothing false w out at = refl

-- what is told at an offset is told there by any name that the offset has
pub told_from :
    (t w : Bool) (out a after : List ℕ) (from next : ℕ) → after ≡ told_bytes t w out from a → from ≡ next → after ≡ told_bytes t w out next a
told_from t w out a after from next h e = rw e at h

-- The offset in hand, moved by what is left, comes to where the whole ends; what is left, told behind what is told already, makes the
-- whole.
pub record Telling (t w : Bool) (before : List ℕ) (at : ℕ) (whole out : List ℕ) (next : ℕ) (left : List ℕ) : Type 0 where
  pub ends : next + told_length t left ≡ at + told_length t whole
  pub fits : at + told_length t whole ≤ told_room t w (length before)
  pub size : length out ≡ length before
  pub text : told_bytes t w out next left ≡ told_bytes t w before at whole

module _ (t w : Bool) (before : List ℕ) (at : ℕ) (whole : List ℕ) where
  pub begin : at + told_length t whole ≤ told_room t w (length before) → Telling t w before at whole before at whole
  begin h = record { ends = refl; fits = h; size = refl; text = refl }

module _ {t w : Bool} {before : List ℕ} {at : ℕ} {whole out : List ℕ} {next : ℕ} where
  -- the last piece has room
  pub last_room : {a : List ℕ} → Telling t w before at whole out next a → next + told_length t a ≤ told_room t w (length out)
  last_room now_is = rw now_is.size (omega (arith, now_is.ends, now_is.fits))

  -- the last piece makes the whole
  pub finish :
      {a : List ℕ} → Telling t w before at whole out next a → {then : ℕ} {after : List ℕ} →
      then ≡ next + told_length t a → after ≡ told_bytes t w out next a →
      (then ≡ at + told_length t whole) × (after ≡ told_bytes t w before at whole)
  finish now_is g h = (g ∙ now_is.ends, h ∙ now_is.text)

  -- with nothing left, what is told is the whole
  pub done : Telling t w before at whole out next [] → (next ≡ at + told_length t whole) × (out ≡ told_bytes t w before at whole)
  done now_is = (omega (arith, told_none t, now_is.ends), sym (told_nothing t w out next) ∙ now_is.text)

  module _ (a b : List ℕ) (now_is : Telling t w before at whole out next (a ++ b)) where
    -- the next piece has room
    pub next_room : next + told_length t a ≤ told_room t w (length out)
    next_room = rw now_is.size (omega (arith, told_more t a b, now_is.ends, now_is.fits))

    -- the next piece leaves the rest
    pub more :
        {then : ℕ} {after : List ℕ} → then ≡ next + told_length t a → after ≡ told_bytes t w out next a →
        Telling t w before at whole after then b
    more g h =
        record {
          ends = omega (arith, g, told_more t a b, now_is.ends);
          fits = now_is.fits;
          size = ap length h ∙ told_size t w out next a next_room ∙ now_is.size;
          text = rw (h, g) (told_then t w out next a b next_room ∙ now_is.text);
        }
