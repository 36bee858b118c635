-- Document 01, 'Refusal numbers': the number of each refusal, and of what a test comes to. Assumes nothing.
use Rattle.std.specs.Prelude.{ℕ, [], ◌∷◌, zero, suc, slice_index_or, Option, Some, None, Result, Ok, Err}
use Rattle.refusals.specs.declared.Refusal.{Refusal}
use Rattle.refusals.specs.declared.Refusal.TheVariants.{Unsound, Pages, Slots, StartLength, StartPage, StartRepeat, Priorities, NoSuchPage, AllServed}
use Rattle.refusals.specs.declared.Refusal.TheVariants.{Area, PageBytes, NotCached, Length, Requests, Offset, Room, NoVictim}

abbrev pub number : Refusal → ℕ
number Unsound = 1
number Pages = 2
number Slots = 3
number StartLength = 4
number StartPage = 5
number StartRepeat = 6
number Priorities = 7
number NoSuchPage = 8
number AllServed = 9
number Area = 10
number PageBytes = 11
number NotCached = 12
number Length = 13
number Requests = 14
number Offset = 15
number Room = 16
number NoVictim = 17

-- The refusal that has a number, for the numbers 1 to 17.
abbrev pub named : ℕ → Refusal
named n =
    slice_index_or
    (NoVictim ∷ Unsound ∷ Pages ∷ Slots ∷ StartLength ∷ StartPage ∷ StartRepeat ∷ Priorities ∷ NoSuchPage ∷ AllServed ∷ Area ∷ PageBytes ∷ NotCached ∷ Length ∷ Requests ∷ Offset ∷ Room ∷ NoVictim ∷ [])
    n
    NoVictim

-- 0 where nothing is refused.
abbrev pub told : {T : Type 0} → Result T Refusal → ℕ
told (Ok _) = 0
told (Err r) = number r

-- What is answered beside a value: the refusal that a number stands for, none for 0.
abbrev pub given : ℕ → Option Refusal
given zero = None
given (suc n) = Some (named (suc n))

-- The number of that: 0 for none.
abbrev pub number_in : Option Refusal → ℕ
number_in None = 0
number_in (Some r) = number r
