-- No two refusals have the same number, and none has 0, so that a number says all of what a test comes to. Assumes nothing.
use Rattle.std.specs.Prelude.{Bool, true, false, ℕ, zero, suc, ◌≡◌, ◌≤◌, refl, Option, Some, None, Result, Ok, Err}
use Rattle.std.proofs.Common.{sym, ap, ◌∙◌, rules, arith}
use Rattle.std.specs.Option.{is_some}
use Rattle.std.specs.Result.{is_err, result_err}
use Rattle.refusals.specs.Numbers.{number, named, told, given, number_in}
use Rattle.refusals.specs.declared.Refusal.{Refusal}
use Rattle.refusals.specs.declared.Refusal.TheVariants.{Unsound, Pages, Slots, StartLength, StartPage, StartRepeat, Priorities, NoSuchPage, AllServed}
use Rattle.refusals.specs.declared.Refusal.TheVariants.{Area, PageBytes, NotCached, Length, Requests, Offset, Room, NoVictim}

pub named_number : (r : Refusal) → named (number r) ≡ r
named_number Unsound = refl
named_number Pages = refl
named_number Slots = refl
named_number StartLength = refl
named_number StartPage = refl
named_number StartRepeat = refl
named_number Priorities = refl
named_number NoSuchPage = refl
named_number AllServed = refl
named_number Area = refl
named_number PageBytes = refl
named_number NotCached = refl
named_number Length = refl
named_number Requests = refl
named_number Offset = refl
named_number Room = refl
named_number NoVictim = refl

pub number_once : (r s : Refusal) → number r ≡ number s → r ≡ s
number_once r s e = sym (named_number r) ∙ (ap named e ∙ named_number s)

pub number_some : (r : Refusal) → number r ≡ 0 → ⊥
number_some Unsound e = search rules
number_some Pages e = search rules
number_some Slots e = search rules
number_some StartLength e = search rules
number_some StartPage e = search rules
number_some StartRepeat e = search rules
number_some Priorities e = search rules
number_some NoSuchPage e = search rules
number_some AllServed e = search rules
number_some Area e = search rules
number_some PageBytes e = search rules
number_some NotCached e = search rules
number_some Length e = search rules
number_some Requests e = search rules
number_some Offset e = search rules
number_some Room e = search rules
number_some NoVictim e = search rules

pub number_most : (r : Refusal) → number r ≤ 17
number_most Unsound = search rules
number_most Pages = search rules
number_most Slots = search rules
number_most StartLength = search rules
number_most StartPage = search rules
number_most StartRepeat = search rules
number_most Priorities = search rules
number_most NoSuchPage = search rules
number_most AllServed = search rules
number_most Area = search rules
number_most PageBytes = search rules
number_most NotCached = search rules
number_most Length = search rules
number_most Requests = search rules
number_most Offset = search rules
number_most Room = search rules
number_most NoVictim = search rules

pub told_once : (a b : Result Unit Refusal) → told a ≡ told b → a ≡ b
told_once (Ok _) (Ok _) e = refl
told_once (Ok _) (Err s) e = absurd (number_some s (sym e))
told_once (Err r) (Ok _) e = absurd (number_some r e)
told_once (Err r) (Err s) e = ap Err (number_once r s e)

-- ---- what a `?` knows of the test before it

pub told_passed : {T : Type 0} {a : Result T Refusal} {x : T} → a ≡ Ok x → told a ≡ 0
told_passed e = rw e

pub told_refused : {T : Type 0} {a : Result T Refusal} {r : Refusal} → a ≡ Err r → told a ≡ 0 → ⊥
told_refused {r = r} e z = number_some r (rw e at z)

pub told_on : {T U : Type 0} {a : Result T Refusal} {b : Result U Refusal} {r : Refusal} → a ≡ Err r → b ≡ Err r → told b ≡ told a
told_on e f = rw (e, f)

-- ---- the refusal of a number

named_from : (n : ℕ) → n ≤ 16 → number (named (suc n)) ≡ suc n
named_from zero l = refl
named_from (suc zero) l = refl
named_from (suc (suc zero)) l = refl
named_from (suc (suc (suc zero))) l = refl
named_from (suc (suc (suc (suc zero)))) l = refl
named_from (suc (suc (suc (suc (suc zero))))) l = refl
named_from (suc (suc (suc (suc (suc (suc zero)))))) l = refl
named_from (suc (suc (suc (suc (suc (suc (suc zero))))))) l = refl
named_from (suc (suc (suc (suc (suc (suc (suc (suc zero)))))))) l = refl
named_from (suc (suc (suc (suc (suc (suc (suc (suc (suc zero))))))))) l = refl
named_from (suc (suc (suc (suc (suc (suc (suc (suc (suc (suc zero)))))))))) l = refl
named_from (suc (suc (suc (suc (suc (suc (suc (suc (suc (suc (suc zero))))))))))) l = refl
named_from (suc (suc (suc (suc (suc (suc (suc (suc (suc (suc (suc (suc zero)))))))))))) l = refl
named_from (suc (suc (suc (suc (suc (suc (suc (suc (suc (suc (suc (suc (suc zero))))))))))))) l = refl
named_from (suc (suc (suc (suc (suc (suc (suc (suc (suc (suc (suc (suc (suc (suc zero)))))))))))))) l = refl
named_from (suc (suc (suc (suc (suc (suc (suc (suc (suc (suc (suc (suc (suc (suc (suc zero))))))))))))))) l = refl
named_from (suc (suc (suc (suc (suc (suc (suc (suc (suc (suc (suc (suc (suc (suc (suc (suc zero)))))))))))))))) l = refl
named_from (suc (suc (suc (suc (suc (suc (suc (suc (suc (suc (suc (suc (suc (suc (suc (suc (suc n))))))))))))))))) l = absurd (omega arith)

pub number_named : (n : ℕ) → n ≤ 17 → (n ≡ 0 → ⊥) → number (named n) ≡ n
number_named zero l ne = absurd (ne refl)
number_named (suc n) l ne = named_from n (omega arith)

-- ---- what is answered beside a value

pub given_some : (r : Refusal) (n : ℕ) → number r ≡ n → Some r ≡ given n
given_some r zero e = absurd (number_some r e)
given_some r (suc n) e = ap Some (sym (named_number r) ∙ ap named e)

pub none_given : (n : ℕ) → given n ≡ None → n ≡ 0
none_given zero e = refl
none_given (suc n) e = let o : ◌≡◌ {A = ℕ} (number (named (suc n))) 0 = ap number_in e in absurd (number_some (named (suc n)) o)

pub number_given : (n : ℕ) → n ≤ 17 → number_in (given n) ≡ n
number_given zero l = refl
number_given (suc n) l = named_from n (omega arith)

clash : {b : Bool} → b ≡ true → b ≡ false → ⊥
clash t f = let z : ◌≡◌ {A = Bool} true false = sym t ∙ f in search rules

-- ---- what a test for `Err` knows

pub told_fine : {T : Type 0} (a : Result T Refusal) → ((r : Refusal) → a ≡ Err r → ⊥) → told a ≡ 0
told_fine (Ok x) h = refl
told_fine (Err r) h = absurd (h r refl)

pub told_ok : {T : Type 0} (a : Result T Refusal) → is_err a ≡ false → told a ≡ 0
told_ok (Ok x) e = refl
told_ok (Err r) e = absurd (clash refl e)

pub told_err : {T : Type 0} (a : Result T Refusal) → is_err a ≡ true → told a ≡ 0 → ⊥
told_err (Ok x) e z = clash e refl
told_err (Err r) e z = number_some r z

-- ---- what a test for `Some` knows of what is answered beside a value

pub number_none : (o : Option Refusal) → ((r : Refusal) → o ≡ Some r → ⊥) → number_in o ≡ 0
number_none None h = refl
number_none (Some r) h = absurd (h r refl)

pub number_not_some : (o : Option Refusal) → is_some o ≡ false → number_in o ≡ 0
number_not_some None e = refl
number_not_some (Some r) e = absurd (clash refl e)

pub number_is_some : (o : Option Refusal) → is_some o ≡ true → number_in o ≡ 0 → ⊥
number_is_some None e z = clash e refl
number_is_some (Some r) e z = number_some r z

-- the refusal of a test is what it tells
pub number_of_err : (a : Result Unit Refusal) → number_in (result_err a) ≡ told a
number_of_err (Ok x) = refl
number_of_err (Err r) = refl
