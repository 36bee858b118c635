-- This paper's number and values for each case of an event. Assumes nothing.
use Rattle.std.specs.Prelude.{ℕ}
use Rattle.refusals.specs.Numbers.{number}
use Rattle.serve.specs.declared.Event.{Event}
use Rattle.serve.specs.declared.Event.TheVariants.{Hit, Miss, Refused}

-- `refusal` is the refusal number, 0 where the request is served; `miss` is 1 on a miss. Every value that a case lacks is 0.
pub record Values : Type 0 where
  pub refusal : ℕ
  pub miss : ℕ
  pub slot : ℕ
  pub victim : ℕ

-- Answer of a request or trial: hit with slot, or miss with slot and victim.
unfoldable pub values : Event → Values
values (Hit s) = record { refusal = 0; miss = 0; slot = s; victim = 0 }
values (Miss s v) = record { refusal = 0; miss = 1; slot = s; victim = v }
values (Refused n) = record { refusal = number n; miss = 0; slot = 0; victim = 0 }
