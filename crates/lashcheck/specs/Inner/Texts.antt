-- Contracts of inner functions; nothing here need be believed.
use Rattle.std.specs.Prelude.{ℕ, ◌+◌, ◌≤◌, List, ◌++◌, ◌≡◌, length, take, drop, Result, Ok, Err}
use Rattle.lashcheck.specs.Lines.{Decimal}

-- how many bytes reading gave
abbrev pub counted : {E : Type 0} → Result ℕ E → ℕ
counted (Ok n) = n
counted (Err e) = 0

-- a number in decimal stands in a buffer from `at` up to `behind`, and the rest is as it was
pub record Put (n at behind : ℕ) (before after : List ℕ) : Type 0 where
  pub text : List ℕ
  pub in_decimal : Decimal n text
  pub ends : behind ≡ at + length text
  pub short : length text ≤ 20
  pub stored : after ≡ take at before ++ text ++ drop behind before
