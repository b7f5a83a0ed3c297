-- Which bits of the number that lash_twenties returns hold its verdict. The first number is in the low 8 bits.
use Rattle.std.specs.Prelude.{ℕ, ◌/◌, ◌%◌, ◌^◌, cond, ◌≡◌}
use Rattle.twenties.specs.declared.Verdict.{Verdict}

-- a verdict: 0, then bit 8 set for yes, bits 16 to 39 the total, bits 40 to 63 the permitted mass; the bits between are 0
pub record VerdictIn (v : Verdict) (r : ℕ) : Type 0 where
  pub number : r % 2 ^ 8 ≡ 0
  pub yes : r / 2 ^ 8 % 2 ^ 8 ≡ cond v.yes 1 0
  pub total : r / 2 ^ 16 % 2 ^ 24 ≡ v.total
  pub permitted : r / 2 ^ 40 ≡ v.permitted
