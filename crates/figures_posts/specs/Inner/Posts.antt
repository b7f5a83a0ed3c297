-- Contracts of inner functions: the rounding of a racking and the sums of the two posts of a level. Nothing here need be believed.
use Rattle.std.specs.Prelude.{cond, ℕ, ◌+◌, ◌-◌, ◌%◌, ◌^◌, ℤ, pos, neg_ℤ, ◌+ℤ◌, ◌-ℤ◌}
use Rattle.std.specs.Int.Signed.{lt_z}
use Rattle.statics.specs.declared.PostParts.{PostParts}
use Rattle.statics.specs.Inner.WholeNumbers.{racking_pad}

-- what is added to a racking before a shift rounds it down: its pad, away from zero, and from zero on a newton less one step
abbrev pub outward_of : ℤ → ℤ
outward_of part = cond (lt_z part (pos 0)) (neg_ℤ (pos racking_pad)) (pos (racking_pad + (2 ^ 18 - 1)))

-- the greater and the lesser of two signed numbers
abbrev pub greater_of : ℤ → ℤ → ℤ
greater_of x y = cond (lt_z x y) y x

abbrev pub lesser_of : ℤ → ℤ → ℤ
lesser_of x y = cond (lt_z y x) y x

-- the sums of the two posts, from half the weight above, the moment over the post spacing, and the vertical parts
abbrev pub lee_of : ℕ → ℤ → PostParts → ℤ
lee_of weight couple parts = pos weight +ℤ couple +ℤ pos parts.lee

abbrev pub windward_of : ℕ → ℤ → PostParts → ℤ
windward_of weight couple parts = pos weight -ℤ couple +ℤ pos parts.windward

-- a figure as four bytes hold it
abbrev pub word : ℕ → ℕ
word x = x % 2 ^ 32
