-- The error of each number found, in N, and that its pad covers it: comparisons of fractions that compute.
use Prim.Native.Nat.{ℕ}
use lib.IntN.{pos}
use Rattle.arith.specs.Fractions.{recip}
use Rattle.arith.proofs.Rationals.{ℚ, int, ◌+ℚ◌, ◌*ℚ◌, recipℚ, ◌≤ℚ◌, leℚ}
use Rattle.springs.proofs.Chain.{natℚ}
use Rattle.statics.specs.Posts.{post_spacing}
use Rattle.statics.specs.Inner.WholeNumbers.{lash_pad, along_pad, along_middle, racking_pad, post_pad}
use Rattle.statics.proofs.Scales.{cent, newtons}

-- the bounds on the shifts found: stiffness × shift error, summed over the lashes; and the error of a racking
abbrev pub shift_error_bound : ℚ
shift_error_bound = cent 5

abbrev pub force_bound : ℚ
force_bound = cent 5

-- what no lash holds more than, N: the load of the lowest tier (Bounds)
abbrev pub most_held : ℕ
most_held = 2440000

-- a lash's athwart part, for its shift error s: stiffness, shift and product are rounded
abbrev pub part_error : ℚ → ℚ
part_error s = s +ℚ newtons (pos 257)

-- its vertical part, LZ being at most 40 LY, by a reciprocal of LY
abbrev pub vertical_error : ℚ → ℚ
vertical_error s = natℚ 40 *ℚ part_error s +ℚ newtons (pos along_middle)

-- a racking rounded to 2^-18 N, and what a tier of 2,896 mm adds to the moment
abbrev pub rounded_racking_error : ℚ
rounded_racking_error = cent 6

abbrev pub tier_error : ℚ
tier_error = natℚ 2896 *ℚ rounded_racking_error

-- the vertical parts of 8 lashes
abbrev pub verticals_error : ℚ
verticals_error = cent 264

-- a post sum of n tiers: half the weight, the moment over the post spacing, the vertical parts
abbrev pub sum_error : ℚ → ℚ
sum_error n =
    newtons (pos 1) +ℚ (recipℚ (natℚ post_spacing) *ℚ (n *ℚ tier_error) +ℚ newtons (pos 1)) +ℚ verticals_error

abbrev pub post_error : ℚ
post_error = cent 341

pub racking_room : newtons (pos 1) +ℚ force_bound ≤ℚ rounded_racking_error
unfolding leℚ ◌+ℚ◌ ◌*ℚ◌ recipℚ recip int
racking_room = record { le = tt }

pub verticals_room : natℚ 40 *ℚ shift_error_bound +ℚ natℚ 8 *ℚ vertical_error (natℚ 0) ≤ℚ verticals_error
unfolding leℚ ◌+ℚ◌ ◌*ℚ◌ recipℚ recip int
verticals_room = record { le = tt }

pub post_room : sum_error (natℚ 10) ≤ℚ post_error
unfolding leℚ ◌+ℚ◌ ◌*ℚ◌ recipℚ recip int
post_room = record { le = tt }

-- the pads cover the errors, and lift a figure by little
pub lash_pad_lem : part_error shift_error_bound ≤ℚ newtons (pos lash_pad)
unfolding leℚ ◌+ℚ◌ ◌*ℚ◌ recipℚ recip int
lash_pad_lem = record { le = tt }

pub part_room : newtons (pos lash_pad) ≤ℚ natℚ 1
unfolding leℚ ◌*ℚ◌ recipℚ recip int
part_room = record { le = tt }

pub lash_over : part_error shift_error_bound +ℚ newtons (pos lash_pad) ≤ℚ natℚ 1
unfolding leℚ ◌+ℚ◌ ◌*ℚ◌ recipℚ recip int
lash_over = record { le = tt }

pub turned_over : natℚ 42 *ℚ (part_error shift_error_bound +ℚ newtons (pos lash_pad)) +ℚ newtons (pos along_pad) ≤ℚ natℚ 5
unfolding leℚ ◌+ℚ◌ ◌*ℚ◌ recipℚ recip int
turned_over = record { le = tt }

pub racking_pad_lem : rounded_racking_error ≤ℚ newtons (pos racking_pad)
unfolding leℚ ◌*ℚ◌ recipℚ recip int
racking_pad_lem = record { le = tt }

pub racking_over : rounded_racking_error +ℚ newtons (pos racking_pad) ≤ℚ natℚ 1
unfolding leℚ ◌+ℚ◌ ◌*ℚ◌ recipℚ recip int
racking_over = record { le = tt }

pub post_pad_lem : post_error ≤ℚ newtons (pos post_pad)
unfolding leℚ ◌*ℚ◌ recipℚ recip int
post_pad_lem = record { le = tt }

pub post_over : post_error +ℚ newtons (pos post_pad) ≤ℚ natℚ 7
unfolding leℚ ◌+ℚ◌ ◌*ℚ◌ recipℚ recip int
post_over = record { le = tt }
