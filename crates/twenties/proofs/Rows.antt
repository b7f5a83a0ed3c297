-- The row that is taken, what it permits and how much that can be, and the entry that stands for the misprint.
use Prim.Native.Nat.{ℕ, ◌-◌, ◌*◌, ◌≤◌}
use mathlib.Core.Path.{refl}
use native.Mathlib.Nat.{le_refl, mul-le-mul}
use native.Mathlib.Omega.{arith}
use Rattle.twenties.specs.Tables.{table52, table53}
use Rattle.twenties.specs.Judgements.{row_taken, entry, permitted}
use Rattle.twenties.specs.Theorems.{RowsTaken, NoMorePermitted, Misprint}
use Rattle.twenties.proofs.Falling.{falling, most}

pub row_taken_lem : RowsTaken
row_taken_lem a low high = record { not_below = omega arith; first = omega arith; there = omega arith }

pub no_more_permitted : NoMorePermitted
no_more_permitted table a b tiers h =
    let rows : row_taken a ≤ row_taken b = omega arith in
    let entries = falling table (row_taken a) (row_taken b) tiers tiers rows (le_refl tiers) in
    mul-le-mul (mul-le-mul entries (le_refl 100)) (le_refl (tiers - 1))

pub permitted_most : (table acceleration tiers : ℕ) → tiers ≤ 11 → permitted table acceleration tiers ≤ 422000
permitted_most table acceleration tiers h =
    let low : entry table (row_taken acceleration) tiers * 100 ≤ 42200 = omega (arith, most table (row_taken acceleration) tiers) in
    let few : tiers - 1 ≤ 10 = omega arith in
    mul-le-mul low few

pub misprint : Misprint
unfolding entry table52 table53
misprint = record { before = refl; used = refl; next = refl }
