-- The stiffness of a level's lashes, in whole numbers: one unit a lash below the exact one, and at most 155,000 N/mm a lash.
use mathlib.Core.Bool.{Bool, true, false, cond}
use mathlib.Core.List.{List, [], ◌∷◌}
use Prim.Native.Nat.{ℕ, ◌+◌, ◌*◌, ◌^◌, ◌≤◌}
use native.Mathlib.Omega.{arith}
use lib.Dec.{eqb}
use Rattle.sheet.specs.Lashings.{level_of}
use Rattle.sheet.specs.Inner.Limits.{at_level}
use Rattle.arith.specs.Fractions.{nat, sumq}
use Rattle.springs.specs.Equations.{given, stiffness_at}
use Rattle.springs.specs.Inner.Promise.{Rounded}
use Rattle.springs.proofs.Inputs.{rounded_none, rounded_sum}
use Rattle.sheet.specs.declared.Lash.{Lash}
use Rattle.statics.specs.Lashes.{athwart_part}
use Rattle.statics.specs.Ends.{chain_lash, chain_lashes}
use Rattle.statics.specs.Inner.WholeNumbers.{stiffness_of, level_stiffness}
use Rattle.statics.proofs.EachLash.{Each, each_first, each_rest}
use Rattle.statics.proofs.LashLength.{length_above}
use Rattle.statics.proofs.LashForces.{stiffness_rounded}
use Rattle.statics.proofs.LashStiffness.{stiffness_most}

pub level_most : (n : ℕ) (ls : List Lash) → Each n ls → (i : ℕ) → level_stiffness ls i ≤ at_level i ls * (155000 * 2 ^ 22)
unfolding level_stiffness at_level
level_most n [] f i = omega arith
level_most n (l ∷ ls) f i = sum (eqb i (level_of l)) (stiffness_most l (each_first f)) (level_most n ls (each_rest f) i)
  where
    sum : (c : Bool) →
        stiffness_of l ≤ 155000 * 2 ^ 22 →
        level_stiffness ls i ≤ at_level i ls * (155000 * 2 ^ 22) →
        cond c (stiffness_of l) 0 + level_stiffness ls i ≤ (cond c 1 0 + at_level i ls) * (155000 * 2 ^ 22)
    sum true h more = omega arith
    sum false h more = omega arith

pub level_rounded :
    (n : ℕ) (ls : List Lash) →
    Each n ls →
    (i : ℕ) →
    Rounded (2 ^ 22) (at_level i ls) (level_stiffness ls i) (stiffness_at (chain_lashes ls) i)
unfolding level_stiffness at_level chain_lash sumq
level_rounded n [] f i = rounded_none (2 ^ 22)
level_rounded n (l ∷ ls) f i =
    rounded_sum _ _ _ _ _ _ _ (mine (eqb i (level_of l)) (stiffness_rounded l (length_above (each_first f))))
    (level_rounded n ls (each_rest f) i)
  where
    mine :
        (c : Bool) →
        Rounded (2 ^ 22) 1 (stiffness_of l) (athwart_part l (nat 1)) →
        Rounded (2 ^ 22) (cond c 1 0) (cond c (stiffness_of l) 0) (given c (athwart_part l (nat 1)))
    mine true h = h
    mine false h = rounded_none (2 ^ 22)
