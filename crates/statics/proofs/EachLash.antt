-- The limits hold of each lash of a list.
use mathlib.Core.List.{List, ◌∷◌}
use Prim.Native.Nat.{ℕ, suc, ◌<◌}
use native.Mathlib.Omega.{arith}
use lib.ListN.{length, get_or}
use Rattle.sheet.specs.Layout.{blank_lash}
use Rattle.sheet.specs.declared.Lash.{Lash}
use Rattle.sheet.specs.Inner.Limits.{LashLimits}

pub record Each (n : ℕ) (ls : List Lash) : Type 0 where
  pub at : (j : ℕ) → j < length ls → LashLimits n (get_or ls j blank_lash)

pub each_first : {n : ℕ} {l : Lash} {ls : List Lash} → Each n (l ∷ ls) → LashLimits n l
each_first f = f.at 0 (omega arith)

pub each_rest : {n : ℕ} {l : Lash} {ls : List Lash} → Each n (l ∷ ls) → Each n ls
each_rest f = record { at = λ j h. f.at (suc j) (omega arith) }
