-- More than one third of a box's height shows above a row: by sums alone.
use Prim.Native.Nat.{ℕ, ◌+◌, ◌*◌, ◌-◌}
use mathlib.Core.Bool.{Bool, true, false}
use mathlib.Core.Path.{◌≡◌, refl, sym, ◌∙◌}
use native.Mathlib.Omega.{arith}
use borrow.Author.Tests.{ltb-true, ltb-false, lt-ltb, le-ltb}
use lib.Dec.{ltb}

pub shown : (height row top : ℕ) → ltb (height + 3 * row) (3 * top) ≡ ltb height (3 * (top - row))
shown height row top = go (ltb (height + 3 * row) (3 * top)) refl
  where
    go : (b : Bool) → ltb (height + 3 * row) (3 * top) ≡ b → ltb (height + 3 * row) (3 * top) ≡ ltb height (3 * (top - row))
    go true e =
        let h = ltb-true (height + 3 * row) (3 * top) e in
        e ∙ sym (lt-ltb height (3 * (top - row)) (omega arith))
    go false e =
        let h = ltb-false (height + 3 * row) (3 * top) e in
        e ∙ sym (le-ltb height (3 * (top - row)) (omega arith))
