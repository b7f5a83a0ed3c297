-- The length of a lash is the least root that document 01 asks for, at most 22,913 mm and no more than 42 times the lash's width.
use mathlib.Core.Path.{◌≡◌, refl, sym, subst}
use mathlib.Core.Bool.{Bool, true, false, not, cond}
use Prim.Native.Nat.{ℕ, zero, suc, ◌+◌, ◌*◌, ◌≤◌, ◌<◌}
use native.Mathlib.Omega.{arith}
use native.Mathlib.Nat.{mul-le-mul}
use lib.Dec.{T, leb, leb→le, nleb→lt}
use Rattle.arith.specs.Inner.Roots.{Least}
use Rattle.sheet.specs.declared.Lash.{Lash}
use Rattle.statics.specs.Lashes.{least_from, squares, lash_length}
use Rattle.sheet.specs.Inner.Limits.{LashLimits}

-- no number below k is a root of s, and k + more is
least_from_lem : (s k more : ℕ) → ((j : ℕ) → s ≤ j * j → k ≤ j) → s ≤ (k + more) * (k + more) → Least s (least_from s k more)
unfolding least_from
least_from_lem s k zero below end = record { enough = omega (arith, end); least = below }
least_from_lem s k (suc more) below end = go (leb s (k * k)) refl (least_from_lem s (suc k) more)
  where
    go :
        (b : Bool) →
        leb s (k * k) ≡ b →
        (((j : ℕ) → s ≤ j * j → suc k ≤ j) → s ≤ (suc k + more) * (suc k + more) → Least s (least_from s (suc k) more)) →
        Least s (cond b k (least_from s (suc k) more))
    go true e rest = record { enough = leb→le s (k * k) (subst T (sym e) tt); least = below }
    go false e rest = rest above (omega (arith, end))
      where
        small : k * k < s
        small = nleb→lt s (k * k) (subst (λ b. T (not b)) (sym e) tt)

        clash : (j : ℕ) → s ≤ j * j → j ≤ k → ⊥
        clash j h l = omega (arith, small, mul-le-mul l l)

        above : (j : ℕ) → s ≤ j * j → suc k ≤ j
        above j h = omega (arith, clash j h)

square_up : (s : ℕ) → s ≤ s * s
square_up zero = omega arith
square_up (suc s) = omega arith

pub length_least : (l : Lash) → Least (squares l) (lash_length l)
unfolding lash_length
length_least l = least_from_lem (squares l) 0 (squares l) (λ j h. omega arith) (omega (arith, square_up (squares l)))

-- a least root is the length
pub length_is : (l : Lash) (r : ℕ) → Least (squares l) r → r ≡ lash_length l
length_is l r h =
    omega (arith, h.least (lash_length l) (length_least l).enough, (length_least l).least r h.enough)

module _ {n : ℕ} {l : Lash} (f : LashLimits n l) where
  pub length_above : 0 < lash_length l
  length_above = go (lash_length l) (length_least l).enough f.ly
    where
      go : (k : ℕ) → squares l ≤ k * k → 500 ≤ l.ly → 0 < k
      go zero h y = omega (arith, mul-le-mul y y)
      go (suc k) h y = omega arith

  pub length_most : lash_length l ≤ 22913
  length_most =
      let x = mul-le-mul f.lx f.lx in
      let y = mul-le-mul f.ly_most f.ly_most in
      let z = mul-le-mul f.lz_most f.lz_most in
      (length_least l).least 22913 (omega (arith, x, y, z))

  pub length_ratio : lash_length l ≤ 42 * l.ly
  length_ratio =
      (length_least l).least (42 * l.ly)
      (omega (arith, mul-le-mul f.lx f.lx, mul-le-mul f.lz_most f.lz_most, mul-le-mul f.ly f.ly))

  pub vertical_ratio : l.lz ≤ 40 * l.ly
  vertical_ratio = omega (arith, f.ly, f.lz_most)
