-- A test of numbers one behind another, from number i on.
use Prim.Native.Nat.{ℕ, zero, suc, ◌+◌, ◌-◌, ◌<◌, ◌≤◌}
use mathlib.Core.Bool.{Bool, true, false}
use mathlib.Core.Path.{◌≡◌, refl}
use native.Mathlib.Numerals.{add-one}
use native.Mathlib.Omega.{arith}
use Rattle.arith.specs.Lists.{from, below}
use Rattle.side_walls.specs.SideWalls.{any_of}

module _ (f : ℕ → Bool) (n : ℕ) where
  abbrev pub any_from : ℕ → Bool
  any_from i = any_of f (from i (n - i))

  pub any_all : any_from 0 ≡ any_of f (below n)
  any_all = let e : n - 0 ≡ n = omega arith in rw e refl

  one_less : (i : ℕ) → i < n → n - i ≡ suc (n - suc i)
  one_less i h = omega arith

  pub any_here : (i : ℕ) → i < n → f i ≡ true → any_from i ≡ true
  unfolding any_of from
  any_here i h e = rw (one_less i h, e) refl

  pub any_later : (i : ℕ) → i < n → f i ≡ false → any_from i ≡ any_from (i + 1)
  unfolding any_of from
  any_later i h e = rw (one_less i h, e, add-one i) refl

  pub any_end : (i : ℕ) → n ≤ i → any_from i ≡ false
  unfolding any_of from
  any_end i h = let e : n - i ≡ 0 = omega arith in rw e refl

-- tests that agree
any_same_from : (f g : ℕ → Bool) (i left : ℕ) → ((j : ℕ) → j < i + left → f j ≡ g j) → any_of f (from i left) ≡ any_of g (from i left)
unfolding any_of from
any_same_from f g i zero h = refl
any_same_from f g i (suc left) h =
    rw (h i (omega arith), any_same_from f g (suc i) left (λ j q. h j (omega (arith, q)))) refl

pub any_same : (f g : ℕ → Bool) (n : ℕ) → ((j : ℕ) → j < n → f j ≡ g j) → any_of f (below n) ≡ any_of g (below n)
any_same f g n h = any_same_from f g 0 n (λ j q. h j (omega (arith, q)))
