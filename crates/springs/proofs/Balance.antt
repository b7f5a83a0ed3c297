-- The test of balance, level by level: what it says where it passes, and the spring over a level.
use mathlib.Core.Path.{◌≡◌, refl, sym, ap, subst}
use mathlib.Core.Bool.{Bool, true, false, not, cond, ◌&&◌}
use mathlib.Core.List.{List}
use Prim.Native.Nat.{ℕ, zero, suc, ◌+◌, ◌≤◌, ◌<◌}
use native.Mathlib.Omega.{arith}
use native.Mathlib.Decide.{ℕ_discrete}
use lib.Dec.{T, leb, leb→le}
use lib.ListN.{get_or}
use borrow.Author.Tests.{lt-ltb, le-ltb}
use Rattle.springs.specs.Inner.Balance.{spring_at, pulled, pushed, slack_at, level_in_balance, in_balance_to, in_balance}

pub spring_in : (n : ℕ) (k : List ℕ) (i : ℕ) → i < n → spring_at n k i ≡ get_or k i 0
spring_in n k i h = ap (λ b. cond b (get_or k i 0) 0) (lt-ltb i n h)

pub spring_top : (n : ℕ) (k : List ℕ) (i : ℕ) → n ≤ i → spring_at n k i ≡ 0
spring_top n k i h = ap (λ b. cond b (get_or k i 0) 0) (le-ltb i n h)

-- both of two tests
pub first : (a b : Bool) → a && b ≡ true → a ≡ true
first true b e = refl
first false b e = e

pub second : (a b : Bool) → a && b ≡ true → b ≡ true
second true b e = e
second false true e = refl
second false false e = e

-- a test denied
pub not_true : (b : Bool) → not b ≡ true → b ≡ false
not_true true e = sym e
not_true false e = refl

pub not_false : (b : Bool) → not b ≡ false → b ≡ true
not_false true e = refl
not_false false e = sym e

pub at_most : (x y : ℕ) → leb x y ≡ true → x ≤ y
at_most x y e = leb→le x y (subst T (sym e) tt)

-- a level in balance
pub record Level (n : ℕ) (k κ ω d : List ℕ) (i : ℕ) : Type 0 where
  pub high : pulled n k κ d i ≤ pushed n k ω d i + slack_at (get_or d (suc i) 0)
  pub low : pushed n k ω d i ≤ pulled n k κ d i + slack_at (get_or d (suc i) 0)

module _ (n : ℕ) (k κ ω d : List ℕ) where
  level : (i : ℕ) → level_in_balance n k κ ω d i ≡ true → Level n k κ ω d i
  level i e = record {
    high = at_most x (y + s) (first (leb x (y + s)) (leb y (x + s)) e);
    low = at_most y (x + s) (second (leb x (y + s)) (leb y (x + s)) e);
  }
    where
      x : ℕ
      x = pulled n k κ d i

      y : ℕ
      y = pushed n k ω d i

      s : ℕ
      s = slack_at (get_or d (suc i) 0)

  levels : (m i : ℕ) → i < m → in_balance_to n k κ ω d m ≡ true → Level n k κ ω d i
  unfolding in_balance_to
  levels zero i h e = absurd (omega arith)
  levels (suc m) i h e = go (ℕ_discrete i m) (λ l. levels m i l (second (level_in_balance n k κ ω d m) (in_balance_to n k κ ω d m) e))
    where
      go : Dec (i ≡ m) → (i < m → Level n k κ ω d i) → Level n k κ ω d i
      go (yes z) f = subst (Level n k κ ω d) (sym z) (level m (first (level_in_balance n k κ ω d m) (in_balance_to n k κ ω d m) e))
      go (no z) f = f (omega arith)

  -- where the test passes, each level is in balance
  pub all_levels : in_balance n k κ ω d ≡ true → (i : ℕ) → i < n → Level n k κ ω d i
  all_levels e i h = levels n i h e
