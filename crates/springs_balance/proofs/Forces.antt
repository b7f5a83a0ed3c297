-- What is left of the forces on a level, with their signs: its size, and its test, which is that of the definition.
use mathlib.Core.Path.{◌≡◌, refl, ap, ◌∙◌}
use mathlib.Core.Bool.{Bool, true, false, ◌&&◌}
use Prim.Native.Nat.{ℕ, ◌+◌, ◌*◌, ◌-◌, ◌/◌, ◌^◌, ◌≤◌}
use native.Mathlib.Omega.{arith}
use borrow.Author.Tests.{leb-true, leb-false}
use lib.Dec.{leb, lit≤}
use lib.IntN.{ℤ, pos, nat_abs, ◌+ℤ◌, ◌-ℤ◌}
use Rattle.arith.specs.Inner.Sizes.{Small}
use Rattle.arith.proofs.Rings.{∀₆, by_ring}
use Rattle.arith.proofs.Integers.{ℤR}
use Rattle.arith.proofs.IntegerTerms.{zq}
use Rattle.arith.proofs.IntegerOmega.{distance}
use Rattle.arith.proofs.Sizes.{small_weaken, small_pos, small_add, small_sub}
use Rattle.springs.specs.Inner.Promise.{farthest, most_loaded}
use Rattle.springs.specs.Inner.Balance.{allowed, slack_at, alike, most_force}

-- what is left of the forces on a level, step by step
module _ {under over : ℤ} (su : Small (2 * most_force) under) (so : Small (2 * most_force) over) where
  pub between_small : Small (4 * most_force) (under -ℤ over)
  between_small = small_weaken (small_sub su so) (lit≤ tt)

  module _ {h : ℕ} (hh : h ≤ 620000 * farthest) where
    pub held_small : Small (2 ^ 60) (under -ℤ over +ℤ pos h)
    held_small = small_weaken (small_add between_small (small_pos hh)) (lit≤ tt)

    pub left_small : {w : ℕ} → w ≤ most_loaded → Small (2 ^ 61) (under -ℤ over +ℤ pos h -ℤ pos w)
    left_small hw = small_weaken (small_sub held_small (small_pos hw)) (lit≤ tt)

-- two tests within a slack are one of the difference
one_test : (x y e : ℕ) → e ≤ allowed → leb (x - y + (y - x) + e) allowed ≡ alike x y (allowed - e)
one_test x y e h = go (leb (x - y + (y - x) + e) allowed) (leb x (y + (allowed - e))) (leb y (x + (allowed - e))) refl refl refl
  where
    go :
        (a b c : Bool) →
        leb (x - y + (y - x) + e) allowed ≡ a →
        leb x (y + (allowed - e)) ≡ b →
        leb y (x + (allowed - e)) ≡ c →
        a ≡ (b && c)
    go true true true p q r = refl
    go false false c p q r = refl
    go false true false p q r = refl
    go true false c p q r =
        absurd (omega (arith, leb-true (x - y + (y - x) + e) allowed p, leb-false x (y + (allowed - e)) q))
    go true true false p q r =
        absurd (omega (arith, leb-true (x - y + (y - x) + e) allowed p, leb-false y (x + (allowed - e)) r))
    go false true true p q r =
        absurd (omega (
          arith,
          leb-false (x - y + (y - x) + e) allowed p,
          leb-true x (y + (allowed - e)) q,
          leb-true y (x + (allowed - e)) r,
        ))

-- what is left of forces: the spring under a level holds it with u - l, the one over it pushes it with a - b, h holds and w pushes it
gathered : (u l a b h w : ℤ) → u -ℤ l -ℤ (a -ℤ b) +ℤ h -ℤ w ≡ u +ℤ b +ℤ h -ℤ (l +ℤ a +ℤ w)
gathered = ∀₆ ℤR _ λ ρ. simp zq (by_ring tt)

pub tested_left :
    (u l a b h w d : ℕ) →
    d ≤ farthest →
    leb (nat_abs (pos u -ℤ pos l -ℤ (pos a -ℤ pos b) +ℤ pos h -ℤ pos w) + d / 2 ^ 20) allowed ≡ alike (u + b + h) (l + a + w) (slack_at d)
unfolding slack_at
tested_left u l a b h w d far =
    ap (λ (n : ℕ). leb (n + d / 2 ^ 20) allowed)
    (ap nat_abs (gathered (pos u) (pos l) (pos a) (pos b) (pos h) (pos w)) ∙ distance (u + b + h) (l + a + w))
    ∙ one_test (u + b + h) (l + a + w) (d / 2 ^ 20) (omega (arith, far))
