-- The search by halving: what one comparison leaves, and why nine are enough.
use Prim.Native.Nat.{ℕ, ◌+◌, ◌-◌, ◌*◌, ◌^◌, ◌≤◌, ◌<◌}
use mathlib.Core.Bool.{true}
use mathlib.Core.Path.{◌≡◌, subst}
use native.Mathlib.Nat.{mul-le-mul, mul-le-mul_right, pow-le-pow_right, pow-succ'}
use native.Mathlib.Numerals.{add-one}
use native.Mathlib.Omega.{arith}
use lib.Dec.{lit≤}
use mir.Syntax.{w64}
use mir.Val.{Fits}
use borrow.Author.Tests.{le-leb, lt-leb}
use Rattle.forecast_factor.specs.Factor.{enough, factor}
use Rattle.forecast_factor.specs.Theorems.{Kept}
use Rattle.forecast_factor.specs.Inner.Search.{Between, Halved}
use Rattle.forecast_factor.proofs.Enough.{not_before, kept, same}

-- what is compared fits 64 bits
pub wave_most : {h : ℕ} → h ≤ 65535 → h * h ≤ 4294836225
wave_most l = omega (arith, mul-le-mul l l)

pub above_square : (u : ℕ) → u ≤ 1000 → Fits w64 (u * u)
above_square u l = omega (arith, mul-le-mul l l)

pub above_product : (u b : ℕ) → u ≤ 1000 → b ≤ 65535 → Fits w64 (u * u * b)
above_product u b l m = omega (arith, mul-le-mul (mul-le-mul l l) m)

-- half of the width at twice the power
half : (w v c : ℕ) → 2 * v ≤ w → w * 2 ^ c ≤ 400 → v * 2 ^ (c + 1) ≤ 400
half w v c l few = rw (add-one c, pow-succ' 2 c) (omega (arith, mul-le-mul_right (2 ^ c) l))

module _ {h b least most compared : ℕ} (left : least < most) (is : Between h b least most) (halved : Halved least most compared) where
  pub below_nine : compared < 9
  below_nine = omega (arith, clash)
    where
      one : 1 ≤ most - least
      one = omega arith

      clash : 9 ≤ compared → ⊥
      clash l =
          let power : 2 ^ 9 ≤ 2 ^ compared = pow-le-pow_right (omega arith) l in
          omega (arith, power, mul-le-mul_right (2 ^ compared) one, halved.few)

  -- a number m that is compared: at most half is left on either side of it
  module _ (m : ℕ) (from : least ≤ m) where
    pub lower :
        m ≤ most →
        2 * (m - least) ≤ most - least →
        2500 * (h * h) ≤ (m - 400) * (m - 400) * b →
        Between h b least m × Halved least m (compared + 1)
    unfolding enough
    lower to few e = (
      record {
        low = is.low;
        ordered = from;
        high = omega (arith, is.high);
        reached = λ l. le-leb _ _ e;
        none_less = is.none_less;
      },
      record { few = half (most - least) (m - least) compared few halved.few },
    )

    pub upper :
        m < most →
        2 * (most - (m + 1)) ≤ most - least →
        (m - 400) * (m - 400) * b < 2500 * (h * h) →
        Between h b (m + 1) most × Halved (m + 1) most (compared + 1)
    unfolding enough
    upper to few e = (
      record {
        low = omega (arith, is.low);
        ordered = omega arith;
        high = is.high;
        reached = is.reached;
        none_less = λ s l u. not_before h b s m (lt-leb _ _ e) (omega arith);
      },
      record { few = half (most - least) (most - (m + 1)) compared few halved.few },
    )

-- nothing is left to compare: the factor
pub found : {h b least most : ℕ} → 0 < b → most ≤ least → Between h b least most → least ≡ factor h b
found {h} {b} {least} {most} positive closed is = same h b least (factor h b) settled (kept h b positive)
  where
    one : most ≡ least
    one = omega (arith, is.ordered)

    settled : Kept h b least
    settled =
        record {
          low = is.low;
          high = omega (arith, is.high);
          reached = subst (λ (x : ℕ). x < 1000 → enough h b x ≡ true) one is.reached;
          none_less = is.none_less;
        }

-- at the start all is left
pub begun : (h b : ℕ) → Between h b 600 1000
begun h b =
    record { low = lit≤ tt; ordered = lit≤ tt; high = lit≤ tt; reached = λ l. absurd (none l); none_less = λ s l u. absurd (less s l u) }
  where
    none : 1000 < 1000 → ⊥
    none l = omega arith

    less : (s : ℕ) → 600 ≤ s → s < 600 → ⊥
    less s l u = omega arith
