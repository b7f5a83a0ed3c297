-- What is proved of the factor; proofs/Theorems shows that it holds.
use Rattle.std.specs.Prelude.{ℕ, ◌-◌, ◌*◌, ◌≤◌, ◌<◌, true, false, ◌≡◌}
use Rattle.forecast_factor.specs.Factor.{enough, least_enough, factor}

-- document 02's inequality with the root of B, without a root: for every fraction p / q that is not below the root of B, t − 400 times
-- 20 × p / q is at least 1,000 × H
pub record ByRoots (h b t : ℕ) : Type 0 where
  pub at_least : (p q : ℕ) → 0 < q → b * (q * q) ≤ p * p → 1000 * h * q ≤ (t - 400) * (20 * p)

-- t is the least whole number that is enough
pub record Least (h b t : ℕ) : Type 0 where
  pub from_400 : 400 ≤ t
  pub reached : enough h b t ≡ true
  pub none_less : (s : ℕ) → 400 ≤ s → s < t → enough h b s ≡ false

-- t lies within 600 and 1,000; it is enough, unless it is 1,000; no less one within is
pub record Kept (h b t : ℕ) : Type 0 where
  pub low : 600 ≤ t
  pub high : t ≤ 1000
  pub reached : t < 1000 → enough h b t ≡ true
  pub none_less : (s : ℕ) → 600 ≤ s → s < t → enough h b s ≡ false

pub record Theorems : Type 0 where
  pub by_roots : (h b t : ℕ) → enough h b t ≡ true → ByRoots h b t
  pub from_roots : (h b t : ℕ) → ByRoots h b t → enough h b t ≡ true
  pub least : (h b : ℕ) → 0 < b → Least h b (least_enough h b)
  pub kept : (h b : ℕ) → 0 < b → Kept h b (factor h b)
  pub only : (h b t : ℕ) → 0 < b → Kept h b t → t ≡ factor h b
  -- document 02's example, then figures at and next to the bounds and the steps
  pub example : factor 300 2500 ≡ 700
  pub at_600 : factor 200 2500 ≡ 600
  pub above_600 : factor 201 2500 ≡ 601
  pub at_1000 : factor 600 2500 ≡ 1000
  pub above_1000 : factor 601 2500 ≡ 1000
  pub between : factor 300 3220 ≡ 665
  pub no_wave : factor 0 1 ≡ 600
  pub narrow_600 : factor 4 1 ≡ 600
  pub narrow : factor 5 1 ≡ 650
