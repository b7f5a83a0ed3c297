-- One more term of a sum, and of a greatest value; sums over the tiers of a sheet.
use Prim.Native.Nat.{ℕ, zero, suc, ◌+◌, ◌<◌}
use mathlib.Core.List.{List}
use mathlib.Core.Path.{◌≡◌, refl, sym, ap₂, ◌∙◌}
use native.Mathlib.Numerals.{add-one}
use native.Mathlib.Omega.{arith}
use Rattle.arith.proofs.Arrays.{entry_at}
use Rattle.sheet.specs.declared.Tier.{Tier}
use Rattle.sheet.specs.Layout.{tier_in, tiers_in, blank_tier}
use Rattle.sheet.specs.Fits.{tier_at}
use Rattle.bay_wind.specs.Sums.{sum_of, larger, greatest_of}

module _ (f : ℕ → ℕ) where
  pub sum_none : sum_of f 0 ≡ 0
  unfolding sum_of
  sum_none = refl

  pub sum_more : (n : ℕ) → sum_of f (n + 1) ≡ sum_of f n + f n
  unfolding sum_of
  sum_more n = rw (add-one n)

  pub sum_next : (n : ℕ) → sum_of f (suc n) ≡ sum_of f n + f n
  unfolding sum_of
  sum_next n = refl

  pub greatest_none : greatest_of f 0 ≡ 0
  unfolding greatest_of
  greatest_none = refl

  pub greatest_more : (n : ℕ) → greatest_of f (n + 1) ≡ larger (greatest_of f n) (f n)
  unfolding greatest_of
  greatest_more n = rw (add-one n)

pub sum_same : (f g : ℕ → ℕ) (n : ℕ) → ((k : ℕ) → k < n → f k ≡ g k) → sum_of f n ≡ sum_of g n
unfolding sum_of
sum_same f g zero h = refl
sum_same f g (suc n) h = ap₂ ◌+◌ (sum_same f g n (λ k q. h k (omega (arith, q)))) (h n (omega arith))

-- one tier more of n, by its bytes
pub tiers_more :
    (g : Tier → ℕ) (s : List ℕ) (n k : ℕ) {sum : ℕ} {t : Tier} →
    k < n →
    sum ≡ sum_of (λ j. g (tier_at (tiers_in s n) j)) k →
    t ≡ tier_in s k →
    sum + g t ≡ sum_of (λ j. g (tier_at (tiers_in s n) j)) (k + 1)
tiers_more g s n k h e f =
    let held = f ∙ sym (entry_at (tier_in s) blank_tier n 10 k h) in
    ap₂ (λ m (x : Tier). m + g x) e held ∙ sym (sum_more (λ j. g (tier_at (tiers_in s n) j)) k)
