-- A sheet within document 01's codes and limits, as every taken one is, has them in numbers.
use Prim.Native.Nat.{ℕ, zero, suc, ◌≤◌, ◌<◌}
use mathlib.Core.List.{List}
use mathlib.Core.Path.{◌≡◌, refl, ap}
use native.Mathlib.Nat.{lt_of_not-le}
use native.Mathlib.Omega.{arith}
use lib.ListN.{get_or, length, take, length-take, get_or-eq_default}
use lib.Seq.{get_or-take}
use Rattle.sheet.specs.declared.Tier.{Tier}
use Rattle.sheet.specs.declared.Lash.{Lash}
use Rattle.sheet.specs.declared.Sheet.{Sheet}
use Rattle.sheet.specs.Layout.{blank_tier, blank_lash}
use Rattle.sheet.specs.Ends.{End, door, closed, tiers_of, lashes_of}
use Rattle.sheet.specs.Fits.{tier_at, lash_at, EndFits, Fits}
use Rattle.sheet.specs.Inner.Limits.{TierFilled, LashLimits, EndLimits, SheetLimits}
use Rattle.sheet.proofs.Limits.{tier_filled, lash_limits}
use Rattle.sheet.proofs.FourALevel.{four_a_level}

-- an end
module _ {n : ℕ} {lashes : List Lash} {count : ℕ} (f : EndFits n lashes count) where
  abbrev ls : List Lash
  ls = take count lashes

  each : (j : ℕ) → j < length ls → LashLimits n (get_or ls j blank_lash)
  each j h =
      let listed : j < count = omega (arith, h, length-take count lashes) in
      rw (get_or-take count lashes j blank_lash listed) (lash_limits n (lash_at lashes j) (f.placed j listed) (f.fits j listed))

  pub end_limits : EndLimits n ls
  end_limits = record { few = omega (arith, f.few, length-take count lashes); each = each; each_level = four_a_level f }

module _ {t : Sheet} (f : Fits t) where
  filled : (k : ℕ) → k < t.ntiers → TierFilled (tier_at t.tiers k)
  filled k h = tier_filled (tier_at t.tiers k) (f.tiers k h)

  -- as many tiers as are counted: the last has a mass
  last : (n : ℕ) → t.ntiers ≡ suc n → n < length t.tiers
  last n e = lt_of_not-le (λ h. none (get_or-eq_default t.tiers blank_tier h) (filled n (omega arith)).mass)
    where
      none : tier_at t.tiers n ≡ blank_tier → 1 ≤ (tier_at t.tiers n).mass → ⊥
      none q m = omega (arith, ap (λ (u : Tier). u.mass) q)

  stacked : length (tiers_of t) ≡ t.ntiers
  stacked = omega (arith, length-take t.ntiers t.tiers, all t.ntiers refl)
    where
      all : (n : ℕ) → t.ntiers ≡ n → n ≤ length t.tiers
      all zero e = omega arith
      all (suc n) e = last n e

  ends : (e : End) → EndLimits t.ntiers (lashes_of e t)
  ends door = end_limits f.door
  ends closed = end_limits f.closed

  pub sheet_limits : SheetLimits t
  sheet_limits =
      record {
        some = f.some;
        few = f.few;
        tiers = stacked;
        each = λ i h. rw (get_or-take t.ntiers t.tiers i blank_tier) (filled i h).limits;
        route = f.route;
        ends = ends;
      }
