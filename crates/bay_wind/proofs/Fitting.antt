-- A sheet with wind codes worked out afresh is within its limits.
use Prim.Native.Nat.{ℕ, suc, ◌<◌}
use mathlib.Core.Bool.{Bool, true, false, ◌&&◌, ◌||◌}
use mathlib.Core.Path.{◌≡◌, refl, sym, ap, ◌∙◌}
use lib.Dec.{eqb}
use Rattle.arith.proofs.Arrays.{entry_at}
use Rattle.sheet.specs.declared.Tier.{Tier}
use Rattle.sheet.specs.declared.Sheet.{Sheet}
use Rattle.sheet.specs.Layout.{wind_code, turned, tier_fits, within, up_to, blank_tier}
use Rattle.sheet.specs.Fits.{tier_at, Fits}
use Rattle.sheet.proofs.Bools.{and_true}
use Rattle.sheet.proofs.OtherTiers.{with_tiers_fit}
use Rattle.bay_wind.specs.declared.Neighbours.{Neighbours}
use Rattle.bay_wind.specs.Exposure.{height_of, exposed_in_bay, with_wind, tier_in_bay, sheet_in_bay}

code_fits : (e t : Bool) → up_to 3 (wind_code e t) ≡ true
code_fits true true = refl
code_fits true false = refl
code_fits false true = refl
code_fits false false = refl

-- of seven tests that hold, the second may be put again
second_again : (a b m c d e f w : Bool) → a && b && m && c && d && e && f ≡ true → w ≡ true → a && w && m && c && d && e && f ≡ true
second_again a b m c d e f w h is =
    let h6 = and_true (a && b && m && c && d && e) f h in
    let h5 = and_true (a && b && m && c && d) e h6.0 in
    let h4 = and_true (a && b && m && c) d h5.0 in
    let h3 = and_true (a && b && m) c h4.0 in
    let h2 = and_true (a && b) m h3.0 in
    rw ((and_true a b h2.0).0, is, h2.1, h3.1, h4.1, h5.1, h6.1)

pub wind_fits : (e : Bool) (t : Tier) → tier_fits t ≡ true → tier_fits (with_wind e t) ≡ true
unfolding tier_fits with_wind
wind_fits e t h =
    second_again
    (eqb t.size 20 && (eqb t.height 2438 || eqb t.height 2591)
    || eqb t.size 40 && (eqb t.height 2591 || eqb t.height 2896))
    (up_to 3 t.wind) (within 1 30480 t.mass) (up_to 1500 t.aT) (up_to 3000 t.aVmax) (up_to 1000 t.aVmin)
    (up_to t.aVmax t.aVmin) (up_to 3 (wind_code e (turned t))) h (code_fits e (turned t))

pub wind_size : (e : Bool) (t : Tier) → (with_wind e t).size ≡ t.size
unfolding with_wind
wind_size e t = refl

module _ (near : Neighbours) {t : Sheet} (f : Fits t) where
  abbrev fresh : ℕ → Tier
  fresh = tier_in_bay near t.tiers

  abbrev seen : ℕ → Bool
  seen k = exposed_in_bay near (tier_at t.tiers k) (height_of t.tiers (suc k))

  pub held : (k : ℕ) → k < t.ntiers → tier_at (sheet_in_bay near t).tiers k ≡ fresh k
  held k h = entry_at fresh blank_tier t.ntiers 10 k h

  one_size : (k : ℕ) → k < t.ntiers → (tier_at (sheet_in_bay near t).tiers k).size ≡ (tier_at t.tiers 0).size
  one_size k h = ap (λ (x : Tier). x.size) (held k h) ∙ wind_size (seen k) (tier_at t.tiers k) ∙ f.sizes k h

  pub in_bay_fits : Fits (sheet_in_bay near t)
  in_bay_fits =
      with_tiers_fit f (sheet_in_bay near t).tiers
      (λ k h. ap tier_fits (held k h) ∙ wind_fits (seen k) (tier_at t.tiers k) (f.tiers k h))
      (λ k h. one_size k h ∙ sym (one_size 0 f.some))
