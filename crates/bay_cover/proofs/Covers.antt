-- What is exposed is what shows above the height that both sides cover.
use Rattle.std.specs.Prelude.{Option, None, Some}
use Prim.Native.Nat.{ℕ, ◌+◌, ◌*◌, ◌-◌, ◌<◌, ◌≤◌, min}
use mathlib.Core.Bool.{Bool, true, false, cond, ◌&&◌, ◌||◌}
use mathlib.Core.Path.{◌≡◌, refl, sym, ap₂, ◌∙◌}
use native.Mathlib.Omega.{arith}
use borrow.Author.Tests.{ltb-true, ltb-false, lt-ltb, le-ltb}
use lib.Dec.{leb, ltb}
use Rattle.sheet.specs.declared.Tier.{Tier}
use Rattle.sheet.specs.Layout.{◌is◌}
use Rattle.bay_wind.specs.declared.Outline.{Outline}
use Rattle.bay_wind.specs.declared.Nearest.{Nearest}
use Rattle.bay_wind.specs.declared.Neighbours.{Neighbours}
use Rattle.bay_wind.specs.Exposure.{exposed_above, exposed_beside, exposed_in_bay}
use Rattle.bay_cover.specs.Inner.Covers.{cover_above, cover_beside, cover_of, shown_above}
use Rattle.bay_cover.proofs.Thirds.{shown}

module _ (a b : ℕ) where
  left_smaller : a < b → a ≡ min a b
  left_smaller h = omega arith

  right_smaller : b ≤ a → b ≡ min a b
  right_smaller h = omega arith

or_last : (x : Bool) → x || true ≡ true
or_last true = refl
or_last false = refl

-- shown above either is shown above the smaller
pub shown_either :
    (a b height top : ℕ) → shown_above a height top || shown_above b height top ≡ shown_above (min a b) height top
shown_either a b height top = go (ltb a b) refl (shown_above a height top) refl (shown_above b height top) refl
  where
    go :
        (s : Bool) →
        ltb a b ≡ s →
        (x : Bool) →
        shown_above a height top ≡ x →
        (y : Bool) →
        shown_above b height top ≡ y →
        shown_above a height top || shown_above b height top ≡ shown_above (min a b) height top
    go true e true f y g = rw (← left_smaller a b (ltb-true a b e), f) refl
    go true e false f y g =
        let p = ltb-true a b e in
        let q = ltb-false (height + 3 * a) (3 * top) f in
        rw (← left_smaller a b p, f, le-ltb (height + 3 * b) (3 * top) (omega arith)) refl
    go false e x f true g = rw (← right_smaller a b (ltb-false a b e), g) (or_last (shown_above a height top))
    go false e x f false g =
        let p = ltb-false a b e in
        let q = ltb-false (height + 3 * b) (3 * top) g in
        rw (← right_smaller a b p, g, le-ltb (height + 3 * a) (3 * top) (omega arith)) refl

-- a box that stands on the foot of the rows or above it
module _ (t : Tier) (top : ℕ) (some : 0 < t.height) (inside : t.height ≤ top) where
  fully : true ≡ shown_above 0 t.height top
  fully = sym (lt-ltb (t.height + 3 * 0) (3 * top) (omega arith))

  above : (between : ℕ) (row : Outline) → exposed_above t top between row ≡ shown_above (cover_above t.size between row) t.height top
  unfolding exposed_above cover_above
  above between row = go (leb 3 between || t.size is 40 && row.size is 20)
    where
      go :
          (full : Bool) →
          full || ltb t.height (3 * (top - row.height)) ≡ shown_above (cond full 0 row.height) t.height top
      go true = fully
      go false = sym (shown t.height row.height top)

  beside : (nearest : Option Nearest) → exposed_beside t top nearest ≡ shown_above (cover_beside t.size nearest) t.height top
  beside None = fully
  beside (Some near) = above near.between near.row

  pub in_bay : (near : Neighbours) → exposed_in_bay near t top ≡ shown_above (cover_of t.size near) t.height top
  in_bay near =
      ap₂ ◌||◌ (beside near.port) (beside near.starboard)
      ∙ shown_either (cover_beside t.size near.port) (cover_beside t.size near.starboard) t.height top
