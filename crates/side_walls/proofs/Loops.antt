-- Rackings in units from the top tier down, and their figures from the bottom up.
use Prim.Native.Nat.{ℕ, zero, suc, ◌+◌, ◌*◌, ◌-◌, ◌/◌, ◌^◌, ◌<◌, ◌≤◌}
use mathlib.Core.List.{List}
use mathlib.Core.Path.{◌≡◌, refl, sym, ap, ap₂, subst, ◌∙◌}
use native.Mathlib.Numerals.{add-one}
use native.Mathlib.Omega.{arith}
use lib.ListN.{get_or, set, replicate}
use Rattle.arith.specs.Lists.{from}
use Rattle.arith.specs.Inner.Rounding.{rounded_up}
use Rattle.sheet.specs.declared.Sheet.{Sheet}
use Rattle.statics.specs.Inner.Computed.{share_twentieths}
use Rattle.statics.proofs.Arrays.{Between, between_none, fill_below, fill_above}
use Rattle.side_walls.specs.Inner.Units.{total, push_units, above_units, racking_units, shift_units, first_sum}
use Rattle.side_walls.specs.Inner.Units.{Pushed, RoundedUp, SideFigured}
use Rattle.side_walls.proofs.Exact.{racking_reported, shift_reported}

-- from the top down
total_more : (f : ℕ → ℕ) (n k : ℕ) → k < n → total f (from k (n - k)) ≡ f k + total f (from (suc k) (n - suc k))
unfolding total from
total_more f n k h =
    let e : n - k ≡ suc (n - suc k) = omega arith in
    rw e refl

abbrev Racked : Sheet → List ℕ → ℕ → ℕ → Type 0
Racked t p j x = (x ≡ racking_units t p j) × (x ≤ 2 ^ 44)

pub record PushedDown (t : Sheet) (p units : List ℕ) (above i : ℕ) : Type 0 where
  pub within : i ≤ t.ntiers
  pub filled : Between 0 (Racked t p) 10 i t.ntiers units
  pub above_is : above ≡ total (push_units t p) (from i (t.ntiers - i))
  pub above_small : above ≤ (t.ntiers - i) * (30480 * 1500)

module _ {t : Sheet} {p : List ℕ} where
  pub pushed_none : PushedDown t p (replicate 10 0) 0 t.ntiers
  unfolding total from
  pushed_none =
      let e : t.ntiers - t.ntiers ≡ 0 = omega arith in
      record {
        within = omega arith;
        filled = between_none 0 (Racked t p) 10 t.ntiers;
        above_is = rw e refl;
        above_small = omega arith;
      }

  pub pushed_more :
      {units : List ℕ} {above i own share x : ℕ} →
      t.ntiers ≤ 10 →
      0 < i →
      PushedDown t p units above i →
      own ≡ push_units t p (i - 1) →
      own ≤ 30480 * 1500 →
      share ≡ share_twentieths t.head.rule →
      x ≡ 981 * (share * own + 20 * above) →
      x ≤ 2 ^ 44 →
      PushedDown t p (set units (i - 1) x) (above + own) (i - 1)
  unfolding racking_units
  pushed_more {units} {above} {i} {own} {share} {x} few up s eo ho es ex hx =
      let n = t.ntiers in
      let k = i - 1 in
      let e : i ≡ suc k = omega arith in
      let over : above ≡ above_units t p k = s.above_is ∙ ap (λ (z : ℕ). total (push_units t p) (from z (n - z))) e in
      let more = total_more (push_units t p) n k (omega (arith, s.within)) in
      let racked : x ≡ racking_units t p k = rw (← over, ← eo, ← es) ex in
      record {
        within = omega (arith, s.within);
        filled =
            fill_below 0 (Racked t p) 10 k n units x (omega (arith, s.within)) (omega (arith, s.within)) (racked, hx)
            (subst (λ (z : ℕ). Between 0 (Racked t p) 10 z n units) e s.filled);
        above_is = omega (arith, over, more, eo);
        above_small = omega (arith, s.within, s.above_small);
      }

-- from the bottom up
abbrev Up : ℕ → (ℕ → ℕ) → ℕ → ℕ → Type 0
Up d part j x = (x ≡ rounded_up (part j) d) × (x < 2 ^ 32)

abbrev entries : List ℕ → ℕ → ℕ
entries units j = get_or units j 0

abbrev sums : List ℕ → ℕ → ℕ
sums units j = first_sum units (suc j)

pub record RoundedSoFar (units racking shift : List ℕ) (sum i : ℕ) : Type 0 where
  pub rackings : Between 0 (Up 4000000 (entries units)) 10 0 i racking
  pub shifts : Between 0 (Up 23160000 (sums units)) 10 0 i shift
  pub sum_is : sum ≡ first_sum units i
  pub sum_small : sum ≤ i * 2 ^ 44

module _ {units : List ℕ} where
  pub rounded_none : RoundedSoFar units (replicate 10 0) (replicate 10 0) 0 0
  unfolding first_sum
  rounded_none =
      record {
        rackings = between_none 0 (Up 4000000 (entries units)) 10 0;
        shifts = between_none 0 (Up 23160000 (sums units)) 10 0;
        sum_is = refl;
        sum_small = omega arith;
      }

  pub rounded_more :
      {racking shift : List ℕ} {sum i x y : ℕ} →
      i < 10 →
      RoundedSoFar units racking shift sum i →
      get_or units i 0 ≤ 2 ^ 44 →
      (x ≡ rounded_up (get_or units i 0) 4000000) × (x ≤ get_or units i 0 / 4000000 + 1) →
      (y ≡ rounded_up (sum + get_or units i 0) 23160000) × (y ≤ (sum + get_or units i 0) / 23160000 + 1) →
      RoundedSoFar units (set racking i x) (set shift i y) (sum + get_or units i 0) (i + 1)
  unfolding first_sum
  rounded_more {racking} {shift} {sum} {i} {x} {y} room s small (ex, hx) (ey, hy) =
      let up : sum + get_or units i 0 ≡ first_sum units (suc i) = omega (arith, s.sum_is) in
      let low : sum + get_or units i 0 ≤ 10 * 2 ^ 44 = omega (arith, s.sum_small) in
      rw (add-one i)
      (record {
        rackings = fill_above 0 (Up 4000000 (entries units)) 10 0 i racking x room (ex, omega arith) s.rackings;
        shifts = fill_above 0 (Up 23160000 (sums units)) 10 0 i shift y room (rw (← up) ey, omega arith) s.shifts;
        sum_is = up;
        sum_small = omega (arith, s.sum_small);
      })

-- rackings in units and their figures are what is reported
module _ {t : Sheet} {p units : List ℕ} (e : Pushed t p units) where
  sums_are : (i : ℕ) → i ≤ t.ntiers → first_sum units i ≡ shift_units t p i
  unfolding first_sum shift_units
  sums_are zero h = refl
  sums_are (suc i) h = ap₂ ◌+◌ (sums_are i (omega arith)) (e.each i h)

  pub figured : {racking shift : List ℕ} → RoundedUp t.ntiers units racking shift → SideFigured t p racking shift
  figured r =
      record {
        rackings = λ i h. r.rackings i h ∙ ap (λ (u : ℕ). rounded_up u 4000000) (e.each i h) ∙ sym (racking_reported t p i);
        shifts = λ i h. r.shifts i h ∙ ap (λ (u : ℕ). rounded_up u 23160000) (sums_are (suc i) h) ∙ sym (shift_reported t p i);
        racking_fits = r.racking_fits;
        shift_fits = r.shift_fits;
      }
