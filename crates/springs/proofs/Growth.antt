-- No shift to windward: where no level's load is below zero, no level moves to windward. Growth: under level loads no smaller no level
-- moves less.
use mathlib.Core.Path.{◌≡◌, sym, subst, fun_ext, ◌∙◌}
use Prim.Native.Nat.{ℕ, suc, ◌-◌, ◌<◌, ◌≤◌}
use native.Mathlib.Omega.{arith}
use native.Mathlib.Decide.{dec_le}
use lib.IntN.{pos}
use lib.ListN.{length}
use Rattle.arith.specs.Fractions.{nat}
use Rattle.arith.proofs.Rationals.{mk, ◌≤ℚ◌, of-⊑, to-⊑}
use Rattle.arith.proofs.Signs.{same_le}
use Rattle.arith.proofs.FractionsInRationals.{mk_int, of-≈}
use Rattle.springs.specs.Equations.{tier_at, shift, load_at}
use Rattle.springs.specs.Theorems.{NoShiftToWindward, GrowthWithLoads}
use Rattle.springs.proofs.Chain.{natℚ, load}
use Rattle.springs.proofs.Elimination.{not_windward, grows}
use Rattle.springs.proofs.Levels.{springs, lashes, loads, shifts, mk_load, no_spring, deck, no_shift, spring_pos, spring_nn}
use Rattle.springs.proofs.Levels.{lashes_nn, balance}

pub no_shift_to_windward : NoShiftToWindward
no_shift_to_windward ts ls Ds s d loads-nn i =
    to-⊑ (nat 0) (shift Ds i) (subst (λ z. z ≤ℚ shifts Ds i) (sym (mk_int (pos 0))) (at (dec_le i (length ts))))
  where
    load_nn : (j : ℕ) → j < length ts → natℚ 0 ≤ℚ loads ts j
    load_nn j h =
        subst (λ z. natℚ 0 ≤ℚ z) (mk_load ts j)
        (subst (λ z. z ≤ℚ mk (load_at ts j)) (mk_int (pos 0)) (of-⊑ (nat 0) (load_at ts j) (loads-nn j h)))

    at : Dec (i ≤ length ts) → natℚ 0 ≤ℚ shifts Ds i
    at (yes h) =
        not_windward (springs ts) (lashes ls) (loads ts) (length ts) (spring_pos ts ls s) (spring_nn ts ls s) (lashes_nn ts ls s)
        (no_spring ts (length ts) (omega arith)) (shifts Ds) (balance ts ls Ds d) load_nn (deck Ds) i (length ts - i) (omega arith)
    at (no h) = subst (λ z. natℚ 0 ≤ℚ z) (sym (no_shift Ds i (omega (arith, d.levels)))) (same_le (natℚ 0))

pub growth : GrowthWithLoads
growth ts us ls Ds Es s w d e i = to-⊑ (shift Ds i) (shift Es i) (at (dec_le i (length ts)))
  where
    same : springs us ≡ springs ts
    same = fun_ext (λ j. go j (dec_le (suc j) (length ts)))
      where
        go : (j : ℕ) → Dec (suc j ≤ length ts) → springs us j ≡ springs ts j
        go j (yes h) = of-≈ (tier_at us j).K (tier_at ts j).K (w.springs j h)
        go j (no h) = no_spring us j (omega (arith, w.tiers)) ∙ sym (no_spring ts j (omega arith))

    more : (j : ℕ) → j < length ts → loads ts j ≤ℚ loads us j
    more j h =
        subst (λ z. z ≤ℚ loads us j) (mk_load ts j)
        (subst (λ z. mk (load_at ts j) ≤ℚ z) (mk_load us j) (of-⊑ (load_at ts j) (load_at us j) (w.loads j h)))

    at : Dec (i ≤ length ts) → shifts Ds i ≤ℚ shifts Es i
    at (yes h) =
        grows (springs ts) (lashes ls) (loads ts) (loads us) (length ts) (spring_pos ts ls s) (spring_nn ts ls s) (lashes_nn ts ls s)
        (no_spring ts (length ts) (omega arith)) (shifts Ds) (shifts Es) (balance ts ls Ds d)
        (λ j l. subst (λ K. load K (lashes ls) (shifts Es) j ≡ loads us j) same (balance us ls Es e j (omega (arith, w.tiers)))) more
        (deck Ds) (deck Es) i (length ts - i) (omega arith)
    at (no h) =
        subst (λ z. z ≤ℚ shifts Es i) (sym (no_shift Ds i (omega (arith, d.levels))))
        (subst (λ z. natℚ 0 ≤ℚ z) (sym (no_shift Es i (omega (arith, e.levels, w.tiers)))) (same_le (natℚ 0)))
