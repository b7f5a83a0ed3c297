-- Stability: whatever shifts are put into the equations of an end, the lashes' errors together, and each racking's error, are at most the
-- sum of what the levels are out of balance by. Any tier count, any spring and lash stiffer than zero.
use mathlib.Core.Path.{◌≡◌, refl, sym, ap, ap₂, subst, fun_ext, ◌∙◌}
use mathlib.Core.List.{List}
use Prim.Native.Nat.{ℕ, zero, suc, ◌+◌, ◌-◌, ◌<◌}
use native.Mathlib.Omega.{arith}
use lib.ListN.{length}
use Rattle.arith.specs.Fractions.{Frac, ◌+q◌, ◌-q◌, ◌*q◌, absq, sumq}
use Rattle.arith.specs.Lists.{from, below}
use Rattle.arith.proofs.Rings.{∀₅, by_ring}
use Rattle.arith.proofs.Rationals.{ℚR, ℚ, mk, ◌+ℚ◌, ◌-ℚ◌, ◌*ℚ◌, absℚ, ◌≤ℚ◌, to-⊑}
use Rattle.arith.proofs.RationalTerms.{qq}
use Rattle.arith.proofs.Signs.{same_le, absℚ_nn}
use Rattle.arith.proofs.FractionsInRationals.{sumℚ, mk_sum, mk_abs, mk_sub, toℚ}
use Rattle.springs.specs.Equations.{Tier, Lash, shift, stiffness_at, load_at, racking, Solves, Stiff}
use Rattle.springs.specs.Theorems.{residual, residuals, Stability}
use Rattle.springs.proofs.Chain.{natℚ, force, load, load_minus, held_by_loads, forced_by_loads}
use Rattle.springs.proofs.Lashes.{by_level}
use Rattle.springs.proofs.Levels.{springs, lashes, loads, shifts, mk_load, mk_racking, mk_stiffness, no_spring, deck, no_shift}
use Rattle.springs.proofs.Levels.{spring_nn, lashes_nn, balance}

abs_zero : absℚ (natℚ 0) ≡ natℚ 0
abs_zero = absℚ_nn (natℚ 0) (same_le (natℚ 0))

-- two zeros
no_error : (x y : ℚ) → x ≡ natℚ 0 → y ≡ natℚ 0 → x -ℚ y ≡ natℚ 0
no_error x y a b = ap₂ ◌-ℚ◌ a b ∙ none
  where
    none : natℚ 0 -ℚ natℚ 0 ≡ natℚ 0
    none = simp qq refl

sum_same : (f g : ℕ → ℚ) (i m : ℕ) → ((j : ℕ) → j < i + m → f j ≡ g j) → sumℚ f (from i m) ≡ sumℚ g (from i m)
unfolding sumℚ from
sum_same f g i zero h = refl
sum_same f g i (suc m) h = ap₂ ◌+ℚ◌ (h i (omega arith)) (sum_same f g (suc i) m (λ j l. h j (omega arith)))

-- over ℚ: f the shift of each level
module _
    (ts : List Tier)
    (ls : List Lash)
    (Ds : List Frac)
    (s : Stiff ts ls)
    (d : Solves ts ls Ds)
    (f : ℕ → ℚ)
    (f-deck : f 0 ≡ natℚ 0)
  where
    abbrev out : ℕ → ℚ
    out i = load (springs ts) (lashes ls) f i -ℚ loads ts i

    abbrev outs : ℚ
    outs = sumℚ (λ i. absℚ (out i)) (below (length ts))

    abbrev error : ℕ → ℚ
    error i = f i -ℚ shifts Ds i

    outs_are : sumℚ (λ i. absℚ (load (springs ts) (lashes ls) error i)) (below (length ts)) ≡ outs
    outs_are =
        sum_same (λ i. absℚ (load (springs ts) (lashes ls) error i)) (λ i. absℚ (out i)) 0 (length ts)
        (λ j h.
        ap absℚ
        (load_minus (springs ts) (lashes ls) f (shifts Ds) j
        ∙ ap (λ z. load (springs ts) (lashes ls) f j -ℚ z) (balance ts ls Ds d j (omega arith))))

    pub lash_errors : ((i : ℕ) → length ts < i → f i ≡ natℚ 0) → sumℚ (λ l. mk l.stiffness *ℚ absℚ (error l.level)) ls ≤ℚ outs
    lash_errors over =
        subst (λ z. z ≤ℚ outs)
        (sym
        (by_level (λ i. absℚ (error i)) (length ts)
        (λ i h. ap absℚ (no_error (f i) (shifts Ds i) (over i h) (no_shift Ds i (omega (arith, d.levels)))) ∙ abs_zero)
        (ap absℚ (no_error (f 0) (shifts Ds 0) f-deck (deck Ds)) ∙ abs_zero) ls))
        (subst (λ z. sumℚ (λ j. lashes ls j *ℚ absℚ (error (suc j))) (below (length ts)) ≤ℚ z) outs_are
        (held_by_loads (springs ts) (lashes ls) error (length ts) (spring_nn ts ls s) (lashes_nn ts ls s)
        (no_spring ts (length ts) (omega arith)) (no_error (f 0) (shifts Ds 0) f-deck (deck Ds))))

    pub racking_errors : (i : ℕ) → i < length ts → absℚ (force (springs ts) f i -ℚ force (springs ts) (shifts Ds) i) ≤ℚ outs
    racking_errors i h =
        subst (λ z. absℚ z ≤ℚ outs) (go (springs ts i) (f i) (f (suc i)) (shifts Ds i) (shifts Ds (suc i)))
        (subst (λ z. absℚ (force (springs ts) error i) ≤ℚ z) outs_are
        (forced_by_loads (springs ts) (lashes ls) error (length ts) (spring_nn ts ls s) (lashes_nn ts ls s)
        (no_spring ts (length ts) (omega arith)) (no_error (f 0) (shifts Ds 0) f-deck (deck Ds)) i (length ts - i) (omega arith)))
      where
        go : (K a b x y : ℚ) → K *ℚ ((b -ℚ y) -ℚ (a -ℚ x)) ≡ K *ℚ (b -ℚ a) -ℚ K *ℚ (y -ℚ x)
        go = ∀₅ ℚR _ λ ρ. simp qq (by_ring tt)

-- in fractions: the lashes' errors over ℚ, of shifts a against shifts b
pub mk_errors :
    (ls : List Lash) (a b : ℕ → Frac) →
    mk (sumq (λ l. l.stiffness *q absq (a l.level -q b l.level)) ls)
    ≡ sumℚ (λ l. mk l.stiffness *ℚ absℚ (mk (a l.level) -ℚ mk (b l.level))) ls
mk_errors ls a b =
    mk_sum (λ l. l.stiffness *q absq (a l.level -q b l.level)) ls
    ∙ ap (λ f. sumℚ f ls) (fun_ext (λ l. one l.stiffness (a l.level) (b l.level)))
  where
    one : (k x y : Frac) → mk (k *q absq (x -q y)) ≡ mk k *ℚ absℚ (mk x -ℚ mk y)
    one k x y = simp toℚ

mk_residual :
    (ts : List Tier) (ls : List Lash) (ds : List Frac) (i : ℕ) →
    mk (residual ts ls ds i) ≡ load (springs ts) (lashes ls) (shifts ds) i -ℚ loads ts i
mk_residual ts ls ds i =
    go (racking ts ds i) (racking ts ds (suc i)) (stiffness_at ls (suc i)) (shift ds (suc i)) (load_at ts i)
    ∙ ap₂ ◌-ℚ◌
    (ap₂ (λ f x. f +ℚ x *ℚ shifts ds (suc i)) (ap₂ ◌-ℚ◌ (mk_racking ts ds i) (mk_racking ts ds (suc i))) (mk_stiffness ls (suc i)))
    (mk_load ts i)
  where
    go : (a b c d e : Frac) → mk (a -q b +q c *q d -q e) ≡ mk a -ℚ mk b +ℚ mk c *ℚ mk d -ℚ mk e
    go a b c d e = simp toℚ

mk_residuals :
    (ts : List Tier) (ls : List Lash) (ds : List Frac) →
    mk (residuals ts ls ds) ≡ sumℚ (λ i. absℚ (load (springs ts) (lashes ls) (shifts ds) i -ℚ loads ts i)) (below (length ts))
mk_residuals ts ls ds =
    mk_sum (λ i. absq (residual ts ls ds i)) (below (length ts))
    ∙ ap (λ f. sumℚ f (below (length ts))) (fun_ext (λ i. mk_abs (residual ts ls ds i) ∙ ap absℚ (mk_residual ts ls ds i)))

pub stable : Stability
stable ts ls ds Ds s e d = record {
  lashes =
      to-⊑ (sumq (λ l. l.stiffness *q absq (shift ds l.level -q shift Ds l.level)) ls) (residuals ts ls ds)
      (rw (mk_errors ls (shift ds) (shift Ds), mk_residuals ts ls ds)
      (lash_errors ts ls Ds s d (shifts ds) (deck ds) (λ i h. no_shift ds i (omega arith))));
  rackings =
      λ i h.
      to-⊑ (absq (racking ts ds i -q racking ts Ds i)) (residuals ts ls ds)
      (rw (mk_abs (racking ts ds i -q racking ts Ds i), mk_sub (racking ts ds i) (racking ts Ds i), mk_residuals ts ls ds)
      (rw (mk_racking ts ds i, mk_racking ts Ds i) (racking_errors ts ls Ds s d (shifts ds) (deck ds) i h)));
}
