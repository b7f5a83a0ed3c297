-- The summed bound of elimination in whole numbers, for any tier count and any springs, lashes and loads: each level's residual by the
-- remainders of its divisions and the rounding of its inputs (Residuals), then stability (Stability).
use mathlib.Core.Path.{◌≡◌, sym, ap, ap₂, subst, fun_ext, ◌∙◌}
use mathlib.Core.Bool.{cond}
use mathlib.Core.List.{List}
use Prim.Native.Nat.{ℕ, zero, suc, ◌+◌, ◌*◌, ◌≤◌, ◌<◌, max}
use native.Mathlib.Omega.{arith}
use native.Mathlib.Decide.{dec_le}
use lib.Dec.{lit<}
use lib.IntN.{pos}
use lib.ListN.{length, get_or}
use borrow.Author.Tests.{lt-ltb, le-ltb}
use Rattle.arith.specs.Fractions.{Frac, nat, ◌-q◌, ◌*q◌, ◌/q◌, absq, sumq, ◌⊑◌}
use Rattle.arith.specs.Lists.{from, below}
use Rattle.arith.proofs.Polynomials.{v}
use Rattle.arith.proofs.Rings.{∀₁, ∀₃, ∀₄, by_ring, by_cert, to, times, ◌⊞◌, ◌⊠◌}
use Rattle.arith.proofs.Rationals.{
  ℚR,
  ℚ,
  mk,
  ◌+ℚ◌,
  ◌-ℚ◌,
  ◌*ℚ◌,
  negℚ,
  ◌/ℚ◌,
  recipℚ,
  absℚ,
  ◌≤ℚ◌,
  ◌<ℚ◌,
  nn_int,
  int_plus,
  int_times,
  recip_times,
  recip_nn,
  to-⊑,
}
use Rattle.arith.proofs.RationalTerms.{qq}
use Rattle.arith.proofs.Signs.{same_le}
use Rattle.arith.proofs.RationalOrder.{≤ℚ-trans, nat_q, above_0, div_times, lt_not}
use Rattle.arith.proofs.FractionsInRationals.{sumℚ, mk_int, mk_div, mk_sum, of-≈, toℚ}
use Rattle.springs.specs.Equations.{Tier, Lash, tier_at, shift, racking, Solves}
use Rattle.springs.specs.Inner.Promise.{stiffness_scale, shift_scale, Near}
use Rattle.springs.specs.Inner.Elimination.{divisor, shift_up}
use Rattle.springs.specs.Inner.Balance.{spring_at}
use Rattle.springs.specs.Inner.Bound.{level_error, summed_error, shift_by, SummedBound}
use Rattle.springs.proofs.Chain.{natℚ, force, load}
use Rattle.springs.proofs.Levels.{springs, lashes, loads, shifts, mk_racking, no_spring, spring_pos}
use Rattle.springs.proofs.Stability.{lash_errors, racking_errors, mk_errors}
use Rattle.springs.proofs.Recursion.{x, y, d, stiffness_top, load_top, stiffness_step, load_step, shift_deck, shift_step}
use Rattle.springs.proofs.Recursion.{shift_behind}
use Rattle.springs.proofs.OutOfBalance.{S, unit, times_abs, out_high, out_low}
use Rattle.springs.proofs.Residuals.{Handed, handed, handed_none, balance_low, balance_high}

module _ (n : ℕ) (k κ ω : List ℕ) where
  -- what is handed down to a level; its shift, in units and in mm
  abbrev xs : ℕ → ℕ
  xs = x n k κ ω

  abbrev ys : ℕ → ℕ
  ys = y n k κ ω

  abbrev ds : ℕ → ℕ
  ds = d n k κ ω

  abbrev units : ℕ → ℚ
  units j = natℚ (ds j)

  abbrev f : ℕ → ℚ
  f j = mk (shift_by n k κ ω j)

  f_is : (j : ℕ) → natℚ shift_scale *ℚ f j ≡ units j
  f_is j =
      ap (λ z. natℚ shift_scale *ℚ z) (mk_div (nat (ds j)) (nat shift_scale) ∙ ap₂ ◌/ℚ◌ (mk_int (pos (ds j))) (mk_int (pos shift_scale)))
      ∙ div_times (units j) (natℚ shift_scale) (above_0 shift_scale (lit< tt))

  -- at the deck and above the uppermost level
  no_f : (j : ℕ) → ds j ≡ 0 → f j ≡ natℚ 0
  no_f j z =
      ap (λ (a : ℕ). mk (nat a /q nat shift_scale)) z
      ∙ mk_div (nat 0) (nat shift_scale)
      ∙ ap (λ a. a /ℚ mk (nat shift_scale)) (mk_int (pos 0))
      ∙ go (recipℚ (mk (nat shift_scale)))
    where
      go : (r : ℚ) → natℚ 0 *ℚ r ≡ natℚ 0
      go = ∀₁ ℚR _ λ ρ. simp qq (by_ring tt)

  -- the bound over ℚ
  abbrev pub errors : ℕ → ℚ
  errors i = natℚ (level_error n k κ ω i)

  pub mk_summed : mk (summed_error n k κ ω) ≡ sumℚ errors (below n) *ℚ recipℚ (natℚ unit)
  mk_summed =
      mk_div (sumq (λ i. nat (level_error n k κ ω i)) (below n)) (nat unit)
      ∙ ap₂ ◌/ℚ◌
      (mk_sum (λ i. nat (level_error n k κ ω i)) (below n)
      ∙ ap (λ g. sumℚ g (below n)) (fun_ext (λ i. mk_int (pos (level_error n k κ ω i)))))
      (mk_int (pos unit))

  module _ (ts : List Tier) (ls : List Lash) (near : Near n k κ ω ts ls) where
    spring : (j : ℕ) → j < n → springs ts j ≡ natℚ (get_or k j 0)
    spring j l = of-≈ (tier_at ts j).K (nat (get_or k j 0)) (near.spring j l) ∙ mk_int (pos (get_or k j 0))

    -- also over the uppermost level
    spring_at_lem : (j : ℕ) → springs ts j ≡ natℚ (spring_at n k j)
    spring_at_lem j = go (dec_le (suc j) n)
      where
        go : Dec (suc j ≤ n) → springs ts j ≡ natℚ (spring_at n k j)
        go (yes l) = spring j l ∙ ap (λ b. natℚ (cond b (get_or k j 0) 0)) (sym (lt-ltb j n l))
        go (no l) = no_spring ts j (omega (arith, near.tiers)) ∙ ap (λ b. natℚ (cond b (get_or k j 0) 0)) (sym (le-ltb j n (omega arith)))

    stiff : (j : ℕ) → j < n → 0 < get_or k j 0
    stiff j l = go (dec_le 1 (get_or k j 0))
      where
        above : natℚ 0 <ℚ natℚ (get_or k j 0)
        above = subst (λ z. natℚ 0 <ℚ z) (spring j l) (spring_pos ts ls near.stiff j (omega (arith, near.tiers)))

        go : Dec (1 ≤ get_or k j 0) → 0 < get_or k j 0
        go (yes h) = h
        go (no h) =
            let none : get_or k j 0 ≡ 0 = omega arith in
            absurd (lt_not above (subst (λ (z : ℕ). natℚ z ≤ℚ natℚ 0) (sym none) (same_le (natℚ 0))))

    -- the tier over level j against what is handed down to it; at the top, nothing
    handed_at : (j : ℕ) → j ≤ n → Handed (force (springs ts) units j) (springs ts j) (units j) (natℚ (xs j)) (natℚ (ys j))
    handed_at j b = go (dec_le (suc j) n)
      where
        none : (z : ℚ) → natℚ 0 *ℚ z ≡ natℚ 0
        none = ∀₁ ℚR _ λ ρ. simp qq (by_ring tt)

        go : Dec (suc j ≤ n) → Handed (force (springs ts) units j) (springs ts j) (units j) (natℚ (xs j)) (natℚ (ys j))
        go (yes l) =
            rw (spring j l, stiffness_step n k κ ω j l, load_step n k κ ω j l, shift_step n k κ ω j l)
            (handed (get_or k j 0) (get_or κ j 0) (get_or ω j 0) (xs (suc j)) (ys (suc j)) (ds j) (stiff j l))
        go (no l) =
            let here : n ≡ j = omega arith in
            let no_x : xs j ≡ 0 = subst (λ (z : ℕ). xs z ≡ 0) here (stiffness_top n k κ ω) in
            let no_y : ys j ≡ 0 = subst (λ (z : ℕ). ys z ≡ 0) here (load_top n k κ ω) in
            rw (no_spring ts j (omega (arith, near.tiers)), no_x, no_y)
            (handed_none (ds j) (natℚ 0 *ℚ (units (suc j) -ℚ units j)) (none (units (suc j) -ℚ units j)))

    -- the balance of level i + 1 by the shifts in units
    abbrev G : ℕ → ℚ
    G i =
        S *ℚ (springs ts i *ℚ (units (suc i) -ℚ units i))
        -ℚ S *ℚ force (springs ts) units (suc i)
        +ℚ natℚ (get_or κ i 0) *ℚ units (suc i)
        -ℚ S *ℚ natℚ (get_or ω i 0)

    module _ (i : ℕ) (l : i < n) where
      abbrev c : ℕ
      c = divisor (get_or k i 0) (get_or κ i 0) (xs (suc i))

      handed_up :
          Handed (force (springs ts) units (suc i)) (springs ts (suc i))
          (natℚ (shift_up (get_or k i 0) (get_or κ i 0) (get_or ω i 0) (xs (suc i)) (ys (suc i)) (ds i)))
          (natℚ (xs (suc i)))
          (natℚ (ys (suc i)))
      handed_up =
          subst
          (λ (z : ℕ). Handed (force (springs ts) units (suc i)) (springs ts (suc i)) (natℚ z) (natℚ (xs (suc i))) (natℚ (ys (suc i))))
          (shift_step n k κ ω i l)
          (handed_at (suc i) l)

      low : negℚ (natℚ c +ℚ S) ≤ℚ G i
      low =
          rw (← (spring i l), ← (shift_step n k κ ω i l)) at
          (balance_low (get_or k i 0) (get_or κ i 0) (get_or ω i 0) (xs (suc i)) (ys (suc i)) (ds i) (stiff i l)
          (force (springs ts) units (suc i)) (springs ts (suc i)) handed_up)

      high : G i ≤ℚ units (suc i) +ℚ S *ℚ springs ts (suc i)
      high =
          rw (← (spring i l), ← (shift_step n k κ ω i l)) at
          (balance_high (get_or k i 0) (get_or κ i 0) (get_or ω i 0) (xs (suc i)) (ys (suc i)) (ds i) (stiff i l)
          (force (springs ts) units (suc i)) (springs ts (suc i)) handed_up)

      -- what level i + 1 is out of balance by under the shifts found
      abbrev out : ℚ
      out = load (springs ts) (lashes ls) f i -ℚ loads ts i

      abbrev K : ℚ
      K = springs ts i

      abbrev L : ℚ
      L = springs ts (suc i)

      abbrev kq : ℚ
      kq = natℚ (get_or κ i 0)

      abbrev oq : ℚ
      oq = natℚ (get_or ω i 0)

      level_high : natℚ unit *ℚ out ≤ℚ natℚ (5 * ds (suc i) + spring_at n k (suc i) * stiffness_scale)
      level_high =
          subst (λ z. natℚ unit *ℚ out ≤ℚ z) whole
          (more (natℚ unit *ℚ out) (G i) (units (suc i)) L high (out_high n k κ ω ts ls near ds f f_is i l))
        where
          more : (a g u L : ℚ) → g ≤ℚ u +ℚ S *ℚ L → a ≤ℚ g +ℚ natℚ 4 *ℚ u → a ≤ℚ natℚ 5 *ℚ u +ℚ L *ℚ S
          more = ∀₄ ℚR _ λ ρ. simp qq λ h l. by_cert (to h ⊞ to l) tt

          whole : natℚ 5 *ℚ units (suc i) +ℚ L *ℚ S ≡ natℚ (5 * ds (suc i) + spring_at n k (suc i) * stiffness_scale)
          whole =
              ap (λ z. natℚ 5 *ℚ units (suc i) +ℚ z *ℚ S) (spring_at_lem (suc i))
              ∙ sym
              (int_plus (pos (5 * ds (suc i))) (pos (spring_at n k (suc i) * stiffness_scale))
              ∙ ap₂ ◌+ℚ◌ (int_times (pos 5) (pos (ds (suc i)))) (int_times (pos (spring_at n k (suc i))) (pos stiffness_scale)))

      level_low : natℚ unit *ℚ negℚ out ≤ℚ natℚ (c + 5 * stiffness_scale)
      level_low =
          subst (λ z. natℚ unit *ℚ negℚ out ≤ℚ z) (sym (int_plus (pos c) (pos (5 * stiffness_scale))))
          (less (natℚ unit *ℚ negℚ out) (natℚ c) (G i) low
          (out_low n k κ ω ts ls near ds f f_is i l))
        where
          less : (a c g : ℚ) → negℚ (c +ℚ S) ≤ℚ g → a ≤ℚ natℚ (4 * stiffness_scale) -ℚ g → a ≤ℚ c +ℚ natℚ (5 * stiffness_scale)
          less = ∀₃ ℚR _ λ ρ. simp qq λ h l. by_cert (to h ⊞ to l) tt

      level : natℚ unit *ℚ absℚ out ≤ℚ natℚ (level_error n k κ ω i)
      level =
          let over = 5 * ds (suc i) + spring_at n k (suc i) * stiffness_scale in
          let under = c + 5 * stiffness_scale in
          times_abs (natℚ unit) out (natℚ (max over under))
          (≤ℚ-trans (natℚ unit *ℚ out) (natℚ over) (natℚ (max over under)) level_high (nat_q over (max over under) (omega arith)))
          (≤ℚ-trans (natℚ unit *ℚ negℚ out) (natℚ under) (natℚ (max over under)) level_low (nat_q under (max over under) (omega arith)))

    -- all levels together
    abbrev size : ℕ → ℚ
    size i = absℚ (load (springs ts) (lashes ls) f i -ℚ loads ts i)

    levels : (i m : ℕ) → i + m ≤ n → natℚ unit *ℚ sumℚ size (from i m) ≤ℚ sumℚ errors (from i m)
    unfolding sumℚ from
    levels i zero b = none
      where
        none : natℚ unit *ℚ natℚ 0 ≤ℚ natℚ 0
        none = simp qq (nn_int 0)
    levels i (suc m) b =
        both (size i) (sumℚ size (from (suc i) m)) (errors i) (sumℚ errors (from (suc i) m)) (level i (omega arith))
        (levels (suc i) m (omega arith))
      where
        both : (a s b t : ℚ) → natℚ unit *ℚ a ≤ℚ b → natℚ unit *ℚ s ≤ℚ t → natℚ unit *ℚ (a +ℚ s) ≤ℚ b +ℚ t
        both = ∀₄ ℚR _ λ ρ. simp qq λ h l. by_cert (to h ⊞ to l) tt

    summed : sumℚ size (below (length ts)) ≤ℚ mk (summed_error n k κ ω)
    summed =
        rw (near.tiers, mk_summed)
        (go (sumℚ size (below n)) (sumℚ errors (below n)) (recipℚ (natℚ unit)) (levels 0 n (omega arith)) (recip_nn (natℚ unit))
        (recip_times (natℚ unit) (above_0 unit (lit< tt))))
      where
        go : (a b r : ℚ) → natℚ unit *ℚ a ≤ℚ b → natℚ 0 ≤ℚ r → natℚ unit *ℚ r ≡ natℚ 1 → a ≤ℚ b *ℚ r
        go = ∀₃ ℚR _ λ ρ. simp qq λ h l e. by_cert (to h ⊠ to l ⊞ times (v 0) e) tt

    module _ (Ds : List Frac) (sol : Solves ts ls Ds) where
      lash_bound : sumq (λ l. l.stiffness *q absq (shift_by n k κ ω l.level -q shift Ds l.level)) ls ⊑ summed_error n k κ ω
      lash_bound =
          to-⊑ (sumq (λ l. l.stiffness *q absq (shift_by n k κ ω l.level -q shift Ds l.level)) ls) (summed_error n k κ ω)
          (rw (mk_errors ls (shift_by n k κ ω) (shift Ds))
          (≤ℚ-trans (sumℚ (λ l. mk l.stiffness *ℚ absℚ (f l.level -ℚ shifts Ds l.level)) ls)
          (sumℚ size (below (length ts)))
          (mk (summed_error n k κ ω))
          (lash_errors ts ls Ds near.stiff sol f (no_f 0 (shift_deck n k κ ω))
          (λ j b. no_f j (shift_behind n k κ ω j (omega (arith, near.tiers)))))
          summed))

      racking_bound :
          (i : ℕ) →
          i < n →
          absq ((tier_at ts i).K *q (shift_by n k κ ω (suc i) -q shift_by n k κ ω i) -q racking ts Ds i) ⊑ summed_error n k κ ω
      racking_bound i b =
          to-⊑ (absq ((tier_at ts i).K *q (shift_by n k κ ω (suc i) -q shift_by n k κ ω i) -q racking ts Ds i)) (summed_error n k κ ω)
          (rw (one (tier_at ts i).K (shift_by n k κ ω (suc i)) (shift_by n k κ ω i) (racking ts Ds i), mk_racking ts Ds i)
          (≤ℚ-trans (absℚ (force (springs ts) f i -ℚ force (springs ts) (shifts Ds) i))
          (sumℚ size (below (length ts)))
          (mk (summed_error n k κ ω))
          (racking_errors ts ls Ds near.stiff sol f (no_f 0 (shift_deck n k κ ω)) i (omega (arith, near.tiers)))
          summed))
        where
          one : (K a b r : Frac) → mk (absq (K *q (a -q b) -q r)) ≡ absℚ (mk K *ℚ (mk a -ℚ mk b) -ℚ mk r)
          one K a b r = simp toℚ

pub summed_bound : SummedBound
summed_bound n k κ ω ts ls Ds near sol = record {
  lashes = lash_bound n k κ ω ts ls near Ds sol;
  rackings = racking_bound n k κ ω ts ls near Ds sol;
}
