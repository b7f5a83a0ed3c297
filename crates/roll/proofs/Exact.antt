-- The exact accelerations from whole numbers: 1,000 times gravity and heave in parts, 1,000 times the roll as a quotient.
use Prim.Native.Nat.{ℕ, ◌+◌, ◌*◌, ◌-◌, ◌≤◌, ◌<◌}
use mathlib.Core.Path.{◌≡◌, sym, ap, subst, ◌∙◌}
use native.Mathlib.Nat.{mul-le-mul}
use native.Mathlib.Omega.{arith}
use lib.IntN.{pos}
use Rattle.arith.specs.Fractions.{Frac, nat, absq, ◌≈◌, ◌+q◌, ◌-q◌, ◌*q◌, ◌/q◌}
use Rattle.arith.proofs.Polynomials.{v, kp, ◌⊕◌, ◌⊗◌}
use Rattle.arith.proofs.Rings.{∀₂, ∀₄, ∀₅, by_ring, by_eqs, contra, to, times, num, mul_eq, ◌⊞◌, ◌⊠◌}
use Rattle.arith.proofs.Rationals.{ℚR, ℚ, mk, int, ◌+ℚ◌, ◌-ℚ◌, ◌*ℚ◌, ◌≤ℚ◌, ◌<ℚ◌, recipℚ, recip_times}
use Rattle.arith.proofs.RationalTerms.{qq}
use Rattle.arith.proofs.RationalOrder.{lt_of, nat_q}
use Rattle.arith.proofs.FractionsInRationals.{of-≈, toℚ}
use Rattle.arith.specs.Wholes.{floor, ceiling}
use Rattle.roll_parts.specs.declared.RollPart.{RollPart}
use Rattle.roll_parts.specs.Inner.Parts.{turn_of, over_of, parts_of, still_of, roll_of, up_of, down_of}
use Rattle.roll.specs.declared.Condition.{Condition}
use Rattle.roll.specs.ConditionA.{ten_thousandths, hundredths, metres, k_c, k₃of, roll_at}
use Rattle.roll.specs.Inner.Sums.{Legal, sum, difference}
use Rattle.roll.proofs.Rounding.{nat_plus, nat_times, nat_minus, Over, over_rounded, rounded_up_lem, rounded_down}
use Rattle.roll.proofs.Scales.{ten_thousandths_lem, in_hundredths, in_metres}

-- the roll: k_C θ / T_R² times a distance, 1,000 times
module _ (k θ T D : Frac) where
  abbrev rolled : Frac
  rolled = nat 1000 *q (k *q (θ /q (T *q T) *q D))

  rolled_mk : mk rolled ≡ int (pos 1000) *ℚ (mk k *ℚ (mk θ *ℚ recipℚ (mk T *ℚ mk T) *ℚ mk D))
  rolled_mk = simp toℚ

square_above : (T p : ℚ) → int (pos 100) *ℚ T ≡ p → int (pos 1) ≤ℚ p → int (pos 0) <ℚ T *ℚ T
square_above T p e h = lt_of (int (pos 0)) (T *ℚ T) (go T p e h)
  where
    go : (T p : ℚ) → int (pos 100) *ℚ T ≡ p → int (pos 1) ≤ℚ p → T *ℚ T ≤ℚ int (pos 0) → ⊥
    go = ∀₂ ℚR _ λ ρ. simp qq λ e h l. contra (num 10000 ⊠ to l ⊞ to h ⊠ to h ⊞ to h ⊞ to h ⊞ times (kp 100 ⊗ v 0 ⊕ v 1) e) tt

roll_exact :
    (g : Condition) (D : Frac) (distance : ℕ) →
    1 ≤ g.period →
    absq D ≈ metres (pos distance) →
    int (pos (over_of g.period)) *ℚ mk (nat 1000 *q (k_c *q roll_at g D)) ≡ int (pos (turn_of g.angle distance))
unfolding roll_at
roll_exact g D distance p h =
    let θ = mk (hundredths g.angle) in
    let T = mk (hundredths g.period) in
    let period = in_hundredths g.period in
    let far = ap (λ q. int (pos 1000) *ℚ q) (of-≈ (absq D) (metres (pos distance)) h) ∙ in_metres (pos distance) in
    let u = recip_times (T *ℚ T) (square_above T (int (pos g.period)) period (nat_q 1 g.period p)) in
    rw (
      rolled_mk k_c (hundredths g.angle) (hundredths g.period) (absq D),
      nat_times 100 (g.period * g.period),
      nat_times g.period g.period,
      nat_times (701 * g.angle) distance,
      nat_times 701 g.angle,
      ← period,
      ← far,
      ← in_hundredths g.angle,
      ← ten_thousandths_lem 701,
    )
    (go (mk k_c) θ T (mk (absq D)) (recipℚ (T *ℚ T)) u)
  where
    go :
        (k θ T D u : ℚ) →
        T *ℚ T *ℚ u ≡ int (pos 1) →
        int (pos 100) *ℚ (int (pos 100) *ℚ T *ℚ (int (pos 100) *ℚ T)) *ℚ (int (pos 1000) *ℚ (k *ℚ (θ *ℚ u *ℚ D))) ≡
        int (pos 10000) *ℚ k *ℚ (int (pos 100) *ℚ θ) *ℚ (int (pos 1000) *ℚ D)
    go = ∀₅ ℚR _ λ ρ. simp qq λ e. by_eqs (mul_eq (kp 1000000000 ⊗ v 0 ⊗ v 1 ⊗ v 3) e) tt

-- gravity and heave, 1,000 times, by a factor 1 + k_3 or 1 − k_3
abbrev still : ℚ → ℚ → ℚ → ℚ
still t f a = int (pos 1000) *ℚ (t +ℚ f *ℚ a *ℚ t)

-- k_3 in parts of 1 / (30 length)
module _ (g : Condition) (k : ℕ) (e : nat k ≈ nat (30 * g.length) *q k₃of g) where
  in_parts : int (pos k) ≡ int (pos 30) *ℚ int (pos g.length) *ℚ mk (k₃of g)
  in_parts = rw (nat_times 30 g.length) at (simp toℚ at (of-≈ (nat k) (nat (30 * g.length) *q k₃of g) e))

  module _ (trig : ℕ) where
    abbrev by : ℚ → ℚ
    by f = still (mk (ten_thousandths trig)) f (mk (ten_thousandths g.heave))

    still_plus :
        int (pos (parts_of g.length)) *ℚ by (int (pos 1) +ℚ mk (k₃of g)) ≡
        int (pos (still_of trig g.heave g.length (30 * g.length + k)))
    still_plus =
        simp (nat_times, nat_plus)
        (rw (in_parts, ← ten_thousandths_lem trig, ← ten_thousandths_lem g.heave)
        (go (int (pos g.length)) (mk (ten_thousandths trig)) (mk (ten_thousandths g.heave)) (mk (k₃of g))))
      where
        go :
            (l t a k : ℚ) →
            int (pos 3000000) *ℚ l *ℚ (int (pos 1000) *ℚ (t +ℚ (int (pos 1) +ℚ k) *ℚ a *ℚ t)) ≡
            int (pos 10000) *ℚ t *ℚ
            (int (pos 300000) *ℚ l +ℚ int (pos 10000) *ℚ a *ℚ (int (pos 30) *ℚ l +ℚ int (pos 30) *ℚ l *ℚ k))
        go = ∀₄ ℚR _ λ ρ. simp qq (by_ring tt)

    still_minus :
        k ≤ 30 * g.length →
        int (pos (parts_of g.length)) *ℚ by (int (pos 1) -ℚ mk (k₃of g)) ≡
        int (pos (still_of trig g.heave g.length (30 * g.length - k)))
    still_minus h =
        rw (
          nat_times 3000000 g.length,
          nat_times trig (300000 * g.length + g.heave * (30 * g.length - k)),
          nat_plus (300000 * g.length) (g.heave * (30 * g.length - k)),
          nat_times 300000 g.length,
          nat_times g.heave (30 * g.length - k),
          nat_minus (30 * g.length) k h,
          nat_times 30 g.length,
          in_parts,
          ← ten_thousandths_lem trig,
          ← ten_thousandths_lem g.heave,
        )
        (go (int (pos g.length)) (mk (ten_thousandths trig)) (mk (ten_thousandths g.heave)) (mk (k₃of g)))
      where
        go :
            (l t a k : ℚ) →
            int (pos 3000000) *ℚ l *ℚ (int (pos 1000) *ℚ (t +ℚ (int (pos 1) -ℚ k) *ℚ a *ℚ t)) ≡
            int (pos 10000) *ℚ t *ℚ
            (int (pos 300000) *ℚ l +ℚ int (pos 10000) *ℚ a *ℚ (int (pos 30) *ℚ l -ℚ int (pos 30) *ℚ l *ℚ k))
        go = ∀₄ ℚR _ λ ρ. simp qq (by_ring tt)

-- both taken apart
module _ (t c r k a : Frac) where
  sum_mk :
      mk (nat 1000 *q (t +q c *q r +q (nat 1 +q k) *q a *q t)) ≡
      still (mk t) (int (pos 1) +ℚ mk k) (mk a) +ℚ mk (nat 1000 *q (c *q r))
  sum_mk = simp toℚ (go (mk t) (mk c) (mk r) (mk k) (mk a))
    where
      go :
          (t c r k a : ℚ) →
          int (pos 1000) *ℚ (t +ℚ c *ℚ r +ℚ (int (pos 1) +ℚ k) *ℚ a *ℚ t) ≡
          int (pos 1000) *ℚ (t +ℚ (int (pos 1) +ℚ k) *ℚ a *ℚ t) +ℚ int (pos 1000) *ℚ (c *ℚ r)
      go = ∀₅ ℚR _ λ ρ. simp qq (by_ring tt)

  difference_mk :
      mk (nat 1000 *q (t -q c *q r +q (nat 1 -q k) *q a *q t)) ≡
      still (mk t) (int (pos 1) -ℚ mk k) (mk a) -ℚ mk (nat 1000 *q (c *q r))
  difference_mk = simp toℚ (go (mk t) (mk c) (mk r) (mk k) (mk a))
    where
      go :
          (t c r k a : ℚ) →
          int (pos 1000) *ℚ (t -ℚ c *ℚ r +ℚ (int (pos 1) -ℚ k) *ℚ a *ℚ t) ≡
          int (pos 1000) *ℚ (t +ℚ (int (pos 1) -ℚ k) *ℚ a *ℚ t) -ℚ int (pos 1000) *ℚ (c *ℚ r)
      go = ∀₅ ℚR _ λ ρ. simp qq (by_ring tt)

-- so the whole numbers that are computed are the rounded ones
module _ (g : Condition) (legal : Legal g) (trig k distance : ℕ) (D : Frac)
    (e : nat k ≈ nat (30 * g.length) *q k₃of g) (h : absq D ≈ metres (pos distance)) where
  abbrev part : RollPart
  part = roll_of g.angle g.period distance g.length

  parts_above : 0 < parts_of g.length
  parts_above = omega (arith, legal.length.0)

  over : Over (int (pos (parts_of g.length))) (mk (nat 1000 *q (k_c *q roll_at g D))) (int (pos part.whole)) (int (pos part.rest))
  over =
      let square : 0 < g.period * g.period = omega (arith, mul-le-mul legal.period.0 legal.period.0) in
      let hundred : 100 * (30000 * g.length) ≡ parts_of g.length = omega arith in
      let same = sym (nat_times 100 (30000 * g.length)) ∙ ap (λ (n : ℕ). int (pos n)) hundred in
      subst (λ b. Over b (mk (nat 1000 *q (k_c *q roll_at g D))) (int (pos part.whole)) (int (pos part.rest))) same
      (over_rounded (30000 * g.length) (g.period * g.period) (turn_of g.angle distance) (mk (nat 1000 *q (k_c *q roll_at g D))) square
      (roll_exact g D distance legal.period.0 h))

  pub sum_rounded :
      ceiling (nat 1000 *q sum g trig D) ≡
      pos (up_of (still_of trig g.heave g.length (30 * g.length + k)) part (parts_of g.length))
  unfolding sum
  sum_rounded =
      rounded_up_lem (nat 1000 *q sum g trig D) (still_of trig g.heave g.length (30 * g.length + k)) (parts_of g.length)
      part.whole part.rest _ (mk (nat 1000 *q (k_c *q roll_at g D))) parts_above (still_plus g k e trig) over
      (sum_mk (ten_thousandths trig) k_c (roll_at g D) (k₃of g) (ten_thousandths g.heave))

  pub difference_rounded :
      k ≤ 30 * g.length →
      part.rest ≤ parts_of g.length →
      floor (nat 1000 *q difference g trig D) ≡
      down_of (still_of trig g.heave g.length (30 * g.length - k)) part (parts_of g.length)
  unfolding difference
  difference_rounded l m =
      rounded_down (nat 1000 *q difference g trig D) (still_of trig g.heave g.length (30 * g.length - k)) (parts_of g.length)
      part.whole part.rest _ (mk (nat 1000 *q (k_c *q roll_at g D))) parts_above (still_minus g k e trig l) over m
      (difference_mk (ten_thousandths trig) k_c (roll_at g D) (k₃of g) (ten_thousandths g.heave))
