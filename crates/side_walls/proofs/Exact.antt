-- The exact rackings and shifts in whole numbers, and what is reported of them: quotients of these rounded up.
use Prim.Native.Nat.{ℕ, zero, suc, ◌+◌, ◌*◌, ◌<◌}
use mathlib.Core.Bool.{Bool, true, false, cond}
use mathlib.Core.List.{List, [], ◌∷◌}
use mathlib.Core.Path.{◌≡◌, refl, sym, ap, ap₂, subst, ◌∙◌}
use lib.Dec.{eqb, lit≤}
use lib.IntN.{pos, nat_abs}
use Rattle.arith.specs.Fractions.{Frac, nat, ◌+q◌, ◌*q◌, ◌/q◌, recip, sumq}
use Rattle.arith.specs.Theorems.{LeastNotBelow}
use Rattle.arith.specs.Wholes.{ceiling}
use Rattle.arith.specs.Inner.Rounding.{rounded_up}
use Rattle.arith.proofs.Polynomials.{v, kp, kn, ◌⊕◌, ◌⊗◌}
use Rattle.arith.proofs.Rings.{∀₁, ∀₃, ∀₄, ∀₅, by_ring, by_eqs, contra, over, to, times, mul_eq, ◌⊹◌, ◌⊞◌, ◌⊠◌}
use Rattle.arith.proofs.Rationals.{ℚR, ℚ, mk, same, int, ◌+ℚ◌, ◌*ℚ◌, ◌/ℚ◌, ◌≤ℚ◌, recipℚ, recip_times, int_plus, int_times, <→≤}
use Rattle.arith.proofs.RationalTerms.{qq}
use Rattle.arith.proofs.RationalOrder.{above_0, lt_not}
use Rattle.arith.proofs.RationalRounding.{ceil_up, up_low, up_high}
use Rattle.arith.proofs.FractionsInRationals.{mk_int, mk_add, mk_mul, mk_div}
use Rattle.arith.proofs.WholeLaws.{ceiling_is, least_ceiling}
use Rattle.sheet.specs.declared.Sheet.{Sheet}
use Rattle.sheet.specs.Fits.{tier_at}
use Rattle.statics.specs.Loads.{half, weight, share_of}
use Rattle.statics.specs.Inner.Computed.{share_twentieths}
use Rattle.side_walls.specs.SideWalls.{longitudinal, side_force, tiers_above, side_racking, side_shift, reported_racking, reported_shift}
use Rattle.side_walls.specs.Theorems.{AllReport}
use Rattle.side_walls.specs.Inner.Units.{total, push_units, above_units, racking_units, shift_units}

abbrev natℚ : ℕ → ℚ
natℚ n = int (pos n)

nat_plus : (x y : ℕ) → natℚ (x + y) ≡ natℚ x +ℚ natℚ y
nat_plus x y = int_plus (pos x) (pos y)

nat_times : (x y : ℕ) → natℚ (x * y) ≡ natℚ x *ℚ natℚ y
nat_times x y = int_times (pos x) (pos y)

-- a fraction that is n over d, rounded up
ceiling_over : (x : Frac) (n d : ℕ) → 0 < d → natℚ d *ℚ mk x ≡ natℚ n → ceiling x ≡ pos (rounded_up n d)
ceiling_over x n d h e =
    let u = ceil_up n d h in
    let r = natℚ (rounded_up n d) in
    ceiling_is x (pos (rounded_up n d))
    (low (natℚ d) (mk x) (natℚ n) r (lt_not (above_0 d h)) e (up_low u))
    (high (natℚ d) (mk x) (natℚ n) r (<→≤ (above_0 d h)) e (up_high u))
  where
    low : (d x n r : ℚ) → ¬ (d ≤ℚ natℚ 0) → d *ℚ x ≡ n → n ≤ℚ d *ℚ r → x ≤ℚ r
    low = ∀₄ ℚR _ λ ρ. simp qq λ h e l. over (v 0) h (to l ⊞ times (kn 0) e) tt

    high : (d x n r : ℚ) → natℚ 0 ≤ℚ d → d *ℚ x ≡ n → d *ℚ r +ℚ natℚ 1 ≤ℚ n +ℚ d → x +ℚ natℚ 1 ≤ℚ r → ⊥
    high = ∀₄ ℚR _ λ ρ. simp qq λ h e l k. contra (to h ⊠ to k ⊞ to l ⊞ times (kp 1) e) tt

-- F_L of 1 kg and a thousandth of g
push : ℚ
push = natℚ 1 /ℚ natℚ 2 *ℚ (natℚ 981 /ℚ natℚ 100) *ℚ recipℚ (natℚ 1000)

push_is : natℚ 200000 *ℚ push ≡ natℚ 981
unfolding push
push_is =
    go (recipℚ (natℚ 2)) (recipℚ (natℚ 100)) (recipℚ (natℚ 1000)) (recip_times (natℚ 2) (above_0 2 (lit≤ tt)))
    (recip_times (natℚ 100) (above_0 100 (lit≤ tt))) (recip_times (natℚ 1000) (above_0 1000 (lit≤ tt)))
  where
    go :
        (a b c : ℚ) →
        natℚ 2 *ℚ a ≡ natℚ 1 →
        natℚ 100 *ℚ b ≡ natℚ 1 →
        natℚ 1000 *ℚ c ≡ natℚ 1 →
        natℚ 200000 *ℚ (natℚ 1 *ℚ a *ℚ (natℚ 981 *ℚ b) *ℚ c) ≡ natℚ 981
    go =
        ∀₃ ℚR _ λ ρ. simp qq λ i j k.
        by_eqs
        (mul_eq (kp 981 ⊗ (kp 100 ⊗ v 1) ⊗ (kp 1000 ⊗ v 2)) i ⊹ mul_eq (kp 981 ⊗ (kp 1000 ⊗ v 2)) j ⊹ mul_eq (kp 981) k) tt

-- the share in twentieths
share_is : (n : ℕ) → natℚ 20 *ℚ mk (share_of n) ≡ natℚ (share_twentieths n)
unfolding recip ◌*ℚ◌ int
share_is n = go (eqb n 2)
  where
    go : (b : Bool) → mk (nat 20 *q cond b half (nat 45 /q nat 100)) ≡ mk (nat (cond b 10 9))
    go true = same (record { cross = refl })
    go false = same (record { cross = refl })

module _ (t : Sheet) (p : List ℕ) where
  force_q :
      (i : ℕ) →
      mk (side_force t p i)
      ≡ natℚ 1 /ℚ natℚ 2 *ℚ (natℚ (tier_at t.tiers i).mass *ℚ (natℚ 981 /ℚ natℚ 100)) *ℚ (natℚ (longitudinal p i) /ℚ natℚ 1000)
  unfolding side_force weight ◌*ℚ◌ recipℚ int
  force_q i = refl

  force_is : (i : ℕ) → mk (side_force t p i) ≡ natℚ (push_units t p i) *ℚ push
  unfolding push
  force_is i =
      let m = (tier_at t.tiers i).mass in
      let a = longitudinal p i in
      force_q i
      ∙ go (natℚ 1 /ℚ natℚ 2) (natℚ m) (natℚ 981 /ℚ natℚ 100) (natℚ a) (recipℚ (natℚ 1000))
      ∙ ap (λ z. z *ℚ push) (sym (nat_times m a))
    where
      go : (h m g a r : ℚ) → h *ℚ (m *ℚ g) *ℚ (a *ℚ r) ≡ m *ℚ a *ℚ (h *ℚ g *ℚ r)
      go = ∀₅ ℚR _ λ ρ. simp qq (by_ring tt)

  sum_is : (is : List ℕ) → mk (sumq (side_force t p) is) ≡ natℚ (total (push_units t p) is) *ℚ push
  unfolding sumq total
  sum_is [] = mk_int (pos 0) ∙ none push
    where
      none : (u : ℚ) → natℚ 0 ≡ natℚ 0 *ℚ u
      none = ∀₁ ℚR _ λ ρ. simp qq (by_ring tt)
  sum_is (i ∷ is) =
      mk_add (side_force t p i) (sumq (side_force t p) is)
      ∙ ap₂ ◌+ℚ◌ (force_is i) (sum_is is)
      ∙ join (natℚ (push_units t p i)) (natℚ (total (push_units t p) is)) push
      ∙ ap (λ z. z *ℚ push) (sym (nat_plus (push_units t p i) (total (push_units t p) is)))
    where
      join : (x y u : ℚ) → x *ℚ u +ℚ y *ℚ u ≡ (x +ℚ y) *ℚ u
      join = ∀₃ ℚR _ λ ρ. simp qq (by_ring tt)

  pub racking_is : (i : ℕ) → natℚ 4000000 *ℚ mk (side_racking t p i) ≡ natℚ (racking_units t p i)
  unfolding side_racking racking_units
  racking_is i =
      let share = share_of t.head.rule in
      let k = share_twentieths t.head.rule in
      let u = push_units t p i in
      let m = above_units t p i in
      ap (λ z. natℚ 4000000 *ℚ z)
      (mk_add (share *q side_force t p i) (sumq (side_force t p) (tiers_above t i))
      ∙ ap₂ ◌+ℚ◌ (mk_mul share (side_force t p i) ∙ ap (λ z. mk share *ℚ z) (force_is i)) (sum_is (tiers_above t i)))
      ∙ go (mk share) (natℚ k) (natℚ u) (natℚ m) push (share_is t.head.rule) push_is
      ∙ sym (simp (nat_times, nat_plus))
    where
      go :
          (s k u m f : ℚ) →
          natℚ 20 *ℚ s ≡ k →
          natℚ 200000 *ℚ f ≡ natℚ 981 →
          natℚ 4000000 *ℚ (s *ℚ (u *ℚ f) +ℚ m *ℚ f) ≡ natℚ 981 *ℚ (k *ℚ u +ℚ natℚ 20 *ℚ m)
      go =
          ∀₅ ℚR _ λ ρ. simp qq λ e g.
          by_eqs (mul_eq (kp 20 ⊗ v 0 ⊗ v 2 ⊕ kp 20 ⊗ v 3) g ⊹ mul_eq (kp 981 ⊗ v 2) e) tt

  -- level by level: 5,790 × 4,000,000 / 1,000
  pub shift_is : (i : ℕ) → natℚ 23160000 *ℚ mk (nat 1000 *q side_shift t p i) ≡ natℚ (shift_units t p i)
  unfolding side_shift shift_units
  shift_is zero =
      ap (λ z. natℚ 23160000 *ℚ z) (mk_mul (nat 1000) (nat 0) ∙ ap₂ ◌*ℚ◌ (mk_int (pos 1000)) (mk_int (pos 0))) ∙ simp qq
  shift_is (suc i) =
      let d = side_shift t p i in
      let r = side_racking t p i in
      let part = mk_div r (nat 5790) ∙ ap (λ z. mk r /ℚ z) (mk_int (pos 5790)) in
      ap (λ z. natℚ 23160000 *ℚ z)
      (mk_mul (nat 1000) (d +q r /q nat 5790)
      ∙ ap₂ ◌*ℚ◌ (mk_int (pos 1000)) (mk_add d (r /q nat 5790) ∙ ap (λ z. mk d +ℚ z) part))
      ∙ go (mk d) (mk r) (recipℚ (natℚ 5790)) (natℚ (shift_units t p i)) (natℚ (racking_units t p i))
      (sym (ap (λ z. natℚ 23160000 *ℚ z) (mk_mul (nat 1000) d ∙ ap (λ z. z *ℚ mk d) (mk_int (pos 1000)))) ∙ shift_is i)
      (racking_is i) (recip_times (natℚ 5790) (above_0 5790 (lit≤ tt)))
      ∙ sym (nat_plus (shift_units t p i) (racking_units t p i))
    where
      go :
          (d r k s n : ℚ) →
          natℚ 23160000 *ℚ (natℚ 1000 *ℚ d) ≡ s →
          natℚ 4000000 *ℚ r ≡ n →
          natℚ 5790 *ℚ k ≡ natℚ 1 →
          natℚ 23160000 *ℚ (natℚ 1000 *ℚ (d +ℚ r *ℚ k)) ≡ s +ℚ n
      go =
          ∀₅ ℚR _ λ ρ. simp qq λ e g h.
          by_eqs (mul_eq (kp 1) e ⊹ mul_eq (kp 1) g ⊹ mul_eq (kp 4000000 ⊗ v 1) h) tt

  -- so each is a quotient rounded up
  racking_up : (i : ℕ) → ceiling (side_racking t p i) ≡ pos (rounded_up (racking_units t p i) 4000000)
  racking_up i = ceiling_over (side_racking t p i) (racking_units t p i) 4000000 (lit≤ tt) (racking_is i)

  shift_up : (i : ℕ) → ceiling (nat 1000 *q side_shift t p i) ≡ pos (rounded_up (shift_units t p i) 23160000)
  shift_up i = ceiling_over (nat 1000 *q side_shift t p i) (shift_units t p i) 23160000 (lit≤ tt) (shift_is i)

  pub racking_reported : (i : ℕ) → reported_racking t p i ≡ rounded_up (racking_units t p i) 4000000
  unfolding reported_racking
  racking_reported i = ap nat_abs (racking_up i)

  pub shift_reported : (i : ℕ) → reported_shift t p i ≡ rounded_up (shift_units t p (suc i)) 23160000
  unfolding reported_shift
  shift_reported i = ap nat_abs (shift_up (suc i))

pub reports : AllReport
unfolding reported_racking reported_shift
reports t p i =
    record {
      racking = least (side_racking t p i) (rounded_up (racking_units t p i) 4000000) (racking_up t p i);
      shift = least (nat 1000 *q side_shift t p (suc i)) (rounded_up (shift_units t p (suc i)) 23160000) (shift_up t p (suc i));
    }
  where
    least : (x : Frac) (n : ℕ) → ceiling x ≡ pos n → LeastNotBelow x (pos (nat_abs (ceiling x)))
    least x n e = rw (e) (subst (LeastNotBelow x) e (least_ceiling x))
