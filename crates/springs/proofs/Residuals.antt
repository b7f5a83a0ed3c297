-- How far the solver's rounded shifts leave each level out of balance, from the remainders of its divisions.
use mathlib.Core.Path.{◌≡◌, sym, ap, subst, ◌∙◌}
use Prim.Native.Nat.{ℕ, ◌+◌, ◌*◌, ◌/◌, ◌%◌, ◌<◌}
use native.Mathlib.Nat.{div-add-mod', mod-lt}
use native.Mathlib.Omega.{arith}
use lib.IntN.{pos}
use Rattle.arith.proofs.Polynomials.{v, kp, kn, ◌⊕◌, ◌⊖◌, ◌⊗◌, ⊖◌}
use Rattle.arith.proofs.Rings.{∀₂, ∀₁₀, by_cert, over, to, times, num, ◌⊞◌, ◌⊠◌}
use Rattle.arith.proofs.Rationals.{ℚR, ℚ, ◌+ℚ◌, ◌-ℚ◌, ◌*ℚ◌, negℚ, ◌≤ℚ◌, nn_int, int_plus, int_times}
use Rattle.arith.proofs.RationalTerms.{qq, q_int_add, q_int_mul}
use Rattle.arith.proofs.RationalOrder.{lt_not, nat_q, above_0}
use Rattle.springs.specs.Inner.Promise.{stiffness_scale}
use Rattle.springs.specs.Inner.Elimination.{divisor, stiffness_down, load_down, shift_up}
use Rattle.springs.proofs.Chain.{natℚ}

abbrev S : ℚ
S = natℚ stiffness_scale

-- q is X S / c rounded down
record Divided (q : ℕ) (X c : ℚ) : Type 0 where
  rest : ℚ
  whole : natℚ q *ℚ c +ℚ rest ≡ X *ℚ S
  low : natℚ 0 ≤ℚ rest
  high : rest ≤ℚ c

divided : (x k b : ℕ) → 0 < k → Divided (x * stiffness_scale / (k * stiffness_scale + b)) (natℚ x) (natℚ k *ℚ S +ℚ natℚ b)
divided x k b p = record {
  rest = natℚ (x * stiffness_scale % (k * stiffness_scale + b));
  whole = simp (q_int_mul, q_int_add) (ap natℚ (div-add-mod' (x * stiffness_scale) (k * stiffness_scale + b)));
  low = nn_int (x * stiffness_scale % (k * stiffness_scale + b));
  high =
      simp (q_int_mul, q_int_add)
      (nat_q (x * stiffness_scale % (k * stiffness_scale + b)) (k * stiffness_scale + b)
      (omega (arith, mod-lt (x * stiffness_scale) {m = k * stiffness_scale + b} (omega arith))));
}

-- the force F of a spring K over a level of shift p, against the stiffness x and the load y that were handed down to that level
pub record Handed (F K p x y : ℚ) : Type 0 where
  pub low : negℚ (p +ℚ S *ℚ K) ≤ℚ S *ℚ F -ℚ S *ℚ y +ℚ x *ℚ p
  pub high : S *ℚ F -ℚ S *ℚ y +ℚ x *ℚ p ≤ℚ S

-- with remainders u of x, w of y, r of the shift d over p
hand_low :
    (K b a p d x y u w r : ℚ) →
    ¬ (K *ℚ S +ℚ b ≤ℚ natℚ 0) →
    natℚ 0 ≤ℚ K →
    natℚ 0 ≤ℚ p →
    u ≤ℚ K *ℚ S +ℚ b →
    r ≤ℚ K *ℚ S +ℚ b →
    natℚ 0 ≤ℚ w →
    x *ℚ (K *ℚ S +ℚ b) +ℚ u ≡ K *ℚ b *ℚ S →
    y *ℚ (K *ℚ S +ℚ b) +ℚ w ≡ K *ℚ a *ℚ S →
    d *ℚ (K *ℚ S +ℚ b) +ℚ r ≡ (a +ℚ K *ℚ p) *ℚ S →
    negℚ (p +ℚ S *ℚ K) ≤ℚ S *ℚ (K *ℚ (d -ℚ p)) -ℚ S *ℚ y +ℚ x *ℚ p
hand_low =
    ∀₁₀ ℚR _ λ ρ.
    simp qq λ c hK hp hu hr hw ex ey ed.
    over (v 0 ⊗ kp stiffness_scale ⊕ v 1) c
    (num stiffness_scale ⊠ to hw
    ⊞ to hu ⊠ to hp
    ⊞ num stiffness_scale ⊠ to hK ⊠ to hr
    ⊞ times (v 3) ex
    ⊞ times (⊖ kp stiffness_scale) ey
    ⊞ times (v 0 ⊗ kp stiffness_scale) ed) tt

hand_high :
    (K b a p d x y u w r : ℚ) →
    ¬ (K *ℚ S +ℚ b ≤ℚ natℚ 0) →
    natℚ 0 ≤ℚ K →
    natℚ 0 ≤ℚ p →
    natℚ 0 ≤ℚ u →
    natℚ 0 ≤ℚ r →
    w ≤ℚ K *ℚ S +ℚ b →
    x *ℚ (K *ℚ S +ℚ b) +ℚ u ≡ K *ℚ b *ℚ S →
    y *ℚ (K *ℚ S +ℚ b) +ℚ w ≡ K *ℚ a *ℚ S →
    d *ℚ (K *ℚ S +ℚ b) +ℚ r ≡ (a +ℚ K *ℚ p) *ℚ S →
    S *ℚ (K *ℚ (d -ℚ p)) -ℚ S *ℚ y +ℚ x *ℚ p ≤ℚ S
hand_high =
    ∀₁₀ ℚR _ λ ρ.
    simp qq λ c hK hp hu hr hw ex ey ed.
    over (v 0 ⊗ kp stiffness_scale ⊕ v 1) c
    (num stiffness_scale ⊠ to hw
    ⊞ to hu ⊠ to hp
    ⊞ num stiffness_scale ⊠ to hK ⊠ to hr
    ⊞ times (⊖ v 3) ex
    ⊞ times (kp stiffness_scale) ey
    ⊞ times (⊖ (v 0 ⊗ kp stiffness_scale)) ed) tt

divisor_pos : (k b : ℕ) → 0 < k → ¬ (natℚ k *ℚ S +ℚ natℚ b ≤ℚ natℚ 0)
divisor_pos k b p = lt_not (simp (q_int_mul, q_int_add) (above_0 (k * stiffness_scale + b) (omega arith)))

-- one tier of spring k, over it a level of lashes κ and load ω, under it a level of shift p
module _ (k κ ω x y p : ℕ) (stiff : 0 < k) where
  abbrev c : ℚ
  c = natℚ k *ℚ S +ℚ natℚ (κ + x)

  by_x : Divided (stiffness_down k κ x) (natℚ k *ℚ natℚ (κ + x)) c
  unfolding stiffness_down
  by_x = subst (λ z. Divided (stiffness_down k κ x) z c) (int_times (pos k) (pos (κ + x))) (divided (k * (κ + x)) k (κ + x) stiff)

  by_y : Divided (load_down k κ ω x y) (natℚ k *ℚ natℚ (ω + y)) c
  unfolding load_down
  by_y = subst (λ z. Divided (load_down k κ ω x y) z c) (int_times (pos k) (pos (ω + y))) (divided (k * (ω + y)) k (κ + x) stiff)

  by_d : Divided (shift_up k κ ω x y p) (natℚ (ω + y) +ℚ natℚ k *ℚ natℚ p) c
  unfolding shift_up
  by_d =
      subst (λ z. Divided (shift_up k κ ω x y p) z c)
      (int_plus (pos (ω + y)) (pos (k * p)) ∙ ap (λ z. natℚ (ω + y) +ℚ z) (int_times (pos k) (pos p)))
      (divided (ω + y + k * p) k (κ + x) stiff)

  abbrev d : ℕ
  d = shift_up k κ ω x y p

  pub handed : Handed (natℚ k *ℚ (natℚ d -ℚ natℚ p)) (natℚ k) (natℚ p) (natℚ (stiffness_down k κ x)) (natℚ (load_down k κ ω x y))
  handed = record {
    low =
        hand_low (natℚ k) (natℚ (κ + x)) (natℚ (ω + y)) (natℚ p) (natℚ d) (natℚ (stiffness_down k κ x)) (natℚ (load_down k κ ω x y))
        by_x.rest by_y.rest by_d.rest (divisor_pos k (κ + x) stiff) (nn_int k) (nn_int p) by_x.high by_d.high by_y.low
        by_x.whole by_y.whole by_d.whole;
    high =
        hand_high (natℚ k) (natℚ (κ + x)) (natℚ (ω + y)) (natℚ p) (natℚ d) (natℚ (stiffness_down k κ x)) (natℚ (load_down k κ ω x y))
        by_x.rest by_y.rest by_d.rest (divisor_pos k (κ + x) stiff) (nn_int k) (nn_int p) by_x.low by_d.low by_y.high
        by_x.whole by_y.whole by_d.whole;
  }

  -- F the force of the tier above, of spring L: the level's balance in 2^-50 N
  module _ (F L : ℚ) (h : Handed F L (natℚ d) (natℚ x) (natℚ y)) where
    abbrev G : ℚ
    G = S *ℚ (natℚ k *ℚ (natℚ d -ℚ natℚ p)) -ℚ S *ℚ F +ℚ natℚ κ *ℚ natℚ d -ℚ S *ℚ natℚ ω

    whole : natℚ d *ℚ (natℚ k *ℚ S +ℚ (natℚ κ +ℚ natℚ x)) +ℚ by_d.rest ≡ (natℚ ω +ℚ natℚ y +ℚ natℚ k *ℚ natℚ p) *ℚ S
    whole =
        ap (λ z. natℚ d *ℚ (natℚ k *ℚ S +ℚ z) +ℚ by_d.rest) (sym (int_plus (pos κ) (pos x)))
        ∙ by_d.whole
        ∙ ap (λ z. (z +ℚ natℚ k *ℚ natℚ p) *ℚ S) (int_plus (pos ω) (pos y))

    pub balance_low : negℚ (natℚ (divisor k κ x) +ℚ S) ≤ℚ G
    balance_low =
        go (natℚ k) (natℚ κ) (natℚ x) (natℚ ω) (natℚ y) (natℚ p) (natℚ d) by_d.rest F (natℚ (divisor k κ x)) whole
        (subst (λ z. by_d.rest ≤ℚ z) (sym is_c) by_d.high) h.high
      where
        is_c : natℚ (divisor k κ x) ≡ c
        is_c = int_plus (pos (k * stiffness_scale)) (pos (κ + x)) ∙ ap (λ z. z +ℚ natℚ (κ + x)) (int_times (pos k) (pos stiffness_scale))

        go :
            (K κ x ω y p d r F c : ℚ) →
            d *ℚ (K *ℚ S +ℚ (κ +ℚ x)) +ℚ r ≡ (ω +ℚ y +ℚ K *ℚ p) *ℚ S →
            r ≤ℚ c →
            S *ℚ F -ℚ S *ℚ y +ℚ x *ℚ d ≤ℚ S →
            negℚ (c +ℚ S) ≤ℚ S *ℚ (K *ℚ (d -ℚ p)) -ℚ S *ℚ F +ℚ κ *ℚ d -ℚ S *ℚ ω
        go = ∀₁₀ ℚR _ λ ρ. simp qq λ e hr hh. by_cert (to hr ⊞ to hh ⊞ times (kp 1) e) tt

    pub balance_high : G ≤ℚ natℚ d +ℚ S *ℚ L
    balance_high = go (natℚ k) (natℚ κ) (natℚ x) (natℚ ω) (natℚ y) (natℚ p) (natℚ d) by_d.rest F L whole by_d.low h.low
      where
        go :
            (K κ x ω y p d r F L : ℚ) →
            d *ℚ (K *ℚ S +ℚ (κ +ℚ x)) +ℚ r ≡ (ω +ℚ y +ℚ K *ℚ p) *ℚ S →
            natℚ 0 ≤ℚ r →
            negℚ (d +ℚ S *ℚ L) ≤ℚ S *ℚ F -ℚ S *ℚ y +ℚ x *ℚ d →
            S *ℚ (K *ℚ (d -ℚ p)) -ℚ S *ℚ F +ℚ κ *ℚ d -ℚ S *ℚ ω ≤ℚ d +ℚ S *ℚ L
        go = ∀₁₀ ℚR _ λ ρ. simp qq λ e hr hh. by_cert (to hr ⊞ to hh ⊞ times (kn 0) e) tt

-- over the uppermost level there is nothing
pub handed_none : (p : ℕ) (F : ℚ) → F ≡ natℚ 0 → Handed F (natℚ 0) (natℚ p) (natℚ 0) (natℚ 0)
handed_none p F z = record { low = low (natℚ p) F z (nn_int p); high = high (natℚ p) F z }
  where
    low : (p F : ℚ) → F ≡ natℚ 0 → natℚ 0 ≤ℚ p → negℚ (p +ℚ S *ℚ natℚ 0) ≤ℚ S *ℚ F -ℚ S *ℚ natℚ 0 +ℚ natℚ 0 *ℚ p
    low = ∀₂ ℚR _ λ ρ. simp qq λ e h. by_cert (to h ⊞ times (kp stiffness_scale) e) tt

    high : (p F : ℚ) → F ≡ natℚ 0 → S *ℚ F -ℚ S *ℚ natℚ 0 +ℚ natℚ 0 *ℚ p ≤ℚ S
    high = ∀₂ ℚR _ λ ρ. simp qq λ e. by_cert (times (⊖ kp stiffness_scale) e) tt
