-- A sum of two fractions rounded up, and a difference rounded down, from whole numbers: X in parts of 1 / b, and of Y the whole and the
-- parts over it, rounded up.
use Prim.Native.Nat.{ℕ, ◌+◌, ◌*◌, ◌-◌, ◌/◌, ◌%◌, ◌≤◌, ◌<◌}
use mathlib.Core.Path.{◌≡◌, sym, ap, ◌∙◌}
use native.Mathlib.Nat.{div-add-mod}
use native.Mathlib.Omega.{arith}
use lib.IntN.{ℤ, pos, neg_ℤ, ◌-ℤ◌}
use Rattle.arith.specs.Fractions.{Frac}
use Rattle.arith.specs.Wholes.{floor, ceiling}
use Rattle.arith.specs.Inner.Rounding.{rounded_up}
use Rattle.arith.proofs.Polynomials.{v, kp, kn, ⊖◌}
use Rattle.arith.proofs.Rings.{∀₃, ∀₆, ∀₇, by_cert, by_eqs, contra, over, to, times, mul_eq, ◌⊞◌, ◌⊠◌}
use Rattle.arith.proofs.Rationals.{ℚR, ℚ, mk, int, ◌+ℚ◌, ◌-ℚ◌, ◌*ℚ◌, ◌≤ℚ◌, int_plus, int_times, <→≤}
use Rattle.arith.proofs.RationalTerms.{qq, q_int_neg}
use Rattle.arith.proofs.RationalOrder.{above_0, lt_not}
use Rattle.arith.proofs.RationalRounding.{up_low, up_high, down_low, down_high, ceil_up, div_down}
use Rattle.arith.proofs.WholeLaws.{ceiling_is, floor_is}

pub nat_plus : (x y : ℕ) → int (pos (x + y)) ≡ int (pos x) +ℚ int (pos y)
nat_plus x y = int_plus (pos x) (pos y)

pub nat_times : (x y : ℕ) → int (pos (x * y)) ≡ int (pos x) *ℚ int (pos y)
nat_times x y = int_times (pos x) (pos y)

pub int_minus : (a b : ℤ) → int (a -ℤ b) ≡ int a -ℚ int b
int_minus a b = int_plus a (neg_ℤ b) ∙ ap (λ q. int a +ℚ q) (sym (q_int_neg b))

pub nat_minus : (x y : ℕ) → y ≤ x → int (pos (x - y)) ≡ int (pos x) -ℚ int (pos y)
nat_minus x y h = go (int (pos (x - y))) (int (pos y)) (int (pos x)) (sym (nat_plus (x - y) y) ∙ ap (λ (n : ℕ). int (pos n)) e)
  where
    e : x - y + y ≡ x
    e = omega arith

    go : (d y x : ℚ) → d +ℚ y ≡ x → d ≡ x -ℚ y
    go = ∀₃ ℚR _ λ ρ. simp qq λ h. by_eqs (mul_eq (kp 1) h) tt

-- what is over whole numbers W of Y, in parts of 1 / b, is at most `rest`, and not by one more
pub record Over (b Y W rest : ℚ) : Type 0 where
  pub most : b *ℚ (Y -ℚ W) ≤ℚ rest
  pub least : ¬ (b *ℚ (Y -ℚ W) +ℚ int (pos 1) ≤ℚ rest)

module _ (w pp n : ℕ) (Y : ℚ) (p0 : 0 < pp) (e : int (pos (100 * pp)) *ℚ Y ≡ int (pos n)) where
  abbrev whole : ℕ
  whole = n / (100 * pp)

  abbrev rest : ℕ
  rest = n % (100 * pp)

  parts :
      int (pos 100) *ℚ int (pos pp) *ℚ Y ≡ int (pos 100) *ℚ int (pos pp) *ℚ int (pos whole) +ℚ int (pos rest)
  parts =
      let split : int (pos (100 * pp * whole + rest)) ≡ int (pos n) = ap (λ (k : ℕ). int (pos k)) (div-add-mod n (100 * pp)) in
      simp (nat_plus, nat_times) at (e ∙ sym split)

  pub over_rounded : Over (int (pos 100) *ℚ int (pos w)) Y (int (pos whole)) (int (pos (rounded_up (rest * w) pp)))
  over_rounded =
      let u = ceil_up (rest * w) pp p0 in
      let a = int (pos w) in
      let r = int (pos rest) in
      let t = int (pos (rounded_up (rest * w) pp)) in
      record {
        most = low (int (pos pp)) a Y (int (pos whole)) r t (lt_not (above_0 pp p0)) parts (rw (nat_times rest w) at (up_low u));
        least = high (int (pos pp)) a Y (int (pos whole)) r t (<→≤ (above_0 pp p0)) parts (rw (nat_times rest w) at (up_high u));
      }
    where
      low :
          (p w Y W r t : ℚ) →
          ¬ (p ≤ℚ int (pos 0)) →
          int (pos 100) *ℚ p *ℚ Y ≡ int (pos 100) *ℚ p *ℚ W +ℚ r →
          r *ℚ w ≤ℚ p *ℚ t →
          int (pos 100) *ℚ w *ℚ (Y -ℚ W) ≤ℚ t
      low = ∀₆ ℚR _ λ ρ. simp qq λ h e l. over (v 0) h (to l ⊞ times (⊖ v 1) e) tt

      high :
          (p w Y W r t : ℚ) →
          int (pos 0) ≤ℚ p →
          int (pos 100) *ℚ p *ℚ Y ≡ int (pos 100) *ℚ p *ℚ W +ℚ r →
          p *ℚ t +ℚ int (pos 1) ≤ℚ r *ℚ w +ℚ p →
          int (pos 100) *ℚ w *ℚ (Y -ℚ W) +ℚ int (pos 1) ≤ℚ t →
          ⊥
      high = ∀₆ ℚR _ λ ρ. simp qq λ h e l k. contra (to h ⊠ to k ⊞ to l ⊞ times (v 1) e) tt

-- X + Y rounded up, X − Y rounded down
module _ (x : Frac) (S b W rest : ℕ) (X Y : ℚ) (b0 : 0 < b)
    (eX : int (pos b) *ℚ X ≡ int (pos S)) (o : Over (int (pos b)) Y (int (pos W)) (int (pos rest))) where
  pub rounded_up_lem : mk x ≡ X +ℚ Y → ceiling x ≡ pos (W + rounded_up (S + rest) b)
  rounded_up_lem is =
      let u = ceil_up (S + rest) b b0 in
      let T = int (pos (rounded_up (S + rest) b)) in
      let m = low (int (pos b)) X Y (int (pos W)) (int (pos S)) (int (pos rest)) T (lt_not (above_0 b b0)) eX o.most in
      let l = high (int (pos b)) X Y (int (pos W)) (int (pos S)) (int (pos rest)) T (<→≤ (above_0 b b0)) eX in
      ceiling_is x (pos (W + rounded_up (S + rest) b))
      (simp (is, nat_plus) (m (simp nat_plus at (up_low u))))
      (simp (is, nat_plus) (λ k. o.least (l (simp nat_plus at (up_high u)) k)))
    where
      low :
          (b X Y W S r T : ℚ) →
          ¬ (b ≤ℚ int (pos 0)) →
          b *ℚ X ≡ S →
          b *ℚ (Y -ℚ W) ≤ℚ r →
          S +ℚ r ≤ℚ b *ℚ T →
          X +ℚ Y ≤ℚ W +ℚ T
      low = ∀₇ ℚR _ λ ρ. simp qq λ h e o l. over (v 0) h (to l ⊞ to o ⊞ times (kn 0) e) tt

      high :
          (b X Y W S r T : ℚ) →
          int (pos 0) ≤ℚ b →
          b *ℚ X ≡ S →
          b *ℚ T +ℚ int (pos 1) ≤ℚ S +ℚ r +ℚ b →
          X +ℚ Y +ℚ int (pos 1) ≤ℚ W +ℚ T →
          b *ℚ (Y -ℚ W) +ℚ int (pos 1) ≤ℚ r
      high = ∀₇ ℚR _ λ ρ. simp qq λ h e l k. by_cert (to h ⊠ to k ⊞ to l ⊞ times (kp 1) e) tt

  pub rounded_down : rest ≤ b → mk x ≡ X -ℚ Y → floor x ≡ pos ((S + (b - rest)) / b) -ℤ pos (W + 1)
  rounded_down h is =
      let d = div_down (S + (b - rest)) b b0 in
      let T = int (pos ((S + (b - rest)) / b)) in
      let m = low (int (pos b)) X Y (int (pos W)) (int (pos S)) (int (pos rest)) T (lt_not (above_0 b b0)) eX o.most in
      let l = high (int (pos b)) X Y (int (pos W)) (int (pos S)) (int (pos rest)) T (<→≤ (above_0 b b0)) eX in
      let lo = rw (nat_plus S (b - rest), nat_minus b rest h) at (down_low d) in
      let hi = rw (nat_plus S (b - rest), nat_minus b rest h) at (down_high d) in
      let taken : int (pos ((S + (b - rest)) / b) -ℤ pos (W + 1)) ≡ T -ℚ (int (pos W) +ℚ int (pos 1)) =
      int_minus (pos ((S + (b - rest)) / b)) (pos (W + 1)) ∙ ap (λ q. T -ℚ q) (nat_plus W 1)
      in
      floor_is x (pos ((S + (b - rest)) / b) -ℤ pos (W + 1))
      (rw (is, taken) (m lo))
      (rw (is, taken) (λ k. o.least (l hi k)))
    where
      low :
          (b X Y W S r T : ℚ) →
          ¬ (b ≤ℚ int (pos 0)) →
          b *ℚ X ≡ S →
          b *ℚ (Y -ℚ W) ≤ℚ r →
          b *ℚ T ≤ℚ S +ℚ (b -ℚ r) →
          T -ℚ (W +ℚ int (pos 1)) ≤ℚ X -ℚ Y
      low = ∀₇ ℚR _ λ ρ. simp qq λ h e o l. over (v 0) h (to l ⊞ to o ⊞ times (kp 1) e) tt

      high :
          (b X Y W S r T : ℚ) →
          int (pos 0) ≤ℚ b →
          b *ℚ X ≡ S →
          S +ℚ (b -ℚ r) +ℚ int (pos 1) ≤ℚ b *ℚ T +ℚ b →
          T -ℚ (W +ℚ int (pos 1)) +ℚ int (pos 1) ≤ℚ X -ℚ Y →
          b *ℚ (Y -ℚ W) +ℚ int (pos 1) ≤ℚ r
      high = ∀₇ ℚR _ λ ρ. simp qq λ h e l k. by_cert (to h ⊠ to k ⊞ to l ⊞ times (kn 0) e) tt
