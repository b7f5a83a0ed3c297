-- The figure of a post reports the greatest of 0 and two forces, from sums found; compression and tension are such.
use mathlib.Core.Path.{◌≡◌, refl, sym, subst}
use mathlib.Core.Bool.{Bool, true, false, not, cond}
use Prim.Native.Nat.{ℕ, ◌≤◌, ◌<◌, ◌^◌, max}
use native.Mathlib.Omega.{max_cases}
use native.Mathlib.Nat.{le-max_left, le-max_right}
use lib.Dec.{T}
use lib.IntN.{ℤ, pos, negsuc, neg_ℤ, ◌+ℤ◌}
use Rattle.arith.specs.Inner.Rounding.{rounded_up}
use Rattle.arith.specs.Fractions.{Frac, nat, negq}
use Rattle.arith.proofs.Rings.{∀₁, ∀₂, ∀₃, ∀₅, ∀₆, by_cert, to, ◌⊞◌}
use Rattle.arith.proofs.IntegerOmega.{nat_le}
use Rattle.arith.proofs.Rationals.{ℚR, ℚ, mk, ◌+ℚ◌, negℚ, ◌≤ℚ◌, leℚ, flip, nn_int}
use Rattle.arith.proofs.RationalTerms.{qq}
use Rattle.arith.proofs.Signs.{same_le}
use Rattle.arith.proofs.RationalOrder.{≤ℚ-trans}
use Rattle.arith.proofs.FractionsInRationals.{mk_int, mk_neg}
use Rattle.springs.proofs.Chain.{natℚ}
use Rattle.statics.specs.Posts.{at_most, greater, lower}
use Rattle.statics.specs.Inner.WholeNumbers.{post_pad, not_below, post_figure}
use Rattle.statics.specs.Reported.{Reported}
use Rattle.statics.proofs.Errors.{turn_le, Off, off_neg}
use Rattle.statics.proofs.Scales.{newtons, newtons_add, newtons_neg, newtons_zero, newtons_le}
use Rattle.statics.proofs.Pads.{post_error, post_pad_lem, post_over}
use Rattle.statics.proofs.Covers.{Covers, covers_reported, ceil_low, ceil_high}

-- the test of two fractions, by cases
choose : (x y : Frac) (Z : Bool → Type 0) → (mk x ≤ℚ mk y → Z true) → (mk y ≤ℚ mk x → Z false) → Z (at_most x y)
unfolding at_most leℚ
choose x y Z f g = go (at_most x y) refl
  where
    go : (c : Bool) → at_most x y ≡ c → Z c
    go true e = f (record { le = subst T (sym e) tt })
    go false e = g (flip (mk x) (mk y) (subst (λ b. T (not b)) (sym e) tt))

module _ (x y : Frac) where
  greater_l : mk x ≤ℚ mk (greater x y)
  greater_l = choose x y (λ c. mk x ≤ℚ mk (cond c y x)) (λ h. h) (λ h. same_le (mk x))

  greater_r : mk y ≤ℚ mk (greater x y)
  greater_r = choose x y (λ c. mk y ≤ℚ mk (cond c y x)) (λ h. same_le (mk y)) (λ h. h)

  greater_least : (z : ℚ) → mk x ≤ℚ z → mk y ≤ℚ z → mk (greater x y) ≤ℚ z
  greater_least z a b = choose x y (λ c. mk (cond c y x) ≤ℚ z) (λ h. b) (λ h. a)

  lower_l : mk (lower x y) ≤ℚ mk x
  lower_l = choose x y (λ c. mk (cond c x y) ≤ℚ mk x) (λ h. same_le (mk x)) (λ h. h)

  lower_r : mk (lower x y) ≤ℚ mk y
  lower_r = choose x y (λ c. mk (cond c x y) ≤ℚ mk y) (λ h. h) (λ h. same_le (mk y))

  lower_most : (z : ℚ) → z ≤ℚ mk x → z ≤ℚ mk y → z ≤ℚ mk (lower x y)
  lower_most z a b = choose x y (λ c. z ≤ℚ mk (cond c x y)) (λ h. a) (λ h. b)

-- X is the greatest of 0, A and B
record Greatest (X A B : ℚ) : Type 0 where
  pub zero : natℚ 0 ≤ℚ X
  pub left : A ≤ℚ X
  pub right : B ≤ℚ X
  pub least : (y : ℚ) → natℚ 0 ≤ℚ y → A ≤ℚ y → B ≤ℚ y → X ≤ℚ y

greatest :
    (y : Frac) (A B : ℚ) →
    A ≤ℚ mk y →
    B ≤ℚ mk y →
    ((z : ℚ) → A ≤ℚ z → B ≤ℚ z → mk y ≤ℚ z) →
    Greatest (mk (greater (nat 0) y)) A B
greatest y A B a b least =
    let X = mk (greater (nat 0) y) in
    record {
      zero = rw (mk_int (pos 0)) at (greater_l (nat 0) y);
      left = ≤ℚ-trans A (mk y) X a (greater_r (nat 0) y);
      right = ≤ℚ-trans B (mk y) X b (greater_r (nat 0) y);
      least = λ z h a b. greater_least (nat 0) y z (rw (mk_int (pos 0)) h) (least z a b);
    }

module _ (l w : Frac) where
  compression_greatest : Greatest (mk (greater (nat 0) (greater l w))) (mk l) (mk w)
  compression_greatest = greatest (greater l w) (mk l) (mk w) (greater_l l w) (greater_r l w) (greater_least l w)

  tension_greatest : Greatest (mk (greater (nat 0) (negq (lower l w)))) (negℚ (mk l)) (negℚ (mk w))
  tension_greatest =
      greatest (negq (lower l w)) (negℚ (mk l)) (negℚ (mk w))
      (rw (mk_neg (lower l w)) (turn_le (mk (lower l w)) (mk l) (lower_l l w)))
      (rw (mk_neg (lower l w)) (turn_le (mk (lower l w)) (mk w) (lower_r l w)))
      (λ z a b. rw (mk_neg (lower l w)) (back z (mk (lower l w)) (lower_most l w (negℚ z) (back (mk l) z a) (back (mk w) z b))))
    where
      back : (p q : ℚ) → negℚ p ≤ℚ q → negℚ q ≤ℚ p
      back = ∀₂ ℚR _ λ ρ. simp qq λ h. by_cert (to h) tt

-- a number, or 0 where it is below
not_below_lem : (z : ℤ) → newtons z ≤ℚ newtons (pos (not_below z))
not_below_lem (pos n) = same_le (newtons (pos n))
not_below_lem (negsuc n) = newtons_le (negsuc n) (pos 0) (record { le = tt })

within : (z : ℤ) (k : ℚ) → natℚ 0 ≤ℚ k → newtons z ≤ℚ k → newtons (pos (not_below z)) ≤ℚ k
within (pos n) k h l = l
within (negsuc n) k h l = rw newtons_zero h

-- a sum x found of a force A, padded
module _ {A : ℚ} (x : ℤ) (o : Off post_error (newtons x) A) where
  padded : ℕ
  padded = not_below (x +ℤ pos post_pad)

  reach : (t : ℕ) → padded ≤ t → A ≤ℚ newtons (pos t)
  unfolding padded
  reach t h =
      go A (newtons x) (newtons (pos post_pad)) (newtons (pos padded)) (newtons (pos t)) post_error o.below post_pad_lem
      (rw (newtons_add x (pos post_pad)) at (not_below_lem (x +ℤ pos post_pad))) (newtons_le (pos padded) (pos t) (nat_le padded t h))
    where
      go : (A x p n t e : ℚ) → A ≤ℚ x +ℚ e → e ≤ℚ p → x +ℚ p ≤ℚ n → n ≤ℚ t → A ≤ℚ t
      go = ∀₆ ℚR _ λ ρ. simp qq λ o h l m. by_cert (to o ⊞ to h ⊞ to l ⊞ to m) tt

  room : (X : ℚ) → natℚ 0 ≤ℚ X → A ≤ℚ X → newtons (pos padded) ≤ℚ X +ℚ natℚ 7
  unfolding padded
  room X X0 AX =
      within (x +ℤ pos post_pad) (X +ℚ natℚ 7) (above X X0)
      (rw (newtons_add x (pos post_pad)) (go A X (newtons x) (newtons (pos post_pad)) post_error o.above AX post_over))
    where
      above : (X : ℚ) → natℚ 0 ≤ℚ X → natℚ 0 ≤ℚ X +ℚ natℚ 7
      above = ∀₁ ℚR _ λ ρ. simp qq λ h. by_cert (to h) tt

      go : (A X x p e : ℚ) → x ≤ℚ A +ℚ e → A ≤ℚ X → e +ℚ p ≤ℚ natℚ 7 → x +ℚ p ≤ℚ X +ℚ natℚ 7
      go = ∀₅ ℚR _ λ ρ. simp qq λ o h l. by_cert (to o ⊞ to h ⊞ to l) tt

figure_covers :
    {X A B : ℚ} (x y : ℤ) →
    Greatest X A B →
    Off post_error (newtons x) A →
    Off post_error (newtons y) B →
    Covers 8 (post_figure x y) X
unfolding post_figure padded
figure_covers {X} {A} {B} x y g p q =
    let a = padded x p in
    let b = padded y q in
    let t : ℚ = newtons (pos (max a b)) in
    let s : ℚ = natℚ (rounded_up (max a b) (2 ^ 18)) in
    let s0 = nn_int (rounded_up (max a b) (2 ^ 18)) in
    record {
      enough =
          g.least s s0
          (≤ℚ-trans A t s (reach x p (max a b) (le-max_left a b)) (ceil_low (max a b)))
          (≤ℚ-trans B t s (reach y q (max a b) (le-max_right a b)) (ceil_low (max a b)));
      back = back X s g.zero s0;
      close =
          close X t s
          (max_cases a b (t ≤ℚ X +ℚ natℚ 7) (λ h e. rw e (room y q X g.zero g.right)) (λ h e. rw e (room x p X g.zero g.left)))
          (ceil_high (max a b));
    }
  where
    back : (X s : ℚ) → natℚ 0 ≤ℚ X → natℚ 0 ≤ℚ s → negℚ X ≤ℚ s
    back = ∀₂ ℚR _ λ ρ. simp qq λ h l. by_cert (to h ⊞ to l) tt

    close : (X t s : ℚ) → t ≤ℚ X +ℚ natℚ 7 → s ≤ℚ t +ℚ natℚ 1 → s ≤ℚ X +ℚ natℚ 8
    close = ∀₃ ℚR _ λ ρ. simp qq λ h l. by_cert (to h ⊞ to l) tt

-- compression and tension, from the two sums of a level
module _
    (m : ℕ) (margin : 8 < m) (x y : ℤ) (l w : Frac)
    (p : Off post_error (newtons x) (mk l)) (q : Off post_error (newtons y) (mk w)) where
  pub compression_reported : Reported m (greater (nat 0) (greater l w)) (post_figure x y)
  compression_reported =
      covers_reported m (greater (nat 0) (greater l w)) margin (figure_covers x y (compression_greatest l w) p q)

  pub tension_reported : Reported m (greater (nat 0) (negq (lower l w))) (post_figure (neg_ℤ x) (neg_ℤ y))
  tension_reported =
      covers_reported m (greater (nat 0) (negq (lower l w))) margin
      (figure_covers (neg_ℤ x) (neg_ℤ y) (tension_greatest l w) (rw (newtons_neg x) (off_neg p)) (rw (newtons_neg y) (off_neg q)))
