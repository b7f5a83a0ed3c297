-- A number beside the exact one: how far off it may be, through sums, products and shares.
use Rattle.arith.proofs.Rings.{∀₁, ∀₂, ∀₃, ∀₄, ∀₅, ∀₆, ∀₇, by_cert, to, part, ◌⊞◌, ◌⊠◌}
use Rattle.arith.proofs.Rationals.{ℚR, ℚ, ◌+ℚ◌, ◌-ℚ◌, ◌*ℚ◌, negℚ, absℚ, ◌≤ℚ◌}
use Rattle.arith.proofs.RationalTerms.{qq}
use Rattle.arith.proofs.Signs.{ge_q, ge_neg_q}
use Rattle.springs.proofs.Chain.{natℚ}

pub turn_le : (p q : ℚ) → p ≤ℚ q → negℚ q ≤ℚ negℚ p
turn_le = ∀₂ ℚR _ λ ρ. simp qq λ h. by_cert (to h) tt

pub add_le : (p q r : ℚ) → p ≤ℚ q → p +ℚ r ≤ℚ q +ℚ r
add_le = ∀₃ ℚR _ λ ρ. simp qq λ h. by_cert (to h) tt

-- x is at most e off X
pub record Off (e x X : ℚ) : Type 0 where
  pub above : x ≤ℚ X +ℚ e
  pub below : X ≤ℚ x +ℚ e

module _ {e x X : ℚ} where
  pub off_nn : Off e x X → natℚ 0 ≤ℚ e
  off_nn o = go e x X o.above o.below
    where
      go : (e x X : ℚ) → x ≤ℚ X +ℚ e → X ≤ℚ x +ℚ e → natℚ 0 ≤ℚ e
      go = ∀₃ ℚR _ λ ρ. simp qq λ h l. part 1 (to h ⊞ to l) tt

  pub off_abs : absℚ (x -ℚ X) ≤ℚ e → Off e x X
  off_abs h =
      record {
        above = high e x X (absℚ (x -ℚ X)) h (ge_q (x -ℚ X));
        below = low e x X (absℚ (x -ℚ X)) h (ge_neg_q (x -ℚ X));
      }
    where
      high : (e x X m : ℚ) → m ≤ℚ e → x -ℚ X ≤ℚ m → x ≤ℚ X +ℚ e
      high = ∀₄ ℚR _ λ ρ. simp qq λ h l. by_cert (to h ⊞ to l) tt

      low : (e x X m : ℚ) → m ≤ℚ e → negℚ (x -ℚ X) ≤ℚ m → X ≤ℚ x +ℚ e
      low = ∀₄ ℚR _ λ ρ. simp qq λ h l. by_cert (to h ⊞ to l) tt

  pub off_neg : Off e x X → Off e (negℚ x) (negℚ X)
  off_neg o = record { above = turn e x X o.below; below = turn e X x o.above }
    where
      turn : (e x X : ℚ) → X ≤ℚ x +ℚ e → negℚ x ≤ℚ negℚ X +ℚ e
      turn = ∀₃ ℚR _ λ ρ. simp qq λ h. by_cert (to h) tt

  pub off_more : {f : ℚ} → e ≤ℚ f → Off e x X → Off f x X
  off_more {f} h o = record { above = more e f x X h o.above; below = more e f X x h o.below }
    where
      more : (e f x X : ℚ) → e ≤ℚ f → x ≤ℚ X +ℚ e → x ≤ℚ X +ℚ f
      more = ∀₄ ℚR _ λ ρ. simp qq λ h l. by_cert (to h ⊞ to l) tt

  pub off_add : {f y Y : ℚ} → Off e x X → Off f y Y → Off (e +ℚ f) (x +ℚ y) (X +ℚ Y)
  off_add {f} {y} {Y} o p =
      record { above = join e f x y X Y o.above p.above; below = join e f X Y x y o.below p.below }
    where
      join : (e f x y X Y : ℚ) → x ≤ℚ X +ℚ e → y ≤ℚ Y +ℚ f → x +ℚ y ≤ℚ X +ℚ Y +ℚ (e +ℚ f)
      join = ∀₆ ℚR _ λ ρ. simp qq λ h l. by_cert (to h ⊞ to l) tt

  pub off_trans : {f Y : ℚ} → Off e x X → Off f X Y → Off (e +ℚ f) x Y
  off_trans {f} {Y} o p =
      record { above = high e f x X Y o.above p.above; below = low e f x X Y o.below p.below }
    where
      high : (e f x X Y : ℚ) → x ≤ℚ X +ℚ e → X ≤ℚ Y +ℚ f → x ≤ℚ Y +ℚ (e +ℚ f)
      high = ∀₅ ℚR _ λ ρ. simp qq λ h l. by_cert (to h ⊞ to l) tt

      low : (e f x X Y : ℚ) → X ≤ℚ x +ℚ e → Y ≤ℚ X +ℚ f → Y ≤ℚ x +ℚ (e +ℚ f)
      low = ∀₅ ℚR _ λ ρ. simp qq λ h l. by_cert (to h ⊞ to l) tt

  pub off_times : {h : ℚ} → natℚ 0 ≤ℚ h → Off e x X → Off (h *ℚ e) (h *ℚ x) (h *ℚ X)
  off_times {h} h0 o = record { above = scale e x X h h0 o.above; below = scale e X x h h0 o.below }
    where
      scale : (e x X h : ℚ) → natℚ 0 ≤ℚ h → x ≤ℚ X +ℚ e → h *ℚ x ≤ℚ h *ℚ X +ℚ h *ℚ e
      scale = ∀₄ ℚR _ λ ρ. simp qq λ z h. by_cert (to z ⊠ to h) tt

  -- a share q, at most k: u is at most f off the share of x
  pub off_share :
      {f q u k : ℚ} → natℚ 0 ≤ℚ q → q ≤ℚ k → Off e x X → Off f u (x *ℚ q) → Off (k *ℚ e +ℚ f) u (X *ℚ q)
  off_share {f} {q} {u} {k} q0 q1 o p =
      record {
        above = high e f x X q u k q0 q1 (off_nn o) o.above p.above;
        below = low e f x X q u k q0 q1 (off_nn o) o.below p.below;
      }
    where
      high :
          (e f x X q u k : ℚ) →
          natℚ 0 ≤ℚ q →
          q ≤ℚ k →
          natℚ 0 ≤ℚ e →
          x ≤ℚ X +ℚ e →
          u ≤ℚ x *ℚ q +ℚ f →
          u ≤ℚ X *ℚ q +ℚ (k *ℚ e +ℚ f)
      high = ∀₇ ℚR _ λ ρ. simp qq λ z h e0 o l. by_cert (to l ⊞ to z ⊠ to o ⊞ to e0 ⊠ to h) tt

      low :
          (e f x X q u k : ℚ) →
          natℚ 0 ≤ℚ q →
          q ≤ℚ k →
          natℚ 0 ≤ℚ e →
          X ≤ℚ x +ℚ e →
          x *ℚ q ≤ℚ u +ℚ f →
          X *ℚ q ≤ℚ u +ℚ (k *ℚ e +ℚ f)
      low = ∀₇ ℚR _ λ ρ. simp qq λ z h e0 o l. by_cert (to l ⊞ to z ⊠ to o ⊞ to e0 ⊠ to h) tt

pub off_zero : {e : ℚ} → natℚ 0 ≤ℚ e → Off e (natℚ 0) (natℚ 0)
off_zero {e} h = record { above = go e h; below = go e h }
  where
    go : (e : ℚ) → natℚ 0 ≤ℚ e → natℚ 0 ≤ℚ natℚ 0 +ℚ e
    go = ∀₁ ℚR _ λ ρ. simp qq λ h. by_cert (to h) tt
