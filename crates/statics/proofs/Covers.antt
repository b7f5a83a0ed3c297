-- A figure in whole newtons beside the exact force: a padded number, rounded up, is at least the force in size and little above it.
use mathlib.Core.Path.{sym}
use Prim.Native.Nat.{ℕ, ◌+◌, ◌*◌, ◌^◌, ◌≤◌, ◌<◌}
use native.Mathlib.Omega.{arith}
use lib.Dec.{lit≤}
use lib.IntN.{pos}
use Rattle.arith.specs.Inner.Rounding.{rounded_up}
use Rattle.arith.specs.Fractions.{Frac, nat, ◌+q◌, absq}
use Rattle.arith.proofs.Rings.{∀₅, ∀₇, ∀₈, by_cert, to, num, contra, ◌⊞◌, ◌⊠◌}
use Rattle.arith.proofs.Rationals.{ℚR, ℚ, mk, ◌+ℚ◌, ◌*ℚ◌, ◌/ℚ◌, negℚ, absℚ, ◌≤ℚ◌, <→≤, int_plus, to-⊑}
use Rattle.arith.proofs.RationalTerms.{qq}
use Rattle.arith.proofs.Signs.{ge_q, ge_neg_q, absℚ_le, absℚ_neg}
use Rattle.arith.proofs.RationalOrder.{lt_of, nat_q, above_0}
use Rattle.arith.proofs.RationalRounding.{ceil_up, up_le, up_lt}
use Rattle.arith.proofs.FractionsInRationals.{to-⊏, mk_abs, mk_int, mk_add}
use Rattle.springs.proofs.Chain.{natℚ}
use Rattle.statics.specs.Reported.{Reported}
use Rattle.statics.proofs.Errors.{Off, off_nn}
use Rattle.statics.proofs.Scales.{newtons, newtons_add, newtons_nn, share_nn, share_most}

-- n is not below X either way round, and at most b above it
pub record Covers (b n : ℕ) (X : ℚ) : Type 0 where
  pub enough : X ≤ℚ natℚ n
  pub back : negℚ X ≤ℚ natℚ n
  pub close : natℚ n ≤ℚ X +ℚ natℚ b

-- in the report's words, of a force or of one with its sign reversed
module _ {b n : ℕ} (m : ℕ) (X : Frac) (less : b < m) where
  report : (Y : ℚ) → absℚ (mk X) ≤ℚ natℚ n → Y ≤ℚ absℚ (mk X) → natℚ n ≤ℚ Y +ℚ natℚ b → Reported m X n
  report Y h l c =
      record {
        enough = to-⊑ (absq X) (nat n) (rw (mk_abs X, mk_int (pos n)) h);
        close =
            to-⊏ (nat n) (absq X +q nat m)
            (rw (mk_int (pos n), mk_add (absq X) (nat m), mk_abs X, mk_int (pos m))
            (lt_of (natℚ n) (absℚ (mk X) +ℚ natℚ m) (go (natℚ n) (absℚ (mk X)) Y (natℚ b) (natℚ m) l c below)));
      }
    where
      below : natℚ b +ℚ natℚ 1 ≤ℚ natℚ m
      below = rw (sym (int_plus (pos b) (pos 1))) (nat_q (b + 1) m (omega arith))

      go : (n A Y b m : ℚ) → Y ≤ℚ A → n ≤ℚ Y +ℚ b → b +ℚ natℚ 1 ≤ℚ m → A +ℚ m ≤ℚ n → ⊥
      go = ∀₅ ℚR _ λ ρ. simp qq λ y h l k. contra (to y ⊞ to h ⊞ to l ⊞ to k) tt

  pub covers_reported : Covers b n (mk X) → Reported m X n
  covers_reported s = report (mk X) (absℚ_le (mk X) (natℚ n) s.enough s.back) (ge_q (mk X)) s.close

  pub back_reported : Covers b n (negℚ (mk X)) → Reported m X n
  back_reported s =
      report (negℚ (mk X)) (rw absℚ_neg at (absℚ_le (negℚ (mk X)) (natℚ n) s.enough s.back)) (ge_neg_q (mk X)) s.close

-- a number of 2^-18 N in N, rounded up
module _ (n : ℕ) where
  pub ceil_low : newtons (pos n) ≤ℚ natℚ (rounded_up n (2 ^ 18))
  ceil_low = up_le (above_0 (2 ^ 18) (lit≤ tt)) (ceil_up n (2 ^ 18) (lit≤ tt))

  pub ceil_high : natℚ (rounded_up n (2 ^ 18)) ≤ℚ newtons (pos n) +ℚ natℚ 1
  ceil_high = <→≤ (up_lt (above_0 (2 ^ 18) (lit≤ tt)) (ceil_up n (2 ^ 18) (lit≤ tt)))

-- n found within e of X, padded by p
module _ {e X : ℚ} (n p : ℕ) (o : Off e (newtons (pos n)) X) (pad : e ≤ℚ newtons (pos p)) where
  pub padded_covers : e +ℚ newtons (pos p) ≤ℚ natℚ 1 → Covers 2 (rounded_up (n + p) (2 ^ 18)) X
  padded_covers lift =
      let s : ℚ = natℚ (rounded_up (n + p) (2 ^ 18)) in
      let low = rw (newtons_add (pos n) (pos p)) at (ceil_low (n + p)) in
      let high = rw (newtons_add (pos n) (pos p)) at (ceil_high (n + p)) in
      record {
        enough = enough e X (newtons (pos n)) (newtons (pos p)) s o.below pad low;
        back = back e X (newtons (pos n)) (newtons (pos p)) s (newtons_nn n) o.above pad low;
        close = close e X (newtons (pos n)) (newtons (pos p)) s o.above lift high;
      }
    where
      enough : (e X n p s : ℚ) → X ≤ℚ n +ℚ e → e ≤ℚ p → n +ℚ p ≤ℚ s → X ≤ℚ s
      enough = ∀₅ ℚR _ λ ρ. simp qq λ o h l. by_cert (to o ⊞ to h ⊞ to l) tt

      back : (e X n p s : ℚ) → natℚ 0 ≤ℚ n → n ≤ℚ X +ℚ e → e ≤ℚ p → n +ℚ p ≤ℚ s → negℚ X ≤ℚ s
      back = ∀₅ ℚR _ λ ρ. simp qq λ z o h l. by_cert (num 2 ⊠ to z ⊞ to o ⊞ to h ⊞ to l) tt

      close : (e X n p s : ℚ) → n ≤ℚ X +ℚ e → e +ℚ p ≤ℚ natℚ 1 → s ≤ℚ n +ℚ p +ℚ natℚ 1 → s ≤ℚ X +ℚ natℚ 2
      close = ∀₅ ℚR _ λ ρ. simp qq λ o h l. by_cert (to o ⊞ to h ⊞ to l) tt

  -- and times N / y, which is at most 42: m is at most h above that
  pub turned_covers :
      (N y m : ℕ) (h : ℚ) →
      0 < y →
      N ≤ 42 * y →
      natℚ 42 *ℚ (e +ℚ newtons (pos p)) +ℚ h ≤ℚ natℚ 5 →
      newtons (pos (n + p)) *ℚ (natℚ N /ℚ natℚ y) ≤ℚ newtons (pos m) →
      newtons (pos m) ≤ℚ newtons (pos (n + p)) *ℚ (natℚ N /ℚ natℚ y) +ℚ h →
      Covers 6 (rounded_up m (2 ^ 18)) (X *ℚ (natℚ N /ℚ natℚ y))
  turned_covers N y m h y0 Ny lift first first-close =
      let q : ℚ = natℚ N /ℚ natℚ y in
      let s : ℚ = natℚ (rounded_up m (2 ^ 18)) in
      let up = rw (newtons_add (pos n) (pos p)) at first in
      let up_close = rw (newtons_add (pos n) (pos p)) at first-close in
      record {
        enough =
            enough e X (newtons (pos n)) (newtons (pos p)) q (newtons (pos m)) s
            (share_nn N y y0) o.below pad up (ceil_low m);
        back =
            back e X (newtons (pos n)) (newtons (pos p)) q (newtons (pos m)) s
            (share_nn N y y0) (newtons_nn n) o.above pad up (ceil_low m);
        close =
            close e X (newtons (pos n)) (newtons (pos p)) q (newtons (pos m)) s h
            (share_nn N y y0) (share_most N y y0 42 Ny) (off_nn o) (newtons_nn p) o.above lift up_close (ceil_high m);
      }
    where
      enough :
          (e X n p q m s : ℚ) →
          natℚ 0 ≤ℚ q →
          X ≤ℚ n +ℚ e →
          e ≤ℚ p →
          (n +ℚ p) *ℚ q ≤ℚ m →
          m ≤ℚ s →
          X *ℚ q ≤ℚ s
      enough = ∀₇ ℚR _ λ ρ. simp qq λ z o h f l. by_cert (to z ⊠ to o ⊞ to z ⊠ to h ⊞ to f ⊞ to l) tt

      back :
          (e X n p q m s : ℚ) →
          natℚ 0 ≤ℚ q →
          natℚ 0 ≤ℚ n →
          n ≤ℚ X +ℚ e →
          e ≤ℚ p →
          (n +ℚ p) *ℚ q ≤ℚ m →
          m ≤ℚ s →
          negℚ (X *ℚ q) ≤ℚ s
      back = ∀₇ ℚR _ λ ρ. simp qq λ z n0 o h f l. by_cert (to z ⊠ to o ⊞ to z ⊠ to h ⊞ num 2 ⊠ (to z ⊠ to n0) ⊞ to f ⊞ to l) tt

      close :
          (e X n p q m s h : ℚ) →
          natℚ 0 ≤ℚ q →
          q ≤ℚ natℚ 42 →
          natℚ 0 ≤ℚ e →
          natℚ 0 ≤ℚ p →
          n ≤ℚ X +ℚ e →
          natℚ 42 *ℚ (e +ℚ p) +ℚ h ≤ℚ natℚ 5 →
          m ≤ℚ (n +ℚ p) *ℚ q +ℚ h →
          s ≤ℚ m +ℚ natℚ 1 →
          s ≤ℚ X *ℚ q +ℚ natℚ 6
      close = ∀₈ ℚR _ λ ρ. simp qq λ z l e0 p0 o k f g. by_cert (to g ⊞ to f ⊞ to z ⊠ to o ⊞ (to e0 ⊞ to p0) ⊠ to l ⊞ to k) tt
