-- Whole numbers at the check's scales, shifts in 2^-28 mm and forces in 2^-18 N, beside fractions: what a rounded quotient loses.
use mathlib.Core.Path.{◌≡◌, sym, ap, subst, ◌∙◌}
use mathlib.Core.List.{List}
use Prim.Native.Nat.{ℕ, suc, ◌+◌, ◌*◌, ◌/◌, ◌^◌, ◌≤◌, ◌<◌}
use native.Mathlib.Omega.{arith}
use native.Mathlib.Nat.{mul_comm}
use lib.Dec.{lit≤}
use lib.IntN.{ℤ, pos, negsuc, neg_ℤ, ◌+ℤ◌, ◌*ℤ◌}
use lib.ListN.{get_or}
use lib.Signed.{quot_z, shr_z}
use Rattle.arith.specs.Fractions.{nat}
use Rattle.arith.proofs.Rings.{∀₂, ∀₃, ∀₄, by_ring, by_cert, to, ◌⊞◌, ◌⊠◌}
use Rattle.arith.proofs.Integers.{ℤR, ◌≼◌}
use Rattle.arith.proofs.IntegerTerms.{zq}
use Rattle.arith.proofs.Rationals.{ℚR, ℚ, mk, int, ◌+ℚ◌, ◌*ℚ◌, ◌/ℚ◌, recipℚ, negℚ, ◌≤ℚ◌, <→≤, recip_times, recip_nn, int_plus, int_times}
use Rattle.arith.proofs.Rationals.{nn_int, nn_times}
use Rattle.arith.proofs.RationalTerms.{qq, q_int_neg}
use Rattle.arith.proofs.Signs.{div_eq, le_int}
use Rattle.arith.proofs.RationalOrder.{above_0, unit, unit_times, nat_q, div_le}
use Rattle.arith.proofs.RationalRounding.{Down, div_down, down_le, down_lt}
use Rattle.arith.proofs.FractionsInRationals.{mk_int}
use Rattle.springs.specs.Inner.Promise.{found}
use Rattle.springs.proofs.Chain.{natℚ}
use Rattle.statics.proofs.Errors.{Off, off_neg, off_zero}

pub found_times : (d : List ℕ) (i : ℕ) → natℚ (2 ^ 28) *ℚ mk (found d i) ≡ natℚ (get_or d i 0)
unfolding ◌*ℚ◌ recipℚ int
found_times d i = unit_times (2 ^ 28) (pos (get_or d i 0)) (lit≤ tt)

pub recip_nat : (c : ℕ) → 0 < c → natℚ c *ℚ recipℚ (natℚ c) ≡ natℚ 1
recip_nat c h = recip_times (natℚ c) (above_0 c h)

-- n hundredths
abbrev pub cent : ℕ → ℚ
cent n = natℚ n /ℚ natℚ 100

-- a whole number of 2^-18 N, in N
abbrev pub newtons : ℤ → ℚ
newtons z = unit (2 ^ 18) z

per : ℚ
per = recipℚ (natℚ (2 ^ 18))

per_nn : natℚ 0 ≤ℚ per
unfolding per
per_nn = recip_nn (natℚ (2 ^ 18))

pub newtons_times : (z : ℤ) → natℚ (2 ^ 18) *ℚ newtons z ≡ int z
newtons_times z = unit_times (2 ^ 18) z (lit≤ tt)

pub newtons_whole : (n : ℕ) → newtons (pos (n * 2 ^ 18)) ≡ natℚ n
newtons_whole n =
    sym (div_eq (natℚ n) (natℚ (n * 2 ^ 18)) (natℚ (2 ^ 18)) (above_0 (2 ^ 18) (lit≤ tt)) (sym (int_times (pos n) (pos (2 ^ 18)))))

pub newtons_zero : newtons (pos 0) ≡ natℚ 0
newtons_zero = newtons_whole 0

pub newtons_nn : (n : ℕ) → natℚ 0 ≤ℚ newtons (pos n)
newtons_nn n = nn_times (natℚ n) (recipℚ (natℚ (2 ^ 18))) (nn_int n) (recip_nn (natℚ (2 ^ 18)))

pub newtons_add : (x y : ℤ) → newtons (x +ℤ y) ≡ newtons x +ℚ newtons y
unfolding per
newtons_add x y = ap (λ z. z *ℚ per) (int_plus x y) ∙ go (int x) (int y) per
  where
    go : (x y r : ℚ) → (x +ℚ y) *ℚ r ≡ x *ℚ r +ℚ y *ℚ r
    go = ∀₃ ℚR _ λ ρ. simp qq (by_ring tt)

pub newtons_neg : (x : ℤ) → newtons (neg_ℤ x) ≡ negℚ (newtons x)
unfolding per
newtons_neg x = ap (λ z. z *ℚ per) (sym (q_int_neg x)) ∙ go (int x) per
  where
    go : (x r : ℚ) → negℚ x *ℚ r ≡ negℚ (x *ℚ r)
    go = ∀₂ ℚR _ λ ρ. simp qq (by_ring tt)

pub newtons_scale : (h x : ℤ) → newtons (h *ℤ x) ≡ int h *ℚ newtons x
unfolding per
newtons_scale h x = ap (λ z. z *ℚ per) (int_times h x) ∙ go (int h) (int x) per
  where
    go : (h x r : ℚ) → h *ℚ x *ℚ r ≡ h *ℚ (x *ℚ r)
    go = ∀₃ ℚR _ λ ρ. simp qq (by_ring tt)

pub newtons_le : (a b : ℤ) → a ≼ b → newtons a ≤ℚ newtons b
unfolding per
newtons_le a b h = go (int a) (int b) per per_nn (le_int a b h)
  where
    go : (a b r : ℚ) → natℚ 0 ≤ℚ r → a ≤ℚ b → a *ℚ r ≤ℚ b *ℚ r
    go = ∀₃ ℚR _ λ ρ. simp qq λ r0 h. by_cert (to r0 ⊠ to h) tt

pub nothing_off : {e : ℚ} → natℚ 0 ≤ℚ e → Off e (newtons (pos 0)) (mk (nat 0))
nothing_off h = rw (newtons_zero, mk_int (pos 0)) (off_zero h)

-- quotients rounded down, and towards zero
module _ (c : ℕ) (c0 : 0 < c) where
  down_off : {z r : ℤ} → Down z (pos c) r → Off (newtons (pos 1)) (newtons r) (newtons z /ℚ natℚ c)
  unfolding per
  down_off {z} {r} d =
      let q = recipℚ (natℚ c) in
      record {
        above = high (int z) q (int r) per per_nn (down_le (above_0 c c0) d);
        below = low (int z) q (int r) per per_nn (<→≤ (down_lt (above_0 c c0) d));
      }
    where
      high : (n r q h : ℚ) → natℚ 0 ≤ℚ h → q ≤ℚ n *ℚ r → q *ℚ h ≤ℚ n *ℚ h *ℚ r +ℚ natℚ 1 *ℚ h
      high = ∀₄ ℚR _ λ ρ. simp qq λ h0 l. by_cert (to h0 ⊠ to l ⊞ to h0) tt

      low : (n r q h : ℚ) → natℚ 0 ≤ℚ h → n *ℚ r ≤ℚ q +ℚ natℚ 1 → n *ℚ h *ℚ r ≤ℚ q *ℚ h +ℚ natℚ 1 *ℚ h
      low = ∀₄ ℚR _ λ ρ. simp qq λ h0 l. by_cert (to h0 ⊠ to l) tt

  shift_down : (z : ℤ) → Down z (pos c) (shr_z z c)
  shift_down (pos n) = div_down n c c0
  shift_down (negsuc n) =
      let d = div_down n c c0 in
      rw (before n, before (n / c))
      record {
        low = low (pos n) (pos c) (pos (n / c)) d.high;
        high = high (pos n) (pos c) (pos (n / c)) d.low;
      }
    where
      before : (m : ℕ) → negsuc m ≡ neg_ℤ (pos m +ℤ pos 1)
      before m =
          let e : suc m ≡ m + 1 = omega arith in
          ap (λ (k : ℕ). neg_ℤ (pos k)) e

      low : (n c q : ℤ) → n +ℤ pos 1 ≼ c *ℤ q +ℤ c → c *ℤ neg_ℤ (q +ℤ pos 1) ≼ neg_ℤ (n +ℤ pos 1)
      low = ∀₃ ℤR _ λ ρ. simp zq λ h. by_cert (to h) tt

      high : (n c q : ℤ) → c *ℤ q ≼ n → neg_ℤ (n +ℤ pos 1) +ℤ pos 1 ≼ c *ℤ neg_ℤ (q +ℤ pos 1) +ℤ c
      high = ∀₃ ℤR _ λ ρ. simp zq λ h. by_cert (to h) tt

  pub shift_off : (z : ℤ) → Off (newtons (pos 1)) (newtons (shr_z z c)) (newtons z /ℚ natℚ c)
  shift_off z = down_off (shift_down z)

  pub quot_off : (z : ℤ) → Off (newtons (pos 1)) (newtons (quot_z z (pos c))) (newtons z /ℚ natℚ c)
  quot_off (pos n) = down_off (div_down n c c0)
  quot_off (negsuc n) =
      rw (newtons_neg (pos (suc n / c)))
      (subst (λ y. Off (newtons (pos 1)) (negℚ (newtons (pos (suc n / c)))) y) back (off_neg (down_off (div_down (suc n) c c0))))
    where
      turn : (x r : ℚ) → negℚ (x *ℚ r) ≡ negℚ x *ℚ r
      turn = ∀₂ ℚR _ λ ρ. simp qq (by_ring tt)

      back : negℚ (newtons (pos (suc n)) /ℚ natℚ c) ≡ newtons (negsuc n) /ℚ natℚ c
      back =
          turn (newtons (pos (suc n))) (recipℚ (natℚ c)) ∙ ap (λ z. z /ℚ natℚ c) (sym (newtons_neg (pos (suc n))))

-- N / y
module _ (N y : ℕ) (y0 : 0 < y) where
  pub share_nn : natℚ 0 ≤ℚ natℚ N /ℚ natℚ y
  share_nn = nn_times (natℚ N) (recipℚ (natℚ y)) (nn_int N) (recip_nn (natℚ y))

  pub share_most : (k : ℕ) → N ≤ k * y → natℚ N /ℚ natℚ y ≤ℚ natℚ k
  share_most k h =
      div_le (natℚ N) (natℚ y) (natℚ k) (above_0 y y0)
      (rw (sym (int_times (pos y) (pos k))) (nat_q N (y * k) (omega (arith, mul_comm y k))))
