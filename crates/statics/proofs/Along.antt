-- A number × a side / LY by the reciprocal of LY: it is never above the exact quotient, and at most 0.081 N below it.
use mathlib.Core.Path.{◌≡◌, ap}
use Prim.Native.Nat.{ℕ, ◌+◌, ◌*◌, ◌-◌, ◌/◌, ◌^◌, ◌≤◌, ◌<◌}
use native.Mathlib.Omega.{arith}
use native.Mathlib.Nat.{mod-eq_of_lt}
use lib.Dec.{lit≤}
use lib.IntN.{pos}
use Rattle.arith.proofs.Polynomials.{v, ◌⊗◌, ◌⊕◌, ⊖◌}
use Rattle.arith.proofs.Rings.{∀₃, ∀₆, ∀₇, by_cert, to, times, num, part, ◌⊞◌, ◌⊠◌}
use Rattle.arith.proofs.Rationals.{ℚR, ℚ, ◌+ℚ◌, ◌*ℚ◌, ◌/ℚ◌, recipℚ, ◌≤ℚ◌, recip_nn, int_times, nn_int}
use Rattle.arith.proofs.RationalTerms.{qq}
use Rattle.arith.proofs.RationalOrder.{nat_q}
use Rattle.arith.proofs.RationalRounding.{div_down, down_low, down_high}
use Rattle.springs.proofs.Chain.{natℚ}
use Rattle.statics.specs.Inner.WholeNumbers.{inverse, along, along_pad, along_middle}
use Rattle.statics.proofs.Errors.{Off, add_le}
use Rattle.statics.proofs.Scales.{newtons, newtons_add, recip_nat}

-- the steps: y is LY, r its reciprocal, N the side, t the rate, x the number, w a 256th of it, z the product
low :
    (y r N t x w z : ℚ) →
    natℚ 0 ≤ℚ y →
    natℚ 0 ≤ℚ N →
    natℚ 0 ≤ℚ w →
    y *ℚ r ≤ℚ natℚ (2 ^ 46) →
    natℚ (2 ^ 20) *ℚ t ≤ℚ N *ℚ r →
    natℚ (2 ^ 8) *ℚ w ≤ℚ x →
    natℚ (2 ^ 18) *ℚ z ≤ℚ w *ℚ t →
    y *ℚ z ≤ℚ x *ℚ N
low =
    ∀₇ ℚR _ λ ρ. simp qq λ y0 N0 w0 a b c d.
    part (2 ^ 46 - 1)
    (num (2 ^ 46) ⊠ (to N0 ⊠ to c)
    ⊞ num (2 ^ 8) ⊠ (to w0 ⊠ to N0 ⊠ to a)
    ⊞ num (2 ^ 8) ⊠ (to y0 ⊠ to w0 ⊠ to b)
    ⊞ num (2 ^ 28) ⊠ (to y0 ⊠ to d))
    tt

high :
    (y r N t x w z : ℚ) →
    natℚ 0 ≤ℚ y →
    natℚ 0 ≤ℚ N →
    natℚ 0 ≤ℚ w →
    N ≤ℚ natℚ 42 *ℚ y →
    N ≤ℚ natℚ 22913 →
    x ≤ℚ natℚ (5 * 2 ^ 37) →
    natℚ (2 ^ 8) *ℚ w ≤ℚ x →
    natℚ (2 ^ 46) +ℚ natℚ 1 ≤ℚ y *ℚ r +ℚ y →
    N *ℚ r +ℚ natℚ 1 ≤ℚ natℚ (2 ^ 20) *ℚ t +ℚ natℚ (2 ^ 20) →
    x +ℚ natℚ 1 ≤ℚ natℚ (2 ^ 8) *ℚ w +ℚ natℚ (2 ^ 8) →
    w *ℚ t +ℚ natℚ 1 ≤ℚ natℚ (2 ^ 18) *ℚ z +ℚ natℚ (2 ^ 18) →
    x *ℚ N ≤ℚ y *ℚ (z +ℚ natℚ along_pad)
high =
    ∀₇ ℚR _ λ ρ. simp qq λ y0 N0 w0 n l m k a b c d.
    part (2 ^ 46 - 1)
    (num (2 ^ 46) ⊠ (to N0 ⊠ to c) ⊞ num (255 * 2 ^ 46) ⊠ to n
    ⊞ num (2 ^ 8) ⊠ (to w0 ⊠ to N0 ⊠ to a ⊞ to w0 ⊠ to N0)
    ⊞ to N0 ⊠ to y0 ⊠ (to k ⊞ to m)
    ⊞ num (5 * 2 ^ 37) ⊠ (to y0 ⊠ to l)
    ⊞ num (2 ^ 8) ⊠ (to y0 ⊠ to w0 ⊠ to b ⊞ to y0 ⊠ to w0)
    ⊞ num (2 ^ 20) ⊠ (to y0 ⊠ (to k ⊞ to m))
    ⊞ num (2 ^ 28) ⊠ (to y0 ⊠ to d ⊞ to y0)
    ⊞ num ((along_pad - 255 * 42 - 1 - 5 * 2 ^ 11) * 2 ^ 46 - 5 * 2 ^ 37 * 22913) ⊠ to y0)
    tt

module _ (N y : ℕ) (y0 : 0 < y) (x : ℕ) (most : x ≤ 5 * 2 ^ 37) where
  abbrev rate : ℕ
  rate = N * inverse y / 2 ^ 20

  abbrev product : ℕ
  product = x / 2 ^ 8 * rate

  -- such a number has all of its 256ths under 2^32
  whole : along x N (inverse y) ≡ product / 2 ^ 18
  unfolding along
  whole = ap (λ w. w * rate / 2 ^ 18) (mod-eq_of_lt (omega arith))

  below : natℚ y *ℚ natℚ (along x N (inverse y)) ≤ℚ natℚ x *ℚ natℚ N
  unfolding inverse
  below =
      rw whole
      (low (natℚ y) (natℚ (inverse y)) (natℚ N) (natℚ rate) (natℚ x) (natℚ (x / 2 ^ 8)) (natℚ (product / 2 ^ 18))
      (nn_int y) (nn_int N) (nn_int (x / 2 ^ 8)) (down_low (div_down (2 ^ 46) y y0))
      (rw (int_times (pos N) (pos (inverse y))) at (down_low (div_down (N * inverse y) (2 ^ 20) (lit≤ tt))))
      (down_low (div_down x (2 ^ 8) (lit≤ tt)))
      (rw (int_times (pos (x / 2 ^ 8)) (pos rate)) at (down_low (div_down product (2 ^ 18) (lit≤ tt)))))

  along_below : newtons (pos (along x N (inverse y))) ≤ℚ newtons (pos x) *ℚ (natℚ N /ℚ natℚ y)
  along_below =
      go (natℚ x) (natℚ N) (natℚ y) (recipℚ (natℚ y)) (natℚ (along x N (inverse y))) (recipℚ (natℚ (2 ^ 18)))
      (recip_nat y y0) (recip_nn (natℚ y)) (recip_nn (natℚ (2 ^ 18))) below
    where
      go :
          (x N y r z h : ℚ) →
          y *ℚ r ≡ natℚ 1 →
          natℚ 0 ≤ℚ r →
          natℚ 0 ≤ℚ h →
          y *ℚ z ≤ℚ x *ℚ N →
          z *ℚ h ≤ℚ x *ℚ h *ℚ (N *ℚ r)
      go = ∀₆ ℚR _ λ ρ. simp qq λ e r0 h0 l. by_cert (to r0 ⊠ to h0 ⊠ to l ⊞ times (v 4 ⊗ v 5) e) tt

  -- a side of at most 42 LY
  module _ (steep : N ≤ 42 * y) (short : N ≤ 22913) where
    above : natℚ x *ℚ natℚ N ≤ℚ natℚ y *ℚ (natℚ (along x N (inverse y)) +ℚ natℚ along_pad)
    unfolding inverse
    above =
        rw whole
        (high (natℚ y) (natℚ (inverse y)) (natℚ N) (natℚ rate) (natℚ x) (natℚ (x / 2 ^ 8)) (natℚ (product / 2 ^ 18))
        (nn_int y) (nn_int N) (nn_int (x / 2 ^ 8))
        (rw (int_times (pos 42) (pos y)) at (nat_q N (42 * y) steep)) (nat_q N 22913 short) (nat_q x (5 * 2 ^ 37) most)
        (down_low (div_down x (2 ^ 8) (lit≤ tt))) (down_high (div_down (2 ^ 46) y y0))
        (rw (int_times (pos N) (pos (inverse y))) at (down_high (div_down (N * inverse y) (2 ^ 20) (lit≤ tt))))
        (down_high (div_down x (2 ^ 8) (lit≤ tt)))
        (rw (int_times (pos (x / 2 ^ 8)) (pos rate)) at (down_high (div_down product (2 ^ 18) (lit≤ tt)))))

    along_above :
        newtons (pos x) *ℚ (natℚ N /ℚ natℚ y) ≤ℚ newtons (pos (along x N (inverse y))) +ℚ newtons (pos along_pad)
    along_above =
        go (natℚ x) (natℚ N) (natℚ y) (recipℚ (natℚ y)) (natℚ (along x N (inverse y))) (natℚ along_pad) (recipℚ (natℚ (2 ^ 18)))
        (recip_nat y y0) (recip_nn (natℚ y)) (recip_nn (natℚ (2 ^ 18))) above
      where
        go :
            (x N y r z p h : ℚ) →
            y *ℚ r ≡ natℚ 1 →
            natℚ 0 ≤ℚ r →
            natℚ 0 ≤ℚ h →
            x *ℚ N ≤ℚ y *ℚ (z +ℚ p) →
            x *ℚ h *ℚ (N *ℚ r) ≤ℚ z *ℚ h +ℚ p *ℚ h
        go = ∀₇ ℚR _ λ ρ. simp qq λ e r0 h0 l. by_cert (to r0 ⊠ to h0 ⊠ to l ⊞ times (⊖ ((v 4 ⊕ v 5) ⊗ v 6)) e) tt

    -- with all that it may lack, and with half of that
    pub padded_enough : newtons (pos x) *ℚ (natℚ N /ℚ natℚ y) ≤ℚ newtons (pos (along x N (inverse y) + along_pad))
    padded_enough = rw (newtons_add (pos (along x N (inverse y))) (pos along_pad)) along_above

    pub padded_close :
        newtons (pos (along x N (inverse y) + along_pad)) ≤ℚ newtons (pos x) *ℚ (natℚ N /ℚ natℚ y) +ℚ newtons (pos along_pad)
    padded_close =
        rw (newtons_add (pos (along x N (inverse y))) (pos along_pad))
        (add_le (newtons (pos (along x N (inverse y)))) (newtons (pos x) *ℚ (natℚ N /ℚ natℚ y)) (newtons (pos along_pad)) along_below)

    pub middle_off :
        Off (newtons (pos along_middle)) (newtons (pos (along x N (inverse y) + along_middle))) (newtons (pos x) *ℚ (natℚ N /ℚ natℚ y))
    middle_off =
        let z = newtons (pos (along x N (inverse y))) in
        let s = newtons (pos x) *ℚ (natℚ N /ℚ natℚ y) in
        let m = newtons (pos along_middle) in
        rw (newtons_add (pos (along x N (inverse y))) (pos along_middle))
        record {
          above = add_le z s m along_below;
          below = go z s m (rw (newtons_add (pos along_middle) (pos along_middle)) at along_above);
        }
      where
        go : (z s m : ℚ) → s ≤ℚ z +ℚ (m +ℚ m) → s ≤ℚ z +ℚ m +ℚ m
        go = ∀₃ ℚR _ λ ρ. simp qq λ h. by_cert (to h) tt
