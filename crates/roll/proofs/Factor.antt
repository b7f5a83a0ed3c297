-- k_3: which of its three cases holds by whole numbers, and its value in parts of 1 / (30 length) in each.
use Prim.Native.Nat.{ℕ, ◌+◌, ◌*◌, ◌-◌, ◌≤◌, ◌<◌}
use mathlib.Core.Bool.{Bool, true, false}
use mathlib.Core.Path.{◌≡◌, refl, sym, subst}
use native.Mathlib.Omega.{arith}
use lib.Dec.{T}
use lib.IntN.{pos}
use lib.Signed.{clash_ℤ}
use Rattle.arith.specs.Fractions.{Frac, nat, ◌≈◌, ◌⊑◌, ◌⊏◌, ◌-q◌, ◌*q◌, ◌/q◌}
use Rattle.arith.proofs.Polynomials.{v, kp, kn, ◌⊖◌, ◌⊗◌, ⊖◌}
use Rattle.arith.proofs.Rings.{∀₁, ∀₂, ∀₄, ∀₅, by_ring, by_eqs, contra, to, times, num, mul_eq, part, ◌⊞◌, ◌⊠◌, ◌⊹◌}
use Rattle.arith.proofs.Rationals.{ℚR, ℚ, mk, int, ◌+ℚ◌, ◌-ℚ◌, ◌*ℚ◌, ◌≤ℚ◌, ◌<ℚ◌, recipℚ, recip_times, to-⊑}
use Rattle.arith.proofs.RationalTerms.{qq}
use Rattle.arith.proofs.RationalOrder.{lt_of, nat_q}
use Rattle.arith.proofs.FractionsInRationals.{mk_int, mk_mul, to-≈, to-⊏, toℚ}
use Rattle.roll.specs.ConditionA.{metres, tenths, ◌below◌, aft, fore, k₃}
use Rattle.roll.proofs.Rounding.{nat_times, nat_plus, nat_minus}
use Rattle.roll.proofs.Scales.{in_metres, in_tenths}

-- the test between fractions
module _ (x y : Frac) where
  pub is_below : x ⊏ y → (x below y) ≡ true
  is_below h = go (x below y) refl
    where
      go : (c : Bool) → (x below y) ≡ c → c ≡ true
      go true e = refl
      go false e = absurd (subst T e h.cross.lt)

  pub not_below_lem : y ⊑ x → (x below y) ≡ false
  not_below_lem h = go (x below y) refl
    where
      go : (c : Bool) → (x below y) ≡ c → c ≡ false
      go true e = clash_ℤ (record { lt = subst T (sym e) tt }) h.cross
      go false e = refl

-- a tenth of n above zero, times a length above zero
above :
    (t l n k : ℚ) →
    int (pos 10) *ℚ t ≡ n →
    int (pos 1000) *ℚ l ≡ k →
    int (pos 1) ≤ℚ n →
    int (pos 1) ≤ℚ k →
    int (pos 0) <ℚ t *ℚ l
above t l n k e f h j = lt_of (int (pos 0)) (t *ℚ l) (go t l n k e f h j)
  where
    go :
        (t l n k : ℚ) →
        int (pos 10) *ℚ t ≡ n →
        int (pos 1000) *ℚ l ≡ k →
        int (pos 1) ≤ℚ n →
        int (pos 1) ≤ℚ k →
        t *ℚ l ≤ℚ int (pos 0) →
        ⊥
    go = ∀₄ ℚR _ λ ρ. simp qq λ e f h j m.
        contra (num 10000 ⊠ to m ⊞ to h ⊠ to j ⊞ to h ⊞ to j ⊞ times (kp 1000 ⊗ v 1) e ⊞ times (v 2) f) tt

-- fractions that are whole numbers over 10,000, compared by these
module _ (x y : Frac) (a b : ℕ) (e : int (pos 10000) *ℚ mk x ≡ int (pos a)) (f : int (pos 10000) *ℚ mk y ≡ int (pos b)) where
  pub by_wholes : a ≤ b → x ⊑ y
  by_wholes h = to-⊑ x y (go (mk x) (mk y) (int (pos a)) (int (pos b)) e f (nat_q a b h))
    where
      go : (x y a b : ℚ) → int (pos 10000) *ℚ x ≡ a → int (pos 10000) *ℚ y ≡ b → a ≤ℚ b → x ≤ℚ y
      go = ∀₄ ℚR _ λ ρ. simp qq λ e f h. part 9999 (to h ⊞ times (kn 0) e ⊞ times (kp 1) f) tt

  pub by_wholes_strict : a < b → x ⊏ y
  by_wholes_strict h =
      to-⊏ x y
      (lt_of (mk x) (mk y)
      (go (mk x) (mk y) (int (pos a)) (int (pos b)) e f (rw (nat_plus a 1) at (nat_q (a + 1) b (omega (arith, h))))))
    where
      go :
          (x y a b : ℚ) → int (pos 10000) *ℚ x ≡ a → int (pos 10000) *ℚ y ≡ b → a +ℚ int (pos 1) ≤ℚ b → y ≤ℚ x → ⊥
      go = ∀₄ ℚR _ λ ρ. simp qq λ e f h k. contra (num 10000 ⊠ to k ⊞ to h ⊞ times (kn 0) e ⊞ times (kp 1) f) tt

-- so are a place, and n tenths of a length
place_whole : (m : ℕ) → int (pos 10000) *ℚ mk (metres (pos m)) ≡ int (pos (10 * m))
place_whole m = rw (nat_times 10 m, ← in_metres (pos m)) (go (mk (metres (pos m))))
  where
    go : (x : ℚ) → int (pos 10000) *ℚ x ≡ int (pos 10) *ℚ (int (pos 1000) *ℚ x)
    go = ∀₁ ℚR _ λ ρ. simp qq (by_ring tt)

tenths_whole : (n l : ℕ) → int (pos 10000) *ℚ mk (tenths n *q metres (pos l)) ≡ int (pos (n * l))
tenths_whole n l =
    rw (mk_mul (tenths n) (metres (pos l)), nat_times n l, ← in_tenths n, ← in_metres (pos l))
    (go (mk (tenths n)) (mk (metres (pos l))))
  where
    go : (t L : ℚ) → int (pos 10000) *ℚ (t *ℚ L) ≡ int (pos 10) *ℚ t *ℚ (int (pos 1000) *ℚ L)
    go = ∀₂ ℚR _ λ ρ. simp qq (by_ring tt)

-- both formulas in ℚ
pub aft_mk : (a b L x : Frac) → mk (a *q ((b *q L -q x) /q (b *q L))) ≡ mk a *ℚ ((mk b *ℚ mk L -ℚ mk x) *ℚ recipℚ (mk b *ℚ mk L))
aft_mk a b L x = simp toℚ

pub fore_mk : (a b L x : Frac) → mk (a *q ((x -q a *q L) /q (b *q L))) ≡ mk a *ℚ ((mk x -ℚ mk a *ℚ mk L) *ℚ recipℚ (mk b *ℚ mk L))
fore_mk a b L x = simp toℚ

-- the value in each case
module _ (l m : ℕ) (l0 : 1 ≤ l) where
  abbrev whole : Frac
  whole = metres (pos l)

  abbrev place : Frac
  place = metres (pos m)

  -- 1 over n tenths of L
  inverse : (n : ℕ) → 1 ≤ n → mk (tenths n) *ℚ mk whole *ℚ recipℚ (mk (tenths n) *ℚ mk whole) ≡ int (pos 1)
  inverse n h =
      recip_times (mk (tenths n) *ℚ mk whole)
      (above (mk (tenths n)) (mk whole) (int (pos n)) (int (pos l)) (in_tenths n) (in_metres (pos l)) (nat_q 1 n h) (nat_q 1 l l0))

  pub aft_part : 75 * m ≤ 15 * l → nat (15 * l - 75 * m) ≈ nat (30 * l) *q aft whole place
  aft_part h =
      to-≈ (nat (15 * l - 75 * m)) (nat (30 * l) *q aft whole place)
      (rw (
        mk_int (pos (15 * l - 75 * m)),
        mk_mul (nat (30 * l)) (aft whole place),
        mk_int (pos (30 * l)),
        aft_mk (tenths 5) (tenths 2) whole place,
        nat_minus (15 * l) (75 * m) h,
        nat_times 15 l,
        nat_times 75 m,
        nat_times 30 l,
        ← in_metres (pos l),
        ← in_metres (pos m),
      )
      (go (mk (tenths 5)) (mk (tenths 2)) (mk whole) (mk place) (recipℚ (mk (tenths 2) *ℚ mk whole))
      (in_tenths 5) (in_tenths 2) (inverse 2 (omega arith))))
    where
      go :
          (a b L x u : ℚ) →
          int (pos 10) *ℚ a ≡ int (pos 5) →
          int (pos 10) *ℚ b ≡ int (pos 2) →
          b *ℚ L *ℚ u ≡ int (pos 1) →
          int (pos 15) *ℚ (int (pos 1000) *ℚ L) -ℚ int (pos 75) *ℚ (int (pos 1000) *ℚ x) ≡
          int (pos 30) *ℚ (int (pos 1000) *ℚ L) *ℚ (a *ℚ ((b *ℚ L -ℚ x) *ℚ u))
      go = ∀₅ ℚR _ λ ρ. simp qq λ e f g.
          by_eqs
          (mul_eq (⊖ (kp 3000 ⊗ v 2 ⊗ (v 1 ⊗ v 2 ⊖ v 3) ⊗ v 4)) e
          ⊹ mul_eq (⊖ (kp 7500 ⊗ v 3 ⊗ v 2 ⊗ v 4)) f
          ⊹ mul_eq (kp 75000 ⊗ v 3 ⊖ kp 15000 ⊗ v 2) g)
          tt

  pub fore_part : 49 * l ≤ 70 * m → nat (70 * m - 49 * l) ≈ nat (30 * l) *q fore whole place
  fore_part h =
      to-≈ (nat (70 * m - 49 * l)) (nat (30 * l) *q fore whole place)
      (rw (
        mk_int (pos (70 * m - 49 * l)),
        mk_mul (nat (30 * l)) (fore whole place),
        mk_int (pos (30 * l)),
        fore_mk (tenths 7) (tenths 3) whole place,
        nat_minus (70 * m) (49 * l) h,
        nat_times 70 m,
        nat_times 49 l,
        nat_times 30 l,
        ← in_metres (pos l),
        ← in_metres (pos m),
      )
      (go (mk (tenths 7)) (mk (tenths 3)) (mk whole) (mk place) (recipℚ (mk (tenths 3) *ℚ mk whole))
      (in_tenths 7) (in_tenths 3) (inverse 3 (omega arith))))
    where
      go :
          (a b L x u : ℚ) →
          int (pos 10) *ℚ a ≡ int (pos 7) →
          int (pos 10) *ℚ b ≡ int (pos 3) →
          b *ℚ L *ℚ u ≡ int (pos 1) →
          int (pos 70) *ℚ (int (pos 1000) *ℚ x) -ℚ int (pos 49) *ℚ (int (pos 1000) *ℚ L) ≡
          int (pos 30) *ℚ (int (pos 1000) *ℚ L) *ℚ (a *ℚ ((x -ℚ a *ℚ L) *ℚ u))
      go = ∀₅ ℚR _ λ ρ. simp qq λ e f g.
          by_eqs
          (mul_eq (kp 7000 ⊗ v 2 ⊖ kp 3000 ⊗ v 2 ⊗ (v 3 ⊖ v 0 ⊗ v 2) ⊗ v 4) e
          ⊹ mul_eq (kp 7000 ⊗ (v 3 ⊖ v 0 ⊗ v 2) ⊗ v 2 ⊗ v 4) f
          ⊹ mul_eq (⊖ (kp 70000 ⊗ (v 3 ⊖ v 0 ⊗ v 2))) g)
          tt

  -- k_3 by the case that holds
  pub part_aft : 5 * m < l → nat (15 * l - 75 * m) ≈ nat (30 * l) *q k₃ whole place
  unfolding k₃
  part_aft h =
      let b = by_wholes_strict place (tenths 2 *q whole) (10 * m) (2 * l) (place_whole m) (tenths_whole 2 l) (omega (arith, h)) in
      rw (is_below place (tenths 2 *q whole) b) (aft_part (omega arith))

  module _ (h : l ≤ 5 * m) where
    amid_or_fore : (place below tenths 2 *q whole) ≡ false
    amid_or_fore =
        not_below_lem place (tenths 2 *q whole)
        (by_wholes (tenths 2 *q whole) place (2 * l) (10 * m) (tenths_whole 2 l) (place_whole m) (omega (arith, h)))

    pub part_fore : 7 * l < 10 * m → nat (70 * m - 49 * l) ≈ nat (30 * l) *q k₃ whole place
    unfolding k₃
    part_fore k =
        let b = by_wholes_strict (tenths 7 *q whole) place (7 * l) (10 * m) (tenths_whole 7 l) (place_whole m) k in
        rw (amid_or_fore, is_below (tenths 7 *q whole) place b) (fore_part (omega arith))

    pub part_amid : 10 * m ≤ 7 * l → nat 0 ≈ nat (30 * l) *q k₃ whole place
    unfolding k₃
    part_amid k =
        let b = by_wholes place (tenths 7 *q whole) (10 * m) (7 * l) (place_whole m) (tenths_whole 7 l) k in
        rw (amid_or_fore, not_below_lem (tenths 7 *q whole) place b)
        (to-≈ (nat 0) (nat (30 * l) *q nat 0) (simp toℚ (go (int (pos (30 * l))))))
      where
        go : (p : ℚ) → int (pos 0) ≡ p *ℚ int (pos 0)
        go = ∀₁ ℚR _ λ ρ. simp qq (by_ring tt)
