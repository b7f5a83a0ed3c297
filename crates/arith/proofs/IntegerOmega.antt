-- ℤ for omega: each integer is a difference of two naturals, `D p n`, and the set `zs` takes an order or an equation between sums,
-- differences and products of such to one between naturals. `all₂ λ p n q m. simp zs (omega arith)` proves a statement over two integers.
use mathlib.Core.Path.{◌≡◌, sym, ap, subst, ◌∙◌}
use mathlib.Core.Logic.{◌↔◌}
use mathlib.Core.List.{[], ◌∷◌}
use Prim.Native.Nat.{ℕ, suc, ◌+◌, ◌-◌, ◌*◌, ◌≤◌, ◌<◌}
use native.Mathlib.Omega.{arith}
use native.Mathlib.Decide.{dec_le}
use lib.IntN.{ℤ, pos, negsuc, neg_ℤ, nat_abs, ◌+ℤ◌, ◌-ℤ◌, ◌*ℤ◌, +ℤ_idl, +ℤ_idr}
use lib.Signed.{mag}
use Rattle.arith.proofs.Polynomials.{v, ◌⊕◌, ◌⊖◌, ◌⊗◌, ⊖◌}
use Rattle.arith.proofs.Rings.{ring}
use Rattle.arith.proofs.Integers.{ℤR, ◌≼◌, to_nn, of_nn}
use Rattle.arith.proofs.IntegerOrder.{abs_neg}

pub D : ℕ → ℕ → ℤ
D p n = pos p -ℤ pos n

pub d_add : (p n q m : ℕ) → D p n +ℤ D q m ≡ D (p + q) (n + m)
unfolding D
d_add p n q m = ring ℤR (pos p ∷ pos n ∷ pos q ∷ pos m ∷ []) (v 0 ⊖ v 1 ⊕ (v 2 ⊖ v 3)) (v 0 ⊕ v 2 ⊖ (v 1 ⊕ v 3)) tt

pub d_neg : (p n : ℕ) → neg_ℤ (D p n) ≡ D n p
unfolding D
d_neg p n = ring ℤR (pos p ∷ pos n ∷ []) (⊖ (v 0 ⊖ v 1)) (v 1 ⊖ v 0) tt

pub d_mul : (p n q m : ℕ) → D p n *ℤ D q m ≡ D (p * q + n * m) (p * m + n * q)
unfolding D
d_mul p n q m =
    ring ℤR (pos p ∷ pos n ∷ pos q ∷ pos m ∷ []) ((v 0 ⊖ v 1) ⊗ (v 2 ⊖ v 3)) (v 0 ⊗ v 2 ⊕ v 1 ⊗ v 3 ⊖ (v 0 ⊗ v 3 ⊕ v 1 ⊗ v 2)) tt

pub d_pos : (n : ℕ) → pos n ≡ D n 0
unfolding D
d_pos n = sym (+ℤ_idr (pos n))

pub d_negsuc : (n : ℕ) → negsuc n ≡ D 0 (suc n)
unfolding D
d_negsuc n = sym (+ℤ_idl (negsuc n))

pub le_nat : (p n : ℕ) → pos p ≼ pos n → p ≤ n
le_nat p n h = lib.Dec.leb→le p n h.le

pub nat_le : (p n : ℕ) → p ≤ n → pos p ≼ pos n
nat_le p n h = record { le = lib.Dec.le→leb p n h }

pub d_le : (p n q m : ℕ) → (D p n ≼ D q m) ↔ (p + m ≤ q + n)
unfolding D
d_le p n q m = (
  (λ h.
      le_nat (p + m) (q + n)
      (of_nn (pos (p + m)) (pos (q + n))
      (subst (λ z. pos 0 ≼ z) (ring ℤR (pos p ∷ pos n ∷ pos q ∷ pos m ∷ []) (v 2 ⊖ v 3 ⊖ (v 0 ⊖ v 1)) (v 2 ⊕ v 1 ⊖ (v 0 ⊕ v 3)) tt)
      (to_nn (pos p -ℤ pos n) (pos q -ℤ pos m) h)))),
  (λ h.
      of_nn (pos p -ℤ pos n) (pos q -ℤ pos m)
      (subst (λ z. pos 0 ≼ z) (ring ℤR (pos p ∷ pos n ∷ pos q ∷ pos m ∷ []) (v 2 ⊕ v 1 ⊖ (v 0 ⊕ v 3)) (v 2 ⊖ v 3 ⊖ (v 0 ⊖ v 1)) tt)
      (to_nn (pos (p + m)) (pos (q + n)) (nat_le (p + m) (q + n) h)))),
)

pub d_eq : (p n q m : ℕ) → (D p n ≡ D q m) ↔ (p + m ≡ q + n)
unfolding D
d_eq p n q m = (
  (λ h.
      ap nat_abs
      (ring ℤR (pos p ∷ pos n ∷ pos m ∷ []) (v 0 ⊕ v 2) (v 0 ⊖ v 1 ⊕ (v 1 ⊕ v 2)) tt
      ∙ ap (λ z. z +ℤ (pos n +ℤ pos m)) h
      ∙ ring ℤR (pos n ∷ pos q ∷ pos m ∷ []) (v 1 ⊖ v 2 ⊕ (v 0 ⊕ v 2)) (v 1 ⊕ v 0) tt)),
  (λ h.
      ring ℤR (pos p ∷ pos n ∷ pos m ∷ []) (v 0 ⊖ v 1) (v 0 ⊕ v 2 ⊖ (v 1 ⊕ v 2)) tt
      ∙ ap (λ z. pos z -ℤ (pos n +ℤ pos m)) h
      ∙ ring ℤR (pos n ∷ pos q ∷ pos m ∷ []) (v 1 ⊕ v 0 ⊖ (v 0 ⊕ v 2)) (v 1 ⊖ v 2) tt),
)

-- the absolute value: of the two truncated differences one is 0
pub d_abs : (p n : ℕ) → nat_abs (D p n) ≡ (p - n) + (n - p)
d_abs p n = go (dec_le n p)
  where
    down : n ≤ p → D p n ≡ D (p - n) 0
    down h = (d_eq p n (p - n) 0).1 (omega arith)

    up : ¬ (n ≤ p) → D p n ≡ neg_ℤ (pos (n - p))
    up h = (d_eq p n 0 (n - p)).1 (omega arith) ∙ sym (d_neg (n - p) 0) ∙ ap neg_ℤ (sym (d_pos (n - p)))

    go : Dec (n ≤ p) → nat_abs (D p n) ≡ (p - n) + (n - p)
    go (yes h) = ap nat_abs (down h ∙ sym (d_pos (p - n))) ∙ omega arith
    go (no h) = ap nat_abs (up h) ∙ ap nat_abs (abs_neg (pos (n - p))) ∙ omega arith

pub ruleset zs = (d_add, d_neg, d_mul, d_pos, d_negsuc, d_le, d_eq, d_abs)

pub distance : (x y : ℕ) → nat_abs (pos x -ℤ pos y) ≡ x - y + (y - x)
unfolding D
distance x y = d_abs x y

up : ℤ → ℕ
up (pos n) = n
up (negsuc n) = 0

dn : ℤ → ℕ
dn (pos n) = 0
dn (negsuc n) = suc n

up_dn : (z : ℤ) → D (up z) (dn z) ≡ z
unfolding up dn
up_dn (pos n) = sym (d_pos n)
up_dn (negsuc n) = sym (d_negsuc n)

pub all₁ : (C : ℤ → Type 0) → ((p n : ℕ) → C (D p n)) → (z : ℤ) → C z
all₁ C f z = subst C (up_dn z) (f (up z) (dn z))

pub all₂ : (C : ℤ → ℤ → Type 0) → ((p n q m : ℕ) → C (D p n) (D q m)) → (x y : ℤ) → C x y
all₂ C f x y = all₁ (λ x. C x y) (λ p n. all₁ (C (D p n)) (f p n) y) x

pub all₃ : (C : ℤ → ℤ → ℤ → Type 0) → ((p n q m r s : ℕ) → C (D p n) (D q m) (D r s)) → (x y z : ℤ) → C x y z
all₃ C f x y z = all₁ (λ x. C x y z) (λ p n. all₂ (C (D p n)) (f p n) y z) x

pub all₄ : (C : ℤ → ℤ → ℤ → ℤ → Type 0) → ((p n q m r s t u : ℕ) → C (D p n) (D q m) (D r s) (D t u)) → (x y z w : ℤ) → C x y z w
all₄ C f x y z w = all₁ (λ x. C x y z w) (λ p n. all₃ (C (D p n)) (f p n) y z w) x

pub all₅ :
    (C : ℤ → ℤ → ℤ → ℤ → ℤ → Type 0) →
    ((p n q m r s t u w x : ℕ) → C (D p n) (D q m) (D r s) (D t u) (D w x)) →
    (x y z w a : ℤ) →
    C x y z w a
all₅ C f x y z w a = all₁ (λ x. C x y z w a) (λ p n. all₄ (C (D p n)) (f p n) y z w a) x

pub all₆ :
    (C : ℤ → ℤ → ℤ → ℤ → ℤ → ℤ → Type 0) →
    ((p n q m r s t u w x y z : ℕ) → C (D p n) (D q m) (D r s) (D t u) (D w x) (D y z)) →
    (x y z w a b : ℤ) →
    C x y z w a b
all₆ C f x y z w a b = all₁ (λ x. C x y z w a b) (λ p n. all₅ (C (D p n)) (f p n) y z w a b) x

-- a signed number fits its width where it lies between -H and H - 1: `mag z < H` is what MIR asks (mir.Val.SFits)
pub mag_lt : (z : ℤ) (H : ℕ) → neg_ℤ (pos H) ≼ z → z +ℤ pos 1 ≼ pos H → mag z < H
mag_lt (pos n) H l h = go (le_nat (n + 1) H h)
  where
    go : n + 1 ≤ H → n < H
    go x = omega arith
mag_lt (negsuc n) H l h = le_nat (suc n) H (turn (pos H) (pos (suc n)) l)
  where
    turn : (a b : ℤ) → neg_ℤ a ≼ neg_ℤ b → b ≼ a
    turn = all₂ _ λ p n q m. simp zs (omega arith)
