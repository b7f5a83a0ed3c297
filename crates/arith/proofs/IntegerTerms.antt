-- `simp zq`: statements over ℤ read as statements between expressions. `law = ∀₃ ℤR _ λ ρ. simp zq (by_ring tt)`.
use mathlib.Core.Path.{◌≡◌}
use mathlib.Core.Logic.{◌↔◌}
use mathlib.Core.List.{List}
use Prim.Native.Nat.{ℕ}
use lib.IntN.{ℤ, pos, negsuc, neg_ℤ, ◌+ℤ◌, ◌*ℤ◌}
use Rattle.arith.proofs.Polynomials.{E, kp, kn, ◌⊕◌, ◌⊗◌, ⊖◌}
use Rattle.arith.proofs.Rings as O
use Rattle.arith.proofs.Rings.{X, Eq, Le}
use Rattle.arith.proofs.Integers.{ℤR, ◌≼◌}

pub z_add : (ρ : List ℤ) (a b : E) → X ℤR ρ a +ℤ X ℤR ρ b ≡ X ℤR ρ (a ⊕ b)
z_add = O.q_add ℤR

pub z_mul : (ρ : List ℤ) (a b : E) → X ℤR ρ a *ℤ X ℤR ρ b ≡ X ℤR ρ (a ⊗ b)
z_mul = O.q_mul ℤR

pub z_neg : (ρ : List ℤ) (a : E) → neg_ℤ (X ℤR ρ a) ≡ X ℤR ρ (⊖ a)
z_neg = O.q_neg ℤR

pub z_pos_add : (ρ : List ℤ) (n : ℕ) (b : E) → pos n +ℤ X ℤR ρ b ≡ X ℤR ρ (kp n ⊕ b)
z_pos_add = O.q_pos_add ℤR

pub z_add_pos : (ρ : List ℤ) (n : ℕ) (b : E) → X ℤR ρ b +ℤ pos n ≡ X ℤR ρ (b ⊕ kp n)
z_add_pos = O.q_add_pos ℤR

pub z_neg_add : (ρ : List ℤ) (n : ℕ) (b : E) → negsuc n +ℤ X ℤR ρ b ≡ X ℤR ρ (kn n ⊕ b)
z_neg_add = O.q_neg_add ℤR

pub z_add_neg : (ρ : List ℤ) (n : ℕ) (b : E) → X ℤR ρ b +ℤ negsuc n ≡ X ℤR ρ (b ⊕ kn n)
z_add_neg = O.q_add_neg ℤR

pub z_pos_mul : (ρ : List ℤ) (n : ℕ) (b : E) → pos n *ℤ X ℤR ρ b ≡ X ℤR ρ (kp n ⊗ b)
z_pos_mul = O.q_pos_mul ℤR

pub z_mul_pos : (ρ : List ℤ) (n : ℕ) (b : E) → X ℤR ρ b *ℤ pos n ≡ X ℤR ρ (b ⊗ kp n)
z_mul_pos = O.q_mul_pos ℤR

pub z_neg_mul : (ρ : List ℤ) (n : ℕ) (b : E) → negsuc n *ℤ X ℤR ρ b ≡ X ℤR ρ (kn n ⊗ b)
z_neg_mul = O.q_neg_mul ℤR

pub z_mul_neg : (ρ : List ℤ) (n : ℕ) (b : E) → X ℤR ρ b *ℤ negsuc n ≡ X ℤR ρ (b ⊗ kn n)
z_mul_neg = O.q_mul_neg ℤR

pub z_eq : (ρ : List ℤ) (a b : E) → (X ℤR ρ a ≡ X ℤR ρ b) ↔ Eq ℤR ρ a b
z_eq = O.q_eq ℤR

pub z_eq_pos : (ρ : List ℤ) (a : E) (n : ℕ) → (X ℤR ρ a ≡ pos n) ↔ Eq ℤR ρ a (kp n)
z_eq_pos = O.q_eq_pos ℤR

pub z_le : (ρ : List ℤ) (a b : E) → (X ℤR ρ a ≼ X ℤR ρ b) ↔ Le ℤR ρ a b
z_le = O.q_le ℤR

pub z_pos_le : (ρ : List ℤ) (n : ℕ) (b : E) → (pos n ≼ X ℤR ρ b) ↔ Le ℤR ρ (kp n) b
z_pos_le = O.q_pos_le ℤR

pub z_le_pos : (ρ : List ℤ) (a : E) (n : ℕ) → (X ℤR ρ a ≼ pos n) ↔ Le ℤR ρ a (kp n)
z_le_pos = O.q_le_pos ℤR

pub z_neg_le : (ρ : List ℤ) (n : ℕ) (b : E) → (negsuc n ≼ X ℤR ρ b) ↔ Le ℤR ρ (kn n) b
z_neg_le = O.q_neg_le ℤR

pub z_le_neg : (ρ : List ℤ) (a : E) (n : ℕ) → (X ℤR ρ a ≼ negsuc n) ↔ Le ℤR ρ a (kn n)
z_le_neg = O.q_le_neg ℤR

pub z_pos_eq : (ρ : List ℤ) (n : ℕ) (b : E) → (pos n ≡ X ℤR ρ b) ↔ Eq ℤR ρ (kp n) b
z_pos_eq = O.q_pos_eq ℤR

pub z_neg_eq : (ρ : List ℤ) (n : ℕ) (b : E) → (negsuc n ≡ X ℤR ρ b) ↔ Eq ℤR ρ (kn n) b
z_neg_eq = O.q_neg_eq ℤR

pub z_eq_neg : (ρ : List ℤ) (a : E) (n : ℕ) → (X ℤR ρ a ≡ negsuc n) ↔ Eq ℤR ρ a (kn n)
z_eq_neg = O.q_eq_neg ℤR

pub ruleset zq = (
  z_add,
  z_mul,
  z_neg,
  z_pos_add,
  z_add_pos,
  z_neg_add,
  z_add_neg,
  z_pos_mul,
  z_mul_pos,
  z_neg_mul,
  z_mul_neg,
  z_eq,
  z_eq_pos,
  z_pos_eq,
  z_eq_neg,
  z_neg_eq,
  z_le,
  z_pos_le,
  z_le_pos,
  z_neg_le,
  z_le_neg,
)
