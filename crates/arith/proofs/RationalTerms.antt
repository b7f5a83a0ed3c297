-- `simp qq`: statements over ℚ read as statements between expressions. `law = ∀₃ ℚR _ λ ρ. simp qq (by_ring tt)`.
use mathlib.Core.Path.{◌≡◌}
use mathlib.Core.Logic.{◌↔◌}
use mathlib.Core.List.{List}
use Prim.Native.Nat.{ℕ}
use lib.IntN.{ℤ, pos, negsuc, neg_ℤ, ◌+ℤ◌, ◌*ℤ◌}
use Rattle.arith.proofs.Polynomials.{E, kp, kn, ◌⊕◌, ◌⊗◌, ⊖◌}
use Rattle.arith.proofs.Rings as O
use Rattle.arith.proofs.Rings.{X, Eq, Le}
use Rattle.arith.proofs.Rationals.{ℚR, ℚ, int, negℚ, ◌+ℚ◌, ◌*ℚ◌, ◌≤ℚ◌}

pub q_add : (ρ : List ℚ) (a b : E) → X ℚR ρ a +ℚ X ℚR ρ b ≡ X ℚR ρ (a ⊕ b)
q_add = O.q_add ℚR

pub q_mul : (ρ : List ℚ) (a b : E) → X ℚR ρ a *ℚ X ℚR ρ b ≡ X ℚR ρ (a ⊗ b)
q_mul = O.q_mul ℚR

pub q_neg : (ρ : List ℚ) (a : E) → negℚ (X ℚR ρ a) ≡ X ℚR ρ (⊖ a)
q_neg = O.q_neg ℚR

pub q_pos_add : (ρ : List ℚ) (n : ℕ) (b : E) → int (pos n) +ℚ X ℚR ρ b ≡ X ℚR ρ (kp n ⊕ b)
q_pos_add = O.q_pos_add ℚR

pub q_add_pos : (ρ : List ℚ) (n : ℕ) (b : E) → X ℚR ρ b +ℚ int (pos n) ≡ X ℚR ρ (b ⊕ kp n)
q_add_pos = O.q_add_pos ℚR

pub q_neg_add : (ρ : List ℚ) (n : ℕ) (b : E) → int (negsuc n) +ℚ X ℚR ρ b ≡ X ℚR ρ (kn n ⊕ b)
q_neg_add = O.q_neg_add ℚR

pub q_add_neg : (ρ : List ℚ) (n : ℕ) (b : E) → X ℚR ρ b +ℚ int (negsuc n) ≡ X ℚR ρ (b ⊕ kn n)
q_add_neg = O.q_add_neg ℚR

pub q_pos_mul : (ρ : List ℚ) (n : ℕ) (b : E) → int (pos n) *ℚ X ℚR ρ b ≡ X ℚR ρ (kp n ⊗ b)
q_pos_mul = O.q_pos_mul ℚR

pub q_mul_pos : (ρ : List ℚ) (n : ℕ) (b : E) → X ℚR ρ b *ℚ int (pos n) ≡ X ℚR ρ (b ⊗ kp n)
q_mul_pos = O.q_mul_pos ℚR

pub q_neg_mul : (ρ : List ℚ) (n : ℕ) (b : E) → int (negsuc n) *ℚ X ℚR ρ b ≡ X ℚR ρ (kn n ⊗ b)
q_neg_mul = O.q_neg_mul ℚR

pub q_mul_neg : (ρ : List ℚ) (n : ℕ) (b : E) → X ℚR ρ b *ℚ int (negsuc n) ≡ X ℚR ρ (b ⊗ kn n)
q_mul_neg = O.q_mul_neg ℚR

pub q_eq : (ρ : List ℚ) (a b : E) → (X ℚR ρ a ≡ X ℚR ρ b) ↔ Eq ℚR ρ a b
q_eq = O.q_eq ℚR

pub q_eq_pos : (ρ : List ℚ) (a : E) (n : ℕ) → (X ℚR ρ a ≡ int (pos n)) ↔ Eq ℚR ρ a (kp n)
q_eq_pos = O.q_eq_pos ℚR

pub q_le : (ρ : List ℚ) (a b : E) → (X ℚR ρ a ≤ℚ X ℚR ρ b) ↔ Le ℚR ρ a b
q_le = O.q_le ℚR

pub q_pos_le : (ρ : List ℚ) (n : ℕ) (b : E) → (int (pos n) ≤ℚ X ℚR ρ b) ↔ Le ℚR ρ (kp n) b
q_pos_le = O.q_pos_le ℚR

pub q_le_pos : (ρ : List ℚ) (a : E) (n : ℕ) → (X ℚR ρ a ≤ℚ int (pos n)) ↔ Le ℚR ρ a (kp n)
q_le_pos = O.q_le_pos ℚR

pub q_neg_le : (ρ : List ℚ) (n : ℕ) (b : E) → (int (negsuc n) ≤ℚ X ℚR ρ b) ↔ Le ℚR ρ (kn n) b
q_neg_le = O.q_neg_le ℚR

pub q_le_neg : (ρ : List ℚ) (a : E) (n : ℕ) → (X ℚR ρ a ≤ℚ int (negsuc n)) ↔ Le ℚR ρ a (kn n)
q_le_neg = O.q_le_neg ℚR

pub q_pos_eq : (ρ : List ℚ) (n : ℕ) (b : E) → (int (pos n) ≡ X ℚR ρ b) ↔ Eq ℚR ρ (kp n) b
q_pos_eq = O.q_pos_eq ℚR

pub q_neg_eq : (ρ : List ℚ) (n : ℕ) (b : E) → (int (negsuc n) ≡ X ℚR ρ b) ↔ Eq ℚR ρ (kn n) b
q_neg_eq = O.q_neg_eq ℚR

pub q_eq_neg : (ρ : List ℚ) (a : E) (n : ℕ) → (X ℚR ρ a ≡ int (negsuc n)) ↔ Eq ℚR ρ a (kn n)
q_eq_neg = O.q_eq_neg ℚR

pub q_int_add : (a b : ℤ) → int a +ℚ int b ≡ int (a +ℤ b)
q_int_add = O.q_int_add ℚR

pub q_int_mul : (a b : ℤ) → int a *ℚ int b ≡ int (a *ℤ b)
q_int_mul = O.q_int_mul ℚR

pub q_int_neg : (a : ℤ) → negℚ (int a) ≡ int (neg_ℤ a)
q_int_neg = O.q_int_neg ℚR

pub ruleset qq = (
  q_add,
  q_mul,
  q_neg,
  q_pos_add,
  q_add_pos,
  q_neg_add,
  q_add_neg,
  q_pos_mul,
  q_mul_pos,
  q_neg_mul,
  q_mul_neg,
  q_eq,
  q_eq_pos,
  q_pos_eq,
  q_eq_neg,
  q_neg_eq,
  q_int_add,
  q_int_mul,
  q_int_neg,
  q_le,
  q_pos_le,
  q_le_pos,
  q_neg_le,
  q_le_neg,
)
