-- Identities, inequalities and equations in any ordered commutative ring, proved by computing with polynomials. Algebra says how to use it.
use mathlib.Core.Path.{◌≡◌, refl, sym, ap, ap₂, subst, ◌∙◌}
use mathlib.Core.Logic.{◌↔◌}
use mathlib.Core.List.{List, [], ◌∷◌}
use Prim.Native.Nat.{ℕ, zero, suc}
use native.Mathlib.Numerals.{add-one}
use lib.Dec.{T}
use lib.IntN.{ℤ, pos, negsuc, neg_ℤ, ◌+ℤ◌, ◌*ℤ◌, +ℤ_invr}
use Rattle.arith.proofs.Polynomials.{E, v, kp, kn, ◌⊕◌, ◌⊖◌, ◌⊗◌, ⊖◌, P, con, ◌◂◌, node, addc, add, scale, scale', under, mul, var}
use Rattle.arith.proofs.Polynomials.{norm, is_z, is_c, and_l, and_r, Term, terms}

pub record ORing : Type 1 where
  pub C : Type 0
  pub plus : C → C → C
  pub times : C → C → C
  pub minus : C → C
  pub int : ℤ → C
  pub plus_assoc : (a b c : C) → plus (plus a b) c ≡ plus a (plus b c)
  pub plus_comm : (a b : C) → plus a b ≡ plus b a
  pub plus_zero : (a : C) → plus (int (pos 0)) a ≡ a
  pub plus_minus : (a : C) → plus a (minus a) ≡ int (pos 0)
  pub times_assoc : (a b c : C) → times (times a b) c ≡ times a (times b c)
  pub times_comm : (a b : C) → times a b ≡ times b a
  pub times_one : (a : C) → times (int (pos 1)) a ≡ a
  pub times_plus : (a b c : C) → times a (plus b c) ≡ plus (times a b) (times a c)
  pub int_plus : (a b : ℤ) → int (a +ℤ b) ≡ plus (int a) (int b)
  pub int_times : (a b : ℤ) → int (a *ℤ b) ≡ times (int a) (int b)
  pub leq : C → C → Type 0
  pub nn_int : (n : ℕ) → leq (int (pos 0)) (int (pos n))
  pub nn_plus : (a b : C) → leq (int (pos 0)) a → leq (int (pos 0)) b → leq (int (pos 0)) (plus a b)
  pub nn_times : (a b : C) → leq (int (pos 0)) a → leq (int (pos 0)) b → leq (int (pos 0)) (times a b)
  pub nn_sq : (a : C) → leq (int (pos 0)) (times a a)
  pub to_nn : (a b : C) → leq a b → leq (int (pos 0)) (plus b (minus a))
  pub of_nn : (a b : C) → leq (int (pos 0)) (plus b (minus a)) → leq a b
  pub one_pos : ¬ (leq (int (pos 1)) (int (pos 0)))
  pub cancel : (m a : C) → ¬ (leq m (int (pos 0))) → leq (int (pos 0)) (times m a) → leq (int (pos 0)) a
  pub antisym : (a b : C) → leq a b → leq b a → a ≡ b

module _ (R : ORing) where
  open R use {C, plus as ◌+◌, times as ◌*◌, minus, int, plus_assoc, plus_comm, plus_zero, plus_minus, times_assoc, times_comm}
  open R use {times_one, times_plus, int_plus, int_times, leq, nn_int, nn_plus, nn_times, nn_sq, to_nn, of_nn, one_pos, cancel}
  open R use {antisym}

  infixl 6 ◌+◌
  infixl 7 ◌*◌
  abbrev pub hd : List C → C
  hd [] = int (pos 0)
  hd (x ∷ ρ) = x

  abbrev pub tl : List C → List C
  tl [] = []
  tl (x ∷ ρ) = ρ

  abbrev pub nth : List C → ℕ → C
  nth ρ zero = hd ρ
  nth ρ (suc i) = nth (tl ρ) i

  abbrev pub den : List C → E → C
  den ρ (v i) = nth ρ i
  den ρ (kp n) = int (pos n)
  den ρ (kn n) = int (negsuc n)
  den ρ (a ⊕ b) = den ρ a + den ρ b
  den ρ (a ⊖ b) = den ρ a + minus (den ρ b)
  den ρ (a ⊗ b) = den ρ a * den ρ b
  den ρ (⊖ a) = minus (den ρ a)

  ev : P → List C → C
  ev (con c) ρ = int c
  ev (p ◂ q) ρ = ev p (tl ρ) + hd ρ * ev q ρ

  -- small laws
  zero_plus : (a : C) → a + int (pos 0) ≡ a
  zero_plus a = plus_comm a (int (pos 0)) ∙ plus_zero a

  plus_times : (a b c : C) → (a + b) * c ≡ a * c + b * c
  plus_times a b c = times_comm (a + b) c ∙ times_plus c a b ∙ ap₂ ◌+◌ (times_comm c a) (times_comm c b)

  -- x + y ≡ x makes y 0
  only_zero : (x y : C) → x + y ≡ x → y ≡ int (pos 0)
  only_zero x y h =
      sym (plus_zero y)
      ∙ ap (λ z. z + y) (sym (plus_minus x) ∙ plus_comm x (minus x))
      ∙ plus_assoc (minus x) x y
      ∙ ap (λ z. minus x + z) h
      ∙ plus_comm (minus x) x
      ∙ plus_minus x

  times_zero : (a : C) → a * int (pos 0) ≡ int (pos 0)
  times_zero a =
      only_zero (a * int (pos 0)) (a * int (pos 0))
      (sym (times_plus a (int (pos 0)) (int (pos 0))) ∙ ap (λ z. a * z) (plus_zero (int (pos 0))))

  left : (a b c : C) → a * (b * c) ≡ b * (a * c)
  left a b c = sym (times_assoc a b c) ∙ ap (λ x. x * c) (times_comm a b) ∙ times_assoc b a c

  swap : (p r x y : C) → (p + r) + (x + y) ≡ (p + x) + (r + y)
  swap p r x y =
      plus_assoc p r (x + y)
      ∙ ap (λ z. p + z) (sym (plus_assoc r x y) ∙ ap (λ z. z + y) (plus_comm r x) ∙ plus_assoc x r y)
      ∙ sym (plus_assoc p x (r + y))

  minus_unique : (x y : C) → x + y ≡ int (pos 0) → y ≡ minus x
  minus_unique x y h =
      sym (plus_zero y)
      ∙ ap (λ z. z + y) (sym (plus_minus x) ∙ plus_comm x (minus x))
      ∙ plus_assoc (minus x) x y
      ∙ ap (λ z. minus x + z) h
      ∙ zero_plus (minus x)

  minus_one : (x : C) → int (negsuc 0) * x ≡ minus x
  minus_one x =
      minus_unique x (int (negsuc 0) * x)
      (ap (λ z. z + int (negsuc 0) * x) (sym (times_one x))
      ∙ sym (plus_times (int (pos 1)) (int (negsuc 0)) x)
      ∙ ap (λ z. z * x) (sym (int_plus (pos 1) (negsuc 0)))
      ∙ times_comm (int (pos 0)) x
      ∙ times_zero x)

  -- what the operations mean
  ev_addc : (a : ℤ) (p : P) (ρ : List C) → ev (addc a p) ρ ≡ int a + ev p ρ
  unfolding ev
  ev_addc a (con b) ρ = int_plus a b
  ev_addc a (p ◂ q) ρ = ap (λ z. z + hd ρ * ev q ρ) (ev_addc a p (tl ρ)) ∙ plus_assoc (int a) (ev p (tl ρ)) (hd ρ * ev q ρ)

  ev_node : (p q : P) (ρ : List C) → ev (node p q) ρ ≡ ev p (tl ρ) + hd ρ * ev q ρ
  unfolding ev
  ev_node (con c) (con (pos zero)) ρ = sym (ap (λ z. int c + z) (times_zero (hd ρ)) ∙ zero_plus (int c))
  ev_node (con c) (con (pos (suc n))) ρ = refl
  ev_node (con c) (con (negsuc n)) ρ = refl
  ev_node (con c) (q ◂ r) ρ = refl
  ev_node (p ◂ r) q ρ = refl

  ev_add : (p r : P) (ρ : List C) → ev (add p r) ρ ≡ ev p ρ + ev r ρ
  unfolding ev
  ev_add (con a) r ρ = ev_addc a r ρ
  ev_add (p ◂ q) (con b) ρ = ev_addc b (p ◂ q) ρ ∙ plus_comm (int b) (ev (p ◂ q) ρ)
  ev_add (p ◂ q) (r ◂ s) ρ =
      ev_node (add p r) (add q s) ρ
      ∙ ap₂ (λ y z. y + hd ρ * z) (ev_add p r (tl ρ)) (ev_add q s ρ)
      ∙ ap (λ z. ev p (tl ρ) + ev r (tl ρ) + z) (times_plus (hd ρ) (ev q ρ) (ev s ρ))
      ∙ swap (ev p (tl ρ)) (ev r (tl ρ)) (hd ρ * ev q ρ) (hd ρ * ev s ρ)

  ev_scale' : (a : ℤ) (p : P) (ρ : List C) → ev (scale' a p) ρ ≡ int a * ev p ρ
  unfolding ev
  ev_scale' a (con b) ρ = int_times a b
  ev_scale' a (p ◂ q) ρ =
      ap₂ (λ y z. y + hd ρ * z) (ev_scale' a p (tl ρ)) (ev_scale' a q ρ)
      ∙ ap (λ z. int a * ev p (tl ρ) + z) (left (hd ρ) (int a) (ev q ρ))
      ∙ sym (times_plus (int a) (ev p (tl ρ)) (hd ρ * ev q ρ))

  ev_scale : (a : ℤ) (p : P) (ρ : List C) → ev (scale a p) ρ ≡ int a * ev p ρ
  unfolding ev
  ev_scale (pos zero) p ρ = sym (times_comm (int (pos 0)) (ev p ρ) ∙ times_zero (ev p ρ))
  ev_scale (pos (suc n)) p ρ = ev_scale' (pos (suc n)) p ρ
  ev_scale (negsuc n) p ρ = ev_scale' (negsuc n) p ρ

  ev_under :
      (m : List C → C) (f : P → P) (h : (r : P) (ρ : List C) → ev (f r) ρ ≡ m ρ * ev r ρ) (r : P) (ρ : List C) →
      ev (under f r) ρ ≡ m (tl ρ) * ev r ρ
  unfolding ev
  ev_under m f h (con b) ρ =
      ev_node (f (con b)) (con (pos 0)) ρ ∙ ap₂ (λ y z. y + z) (h (con b) (tl ρ)) (times_zero (hd ρ)) ∙ zero_plus (m (tl ρ) * int b)
  ev_under m f h (r ◂ s) ρ =
      ev_node (f r) (under f s) ρ
      ∙ ap₂ (λ y z. y + hd ρ * z) (h r (tl ρ)) (ev_under m f h s ρ)
      ∙ ap (λ z. m (tl ρ) * ev r (tl ρ) + z) (left (hd ρ) (m (tl ρ)) (ev s ρ))
      ∙ sym (times_plus (m (tl ρ)) (ev r (tl ρ)) (hd ρ * ev s ρ))

  ev_mul : (p r : P) (ρ : List C) → ev (mul p r) ρ ≡ ev p ρ * ev r ρ
  unfolding ev
  ev_mul (con a) r ρ = ev_scale a r ρ
  ev_mul (p ◂ q) (con b) ρ = ev_scale b (p ◂ q) ρ ∙ times_comm (int b) (ev (p ◂ q) ρ)
  ev_mul (p ◂ q) (r ◂ s) ρ =
      ev_add (under (mul p) (r ◂ s)) (node (con (pos 0)) (mul q (r ◂ s))) ρ
      ∙ ap₂ ◌+◌ (ev_under (ev p) (mul p) (ev_mul p) (r ◂ s) ρ)
      (ev_node (con (pos 0)) (mul q (r ◂ s)) ρ
      ∙ plus_zero (hd ρ * ev (mul q (r ◂ s)) ρ)
      ∙ ap (λ z. hd ρ * z) (ev_mul q (r ◂ s) ρ)
      ∙ sym (times_assoc (hd ρ) (ev q ρ) (ev (r ◂ s) ρ)))
      ∙ sym (plus_times (ev p (tl ρ)) (hd ρ * ev q ρ) (ev (r ◂ s) ρ))

  ev_var : (i : ℕ) (ρ : List C) → ev (var i) ρ ≡ nth ρ i
  unfolding ev
  ev_var zero ρ = plus_zero (hd ρ * int (pos 1)) ∙ times_comm (hd ρ) (int (pos 1)) ∙ times_one (hd ρ)
  ev_var (suc i) ρ = ap₂ (λ y z. y + z) (ev_var i (tl ρ)) (times_zero (hd ρ)) ∙ zero_plus (nth (tl ρ) i)

  sound : (e : E) (ρ : List C) → ev (norm e) ρ ≡ den ρ e
  unfolding ev
  sound (v i) ρ = ev_var i ρ
  sound (kp n) ρ = refl
  sound (kn n) ρ = refl
  sound (a ⊕ b) ρ = ev_add (norm a) (norm b) ρ ∙ ap₂ ◌+◌ (sound a ρ) (sound b ρ)
  sound (a ⊖ b) ρ =
      ev_add (norm a) (scale (negsuc 0) (norm b)) ρ
      ∙ ap₂ ◌+◌ (sound a ρ) (ev_scale (negsuc 0) (norm b) ρ ∙ minus_one (ev (norm b) ρ) ∙ ap minus (sound b ρ))
  sound (a ⊗ b) ρ = ev_mul (norm a) (norm b) ρ ∙ ap₂ ◌*◌ (sound a ρ) (sound b ρ)
  sound (⊖ a) ρ = ev_scale (negsuc 0) (norm a) ρ ∙ minus_one (ev (norm a) ρ) ∙ ap minus (sound a ρ)

  is_z_ev : (p : P) → T (is_z p) → (ρ : List C) → ev p ρ ≡ int (pos 0)
  unfolding ev
  is_z_ev (con (pos zero)) t ρ = refl
  is_z_ev (con (pos (suc n))) t ρ = absurd t
  is_z_ev (con (negsuc n)) t ρ = absurd t
  is_z_ev (p ◂ q) t ρ =
      ap₂ (λ y z. y + hd ρ * z) (is_z_ev p (and_l (is_z p) (is_z q) t) (tl ρ)) (is_z_ev q (and_r (is_z p) (is_z q) t) ρ)
      ∙ plus_zero (hd ρ * int (pos 0))
      ∙ times_zero (hd ρ)

  cancel_minus : (x y : C) → x + minus y ≡ int (pos 0) → x ≡ y
  cancel_minus x y h =
      sym (zero_plus x)
      ∙ ap (λ z. x + z) (sym (plus_minus y) ∙ plus_comm y (minus y))
      ∙ sym (plus_assoc x (minus y) y)
      ∙ ap (λ z. z + y) h
      ∙ plus_zero y

  -- identities
  pub ring : (ρ : List C) (a b : E) → T (is_z (norm (a ⊖ b))) → den ρ a ≡ den ρ b
  ring ρ a b t = cancel_minus (den ρ a) (den ρ b) (sym (sound (a ⊖ b) ρ) ∙ is_z_ev (norm (a ⊖ b)) t ρ)

  -- statements between expressions as records, so that a call need not write them; `X ρ e` does not unfold
  unfoldable pub X : List C → E → C
  X ρ e = den ρ e

  pub record Eq (ρ : List C) (a b : E) : Type 0 where
    pub eqn : den ρ a ≡ den ρ b

  pub record Le (ρ : List C) (a b : E) : Type 0 where
    pub ineq : leq (den ρ a) (den ρ b)

  pub record Cert (ρ : List C) (e : E) : Type 0 where
    pub nn : leq (int (pos 0)) (den ρ e)

  pub record Zero (ρ : List C) (e : E) : Type 0 where
    pub is0 : den ρ e ≡ int (pos 0)

  is_c_ev : (p : P) → T (is_c p) → (ρ : List C) → leq (int (pos 0)) (ev p ρ)
  unfolding ev
  is_c_ev (con (pos n)) t ρ = nn_int n
  is_c_ev (con (negsuc n)) t ρ = absurd t
  is_c_ev (p ◂ q) t ρ =
      nn_plus (ev p (tl ρ)) (hd ρ * ev q ρ) (is_c_ev p (and_l (is_c p) (is_z q) t) (tl ρ))
      (subst (λ z. leq (int (pos 0)) z) (sym (ap (λ z. hd ρ * z) (is_z_ev q (and_r (is_c p) (is_z q) t) ρ) ∙ times_zero (hd ρ))) (nn_int 0))

  nn_zero : {x : C} → x ≡ int (pos 0) → leq (int (pos 0)) x
  nn_zero h = subst (λ z. leq (int (pos 0)) z) (sym h) (nn_int 0)

  pub leq_cert : (ρ : List C) (a b e : E) → leq (int (pos 0)) (den ρ e) → T (is_c (norm (b ⊖ a ⊖ e))) → leq (den ρ a) (den ρ b)
  leq_cert ρ a b e c t =
      of_nn (den ρ a) (den ρ b)
      (subst (λ z. leq (int (pos 0)) z) (ring (den ρ a ∷ den ρ b ∷ den ρ e ∷ []) (v 1 ⊖ v 0 ⊖ v 2 ⊕ v 2) (v 1 ⊖ v 0) tt)
      (nn_plus (den ρ (b ⊖ a ⊖ e)) (den ρ e) (subst (λ z. leq (int (pos 0)) z) (sound (b ⊖ a ⊖ e) ρ) (is_c_ev (norm (b ⊖ a ⊖ e)) t ρ)) c))

  pub eqs_cert : (ρ : List C) (a b e : E) → den ρ e ≡ int (pos 0) → T (is_z (norm (a ⊖ b ⊖ e))) → den ρ a ≡ den ρ b
  eqs_cert ρ a b e c t =
      cancel_minus (den ρ a) (den ρ b)
      (ring (den ρ (a ⊖ b) ∷ den ρ e ∷ []) (v 0) (v 0 ⊖ v 1 ⊕ v 1) tt
      ∙ ap₂ ◌+◌ (sym (sound (a ⊖ b ⊖ e) ρ) ∙ is_z_ev (norm (a ⊖ b ⊖ e)) t ρ) c
      ∙ plus_zero (int (pos 0)))

  pub zero_mul : (ρ : List C) (m a b : E) → den ρ a ≡ den ρ b → den ρ (m ⊗ (a ⊖ b)) ≡ int (pos 0)
  zero_mul ρ m a b h = ap (λ z. den ρ m * (z + minus (den ρ b))) h ∙ ring (den ρ m ∷ den ρ b ∷ []) (v 0 ⊗ (v 1 ⊖ v 1)) (kp 0) tt

  -- quoting: sums and products of expressions are expressions, and statements between them are records
  pub q_add : (ρ : List C) (a b : E) → X ρ a + X ρ b ≡ X ρ (a ⊕ b)
  unfolding X
  q_add ρ a b = refl

  pub q_mul : (ρ : List C) (a b : E) → X ρ a * X ρ b ≡ X ρ (a ⊗ b)
  unfolding X
  q_mul ρ a b = refl

  pub q_neg : (ρ : List C) (a : E) → minus (X ρ a) ≡ X ρ (⊖ a)
  unfolding X
  q_neg ρ a = refl

  pub q_pos_add : (ρ : List C) (n : ℕ) (b : E) → int (pos n) + X ρ b ≡ X ρ (kp n ⊕ b)
  unfolding X
  q_pos_add ρ n b = refl

  pub q_add_pos : (ρ : List C) (n : ℕ) (b : E) → X ρ b + int (pos n) ≡ X ρ (b ⊕ kp n)
  unfolding X
  q_add_pos ρ n b = refl

  pub q_pos_mul : (ρ : List C) (n : ℕ) (b : E) → int (pos n) * X ρ b ≡ X ρ (kp n ⊗ b)
  unfolding X
  q_pos_mul ρ n b = refl

  pub q_mul_pos : (ρ : List C) (n : ℕ) (b : E) → X ρ b * int (pos n) ≡ X ρ (b ⊗ kp n)
  unfolding X
  q_mul_pos ρ n b = refl

  pub q_neg_add : (ρ : List C) (n : ℕ) (b : E) → int (negsuc n) + X ρ b ≡ X ρ (kn n ⊕ b)
  unfolding X
  q_neg_add ρ n b = refl

  pub q_add_neg : (ρ : List C) (n : ℕ) (b : E) → X ρ b + int (negsuc n) ≡ X ρ (b ⊕ kn n)
  unfolding X
  q_add_neg ρ n b = refl

  pub q_neg_mul : (ρ : List C) (n : ℕ) (b : E) → int (negsuc n) * X ρ b ≡ X ρ (kn n ⊗ b)
  unfolding X
  q_neg_mul ρ n b = refl

  pub q_mul_neg : (ρ : List C) (n : ℕ) (b : E) → X ρ b * int (negsuc n) ≡ X ρ (b ⊗ kn n)
  unfolding X
  q_mul_neg ρ n b = refl

  pub q_eq : (ρ : List C) (a b : E) → (X ρ a ≡ X ρ b) ↔ Eq ρ a b
  unfolding X
  q_eq ρ a b = ((λ h. record { eqn = h }), (λ h. h.eqn))

  pub q_eq_pos : (ρ : List C) (a : E) (n : ℕ) → (X ρ a ≡ int (pos n)) ↔ Eq ρ a (kp n)
  unfolding X
  q_eq_pos ρ a n = ((λ h. record { eqn = h }), (λ h. h.eqn))

  pub q_pos_eq : (ρ : List C) (n : ℕ) (b : E) → (int (pos n) ≡ X ρ b) ↔ Eq ρ (kp n) b
  unfolding X
  q_pos_eq ρ n b = ((λ h. record { eqn = h }), (λ h. h.eqn))

  pub q_neg_eq : (ρ : List C) (n : ℕ) (b : E) → (int (negsuc n) ≡ X ρ b) ↔ Eq ρ (kn n) b
  unfolding X
  q_neg_eq ρ n b = ((λ h. record { eqn = h }), (λ h. h.eqn))

  pub q_eq_neg : (ρ : List C) (a : E) (n : ℕ) → (X ρ a ≡ int (negsuc n)) ↔ Eq ρ a (kn n)
  unfolding X
  q_eq_neg ρ a n = ((λ h. record { eqn = h }), (λ h. h.eqn))

  -- two numerals: not for ℤ, where they compute
  pub q_int_add : (a b : ℤ) → int a + int b ≡ int (a +ℤ b)
  q_int_add a b = sym (int_plus a b)

  pub q_int_mul : (a b : ℤ) → int a * int b ≡ int (a *ℤ b)
  q_int_mul a b = sym (int_times a b)

  pub q_int_neg : (a : ℤ) → minus (int a) ≡ int (neg_ℤ a)
  q_int_neg a = sym (minus_unique (int a) (int (neg_ℤ a)) (sym (int_plus a (neg_ℤ a)) ∙ ap int (+ℤ_invr a)))

  pub q_le : (ρ : List C) (a b : E) → leq (X ρ a) (X ρ b) ↔ Le ρ a b
  unfolding X
  q_le ρ a b = ((λ h. record { ineq = h }), (λ h. h.ineq))

  pub q_pos_le : (ρ : List C) (n : ℕ) (b : E) → leq (int (pos n)) (X ρ b) ↔ Le ρ (kp n) b
  unfolding X
  q_pos_le ρ n b = ((λ h. record { ineq = h }), (λ h. h.ineq))

  pub q_le_pos : (ρ : List C) (a : E) (n : ℕ) → leq (X ρ a) (int (pos n)) ↔ Le ρ a (kp n)
  unfolding X
  q_le_pos ρ a n = ((λ h. record { ineq = h }), (λ h. h.ineq))

  pub q_neg_le : (ρ : List C) (n : ℕ) (b : E) → leq (int (negsuc n)) (X ρ b) ↔ Le ρ (kn n) b
  unfolding X
  q_neg_le ρ n b = ((λ h. record { ineq = h }), (λ h. h.ineq))

  pub q_le_neg : (ρ : List C) (a : E) (n : ℕ) → leq (X ρ a) (int (negsuc n)) ↔ Le ρ a (kn n)
  unfolding X
  q_le_neg ρ a n = ((λ h. record { ineq = h }), (λ h. h.ineq))

  -- what holds at every list of numbers holds of all numbers
  pub ∀₁ : (P : C → Type 0) → ((ρ : List C) → P (X ρ (v 0))) → (a : C) → P a
  unfolding X
  ∀₁ P f a = f (a ∷ [])

  pub ∀₂ : (P : C → C → Type 0) → ((ρ : List C) → P (X ρ (v 0)) (X ρ (v 1))) → (a b : C) → P a b
  unfolding X
  ∀₂ P f a b = f (a ∷ b ∷ [])

  pub ∀₃ : (P : C → C → C → Type 0) → ((ρ : List C) → P (X ρ (v 0)) (X ρ (v 1)) (X ρ (v 2))) → (a b c : C) → P a b c
  unfolding X
  ∀₃ P f a b c = f (a ∷ b ∷ c ∷ [])

  pub ∀₄ :
      (P : C → C → C → C → Type 0) →
      ((ρ : List C) → P (X ρ (v 0)) (X ρ (v 1)) (X ρ (v 2)) (X ρ (v 3))) →
      (a b c d : C) →
      P a b c d
  unfolding X
  ∀₄ P f a b c d = f (a ∷ b ∷ c ∷ d ∷ [])

  pub ∀₅ :
      (P : C → C → C → C → C → Type 0) →
      ((ρ : List C) → P (X ρ (v 0)) (X ρ (v 1)) (X ρ (v 2)) (X ρ (v 3)) (X ρ (v 4))) →
      (a b c d e : C) →
      P a b c d e
  unfolding X
  ∀₅ P f a b c d e = f (a ∷ b ∷ c ∷ d ∷ e ∷ [])

  pub ∀₆ :
      (P : C → C → C → C → C → C → Type 0) →
      ((ρ : List C) → P (X ρ (v 0)) (X ρ (v 1)) (X ρ (v 2)) (X ρ (v 3)) (X ρ (v 4)) (X ρ (v 5))) →
      (a b c d e g : C) →
      P a b c d e g
  unfolding X
  ∀₆ P f a b c d e g = f (a ∷ b ∷ c ∷ d ∷ e ∷ g ∷ [])

  pub ∀₇ :
      (P : C → C → C → C → C → C → C → Type 0) →
      ((ρ : List C) → P (X ρ (v 0)) (X ρ (v 1)) (X ρ (v 2)) (X ρ (v 3)) (X ρ (v 4)) (X ρ (v 5)) (X ρ (v 6))) →
      (a b c d e g h : C) →
      P a b c d e g h
  unfolding X
  ∀₇ P f a b c d e g h = f (a ∷ b ∷ c ∷ d ∷ e ∷ g ∷ h ∷ [])

  pub ∀₈ :
      (P : C → C → C → C → C → C → C → C → Type 0) →
      ((ρ : List C) → P (X ρ (v 0)) (X ρ (v 1)) (X ρ (v 2)) (X ρ (v 3)) (X ρ (v 4)) (X ρ (v 5)) (X ρ (v 6)) (X ρ (v 7))) →
      (a b c d e g h i : C) →
      P a b c d e g h i
  unfolding X
  ∀₈ P f a b c d e g h i = f (a ∷ b ∷ c ∷ d ∷ e ∷ g ∷ h ∷ i ∷ [])

  pub ∀₉ :
      (P : C → C → C → C → C → C → C → C → C → Type 0) →
      ((ρ : List C) → P (X ρ (v 0)) (X ρ (v 1)) (X ρ (v 2)) (X ρ (v 3)) (X ρ (v 4)) (X ρ (v 5)) (X ρ (v 6)) (X ρ (v 7)) (X ρ (v 8))) →
      (a b c d e g h i j : C) →
      P a b c d e g h i j
  unfolding X
  ∀₉ P f a b c d e g h i j = f (a ∷ b ∷ c ∷ d ∷ e ∷ g ∷ h ∷ i ∷ j ∷ [])

  pub ∀₁₀ :
      (P : C → C → C → C → C → C → C → C → C → C → Type 0) →
      ((ρ : List C) →
      P (X ρ (v 0)) (X ρ (v 1)) (X ρ (v 2)) (X ρ (v 3)) (X ρ (v 4)) (X ρ (v 5)) (X ρ (v 6)) (X ρ (v 7)) (X ρ (v 8)) (X ρ (v 9))) →
      (a b c d e g h i j l : C) →
      P a b c d e g h i j l
  unfolding X
  ∀₁₀ P f a b c d e g h i j l = f (a ∷ b ∷ c ∷ d ∷ e ∷ g ∷ h ∷ i ∷ j ∷ l ∷ [])

  pub ∀₁₁ :
      (P : C → C → C → C → C → C → C → C → C → C → C → Type 0) →
      ((ρ : List C) →
      P (X ρ (v 0)) (X ρ (v 1)) (X ρ (v 2)) (X ρ (v 3)) (X ρ (v 4)) (X ρ (v 5)) (X ρ (v 6)) (X ρ (v 7)) (X ρ (v 8)) (X ρ (v 9))
      (X ρ (v 10))) →
      (a b c d e g h i j l m : C) →
      P a b c d e g h i j l m
  unfolding X
  ∀₁₁ P f a b c d e g h i j l m = f (a ∷ b ∷ c ∷ d ∷ e ∷ g ∷ h ∷ i ∷ j ∷ l ∷ m ∷ [])

  pub ∀₁₂ :
      (P : C → C → C → C → C → C → C → C → C → C → C → C → Type 0) →
      ((ρ : List C) →
      P (X ρ (v 0)) (X ρ (v 1)) (X ρ (v 2)) (X ρ (v 3)) (X ρ (v 4)) (X ρ (v 5)) (X ρ (v 6)) (X ρ (v 7)) (X ρ (v 8)) (X ρ (v 9)) (X ρ (v 10))
      (X ρ (v 11))) →
      (a b c d e g h i j l m n : C) →
      P a b c d e g h i j l m n
  unfolding X
  ∀₁₂ P f a b c d e g h i j l m n = f (a ∷ b ∷ c ∷ d ∷ e ∷ g ∷ h ∷ i ∷ j ∷ l ∷ m ∷ n ∷ [])

  pub ∀₁₄ :
      (P : C → C → C → C → C → C → C → C → C → C → C → C → C → C → Type 0) →
      ((ρ : List C) →
      P (X ρ (v 0)) (X ρ (v 1)) (X ρ (v 2)) (X ρ (v 3)) (X ρ (v 4)) (X ρ (v 5)) (X ρ (v 6)) (X ρ (v 7)) (X ρ (v 8)) (X ρ (v 9)) (X ρ (v 10))
      (X ρ (v 11)) (X ρ (v 12)) (X ρ (v 13))) →
      (a b c d e g h i j l m n o q : C) →
      P a b c d e g h i j l m n o q
  unfolding X
  ∀₁₄ P f a b c d e g h i j l m n o q = f (a ∷ b ∷ c ∷ d ∷ e ∷ g ∷ h ∷ i ∷ j ∷ l ∷ m ∷ n ∷ o ∷ q ∷ [])

  pub ∀₁₆ :
      (P : C → C → C → C → C → C → C → C → C → C → C → C → C → C → C → C → Type 0) →
      ((ρ : List C) →
      P (X ρ (v 0)) (X ρ (v 1)) (X ρ (v 2)) (X ρ (v 3)) (X ρ (v 4)) (X ρ (v 5)) (X ρ (v 6)) (X ρ (v 7)) (X ρ (v 8)) (X ρ (v 9)) (X ρ (v 10))
      (X ρ (v 11)) (X ρ (v 12)) (X ρ (v 13)) (X ρ (v 14)) (X ρ (v 15))) →
      (a b c d e g h i j l m n o q r s : C) →
      P a b c d e g h i j l m n o q r s
  unfolding X
  ∀₁₆ P f a b c d e g h i j l m n o q r s = f (a ∷ b ∷ c ∷ d ∷ e ∷ g ∷ h ∷ i ∷ j ∷ l ∷ m ∷ n ∷ o ∷ q ∷ r ∷ s ∷ [])

  -- a positive factor of the goal goes
  pub cancel_cert :
      (ρ : List C) (m a b e : E) →
      ¬ (leq (den ρ m) (int (pos 0))) →
      leq (int (pos 0)) (den ρ e) →
      T (is_c (norm (m ⊗ (b ⊖ a) ⊖ kp 0 ⊖ e))) →
      leq (den ρ a) (den ρ b)
  cancel_cert ρ m a b e h c t = of_nn (den ρ a) (den ρ b) (cancel (den ρ m) (den ρ (b ⊖ a)) h (leq_cert ρ (kp 0) (m ⊗ (b ⊖ a)) e c t))

  cancel_zero : (m a : C) → ¬ (leq m (int (pos 0))) → m * a ≡ int (pos 0) → a ≡ int (pos 0)
  cancel_zero m a h e =
      antisym a (int (pos 0))
      (of_nn a (int (pos 0))
      (cancel m (int (pos 0) + minus a) h
      (nn_zero (ring (m ∷ a ∷ []) (v 0 ⊗ (kp 0 ⊖ v 1)) (⊖ (v 0 ⊗ v 1)) tt ∙ ap minus e ∙ ring [] (⊖ kp 0) (kp 0) tt))))
      (cancel m a h (nn_zero e))

  pub cancel_eqs :
      (ρ : List C) (m a b e : E) →
      ¬ (leq (den ρ m) (int (pos 0))) →
      den ρ e ≡ int (pos 0) →
      T (is_z (norm (m ⊗ (a ⊖ b) ⊖ kp 0 ⊖ e))) →
      den ρ a ≡ den ρ b
  cancel_eqs ρ m a b e h c t =
      cancel_minus (den ρ a) (den ρ b) (cancel_zero (den ρ m) (den ρ (a ⊖ b)) h (eqs_cert ρ (m ⊗ (a ⊖ b)) (kp 0) e c t))

  num_pos : (n : ℕ) → ¬ (leq (int (pos (suc n))) (int (pos 0)))
  num_pos n h =
      one_pos
      (of_nn (int (pos 1)) (int (pos 0))
      (subst (λ z. leq (int (pos 0)) z) shift
      (nn_plus (int (pos 0) + minus (int (pos (suc n)))) (int (pos n)) (to_nn (int (pos (suc n))) (int (pos 0)) h) (nn_int n))))
    where
      shift : int (pos 0) + minus (int (pos (suc n))) + int (pos n) ≡ int (pos 0) + minus (int (pos 1))
      shift =
          ap (λ z. int (pos 0) + minus z + int (pos n)) (ap (λ (m : ℕ). int (pos m)) (sym (add-one n)) ∙ int_plus (pos n) (pos 1))
          ∙ ring (int (pos n) ∷ []) (kp 0 ⊖ (v 0 ⊕ kp 1) ⊕ v 0) (kp 0 ⊖ kp 1) tt

pub data Left : List Term → Type 0 where

-- what a proof writes, with the ring read off
module _ {R : ORing} where
  pub by_ring : {ρ : List R.C} {a b : E} → T (is_z (norm (a ⊖ b))) → Eq R ρ a b
  by_ring {ρ} {a} {b} t = record { eqn = ring R ρ a b t }

  pub to : {ρ : List R.C} {a b : E} → Le R ρ a b → Cert R ρ (b ⊖ a)
  to {ρ} {a} {b} h = record { nn = R.to_nn (den R ρ a) (den R ρ b) h.ineq }

  pub times : {ρ : List R.C} {a b : E} (m : E) → Eq R ρ a b → Cert R ρ (m ⊗ (a ⊖ b))
  times {ρ} {a} {b} m h = record { nn = nn_zero R (zero_mul R ρ m a b h.eqn) }

  pub sq : {ρ : List R.C} (e : E) → Cert R ρ (e ⊗ e)
  sq {ρ} e = record { nn = R.nn_sq (den R ρ e) }

  pub num : {ρ : List R.C} (n : ℕ) → Cert R ρ (kp n)
  num n = record { nn = R.nn_int n }

  infixl 6 ◌⊞◌ ◌⊹◌
  pub ◌⊞◌ : {ρ : List R.C} {a b : E} → Cert R ρ a → Cert R ρ b → Cert R ρ (a ⊕ b)
  ◌⊞◌ {ρ} {a} {b} c d = record { nn = R.nn_plus (den R ρ a) (den R ρ b) c.nn d.nn }

  infixl 7 ◌⊠◌
  pub ◌⊠◌ : {ρ : List R.C} {a b : E} → Cert R ρ a → Cert R ρ b → Cert R ρ (a ⊗ b)
  ◌⊠◌ {ρ} {a} {b} c d = record { nn = R.nn_times (den R ρ a) (den R ρ b) c.nn d.nn }

  pub by_cert : {ρ : List R.C} {a b e : E} → Cert R ρ e → T (is_c (norm (b ⊖ a ⊖ e))) → Le R ρ a b
  by_cert {ρ} {a} {b} {e} c t = record { ineq = leq_cert R ρ a b e c.nn t }

  pub mul_eq : {ρ : List R.C} {a b : E} (m : E) → Eq R ρ a b → Zero R ρ (m ⊗ (a ⊖ b))
  mul_eq {ρ} {a} {b} m h = record { is0 = zero_mul R ρ m a b h.eqn }

  pub ◌⊹◌ : {ρ : List R.C} {a b : E} → Zero R ρ a → Zero R ρ b → Zero R ρ (a ⊕ b)
  c ⊹ d = record { is0 = ap₂ R.plus c.is0 d.is0 ∙ R.plus_zero (R.int (pos 0)) }

  pub by_eqs : {ρ : List R.C} {a b e : E} → Zero R ρ e → T (is_z (norm (a ⊖ b ⊖ e))) → Eq R ρ a b
  by_eqs {ρ} {a} {b} {e} c t = record { eqn = eqs_cert R ρ a b e c.is0 t }

  -- `contra c tt`: c comes to a number below 0
  pub contra : {ρ : List R.C} {e : E} → Cert R ρ e → T (is_c (norm (kp 0 ⊖ kp 1 ⊖ e))) → ⊥
  contra {ρ} {e} c t = R.one_pos (leq_cert R ρ (kp 1) (kp 0) e c.nn t)

  -- the goal times a factor m that is above 0
  pub over :
      {ρ : List R.C} {a b e : E} (m : E) →
      ¬ (Le R ρ m (kp 0)) →
      Cert R ρ e →
      T (is_c (norm (m ⊗ (b ⊖ a) ⊖ kp 0 ⊖ e))) →
      Le R ρ a b
  over {ρ} {a} {b} {e} m h c t = record { ineq = cancel_cert R ρ m a b e (λ l. h (record { ineq = l })) c.nn t }

  pub over_eq :
      {ρ : List R.C} {a b e : E} (m : E) →
      ¬ (Le R ρ m (kp 0)) →
      Zero R ρ e →
      T (is_z (norm (m ⊗ (a ⊖ b) ⊖ kp 0 ⊖ e))) →
      Eq R ρ a b
  over_eq {ρ} {a} {b} {e} m h c t = record { eqn = cancel_eqs R ρ m a b e (λ l. h (record { ineq = l })) c.is0 t }

  -- the goal n + 1 times
  pub part : {ρ : List R.C} {a b e : E} (n : ℕ) → Cert R ρ e → T (is_c (norm (kp (suc n) ⊗ (b ⊖ a) ⊖ kp 0 ⊖ e))) → Le R ρ a b
  part {ρ} {a} {b} {e} n c t = record { ineq = cancel_cert R ρ (kp (suc n)) a b e (num_pos R n) c.nn t }

  -- an equation from two inequalities
  pub both : {ρ : List R.C} {a b : E} → Le R ρ a b → Le R ρ b a → Eq R ρ a b
  both {ρ} {a} {b} h l = record { eqn = R.antisym (den R ρ a) (den R ρ b) h.ineq l.ineq }

  -- to see what a certificate leaves: `look c ?`, checked with --allow-holes. Nothing proves it
  pub look : {ρ : List R.C} {a b e : E} → Cert R ρ e → Left (terms (norm (b ⊖ a ⊖ e)) 0 []) → Le R ρ a b
  look c l = elim l [ ]

  pub look_eq : {ρ : List R.C} {a b : E} → Left (terms (norm (a ⊖ b)) 0 []) → Eq R ρ a b
  look_eq l = elim l [ ]

-- `simp gq`: a statement over a ring that is a variable, read as one between expressions (IntegerTerms and RationalTerms have the same at ℤ
-- and ℚ)
pub ruleset gq = (
  q_add,
  q_mul,
  q_neg,
  q_pos_add,
  q_add_pos,
  q_neg_add,
  q_add_neg,
  q_pos_mul,
  q_mul_pos,
  q_neg_mul,
  q_mul_neg,
  q_eq,
  q_eq_pos,
  q_pos_eq,
  q_eq_neg,
  q_neg_eq,
  q_int_add,
  q_int_mul,
  q_int_neg,
  q_le,
  q_pos_le,
  q_le_pos,
  q_neg_le,
  q_le_neg,
)
