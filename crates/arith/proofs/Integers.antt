-- ℤ as an ordered ring: the laws that lib.IntN and lib.Signed do not have, and `ℤR`.
use mathlib.Core.Path.{◌≡◌, refl, sym, ap, ap₂, subst, ◌∙◌}
use mathlib.Core.Bool.{Bool, true, false, cond}
use Prim.Native.Nat.{ℕ, zero, suc, ◌+◌, ◌-◌, ◌*◌, ◌≤◌}
use native.Mathlib.Omega.{arith}
use lib.Dec.{T, leb→le, le→leb, ltb}
use lib.IntN.{ℤ, pos, negsuc, pred_ℤ, neg_ℤ, nat_abs, one, ◌+ℤ◌, ◌-ℤ◌, ◌*ℤ◌, +ℤ_idl, +ℤ_idr, +ℤ_assoc, +ℤ_comm}
use lib.IntN.{+ℤ_invr, +ℤ_invl, suc_ℤ-+ℤ}
use lib.IntN.{pred_ℤ-+ℤ, suc_ℤ-*ℤ, pred_ℤ-*ℤ, zero-*ℤ, *ℤ_comm, *ℤ-one, neg_ℤ-+ℤ, +ℤ-neg_ℤ_cancel, neg_ℤ-neg_ℤ}
use lib.Signed.{◌≤ℤ◌, le_z, yes_non_neg, pos-nat_abs, ≤ℤ_refl}
use Rattle.arith.proofs.Rings.{ORing}

-- left-commutativity, for sorting by simp
pub +ℤ-left : (a b c : ℤ) → a +ℤ (b +ℤ c) ≡ b +ℤ (a +ℤ c)
+ℤ-left a b c = sym (+ℤ_assoc a b c) ∙ ap (λ x. x +ℤ c) (+ℤ_comm a b) ∙ +ℤ_assoc b a c

pub ruleset +ac = (+ℤ_assoc, +ℤ_comm, +ℤ-left)

-- (m + k) * c = m * c + k * c
add_mul_pos : (n : ℕ) (k c : ℤ) → (pos n +ℤ k) *ℤ c ≡ pos n *ℤ c +ℤ k *ℤ c
add_mul_pos zero k c = rw (+ℤ_idl k, zero-*ℤ c, +ℤ_idl (k *ℤ c))
add_mul_pos (suc n) k c =
    ap (λ x. x *ℤ c) (suc_ℤ-+ℤ (pos n) k)
    ∙ suc_ℤ-*ℤ (pos n +ℤ k) c
    ∙ ap (λ x. x +ℤ c) (add_mul_pos n k c)
    ∙ shuffle (pos n *ℤ c) (k *ℤ c) c
    ∙ ap (λ x. x +ℤ k *ℤ c) (sym (suc_ℤ-*ℤ (pos n) c))
  where
    shuffle : (x y z : ℤ) → x +ℤ y +ℤ z ≡ x +ℤ z +ℤ y
    shuffle x y z = simp +ac

add_mul_neg : (n : ℕ) (k c : ℤ) → (negsuc n +ℤ k) *ℤ c ≡ negsuc n *ℤ c +ℤ k *ℤ c
add_mul_neg zero k c =
    ap (λ x. x *ℤ c) (pred_ℤ-+ℤ (pos zero) k ∙ ap pred_ℤ (+ℤ_idl k))
    ∙ pred_ℤ-*ℤ k c
    ∙ +ℤ_comm (k *ℤ c) (neg_ℤ c)
    ∙ ap (λ x. x +ℤ k *ℤ c) (sym (+ℤ_idl (neg_ℤ c)) ∙ ap (λ x. x -ℤ c) (sym (zero-*ℤ c)) ∙ sym (pred_ℤ-*ℤ (pos zero) c))
add_mul_neg (suc n) k c =
    ap (λ x. x *ℤ c) (pred_ℤ-+ℤ (negsuc n) k)
    ∙ pred_ℤ-*ℤ (negsuc n +ℤ k) c
    ∙ ap (λ x. x -ℤ c) (add_mul_neg n k c)
    ∙ shuffle (negsuc n *ℤ c) (k *ℤ c) (neg_ℤ c)
    ∙ ap (λ x. x +ℤ k *ℤ c) (sym (pred_ℤ-*ℤ (negsuc n) c))
  where
    shuffle : (x y z : ℤ) → x +ℤ y +ℤ z ≡ x +ℤ z +ℤ y
    shuffle x y z = simp +ac

pub add_mulℤ : (m k c : ℤ) → (m +ℤ k) *ℤ c ≡ m *ℤ c +ℤ k *ℤ c
add_mulℤ (pos n) k c = add_mul_pos n k c
add_mulℤ (negsuc n) k c = add_mul_neg n k c

pub mul_addℤ : (c m k : ℤ) → c *ℤ (m +ℤ k) ≡ c *ℤ m +ℤ c *ℤ k
mul_addℤ c m k = *ℤ_comm c (m +ℤ k) ∙ add_mulℤ m k c ∙ ap (λ x. x +ℤ k *ℤ c) (*ℤ_comm m c) ∙ ap (λ x. c *ℤ m +ℤ x) (*ℤ_comm k c)

-- a number whose sum with x is 0 is -x
pub neg_unique : (x y : ℤ) → x +ℤ y ≡ pos zero → y ≡ neg_ℤ x
neg_unique x y h =
    sym (+ℤ_idl y)
    ∙ ap (λ z. z +ℤ y) (sym (+ℤ_invl x))
    ∙ +ℤ_assoc (neg_ℤ x) x y
    ∙ ap (λ z. neg_ℤ x +ℤ z) h
    ∙ +ℤ_idr (neg_ℤ x)

pub neg_mulℤ : (m c : ℤ) → neg_ℤ m *ℤ c ≡ neg_ℤ (m *ℤ c)
neg_mulℤ m c = neg_unique (m *ℤ c) (neg_ℤ m *ℤ c) (sym (add_mulℤ m (neg_ℤ m) c) ∙ ap (λ z. z *ℤ c) (+ℤ_invr m) ∙ zero-*ℤ c)

mul_assoc_pos : (n : ℕ) (k c : ℤ) → (pos n *ℤ k) *ℤ c ≡ pos n *ℤ (k *ℤ c)
mul_assoc_pos zero k c = rw (zero-*ℤ k, zero-*ℤ c, zero-*ℤ (k *ℤ c))
mul_assoc_pos (suc n) k c =
    ap (λ x. x *ℤ c) (suc_ℤ-*ℤ (pos n) k)
    ∙ add_mulℤ (pos n *ℤ k) k c
    ∙ ap (λ x. x +ℤ k *ℤ c) (mul_assoc_pos n k c)
    ∙ sym (suc_ℤ-*ℤ (pos n) (k *ℤ c))

pub mul_assocℤ : (m k c : ℤ) → (m *ℤ k) *ℤ c ≡ m *ℤ (k *ℤ c)
mul_assocℤ (pos n) k c = mul_assoc_pos n k c
mul_assocℤ (negsuc n) k c =
    ap (λ x. x *ℤ c) (neg_mulℤ (pos (suc n)) k)
    ∙ neg_mulℤ (pos (suc n) *ℤ k) c
    ∙ ap neg_ℤ (mul_assoc_pos (suc n) k c)
    ∙ sym (neg_mulℤ (pos (suc n)) (k *ℤ c))

pub one_mulℤ : (k : ℤ) → pos 1 *ℤ k ≡ k
unfolding one
one_mulℤ k = *ℤ_comm (pos 1) k ∙ *ℤ-one k

-- lib.Signed's order with a fixity below that of the sum (its own, 50, binds tighter than `+ℤ`)
infix 4 ◌≼◌
abbrev pub ◌≼◌ : ℤ → ℤ → Type 0
a ≼ b = a ≤ℤ b

-- a ≤ b is: b is a + n for a natural n
pub record Above (a b : ℤ) : Type 0 where
  pub by : ℕ
  pub is : b ≡ a +ℤ pos by

neg_above : (b n : ℕ) → negsuc b ≡ negsuc (b + n) +ℤ pos n
neg_above b n =
    sym
    (ap (λ (m : ℕ). neg_ℤ (pos m) +ℤ pos n) move
    ∙ ap (λ z. z +ℤ pos n) (neg_ℤ-+ℤ (pos (suc b)) (pos n))
    ∙ +ℤ_assoc (negsuc b) (neg_ℤ (pos n)) (pos n)
    ∙ ap (λ z. negsuc b +ℤ z) (+ℤ_invl (pos n))
    ∙ +ℤ_idr (negsuc b))
  where
    move : suc (b + n) ≡ suc b + n
    move = omega arith

le_above : (a b : ℤ) → T (le_z a b) → Above a b
le_above (pos a) (pos b) t = record { by = b - a; is = ap pos (go (leb→le a b t)) }
  where
    go : a ≤ b → b ≡ a + (b - a)
    go h = omega arith
le_above (pos a) (negsuc b) t = absurd t
le_above (negsuc a) (pos b) t =
    record {
      by = suc a + b;
      is = sym (sym (+ℤ_assoc (negsuc a) (pos (suc a)) (pos b)) ∙ ap (λ z. z +ℤ pos b) (+ℤ_invl (pos (suc a))) ∙ +ℤ_idl (pos b));
    }
le_above (negsuc a) (negsuc b) t = record { by = a - b; is = neg_above b (a - b) ∙ ap (λ n. negsuc n +ℤ pos (a - b)) (go (leb→le b a t)) }
  where
    go : b ≤ a → b + (a - b) ≡ a
    go h = omega arith

pub above : {a b : ℤ} → a ≤ℤ b → Above a b
above {a} {b} h = le_above a b h.le

sub_le : (n a : ℕ) (c : Bool) → T (le_z (negsuc a) (cond c (negsuc (suc a - suc n)) (pos (n - suc a))))
sub_le n a true = le→leb (suc a - suc n) a (omega arith)
sub_le n a false = tt

plus_le : (a : ℤ) (n : ℕ) → T (le_z a (a +ℤ pos n))
plus_le (pos a) n = le→leb a (a + n) (omega arith)
plus_le (negsuc a) n = sub_le n a (ltb n (suc a))

pub ≼-plus : (a : ℤ) (n : ℕ) → a ≼ a +ℤ pos n
≼-plus a n = record { le = plus_le a n }

pub below : {a b : ℤ} → Above a b → a ≼ b
below {a} {b} h = subst (λ z. a ≼ z) (sym h.is) (≼-plus a h.by)

-- not negative: every law comes down to these
pub nn_pos : (n : ℕ) → pos 0 ≼ pos n
nn_pos n = subst (λ z. pos 0 ≼ z) (+ℤ_idl (pos n)) (≼-plus (pos 0) n)

pub nn_is : {z : ℤ} → pos 0 ≼ z → pos (nat_abs z) ≡ z
nn_is {z} h = pos-nat_abs z (yes_non_neg h)

pub nn_add : {x y : ℤ} → pos 0 ≼ x → pos 0 ≼ y → pos 0 ≼ x +ℤ y
nn_add {x} {y} h l = subst (λ z. pos 0 ≼ z) (ap₂ ◌+ℤ◌ (nn_is h) (nn_is l)) (nn_pos (nat_abs x + nat_abs y))

pub nn_mul : {x y : ℤ} → pos 0 ≼ x → pos 0 ≼ y → pos 0 ≼ x *ℤ y
nn_mul {x} {y} h l = subst (λ z. pos 0 ≼ z) (ap₂ ◌*ℤ◌ (nn_is h) (nn_is l)) (nn_pos (nat_abs x * nat_abs y))

pub nn_sq : (x : ℤ) → pos 0 ≼ x *ℤ x
nn_sq (pos n) = nn_pos (n * n)
nn_sq (negsuc n) = nn_pos (suc n * suc n)

-- a ≤ b is 0 ≤ b - a
pub to_nn : (a b : ℤ) → a ≼ b → pos 0 ≼ b -ℤ a
to_nn a b h =
    let u = above h in
    subst (λ z. pos 0 ≼ z) (sym (ap (λ z. z -ℤ a) (u.is ∙ +ℤ_comm a (pos u.by)) ∙ +ℤ-neg_ℤ_cancel (pos u.by) a)) (nn_pos u.by)

pub of_nn : (a b : ℤ) → pos 0 ≼ b -ℤ a → a ≼ b
of_nn a b h =
    below
    (record {
      by = nat_abs (b -ℤ a);
      is = sym (ap (λ z. a +ℤ z) (nn_is h) ∙ +ℤ-left a b (neg_ℤ a) ∙ ap (λ z. b +ℤ z) (+ℤ_invr a) ∙ +ℤ_idr b);
    })

zero_of : (z : ℤ) → pos 0 ≼ z → pos 0 ≼ neg_ℤ z → z ≡ pos 0
zero_of (pos zero) h l = refl
zero_of (pos (suc n)) h l = absurd l.le
zero_of (negsuc n) h l = absurd h.le

pub antisym : (a b : ℤ) → a ≼ b → b ≼ a → a ≡ b
antisym a b h l =
    sym (+ℤ_idl a)
    ∙ ap (λ z. z +ℤ a) (sym (zero_of (b -ℤ a) (to_nn a b h) (subst (λ z. pos 0 ≼ z) turn (to_nn b a l))))
    ∙ +ℤ_assoc b (neg_ℤ a) a
    ∙ ap (λ z. b +ℤ z) (+ℤ_invl a)
    ∙ +ℤ_idr b
  where
    turn : a -ℤ b ≡ neg_ℤ (b -ℤ a)
    turn = +ℤ_comm a (neg_ℤ b) ∙ ap (λ z. neg_ℤ b +ℤ z) (sym (neg_ℤ-neg_ℤ a)) ∙ sym (neg_ℤ-+ℤ b (neg_ℤ a))

-- a positive factor goes
pub cancel : (m a : ℤ) → ¬ (m ≼ pos 0) → pos 0 ≼ m *ℤ a → pos 0 ≼ a
cancel m (pos n) h l = nn_pos n
cancel (pos zero) (negsuc n) h l = absurd (h (≤ℤ_refl (pos 0)))
cancel (pos (suc m)) (negsuc n) h l = absurd (product (suc m * suc n) (omega arith) l)
  where
    product : (j : ℕ) → 1 ≤ j → ¬ (pos 0 ≼ neg_ℤ (pos j))
    product zero p q = no_less p
      where
        no_less : 1 ≤ 0 → ⊥
        no_less x = omega arith
    product (suc j) p q = q.le
cancel (negsuc m) (negsuc n) h l = absurd (h (record { le = tt }))

abbrev pub ℤR : ORing
ℤR = record {
  C = ℤ;
  plus = ◌+ℤ◌;
  times = ◌*ℤ◌;
  minus = neg_ℤ;
  int = λ z. z;
  plus_assoc = +ℤ_assoc;
  plus_comm = +ℤ_comm;
  plus_zero = +ℤ_idl;
  plus_minus = +ℤ_invr;
  times_assoc = mul_assocℤ;
  times_comm = *ℤ_comm;
  times_one = one_mulℤ;
  times_plus = mul_addℤ;
  int_plus = λ a b. refl;
  int_times = λ a b. refl;
  leq = ◌≼◌;
  nn_int = nn_pos;
  nn_plus = λ a b h l. nn_add h l;
  nn_times = λ a b h l. nn_mul h l;
  nn_sq = nn_sq;
  to_nn = to_nn;
  of_nn = of_nn;
  one_pos = λ h. h.le;
  cancel = cancel;
  antisym = antisym;
}
