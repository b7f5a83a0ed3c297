-- The rationals: fractions up to their equality, so that equal ones are equal by a path and `rw`, `simp`, `cc` and `ring` apply.
use mathlib.Core.Path.{◌≡◌, refl}
use mathlib.Core.Logic.{◌⊎◌, inl, inr}
use mathlib.Core.HLevel.{hedberg, Π_prop}
use mathlib.Core.Bool.{Bool, true, false, not, cond, Bool-discrete}
use mathlib.Core.Quot.{Quot, sound, Quot-set, lift, ind}
use Prim.Native.Nat.{ℕ}
use lib.Dec.{T, T_prop, T_not}
use lib.IntN.{ℤ, pos, ◌+ℤ◌, ◌*ℤ◌}
use lib.Signed.{le_z}
use Rattle.arith.proofs.Rings.{ORing, ∀₂, by_cert, to}
use Rattle.arith.proofs.Integers.{ℤR, ◌≼◌}
use Rattle.arith.proofs.IntegerTerms.{zq}
use Rattle.arith.proofs.IntegerOrder.{split}
use Rattle.arith.proofs.FractionLaws as F
use Rattle.arith.specs.Fractions as Fr
use Rattle.arith.specs.Fractions.{Frac, ◌≈◌, ◌⊑◌, ◌+q◌, ◌*q◌, negq}

abbrev pub ℚ : Type 0
ℚ = Quot ◌≈◌

abbrev pub mk : Frac → ℚ
mk x = Quot.mk x

pub same : {x y : Frac} → x ≈ y → mk x ≡ mk y
same h = sound h

-- from fractions to ℚ: operations, and statements that are propositions
pub ind₁ : (C : ℚ → Type 0) → ((p : ℚ) → IsProp (C p)) → ((x : Frac) → C (mk x)) → (p : ℚ) → C p
ind₁ C h f p = ind {β = C} h f p

pub eq₁ : (f g : ℚ → ℚ) → ((x : Frac) → f (mk x) ≡ g (mk x)) → (p : ℚ) → f p ≡ g p
eq₁ f g h p = ind₁ (λ p. f p ≡ g p) (λ p. Quot-set (f p) (g p)) h p

pub eq₂ : (f g : ℚ → ℚ → ℚ) → ((x y : Frac) → f (mk x) (mk y) ≡ g (mk x) (mk y)) → (p q : ℚ) → f p q ≡ g p q
eq₂ f g h p q = eq₁ (λ p. f p q) (λ p. g p q) (λ x. eq₁ (f (mk x)) (g (mk x)) (h x) q) p

pub eq₃ :
    (f g : ℚ → ℚ → ℚ → ℚ) →
    ((x y z : Frac) → f (mk x) (mk y) (mk z) ≡ g (mk x) (mk y) (mk z)) →
    (p q r : ℚ) →
    f p q r ≡ g p q r
eq₃ f g h p q r = eq₁ (λ p. f p q r) (λ p. g p q r) (λ x. eq₂ (f (mk x)) (g (mk x)) (h x) q r) p

abbrev lift₁ : (f : Frac → Frac) → ((x y : Frac) → x ≈ y → f x ≈ f y) → ℚ → ℚ
lift₁ f c p = lift Quot-set (λ x. mk (f x)) (λ x y h. same (c x y h)) p

abbrev lift₂ :
    (f : Frac → Frac → Frac) →
    ((x y z : Frac) → x ≈ y → f x z ≈ f y z) →
    ((x y z : Frac) → x ≈ y → f z x ≈ f z y) →
    ℚ →
    ℚ →
    ℚ
lift₂ f c d p q =
    lift Quot-set (λ x. lift₁ (f x) (λ y z h. d y z x h) q)
    (λ x y h. eq₁ (lift₁ (f x) (λ u w h. d u w x h)) (lift₁ (f y) (λ u w h. d u w y h)) (λ z. same (c x y z h)) q) p

infixl 6 ◌+ℚ◌ ◌-ℚ◌
unfoldable pub ◌+ℚ◌ : ℚ → ℚ → ℚ
p +ℚ q = lift₂ ◌+q◌ F.+q-cong F.+q-cong-r p q

infixl 7 ◌*ℚ◌ ◌/ℚ◌
unfoldable pub ◌*ℚ◌ : ℚ → ℚ → ℚ
p *ℚ q = lift₂ ◌*q◌ F.*q-cong F.*q-cong-r p q

unfoldable pub negℚ : ℚ → ℚ
negℚ p = lift₁ negq F.negq_cong p

unfoldable pub recipℚ : ℚ → ℚ
recipℚ p = lift₁ Fr.recip F.recip_cong p

abbrev pub ◌-ℚ◌ : ℚ → ℚ → ℚ
p -ℚ q = p +ℚ negℚ q

abbrev pub ◌/ℚ◌ : ℚ → ℚ → ℚ
p /ℚ q = p *ℚ recipℚ q

unfoldable pub int : ℤ → ℚ
int z = mk (Fr.int z)

-- the ring laws
pub plus_assoc : (p q r : ℚ) → (p +ℚ q) +ℚ r ≡ p +ℚ (q +ℚ r)
unfolding ◌+ℚ◌
plus_assoc = eq₃ (λ p q r. (p +ℚ q) +ℚ r) (λ p q r. p +ℚ (q +ℚ r)) (λ x y z. same (F.+q-assoc x y z))

pub plus_comm : (p q : ℚ) → p +ℚ q ≡ q +ℚ p
unfolding ◌+ℚ◌
plus_comm = eq₂ (λ p q. p +ℚ q) (λ p q. q +ℚ p) (λ x y. same (F.+q-comm x y))

pub plus_zero : (p : ℚ) → int (pos 0) +ℚ p ≡ p
unfolding ◌+ℚ◌ int
plus_zero = eq₁ (λ p. int (pos 0) +ℚ p) (λ p. p) (λ x. same (F.+q-zero x))

pub plus_neg : (p : ℚ) → p +ℚ negℚ p ≡ int (pos 0)
unfolding ◌+ℚ◌ negℚ int
plus_neg = eq₁ (λ p. p +ℚ negℚ p) (λ p. int (pos 0)) (λ x. same (F.+q-neg x))

pub times_assoc : (p q r : ℚ) → (p *ℚ q) *ℚ r ≡ p *ℚ (q *ℚ r)
unfolding ◌*ℚ◌
times_assoc = eq₃ (λ p q r. (p *ℚ q) *ℚ r) (λ p q r. p *ℚ (q *ℚ r)) (λ x y z. same (F.*q-assoc x y z))

pub times_comm : (p q : ℚ) → p *ℚ q ≡ q *ℚ p
unfolding ◌*ℚ◌
times_comm = eq₂ (λ p q. p *ℚ q) (λ p q. q *ℚ p) (λ x y. same (F.*q-comm x y))

pub times_one : (p : ℚ) → int (pos 1) *ℚ p ≡ p
unfolding ◌*ℚ◌ int
times_one = eq₁ (λ p. int (pos 1) *ℚ p) (λ p. p) (λ x. same (F.*q-one x))

pub times_plus : (p q r : ℚ) → p *ℚ (q +ℚ r) ≡ p *ℚ q +ℚ p *ℚ r
unfolding ◌*ℚ◌ ◌+ℚ◌
times_plus = eq₃ (λ p q r. p *ℚ (q +ℚ r)) (λ p q r. p *ℚ q +ℚ p *ℚ r) (λ x y z. same (F.*q-+q x y z))

pub int_plus : (a b : ℤ) → int (a +ℤ b) ≡ int a +ℚ int b
unfolding ◌+ℚ◌ int
int_plus a b = same (F.int-+q a b)

pub int_times : (a b : ℤ) → int (a *ℤ b) ≡ int a *ℚ int b
unfolding ◌*ℚ◌ int
int_times a b = same (F.int-*q a b)

-- the order: a test, which respects the equality
bool_ext : (a b : Bool) → (T a → T b) → (T b → T a) → a ≡ b
bool_ext true true f g = refl
bool_ext true false f g = absurd (f tt)
bool_ext false true f g = absurd (g tt)
bool_ext false false f g = refl

pub Bool-set : IsSet Bool
Bool-set = hedberg Bool-discrete

-- the test at two fractions is the order's
abbrev test : Frac → Frac → Bool
test x y = le_z (x.top *ℤ y.bot) (y.top *ℤ x.bot)

of_test : (x y : Frac) → T (test x y) → x ⊑ y
of_test x y t = record { cross = record { le = t } }

to_test : (x y : Frac) → x ⊑ y → T (test x y)
to_test x y h = h.cross.le

pub test_l : (x y z : Frac) → x ≈ y → test x z ≡ test y z
test_l x y z h =
    bool_ext (test x z) (test y z) (λ t. to_test y z (F.⊑-cong x y z h (of_test x z t)))
    (λ t. to_test x z (F.⊑-cong y x z (F.≈-sym x y h) (of_test y z t)))

pub test_r : (x y z : Frac) → x ≈ y → test z x ≡ test z y
test_r x y z h =
    bool_ext (test z x) (test z y) (λ t. to_test z y (F.⊑-cong-r x y z h (of_test z x t)))
    (λ t. to_test z x (F.⊑-cong-r y x z (F.≈-sym x y h) (of_test z y t)))

abbrev test₁ : Frac → ℚ → Bool
test₁ x q = lift Bool-set (test x) (λ y z h. test_r y z x h) q

unfoldable pub leℚ : ℚ → ℚ → Bool
leℚ p q =
    lift Bool-set (λ x. test₁ x q)
    (λ x y h. ind₁ (λ q. test₁ x q ≡ test₁ y q) (λ q. Bool-set (test₁ x q) (test₁ y q)) (λ z. test_l x y z h) q) p

infix 4 ◌≤ℚ◌
pub record ◌≤ℚ◌ (p q : ℚ) : Type 0 where
  pub le : T (leℚ p q)

≤-prop : (p q : ℚ) → IsProp (p ≤ℚ q)
≤-prop p q h l = λ i. record { le = T_prop (leℚ p q) h.le l.le i }

pub of-⊑ : (x y : Frac) → x ⊑ y → mk x ≤ℚ mk y
unfolding leℚ
of-⊑ x y h = record { le = h.cross.le }

pub to-⊑ : (x y : Frac) → mk x ≤ℚ mk y → x ⊑ y
unfolding leℚ
to-⊑ x y h = record { cross = record { le = h.le } }

pub ind₂ : (C : ℚ → ℚ → Type 0) → ((p q : ℚ) → IsProp (C p q)) → ((x y : Frac) → C (mk x) (mk y)) → (p q : ℚ) → C p q
ind₂ C h f p q = ind₁ (λ p. C p q) (λ p. h p q) (λ x. ind₁ (C (mk x)) (h (mk x)) (f x) q) p

pub nn_int : (n : ℕ) → int (pos 0) ≤ℚ int (pos n)
unfolding int
nn_int n = of-⊑ (Fr.int (pos 0)) (Fr.int (pos n)) (F.nn_intq n)

pub nn_plus : (p q : ℚ) → int (pos 0) ≤ℚ p → int (pos 0) ≤ℚ q → int (pos 0) ≤ℚ p +ℚ q
unfolding int ◌+ℚ◌
nn_plus =
    ind₂ (λ p q. int (pos 0) ≤ℚ p → int (pos 0) ≤ℚ q → int (pos 0) ≤ℚ p +ℚ q)
    (λ p q. Π_prop (λ h. Π_prop (λ l. ≤-prop (int (pos 0)) (p +ℚ q))))
    (λ x y h l. of-⊑ (Fr.int (pos 0)) (x +q y) (F.nn-+q x y (to-⊑ (Fr.int (pos 0)) x h) (to-⊑ (Fr.int (pos 0)) y l)))

pub nn_times : (p q : ℚ) → int (pos 0) ≤ℚ p → int (pos 0) ≤ℚ q → int (pos 0) ≤ℚ p *ℚ q
unfolding int ◌*ℚ◌
nn_times =
    ind₂ (λ p q. int (pos 0) ≤ℚ p → int (pos 0) ≤ℚ q → int (pos 0) ≤ℚ p *ℚ q)
    (λ p q. Π_prop (λ h. Π_prop (λ l. ≤-prop (int (pos 0)) (p *ℚ q))))
    (λ x y h l. of-⊑ (Fr.int (pos 0)) (x *q y) (F.nn-*q x y (to-⊑ (Fr.int (pos 0)) x h) (to-⊑ (Fr.int (pos 0)) y l)))

pub nn_sq : (p : ℚ) → int (pos 0) ≤ℚ p *ℚ p
unfolding int ◌*ℚ◌
nn_sq = ind₁ (λ p. int (pos 0) ≤ℚ p *ℚ p) (λ p. ≤-prop (int (pos 0)) (p *ℚ p)) (λ x. of-⊑ (Fr.int (pos 0)) (x *q x) (F.nn_sqq x))

pub to_nn : (p q : ℚ) → p ≤ℚ q → int (pos 0) ≤ℚ q +ℚ negℚ p
unfolding int ◌+ℚ◌ negℚ
to_nn =
    ind₂ (λ p q. p ≤ℚ q → int (pos 0) ≤ℚ q +ℚ negℚ p) (λ p q. Π_prop (λ h. ≤-prop (int (pos 0)) (q +ℚ negℚ p)))
    (λ x y h. of-⊑ (Fr.int (pos 0)) (y +q negq x) (F.to_nnq x y (to-⊑ x y h)))

pub of_nn : (p q : ℚ) → int (pos 0) ≤ℚ q +ℚ negℚ p → p ≤ℚ q
unfolding int ◌+ℚ◌ negℚ
of_nn =
    ind₂ (λ p q. int (pos 0) ≤ℚ q +ℚ negℚ p → p ≤ℚ q) (λ p q. Π_prop (λ h. ≤-prop p q))
    (λ x y h. of-⊑ x y (F.of_nnq x y (to-⊑ (Fr.int (pos 0)) (y +q negq x) h)))

pub one_pos : ¬ (int (pos 1) ≤ℚ int (pos 0))
unfolding int
one_pos h = F.one_posq (to-⊑ (Fr.int (pos 1)) (Fr.int (pos 0)) h)

pub cancel : (m p : ℚ) → ¬ (m ≤ℚ int (pos 0)) → int (pos 0) ≤ℚ m *ℚ p → int (pos 0) ≤ℚ p
unfolding int ◌*ℚ◌
cancel =
    ind₂ (λ m p. ¬ (m ≤ℚ int (pos 0)) → int (pos 0) ≤ℚ m *ℚ p → int (pos 0) ≤ℚ p)
    (λ m p. Π_prop (λ h. Π_prop (λ l. ≤-prop (int (pos 0)) p)))
    (λ x y h l. of-⊑ (Fr.int (pos 0)) y (F.cancelq x y (λ k. h (of-⊑ x (Fr.int (pos 0)) k)) (to-⊑ (Fr.int (pos 0)) (x *q y) l)))

pub antisym : (p q : ℚ) → p ≤ℚ q → q ≤ℚ p → p ≡ q
antisym =
    ind₂ (λ p q. p ≤ℚ q → q ≤ℚ p → p ≡ q) (λ p q. Π_prop (λ h. Π_prop (λ l. Quot-set p q)))
    (λ x y h l. same (F.⊑-antisym x y (to-⊑ x y h) (to-⊑ y x l)))

abbrev pub ℚR : ORing
ℚR = record {
  C = ℚ;
  plus = ◌+ℚ◌;
  times = ◌*ℚ◌;
  minus = negℚ;
  int = int;
  plus_assoc = plus_assoc;
  plus_comm = plus_comm;
  plus_zero = plus_zero;
  plus_minus = plus_neg;
  times_assoc = times_assoc;
  times_comm = times_comm;
  times_one = times_one;
  times_plus = times_plus;
  int_plus = int_plus;
  int_times = int_times;
  leq = ◌≤ℚ◌;
  nn_int = nn_int;
  nn_plus = nn_plus;
  nn_times = nn_times;
  nn_sq = nn_sq;
  to_nn = to_nn;
  of_nn = of_nn;
  one_pos = one_pos;
  cancel = cancel;
  antisym = antisym;
}

-- a test that fails, and what is above 0
flip_at : (x y : Frac) → T (not (test x y)) → y ⊑ x
flip_at x y t = go (F.⊑-total x y)
  where
    go : (x ⊑ y) ⊎ (y ⊑ x) → y ⊑ x
    go (inl h) = absurd (T_not (test x y) t (to_test x y h))
    go (inr h) = h

pub flip : (p q : ℚ) → T (not (leℚ p q)) → q ≤ℚ p
unfolding leℚ
flip = ind₂ (λ p q. T (not (leℚ p q)) → q ≤ℚ p) (λ p q. Π_prop (λ t. ≤-prop q p)) (λ x y t. of-⊑ y x (flip_at x y t))

infix 4 ◌<ℚ◌
pub record ◌<ℚ◌ (p q : ℚ) : Type 0 where
  pub lt : T (not (leℚ q p))

pub <→≤ : {p q : ℚ} → p <ℚ q → p ≤ℚ q
<→≤ {p} {q} h = flip q p h.lt

above_at : (x : Frac) → T (not (test x (Fr.int (pos 0)))) → pos 1 ≼ x.top
above_at x t = go (split (pos 0) x.top)
  where
    go : (pos 0 +ℤ pos 1 ≼ x.top) ⊎ (x.top ≼ pos 0) → pos 1 ≼ x.top
    go (inl h) = h
    go (inr h) = absurd (T_not (test x (Fr.int (pos 0))) t (low x.top x.bot h).le)
      where
        low : (a b : ℤ) → a ≼ pos 0 → a *ℤ pos 1 ≼ pos 0 *ℤ b
        low = ∀₂ ℤR _ λ ρ. simp zq λ h. by_cert (to h) tt

pub recip_times : (p : ℚ) → int (pos 0) <ℚ p → p *ℚ recipℚ p ≡ int (pos 1)
unfolding leℚ int ◌*ℚ◌ recipℚ
recip_times =
    ind₁ (λ p. int (pos 0) <ℚ p → p *ℚ recipℚ p ≡ int (pos 1)) (λ p. Π_prop (λ h. Quot-set (p *ℚ recipℚ p) (int (pos 1))))
    (λ x h. same (F.recip_mul x (above_at x h.lt)))

pub recip_nn : (p : ℚ) → int (pos 0) ≤ℚ recipℚ p
unfolding int recipℚ
recip_nn =
    ind₁ (λ p. int (pos 0) ≤ℚ recipℚ p) (λ p. ≤-prop (int (pos 0)) (recipℚ p)) (λ x. of-⊑ (Fr.int (pos 0)) (Fr.recip x) (F.recip_nnq x))

-- the absolute value
unfoldable pub absℚ : ℚ → ℚ
absℚ p = cond (leℚ (int (pos 0)) p) p (negℚ p)
