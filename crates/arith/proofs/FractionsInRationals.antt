-- Fractions in ℚ: `mk` takes each operation and order of specs/Fractions to that of ℚ and back, so that a statement in fractions is
-- proved in ℚ.
use mathlib.Core.Path.{◌≡◌, refl, sym, ap, subst, ◌∙◌}
use mathlib.Core.Bool.{Bool, true, false, not, cond}
use mathlib.Core.List.{List, [], ◌∷◌}
use Prim.Native.Nat.{zero, suc, ◌≤◌}
use native.Mathlib.Omega.{arith}
use lib.Dec.{T, T_not, leb→le}
use lib.IntN.{ℤ, pos, negsuc, ◌*ℤ◌}
use lib.Signed.{◌≤ℤ◌, ◌<ℤ◌, le_z, lt_z, lt_z_no, clash_ℤ}
use Rattle.arith.specs.Fractions as F
use Rattle.arith.specs.Fractions.{Frac, ◌≈◌, ◌⊑◌, ◌⊏◌, ◌+q◌, ◌-q◌, ◌*q◌, ◌/q◌, negq, absq, recip, sumq}
use Rattle.arith.proofs.Rings.{∀₂, by_cert, to}
use Rattle.arith.proofs.Integers.{ℤR, ◌≼◌}
use Rattle.arith.proofs.IntegerTerms.{zq}
use Rattle.arith.proofs.Rationals.{ℚ, mk, same, int, ◌+ℚ◌, ◌-ℚ◌, ◌*ℚ◌, ◌/ℚ◌, negℚ, recipℚ, absℚ, ◌≤ℚ◌, ◌<ℚ◌, leℚ, to-⊑}
use Rattle.arith.proofs.Signs.{same_le, on}
use Rattle.arith.proofs.FractionLaws.{⊑-antisym}

pub mk_int : (z : ℤ) → mk (F.int z) ≡ int z
unfolding int
mk_int z = refl

pub mk_add : (x y : Frac) → mk (x +q y) ≡ mk x +ℚ mk y
unfolding ◌+ℚ◌
mk_add x y = refl

pub mk_neg : (x : Frac) → mk (negq x) ≡ negℚ (mk x)
unfolding negℚ
mk_neg x = refl

pub mk_sub : (x y : Frac) → mk (x -q y) ≡ mk x -ℚ mk y
unfolding ◌+ℚ◌ negℚ
mk_sub x y = refl

pub mk_mul : (x y : Frac) → mk (x *q y) ≡ mk x *ℚ mk y
unfolding ◌*ℚ◌
mk_mul x y = refl

pub mk_recip : (x : Frac) → mk (recip x) ≡ recipℚ (mk x)
unfolding recipℚ
mk_recip x = refl

pub mk_div : (x y : Frac) → mk (x /q y) ≡ mk x /ℚ mk y
unfolding ◌*ℚ◌ recipℚ
mk_div x y = refl

-- the size
-- the sign of a fraction is that of its top
top_nn : (a b : ℤ) → (pos 0 *ℤ b) ≤ℤ (a *ℤ pos 1) → pos 0 ≼ a
top_nn = ∀₂ ℤR _ λ ρ. simp zq λ h. by_cert (to h) tt

top_np : (a b : ℤ) → (a *ℤ pos 1) ≤ℤ (pos 0 *ℤ b) → a ≼ pos 0
top_np = ∀₂ ℤR _ λ ρ. simp zq λ h. by_cert (to h) tt

up : (x : Frac) → pos 0 ≼ x.top → mk (absq x) ≡ mk x
up x h = go x.top x.bot x.ok h
  where
    go : (a b : ℤ) (p : pos 1 ≼ b) → pos 0 ≼ a → mk (absq (record { top = a; bot = b; ok = p })) ≡ mk (record { top = a; bot = b; ok = p })
    go (pos n) b p h = refl
    go (negsuc n) b p h = absurd h.le

down : (x : Frac) → x.top ≼ pos 0 → mk (absq x) ≡ mk (negq x)
down x h = go x.top x.bot x.ok h
  where
    go :
        (a b : ℤ) (p : pos 1 ≼ b) →
        a ≼ pos 0 →
        mk (absq (record { top = a; bot = b; ok = p })) ≡ mk (negq (record { top = a; bot = b; ok = p }))
    go (pos zero) b p h = refl
    go (pos (suc n)) b p h = absurd (no_less (leb→le (suc n) 0 h.le))
      where
        no_less : suc n ≤ 0 → ⊥
        no_less l = omega arith
    go (negsuc n) b p h = refl

pub mk_abs : (x : Frac) → mk (absq x) ≡ absℚ (mk x)
unfolding absℚ int negℚ
mk_abs x =
    on (mk x) (λ c. mk (absq x) ≡ cond c (mk x) (negℚ (mk x)))
    (λ h. up x (top_nn x.top x.bot (to-⊑ (F.int (pos 0)) x h).cross))
    (λ h. down x (top_np x.top x.bot (to-⊑ x (F.int (pos 0)) h).cross))

-- equality and order
pub to-≈ : (x y : Frac) → mk x ≡ mk y → x ≈ y
to-≈ x y e =
    ⊑-antisym x y (to-⊑ x y (subst (λ z. mk x ≤ℚ z) e (same_le (mk x)))) (to-⊑ y x (subst (λ z. z ≤ℚ mk x) e (same_le (mk x))))

pub of-≈ : (x y : Frac) → x ≈ y → mk x ≡ mk y
of-≈ x y h = same h

not_le : (a b : ℤ) → a <ℤ b → T (not (le_z b a))
not_le a b h = go (le_z b a) refl
  where
    go : (c : Bool) → le_z b a ≡ c → T (not c)
    go true e = absurd (clash_ℤ h (record { le = subst T (sym e) tt }))
    go false e = tt

not_ge : (a b : ℤ) → T (not (le_z b a)) → a <ℤ b
not_ge a b t = go (lt_z a b) refl
  where
    go : (c : Bool) → lt_z a b ≡ c → a <ℤ b
    go true e = record { lt = subst T (sym e) tt }
    go false e = clashed (lt_z_no {a = a} {b = b} (subst (λ c. T (not c)) (sym e) tt))
      where
        clashed : b ≤ℤ a → a <ℤ b
        clashed k = absurd (T_not (le_z b a) t k.le)

pub of-⊏ : (x y : Frac) → x ⊏ y → mk x <ℚ mk y
unfolding leℚ
of-⊏ x y h = record { lt = not_le (x.top *ℤ y.bot) (y.top *ℤ x.bot) h.cross }

pub to-⊏ : (x y : Frac) → mk x <ℚ mk y → x ⊏ y
unfolding leℚ
to-⊏ x y h = record { cross = not_ge (x.top *ℤ y.bot) (y.top *ℤ x.bot) h.lt }

-- sums over lists
unfoldable pub sumℚ : {A : Type 0} → (A → ℚ) → List A → ℚ
sumℚ f [] = int (pos 0)
sumℚ f (x ∷ xs) = f x +ℚ sumℚ f xs

pub mk_sum : {A : Type 0} (f : A → Frac) (xs : List A) → mk (sumq f xs) ≡ sumℚ (λ a. mk (f a)) xs
unfolding sumq sumℚ int
mk_sum f [] = refl
mk_sum f (x ∷ xs) = mk_add (f x) (sumq f xs) ∙ ap (λ z. mk (f x) +ℚ z) (mk_sum f xs)

pub ruleset toℚ = (mk_int, mk_add, mk_neg, mk_mul, mk_recip, mk_abs, mk_sum)
