-- The bits of a choice: of one with the first lash's bit put in front, and by powers of two; how many lashes are chosen.
use Prim.Native.Nat.{ℕ, zero, suc, ◌+◌, ◌*◌, ◌/◌, ◌%◌, ◌^◌, ◌≤◌}
use mathlib.Core.Bool.{Bool, true, false, cond}
use mathlib.Core.List.{[], ◌∷◌}
use mathlib.Core.Path.{◌≡◌, refl, sym, ap, ◌∙◌}
use native.Mathlib.Nat.{div-div-eq-div-mul, pow-succ', div-one}
use native.Mathlib.Omega.{arith}
use borrow.Author.Tests.{eq-eqb, ne_eqb, eqb-true, eqb-false}
use lib.Dec.{eqb}
use lib.ListN.{length}
use Rattle.choices.specs.Choices.{uses, chosen, used}
use Rattle.choices.specs.Theorems.{Bits, AsManyChosen}

-- a choice of the lashes behind the first, with the first and without it
abbrev pub with_first : ℕ → ℕ
with_first c = 1 + 2 * c

abbrev pub without : ℕ → ℕ
without c = 2 * c

half_with : (c : ℕ) → with_first c / 2 ≡ c
half_with c = omega arith

half_without : (c : ℕ) → without c / 2 ≡ c
half_without c = omega arith

pub first_used : (c : ℕ) → uses (with_first c) 0 ≡ true
unfolding uses
first_used c = eq-eqb (with_first c % 2) 1 (omega arith)

pub first_not : (c : ℕ) → uses (without c) 0 ≡ false
unfolding uses
first_not c = ne_eqb (without c % 2) 1 (λ e. omega (arith, e))

pub later_with : (c k : ℕ) → uses (with_first c) (suc k) ≡ uses c k
unfolding uses
later_with c k = ap (λ x. uses x k) (half_with c)

pub later_without : (c k : ℕ) → uses (without c) (suc k) ≡ uses c k
unfolding uses
later_without c k = ap (λ x. uses x k) (half_without c)

pub used_with : (m c : ℕ) → used (suc m) (with_first c) ≡ suc (used m c)
unfolding used
used_with m c = rw (first_used c, half_with c) refl

pub used_without : (m c : ℕ) → used (suc m) (without c) ≡ used m c
unfolding used
used_without m c = rw (first_not c, half_without c) refl

pub none_used : (m : ℕ) → used m 0 ≡ 0
unfolding used uses
none_used zero = refl
none_used (suc m) = none_used m

pub few_used : (m c : ℕ) → used m c ≤ m
unfolding used
few_used zero c = omega arith
few_used (suc m) c = go (uses c 0) (few_used m (c / 2))
  where
    go : (b : Bool) → used m (c / 2) ≤ m → cond b (suc (used m (c / 2))) (used m (c / 2)) ≤ suc m
    go true h = omega (arith, h)
    go false h = omega (arith, h)

-- a number by its first bit
pub odd_is : (c : ℕ) → uses c 0 ≡ true → with_first (c / 2) ≡ c
unfolding uses
odd_is c e = omega (arith, eqb-true (c % 2) 1 e)

pub even_is : (c : ℕ) → uses c 0 ≡ false → without (c / 2) ≡ c
unfolding uses
even_is c e = let n = eqb-false (c % 2) 1 e in omega arith

pub bits : Bits
unfolding uses
bits c zero = ap (λ x. eqb (x % 2) 1) (sym (div-one c))
bits c (suc k) =
    bits (c / 2) k ∙ ap (λ x. eqb (x % 2) 1) (div-div-eq-div-mul c 2 (2 ^ k) ∙ ap (λ x. c / x) (sym (pow-succ' 2 k)))

pub as_many_chosen : AsManyChosen
unfolding chosen used
as_many_chosen A c [] = refl
as_many_chosen A c (l ∷ ls) = go (uses c 0) (as_many_chosen A (c / 2) ls)
  where
    go :
        (b : Bool) →
        length (chosen (c / 2) ls) ≡ used (length ls) (c / 2) →
        length (cond b (l ∷ chosen (c / 2) ls) (chosen (c / 2) ls))
        ≡ cond b (suc (used (length ls) (c / 2))) (used (length ls) (c / 2))
    go true e = ap suc e
    go false e = e
