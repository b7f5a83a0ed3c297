-- A sum over the lashes, in any order, taken level by level: the lashes at a level act as one of their stiffness together.
use mathlib.Core.Path.{◌≡◌, refl, sym, ap, ap₂, subst, ◌∙◌}
use mathlib.Core.Bool.{Bool, true, false}
use mathlib.Core.List.{List, [], ◌∷◌}
use Prim.Native.Nat.{ℕ, zero, suc, ◌+◌, ◌<◌}
use native.Mathlib.Omega.{arith}
use lib.Dec.{T, leb, eqb, leb-zero, leb-suc-zero, leb-suc-suc, eqb-zero-suc, eqb-suc-zero, eqb-suc-suc, leb→le, eqb→eq}
use lib.ListN.{length}
use Rattle.arith.specs.Lists.{from, below}
use Rattle.arith.proofs.Rings.{∀₁, ∀₂, ∀₅, by_ring}
use Rattle.arith.proofs.Rationals.{ℚR, ℚ, mk, ◌+ℚ◌, ◌*ℚ◌, ◌≤ℚ◌, plus_zero, nn_int, nn_plus}
use Rattle.arith.proofs.RationalTerms.{qq}
use Rattle.arith.proofs.FractionsInRationals.{sumℚ}
use Rattle.springs.specs.Equations.{Lash, lash_at}
use Rattle.springs.proofs.Chain.{natℚ}

-- x where the test holds, else 0
abbrev pub givenℚ : Bool → ℚ → ℚ
givenℚ true x = x
givenℚ false x = natℚ 0

-- of a number g for each level: the stiffness of each lash times that of its level, over the lashes at level i or above
abbrev pub lashes_from : (ℕ → ℚ) → List Lash → ℕ → ℚ
lashes_from g ls i = sumℚ (λ l. givenℚ (leb i l.level) (mk l.stiffness *ℚ g l.level)) ls

-- the stiffness of the lashes at level i
abbrev pub lashes_on : List Lash → ℕ → ℚ
lashes_on ls i = sumℚ (λ l. givenℚ (eqb i l.level) (mk l.stiffness)) ls

nought : (x : ℚ) → natℚ 0 ≡ natℚ 0 *ℚ x
nought = ∀₁ ℚR _ λ ρ. simp qq (by_ring tt)

zero_plus : (x : ℚ) → x ≡ x +ℚ natℚ 0
zero_plus = ∀₁ ℚR _ λ ρ. simp qq (by_ring tt)

-- at level i or above: at level i, or at level i + 1 or above
on_or_above : (i l : ℕ) (x : ℚ) → givenℚ (leb i l) x ≡ givenℚ (eqb i l) x +ℚ givenℚ (leb (suc i) l) x
on_or_above zero zero x = zero_plus x
on_or_above zero (suc l) x =
    ap (λ b. givenℚ b x) (leb-zero (suc l))
    ∙ sym (plus_zero x)
    ∙ sym (ap₂ (λ b c. givenℚ b x +ℚ givenℚ c x) (eqb-zero-suc l) (leb-suc-suc 0 l ∙ leb-zero l))
on_or_above (suc i) zero x =
    ap (λ b. givenℚ b x) (leb-suc-zero i)
    ∙ sym (plus_zero (natℚ 0))
    ∙ sym (ap₂ (λ b c. givenℚ b x +ℚ givenℚ c x) (eqb-suc-zero i) (leb-suc-zero (suc i)))
on_or_above (suc i) (suc l) x =
    ap (λ b. givenℚ b x) (leb-suc-suc i l)
    ∙ on_or_above i l x
    ∙ sym (ap₂ (λ b c. givenℚ b x +ℚ givenℚ c x) (eqb-suc-suc i l) (leb-suc-suc (suc i) l))

no_given : (b : Bool) (x : ℚ) → (T b → x ≡ natℚ 0) → givenℚ b x ≡ natℚ 0
no_given true x h = h tt
no_given false x h = refl

given_nn : (b : Bool) (x : ℚ) → natℚ 0 ≤ℚ x → natℚ 0 ≤ℚ givenℚ b x
given_nn true x h = h
given_nn false x h = nn_int 0

module _ (g : ℕ → ℚ) where
  on_level :
      (i : ℕ) (l : Lash) →
      givenℚ (eqb i l.level) (mk l.stiffness *ℚ g l.level) ≡ givenℚ (eqb i l.level) (mk l.stiffness) *ℚ g i
  on_level i l = go (eqb i l.level) (λ t. ap g (sym (eqb→eq i l.level t)))
    where
      go : (b : Bool) → (T b → g l.level ≡ g i) → givenℚ b (mk l.stiffness *ℚ g l.level) ≡ givenℚ b (mk l.stiffness) *ℚ g i
      go true e = ap (λ d. mk l.stiffness *ℚ d) (e tt)
      go false e = nought (g i)

  pub lashes_from_step : (ls : List Lash) (i : ℕ) → lashes_from g ls i ≡ lashes_on ls i *ℚ g i +ℚ lashes_from g ls (suc i)
  unfolding sumℚ
  lashes_from_step [] i = nought (g i) ∙ zero_plus (natℚ 0 *ℚ g i)
  lashes_from_step (l ∷ ls) i =
      ap₂ ◌+ℚ◌
      (on_or_above i l.level (mk l.stiffness *ℚ g l.level)
      ∙ ap (λ z. z +ℚ givenℚ (leb (suc i) l.level) (mk l.stiffness *ℚ g l.level)) (on_level i l)) (lashes_from_step ls i)
      ∙ go (givenℚ (eqb i l.level) (mk l.stiffness)) (g i)
      (givenℚ (leb (suc i) l.level) (mk l.stiffness *ℚ g l.level)) (lashes_on ls i) (lashes_from g ls (suc i))
    where
      go : (a d b c f : ℚ) → a *ℚ d +ℚ b +ℚ (c *ℚ d +ℚ f) ≡ (a +ℚ c) *ℚ d +ℚ (b +ℚ f)
      go = ∀₅ ℚR _ λ ρ. simp qq (by_ring tt)

  -- no level above n counts
  module _ (n : ℕ) (over : (i : ℕ) → n < i → g i ≡ natℚ 0) where
    pub lashes_from_top : (ls : List Lash) → lashes_from g ls (suc n) ≡ natℚ 0
    unfolding sumℚ
    lashes_from_top [] = refl
    lashes_from_top (l ∷ ls) =
        ap₂ ◌+ℚ◌
        (no_given (leb (suc n) l.level) (mk l.stiffness *ℚ g l.level)
        (λ t. ap (λ z. mk l.stiffness *ℚ z) (over l.level (leb→le (suc n) l.level t)) ∙ go (mk l.stiffness)))
        (lashes_from_top ls)
        ∙ plus_zero (natℚ 0)
      where
        go : (x : ℚ) → x *ℚ natℚ 0 ≡ natℚ 0
        go = ∀₁ ℚR _ λ ρ. simp qq (by_ring tt)

    lashes_from_levels :
        (ls : List Lash) (i m : ℕ) →
        i + m ≡ n →
        lashes_from g ls (suc i) ≡ sumℚ (λ j. lashes_on ls (suc j) *ℚ g (suc j)) (from i m)
    unfolding sumℚ from
    lashes_from_levels ls i zero h = subst (λ z. lashes_from g ls (suc z) ≡ natℚ 0) {x = n} {y = i} (omega arith) (lashes_from_top ls)
    lashes_from_levels ls i (suc m) h =
        lashes_from_step ls (suc i) ∙ ap (λ z. lashes_on ls (suc i) *ℚ g (suc i) +ℚ z) (lashes_from_levels ls (suc i) m (omega arith))

    all : (ls : List Lash) → sumℚ (λ l. mk l.stiffness *ℚ g l.level) ls ≡ lashes_from g ls 0
    unfolding sumℚ
    all [] = refl
    all (l ∷ ls) = ap₂ ◌+ℚ◌ (ap (λ b. givenℚ b (mk l.stiffness *ℚ g l.level)) (sym (leb-zero l.level))) (all ls)

    -- the lashes of all levels
    pub by_level :
        g 0 ≡ natℚ 0 →
        (ls : List Lash) →
        sumℚ (λ l. mk l.stiffness *ℚ g l.level) ls ≡ sumℚ (λ j. lashes_on ls (suc j) *ℚ g (suc j)) (below n)
    by_level z ls =
        all ls
        ∙ lashes_from_step ls 0
        ∙ ap (λ d. lashes_on ls 0 *ℚ d +ℚ lashes_from g ls 1) z
        ∙ go (lashes_on ls 0) (lashes_from g ls 1)
        ∙ lashes_from_levels ls 0 n (omega arith)
      where
        go : (x y : ℚ) → x *ℚ natℚ 0 +ℚ y ≡ y
        go = ∀₂ ℚR _ λ ρ. simp qq (by_ring tt)

-- lashes stiffer than 0 hold
pub lashes_on_nn :
    (ls : List Lash) →
    ((j : ℕ) → j < length ls → natℚ 0 ≤ℚ mk (lash_at ls j).stiffness) →
    (i : ℕ) →
    natℚ 0 ≤ℚ lashes_on ls i
unfolding sumℚ
lashes_on_nn [] h i = nn_int 0
lashes_on_nn (l ∷ ls) h i =
    nn_plus (givenℚ (eqb i l.level) (mk l.stiffness)) (lashes_on ls i)
    (given_nn (eqb i l.level) (mk l.stiffness) (h 0 (omega arith))) (lashes_on_nn ls (λ j b. h (suc j) (omega arith)) i)
