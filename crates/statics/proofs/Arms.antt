-- Over ℚ: F and P of the tiers above a level by their arms, less athwart lash parts by theirs, are the sum of height × (Q − athwart parts).
use mathlib.Core.Path.{◌≡◌, refl, sym, ap, ap₂, ◌∙◌}
use mathlib.Core.Bool.{Bool, true, false}
use mathlib.Core.List.{List, [], ◌∷◌}
use Prim.Native.Nat.{ℕ, zero, suc}
use lib.Dec.{leb, ltb, leb-zero, leb-suc-zero, leb-suc-suc}
use lib.ListN.{drop}
use lib.IntN.{pos}
use Rattle.sheet.specs.Lashings.{level_of}
use Rattle.arith.proofs.Rings.{∀₁, ∀₂, ∀₃, ∀₄, ∀₆, ∀₈, by_ring}
use Rattle.arith.proofs.Rationals.{ℚR, ℚ, ◌+ℚ◌, ◌-ℚ◌, ◌*ℚ◌, int_plus, plus_zero}
use Rattle.arith.proofs.RationalTerms.{qq}
use Rattle.arith.proofs.FractionsInRationals.{sumℚ}
use Rattle.springs.proofs.Chain.{natℚ}
use Rattle.springs.proofs.Lashes.{givenℚ}
use Rattle.sheet.specs.declared.Tier.{Tier}
use Rattle.sheet.specs.declared.Lash.{Lash}
use Rattle.statics.specs.Posts.{level_height}

-- the height of the tiers, from number i on, that stand below level l
height_to : ℕ → ℕ → List Tier → ℚ
height_to i l [] = natℚ 0
height_to i l (t ∷ ts) = givenℚ (leb i l) (natℚ t.height) +ℚ height_to (suc i) l ts

height_zero : (i : ℕ) (ts : List Tier) → height_to (suc i) zero ts ≡ natℚ 0
unfolding height_to
height_zero i [] = refl
height_zero i (t ∷ ts) = ap₂ (λ b x. givenℚ b (natℚ t.height) +ℚ x) (leb-suc-zero i) (height_zero (suc i) ts) ∙ plus_zero (natℚ 0)

height_suc : (i l : ℕ) (ts : List Tier) → height_to (suc i) (suc l) ts ≡ height_to i l ts
unfolding height_to
height_suc i l [] = refl
height_suc i l (t ∷ ts) = ap₂ (λ b x. givenℚ b (natℚ t.height) +ℚ x) (leb-suc-suc i l) (height_suc (suc i) l ts)

-- from the deck
height_deck : (l : ℕ) (ts : List Tier) → height_to 1 l ts ≡ natℚ (level_height ts l)
unfolding height_to level_height
height_deck zero ts = height_zero 0 ts
height_deck (suc l) [] = refl
height_deck (suc l) (t ∷ ts) =
    ap₂ (λ b x. givenℚ b (natℚ t.height) +ℚ x) (leb-suc-suc 0 l ∙ leb-zero l) (height_suc 1 l ts ∙ height_deck l ts)
    ∙ sym (int_plus (pos t.height) (pos (level_height ts l)))

nought : (b : Bool) → natℚ 0 ≡ givenℚ b (natℚ 0 -ℚ natℚ 0)
nought true = go (natℚ 0)
  where
    go : (a : ℚ) → natℚ 0 ≡ a -ℚ a
    go = ∀₁ ℚR _ λ ρ. simp qq (by_ring tt)
nought false = refl

less_zero : (a : ℚ) → a ≡ a -ℚ natℚ 0
less_zero = ∀₁ ℚR _ λ ρ. simp qq (by_ring tt)

same_foot : (h a b : ℚ) → a -ℚ b ≡ h +ℚ a -ℚ (h +ℚ b)
same_foot = ∀₃ ℚR _ λ ρ. simp qq (by_ring tt)

-- from level i
height_from :
    (i l : ℕ) (ts : List Tier) →
    height_to (suc i) l (drop i ts) ≡ givenℚ (ltb i l) (natℚ (level_height ts l) -ℚ natℚ (level_height ts i))
unfolding height_to level_height
height_from zero zero ts = height_zero 0 ts ∙ ap (λ b. givenℚ b (natℚ 0 -ℚ natℚ 0)) (sym (leb-suc-zero 0))
height_from zero (suc l) ts =
    height_deck (suc l) ts
    ∙ less_zero (natℚ (level_height ts (suc l)))
    ∙ ap (λ b. givenℚ b (natℚ (level_height ts (suc l)) -ℚ natℚ 0)) (sym (leb-suc-suc 0 l ∙ leb-zero l))
height_from (suc i) zero ts =
    height_zero (suc i) (drop (suc i) ts)
    ∙ ap (λ b. givenℚ b (natℚ 0 -ℚ natℚ (level_height ts (suc i)))) (sym (leb-suc-zero (suc i)))
height_from (suc i) (suc l) [] = nought (leb (suc (suc i)) (suc l))
height_from (suc i) (suc l) (t ∷ ts) =
    let h = t.height in
    let a = level_height ts l in
    let b = level_height ts i in
    let raised = same_foot (natℚ h) (natℚ a) (natℚ b) ∙ ap₂ ◌-ℚ◌ (sym (int_plus (pos h) (pos a))) (sym (int_plus (pos h) (pos b))) in
    height_suc (suc i) l (drop i ts) ∙ height_from i l ts ∙ ap₂ givenℚ (sym (leb-suc-suc (suc i) l)) raised

-- F and P of a tier and the athwart part of a lash are any numbers here, s and w the shares of F and P
module _ (F P : Tier → ℚ) (part : Lash → ℚ) (s w : ℚ) where
  -- Q of a tier, and the athwart parts of the lashes at level i or above
  unfoldable pub Q : Tier → List Tier → ℚ
  Q t above = s *ℚ F t +ℚ w *ℚ P t +ℚ sumℚ (λ u. F u +ℚ P u) above

  unfoldable pub held : List Lash → ℕ → ℚ
  held ls i = sumℚ (λ l. givenℚ (leb i (level_of l)) (part l)) ls

  -- F and P by their arms, the first tier standing x over the level
  unfoldable pub turns : ℚ → List Tier → ℚ
  turns x [] = natℚ 0
  turns x (t ∷ ts) =
      F t *ℚ (x +ℚ s *ℚ natℚ t.height) +ℚ P t *ℚ (x +ℚ w *ℚ natℚ t.height) +ℚ turns (x +ℚ natℚ t.height) ts

  -- height × (Q − the athwart parts from the upper level on)
  unfoldable pub racked : List Lash → List Tier → ℕ → ℚ
  racked ls [] i = natℚ 0
  racked ls (t ∷ ts) i = natℚ t.height *ℚ (Q t ts -ℚ held ls (suc i)) +ℚ racked ls ts (suc i)

  -- without lashes: the arms of F and P are the shares of Q
  unlashed : (x : ℚ) (i : ℕ) (ts : List Tier) → turns x ts ≡ x *ℚ sumℚ (λ u. F u +ℚ P u) ts +ℚ racked [] ts i
  unfolding turns racked Q held sumℚ
  unlashed x i [] = none x
    where
      none : (x : ℚ) → natℚ 0 ≡ x *ℚ natℚ 0 +ℚ natℚ 0
      none = ∀₁ ℚR _ λ ρ. simp qq (by_ring tt)
  unlashed x i (t ∷ ts) =
      let h = natℚ t.height in
      ap (λ y. F t *ℚ (x +ℚ s *ℚ h) +ℚ P t *ℚ (x +ℚ w *ℚ h) +ℚ y) (unlashed (x +ℚ h) (suc i) ts)
      ∙ step s w h (F t) (P t) x (sumℚ (λ u. F u +ℚ P u) ts) (racked [] ts (suc i))
    where
      step :
          (s w h F P x p r : ℚ) →
          F *ℚ (x +ℚ s *ℚ h) +ℚ P *ℚ (x +ℚ w *ℚ h) +ℚ ((x +ℚ h) *ℚ p +ℚ r)
          ≡ x *ℚ (F +ℚ P +ℚ p) +ℚ (h *ℚ (s *ℚ F +ℚ w *ℚ P +ℚ p -ℚ natℚ 0) +ℚ r)
      step = ∀₈ ℚR _ λ ρ. simp qq (by_ring tt)

  -- one more lash takes its athwart part times its height over the level
  lashed :
      (l : Lash) (ls : List Lash) (ts : List Tier) (i : ℕ) →
      racked (l ∷ ls) ts i ≡ racked ls ts i -ℚ part l *ℚ height_to (suc i) (level_of l) ts
  unfolding racked held sumℚ height_to
  lashed l ls [] i = none (part l)
    where
      none : (a : ℚ) → natℚ 0 ≡ natℚ 0 -ℚ a *ℚ natℚ 0
      none = ∀₁ ℚR _ λ ρ. simp qq (by_ring tt)
  lashed l ls (t ∷ ts) i =
      ap (λ y. natℚ t.height *ℚ (Q t ts -ℚ held (l ∷ ls) (suc i)) +ℚ y) (lashed l ls ts (suc i))
      ∙ go (leb (suc i) (level_of l)) (natℚ t.height) (Q t ts) (held ls (suc i)) (racked ls ts (suc i)) (part l)
      (height_to (suc (suc i)) (level_of l) ts)
    where
      go :
          (b : Bool) (h q A r a c : ℚ) →
          h *ℚ (q -ℚ (givenℚ b a +ℚ A)) +ℚ (r -ℚ a *ℚ c) ≡ h *ℚ (q -ℚ A) +ℚ r -ℚ a *ℚ (givenℚ b h +ℚ c)
      go true = ∀₆ ℚR _ λ ρ. simp qq (by_ring tt)
      go false = ∀₆ ℚR _ λ ρ. simp qq (by_ring tt)

  -- the athwart parts by their heights over level i
  unfoldable pub turned_back : List Lash → List Tier → ℕ → ℚ
  turned_back ls ts i =
      sumℚ (λ l. givenℚ (ltb i (level_of l)) (part l *ℚ (natℚ (level_height ts (level_of l)) -ℚ natℚ (level_height ts i)))) ls

  pub balance :
      (i : ℕ) (ts : List Tier) (ls : List Lash) →
      turns (natℚ 0) (drop i ts) -ℚ turned_back ls ts i ≡ racked ls (drop i ts) i
  unfolding turned_back sumℚ
  balance i ts [] =
      ap (λ y. y -ℚ natℚ 0) (unlashed (natℚ 0) i (drop i ts))
      ∙ go (sumℚ (λ u. F u +ℚ P u) (drop i ts)) (racked [] (drop i ts) i)
    where
      go : (p r : ℚ) → natℚ 0 *ℚ p +ℚ r -ℚ natℚ 0 ≡ r
      go = ∀₂ ℚR _ λ ρ. simp qq (by_ring tt)
  balance i ts (l ∷ ls) =
      go (ltb i (level_of l)) (turns (natℚ 0) (drop i ts)) (part l)
      (natℚ (level_height ts (level_of l)) -ℚ natℚ (level_height ts i)) (turned_back ls ts i)
      ∙ ap₂ (λ y c. y -ℚ part l *ℚ c) (balance i ts ls) (sym (height_from i (level_of l) ts))
      ∙ sym (lashed l ls (drop i ts) i)
    where
      go : (b : Bool) (m a c S : ℚ) → m -ℚ (givenℚ b (a *ℚ c) +ℚ S) ≡ m -ℚ S -ℚ a *ℚ givenℚ b c
      go true = ∀₄ ℚR _ λ ρ. simp qq (by_ring tt)
      go false = ∀₄ ℚR _ λ ρ. simp qq (by_ring tt)
