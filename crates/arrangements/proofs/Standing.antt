-- Numbers that stand in a list, and in those of a list that pass a test; those keep their order.
use Prim.Native.Nat.{ℕ, zero, suc, ◌<◌}
use mathlib.Core.Bool.{Bool, true, false, cond, false≢true}
use mathlib.Core.List.{List, [], ◌∷◌}
use mathlib.Core.Logic.{◌⊎◌, inl, inr}
use mathlib.Core.Path.{◌≡◌, refl, sym, ap, ◌∙◌}
use native.Mathlib.Omega.{arith}
use lib.ListN.{length, get_or}
use Rattle.choices.specs.Choices.{those}
use Rattle.choices.specs.Theorems.{Stands}
use Rattle.choices.proofs.Ranked.{Each, Ranked}

first_stands : (c x : ℕ) (l : List ℕ) → x ≡ c → Stands c (x ∷ l)
first_stands c x l e = record { place = 0; listed = omega arith; there = e }

later_stands : {c : ℕ} (x : ℕ) {l : List ℕ} → Stands c l → Stands c (x ∷ l)
later_stands x s = record { place = suc s.place; listed = omega (arith, s.listed); there = s.there }

none_stands : {c : ℕ} → Stands c [] → ⊥
none_stands s = omega (arith, s.listed)

stands_split : {c x : ℕ} {l : List ℕ} → Stands c (x ∷ l) → (x ≡ c) ⊎ Stands c l
stands_split {c} {x} {l} s = go s.place s.listed s.there
  where
    go : (i : ℕ) → i < length (x ∷ l) → get_or (x ∷ l) i 0 ≡ c → (x ≡ c) ⊎ Stands c l
    go zero h e = inl e
    go (suc i) h e = inr (record { place = i; listed = omega (arith, h); there = e })

module _ (p : ℕ → Bool) where
  -- one that stands in a list and passes the test
  pub stands_among : {c : ℕ} (l : List ℕ) → p c ≡ true → Stands c l → Stands c (those p l)
  unfolding those
  stands_among [] e s = absurd (none_stands s)
  stands_among {c} (x ∷ l) e s = go (stands_split s) (stands_among l e)
    where
      passed : (b : Bool) → Stands c (those p l) → Stands c (cond b (x ∷ those p l) (those p l))
      passed true k = later_stands x k
      passed false k = k

      own : (b : Bool) → b ≡ true → x ≡ c → Stands c (cond b (x ∷ those p l) (those p l))
      own true q k = first_stands c x (those p l) k
      own false q k = absurd (false≢true q)

      go : (x ≡ c) ⊎ Stands c l → (Stands c l → Stands c (those p l)) → Stands c (cond (p x) (x ∷ those p l) (those p l))
      go (inl k) more = own (p x) (ap p k ∙ e) k
      go (inr k) more = passed (p x) (more k)

  -- one that stands among those that pass it
  pub among_stands : {c : ℕ} (l : List ℕ) → Stands c (those p l) → (p c ≡ true) × Stands c l
  unfolding those
  among_stands [] s = absurd (none_stands s)
  among_stands {c} (x ∷ l) s = go (p x) refl (among_stands l) s
    where
      go :
          (b : Bool) →
          p x ≡ b →
          (Stands c (those p l) → (p c ≡ true) × Stands c l) →
          Stands c (cond b (x ∷ those p l) (those p l)) →
          (p c ≡ true) × Stands c (x ∷ l)
      go true q more k = by (stands_split k) more
        where
          by : (x ≡ c) ⊎ Stands c (those p l) → (Stands c (those p l) → (p c ≡ true) × Stands c l) → (p c ≡ true) × Stands c (x ∷ l)
          by (inl e) more = (ap p (sym e) ∙ q, first_stands c x l e)
          by (inr k) more = ((more k).0, later_stands x (more k).1)
      go false q more k = ((more k).0, later_stands x (more k).1)

  each_among : (P : ℕ → Type 0) (l : List ℕ) → Each P l → Each P (those p l)
  unfolding those
  each_among P [] h = tt
  each_among P (x ∷ l) h = go (p x) (each_among P l h.1)
    where
      go : (b : Bool) → Each P (those p l) → Each P (cond b (x ∷ those p l) (those p l))
      go true k = (h.0, k)
      go false k = k

  pub ranked_among : (R : ℕ → ℕ → Type 0) (l : List ℕ) → Ranked R l → Ranked R (those p l)
  unfolding those
  ranked_among R [] h = tt
  ranked_among R (x ∷ l) h = go (p x) (ranked_among R l h.1)
    where
      go : (b : Bool) → Ranked R (those p l) → Ranked R (cond b (x ∷ those p l) (those p l))
      go true k = (each_among (R x) l h.0, k)
      go false k = k
