-- Sums over lists, in ℚ and in fractions: of sums, of multiples, of joined lists, by order and by size.
use mathlib.Core.Path.{◌≡◌, refl, ap, ap₂, ◌∙◌}
use mathlib.Core.List.{List, [], ◌∷◌, ◌++◌}
use lib.IntN.{pos}
use Rattle.arith.specs.Fractions.{Frac, nat, ◌≈◌, ◌⊑◌, ◌+q◌, ◌*q◌, absq, sumq}
use Rattle.arith.proofs.Rings.{∀₁, ∀₃, ∀₄, by_ring, by_cert, to, ◌⊞◌}
use Rattle.arith.proofs.Rationals.{ℚR, ℚ, mk, int, ◌+ℚ◌, ◌*ℚ◌, ◌≤ℚ◌, absℚ, of-⊑, to-⊑}
use Rattle.arith.proofs.RationalTerms.{qq}
use Rattle.arith.proofs.RationalOrder.{≤ℚ-trans}
use Rattle.arith.proofs.Signs.{same_le, absℚ_nn, absℚ_add}
use Rattle.arith.proofs.FractionsInRationals.{sumℚ, to-≈, of-≈, toℚ}

-- in ℚ
regroup : (a b c d : ℚ) → (a +ℚ b) +ℚ (c +ℚ d) ≡ (a +ℚ c) +ℚ (b +ℚ d)
regroup = ∀₄ ℚR _ λ ρ. simp qq (by_ring tt)

distribute : (k a b : ℚ) → k *ℚ a +ℚ k *ℚ b ≡ k *ℚ (a +ℚ b)
distribute = ∀₃ ℚR _ λ ρ. simp qq (by_ring tt)

times_zero : (k : ℚ) → int (pos 0) ≡ k *ℚ int (pos 0)
times_zero = ∀₁ ℚR _ λ ρ. simp qq (by_ring tt)

associate : (a b c : ℚ) → a +ℚ (b +ℚ c) ≡ a +ℚ b +ℚ c
associate = ∀₃ ℚR _ λ ρ. simp qq (by_ring tt)

zero_plus : (a : ℚ) → a ≡ int (pos 0) +ℚ a
zero_plus = ∀₁ ℚR _ λ ρ. simp qq (by_ring tt)

both_le : (a b c d : ℚ) → a ≤ℚ b → c ≤ℚ d → a +ℚ c ≤ℚ b +ℚ d
both_le = ∀₄ ℚR _ λ ρ. simp qq λ h l. by_cert (to h ⊞ to l) tt

module _ {A : Type 0} where
  pub sumℚ_cong : (f g : A → ℚ) → ((a : A) → f a ≡ g a) → (xs : List A) → sumℚ f xs ≡ sumℚ g xs
  unfolding sumℚ
  sumℚ_cong f g h [] = refl
  sumℚ_cong f g h (x ∷ xs) = ap₂ ◌+ℚ◌ (h x) (sumℚ_cong f g h xs)

  pub sumℚ_add : (f g : A → ℚ) (xs : List A) → sumℚ (λ a. f a +ℚ g a) xs ≡ sumℚ f xs +ℚ sumℚ g xs
  unfolding sumℚ
  sumℚ_add f g [] = zero_plus (int (pos 0))
  sumℚ_add f g (x ∷ xs) = ap (λ z. f x +ℚ g x +ℚ z) (sumℚ_add f g xs) ∙ regroup (f x) (g x) (sumℚ f xs) (sumℚ g xs)

  pub sumℚ_scale : (k : ℚ) (f : A → ℚ) (xs : List A) → sumℚ (λ a. k *ℚ f a) xs ≡ k *ℚ sumℚ f xs
  unfolding sumℚ
  sumℚ_scale k f [] = times_zero k
  sumℚ_scale k f (x ∷ xs) = ap (λ z. k *ℚ f x +ℚ z) (sumℚ_scale k f xs) ∙ distribute k (f x) (sumℚ f xs)

  pub sumℚ_append : (f : A → ℚ) (xs ys : List A) → sumℚ f (xs ++ ys) ≡ sumℚ f xs +ℚ sumℚ f ys
  unfolding sumℚ
  sumℚ_append f [] ys = zero_plus (sumℚ f ys)
  sumℚ_append f (x ∷ xs) ys = ap (λ z. f x +ℚ z) (sumℚ_append f xs ys) ∙ associate (f x) (sumℚ f xs) (sumℚ f ys)

  pub sumℚ_mono : (f g : A → ℚ) → ((a : A) → f a ≤ℚ g a) → (xs : List A) → sumℚ f xs ≤ℚ sumℚ g xs
  unfolding sumℚ
  sumℚ_mono f g h [] = same_le (int (pos 0))
  sumℚ_mono f g h (x ∷ xs) = both_le (f x) (g x) (sumℚ f xs) (sumℚ g xs) (h x) (sumℚ_mono f g h xs)

  pub sumℚ_nn : (f : A → ℚ) → ((a : A) → int (pos 0) ≤ℚ f a) → (xs : List A) → int (pos 0) ≤ℚ sumℚ f xs
  unfolding sumℚ
  sumℚ_nn f h [] = same_le (int (pos 0))
  sumℚ_nn f h (x ∷ xs) = ℚR.nn_plus (f x) (sumℚ f xs) (h x) (sumℚ_nn f h xs)

  pub sumℚ_abs : (f : A → ℚ) (xs : List A) → absℚ (sumℚ f xs) ≤ℚ sumℚ (λ a. absℚ (f a)) xs
  unfolding sumℚ
  sumℚ_abs f [] = rw (absℚ_nn (int (pos 0)) (same_le (int (pos 0)))) (same_le (int (pos 0)))
  sumℚ_abs f (x ∷ xs) =
      ≤ℚ-trans (absℚ (f x +ℚ sumℚ f xs)) (absℚ (f x) +ℚ absℚ (sumℚ f xs)) (absℚ (f x) +ℚ sumℚ (λ a. absℚ (f a)) xs)
      (absℚ_add (f x) (sumℚ f xs))
      (both_le (absℚ (f x)) (absℚ (f x)) (absℚ (sumℚ f xs)) (sumℚ (λ a. absℚ (f a)) xs) (same_le (absℚ (f x))) (sumℚ_abs f xs))

-- in fractions
module _ {A : Type 0} (f g : A → Frac) (xs : List A) where
  pub sumq_cong : ((a : A) → f a ≈ g a) → sumq f xs ≈ sumq g xs
  sumq_cong h =
      to-≈ (sumq f xs) (sumq g xs) (simp toℚ (sumℚ_cong (λ a. mk (f a)) (λ a. mk (g a)) (λ a. of-≈ (f a) (g a) (h a)) xs))

  pub sumq_add : sumq (λ a. f a +q g a) xs ≈ sumq f xs +q sumq g xs
  sumq_add =
      to-≈ (sumq (λ a. f a +q g a) xs) (sumq f xs +q sumq g xs) (simp toℚ (sumℚ_add (λ a. mk (f a)) (λ a. mk (g a)) xs))

  pub sumq_mono : ((a : A) → f a ⊑ g a) → sumq f xs ⊑ sumq g xs
  sumq_mono h =
      to-⊑ (sumq f xs) (sumq g xs) (simp toℚ (sumℚ_mono (λ a. mk (f a)) (λ a. mk (g a)) (λ a. of-⊑ (f a) (g a) (h a)) xs))

module _ {A : Type 0} (f : A → Frac) (xs : List A) where
  pub sumq_scale : (k : Frac) → sumq (λ a. k *q f a) xs ≈ k *q sumq f xs
  sumq_scale k = to-≈ (sumq (λ a. k *q f a) xs) (k *q sumq f xs) (simp toℚ (sumℚ_scale (mk k) (λ a. mk (f a)) xs))

  pub sumq_append : (ys : List A) → sumq f (xs ++ ys) ≈ sumq f xs +q sumq f ys
  sumq_append ys = to-≈ (sumq f (xs ++ ys)) (sumq f xs +q sumq f ys) (simp toℚ (sumℚ_append (λ a. mk (f a)) xs ys))

  pub sumq_nn : ((a : A) → nat 0 ⊑ f a) → nat 0 ⊑ sumq f xs
  sumq_nn h = to-⊑ (nat 0) (sumq f xs) (simp toℚ (sumℚ_nn (λ a. mk (f a)) (λ a. simp toℚ at (of-⊑ (nat 0) (f a) (h a))) xs))

  pub sumq_abs : absq (sumq f xs) ⊑ sumq (λ a. absq (f a)) xs
  sumq_abs = to-⊑ (absq (sumq f xs)) (sumq (λ a. absq (f a)) xs) (simp toℚ (sumℚ_abs (λ a. mk (f a)) xs))
