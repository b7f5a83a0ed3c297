-- Those of the choices that pass a test: each of them once, nothing else, in order.
use Prim.Native.Nat.{ℕ}
use mathlib.Core.Bool.{Bool, true, false, cond, true≢false}
use mathlib.Core.List.{List, [], ◌∷◌}
use mathlib.Core.Logic.{◌⊎◌, inl, inr}
use mathlib.Core.Path.{◌≡◌, refl, sym, ap, ◌∙◌}
use Rattle.choices.specs.Choices.{choices, Before, those}
use Rattle.choices.specs.Theorems.{ThoseListed}
use Rattle.choices.proofs.InOrder.{AtLeast, all_below, all_ranked}
use Rattle.choices.proofs.Once.{In, stands, all_in, not_itself}
use Rattle.choices.proofs.Ranked.{Each, Ranked, each_at, ranked_at}

module _ (test : ℕ → Bool) where
  pub each_those : (P : ℕ → Type 0) (xs : List ℕ) → Each P xs → Each P (those test xs)
  unfolding those
  each_those P [] h = tt
  each_those P (x ∷ xs) h = go (test x) (each_those P xs h.1)
    where
      go : (b : Bool) → Each P (those test xs) → Each P (cond b (x ∷ those test xs) (those test xs))
      go true k = (h.0, k)
      go false k = k

  pub ranked_those : (R : ℕ → ℕ → Type 0) (xs : List ℕ) → Ranked R xs → Ranked R (those test xs)
  unfolding those
  ranked_those R [] h = tt
  ranked_those R (x ∷ xs) h = go (test x) (ranked_those R xs h.1)
    where
      go : (b : Bool) → Ranked R (those test xs) → Ranked R (cond b (x ∷ those test xs) (those test xs))
      go true k = (each_those (R x) xs h.0, k)
      go false k = k

  pub each_passes : (xs : List ℕ) → Each (λ x. test x ≡ true) (those test xs)
  unfolding those
  each_passes [] = tt
  each_passes (x ∷ xs) = go (test x) refl (each_passes xs)
    where
      go :
          (b : Bool) →
          test x ≡ b →
          Each (λ y. test y ≡ true) (those test xs) →
          Each (λ y. test y ≡ true) (cond b (x ∷ those test xs) (those test xs))
      go true e k = (e, k)
      go false e k = k

  in_those : (c : ℕ) → test c ≡ true → (xs : List ℕ) → In c xs → In c (those test xs)
  unfolding those
  in_those c e [] h = absurd h
  in_those c e (x ∷ xs) h = go (test x) refl h (in_those c e xs)
    where
      go :
          (b : Bool) →
          test x ≡ b →
          (x ≡ c) ⊎ In c xs →
          (In c xs → In c (those test xs)) →
          In c (cond b (x ∷ those test xs) (those test xs))
      go true q (inl i) k = inl i
      go true q (inr i) k = inr (k i)
      go false q (inl i) k = absurd (true≢false (sym e ∙ ap test (sym i) ∙ q))
      go false q (inr i) k = k i

  module _ (m : ℕ) where
    pub those_ordered : Ranked (Before m) (those test (choices m))
    those_ordered = ranked_those (Before m) (choices m) (all_ranked m)

    pub those_below : Each (AtLeast m 0) (those test (choices m))
    those_below = each_those (AtLeast m 0) (choices m) (all_below m)

pub those_listed : ThoseListed
those_listed m test =
    record {
      each = λ c h e. stands c (those test (choices m)) (in_those test c e (choices m) (all_in m c h));
      only =
          λ i h. (
            (each_at (AtLeast m 0) 0 (those test (choices m)) (those_below test m) i h).below,
            each_at (λ x. test x ≡ true) 0 (those test (choices m)) (each_passes test (choices m)) i h,
          );
      once = λ i j h l. not_itself m _ _ (ranked_at (Before m) 0 (those test (choices m)) (those_ordered test m) i j h l);
      ordered = ranked_at (Before m) 0 (those test (choices m)) (those_ordered test m);
    }
