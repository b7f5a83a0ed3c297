-- Each of the 2^m choices of m lashes stands once among all choices, and nothing else does.
use Prim.Native.Nat.{ℕ, zero, suc, ◌+◌, ◌/◌, ◌^◌, ◌<◌, ◌≤◌}
use mathlib.Core.Bool.{Bool, true, false, cond, true≢false}
use mathlib.Core.List.{List, [], ◌∷◌, ◌++◌, map, flat_map}
use mathlib.Core.Logic.{◌⊎◌, inl, inr}
use mathlib.Core.Path.{◌≡◌, refl, sym, ap, subst, ◌∙◌}
use native.Mathlib.Nat.{pow-succ', add-zero, add-suc, suc-add, zero-add}
use native.Mathlib.Omega.{arith}
use lib.ListN.{length, length-append, length-map}
use Rattle.arith.specs.Lists.{from}
use Rattle.choices.specs.Choices.{uses, used, sized, choices, Before, fewer, as_many}
use Rattle.choices.specs.Theorems.{Stands, AllOnce}
use Rattle.choices.proofs.Bits.{with_first, without, few_used, odd_is, even_is}
use Rattle.choices.proofs.InOrder.{AtLeast, all_below, all_in_order}
use Rattle.choices.proofs.Ranked.{each_at}

-- a number stands in a list
abbrev pub In : ℕ → List ℕ → Type 0
In c [] = ⊥
In c (x ∷ xs) = (x ≡ c) ⊎ In c xs

in_left : (c : ℕ) (xs ys : List ℕ) → In c xs → In c (xs ++ ys)
in_left c [] ys h = absurd h
in_left c (x ∷ xs) ys (inl e) = inl e
in_left c (x ∷ xs) ys (inr h) = inr (in_left c xs ys h)

in_right : (c : ℕ) (xs ys : List ℕ) → In c ys → In c (xs ++ ys)
in_right c [] ys h = h
in_right c (x ∷ xs) ys h = inr (in_right c xs ys h)

in_map : (f : ℕ → ℕ) (c : ℕ) (xs : List ℕ) → In c xs → In (f c) (map f xs)
in_map f c [] h = absurd h
in_map f c (x ∷ xs) (inl e) = inl (ap f e)
in_map f c (x ∷ xs) (inr h) = inr (in_map f c xs h)

in_flat : (f : ℕ → List ℕ) (c i left k : ℕ) → k < left → In c (f (i + k)) → In c (flat_map f (from i left))
unfolding flat_map from
in_flat f c i zero k q h = absurd (omega (arith, q))
in_flat f c i (suc left) zero q h = in_left c (f i) (flat_map f (from (suc i) left)) (rw (add-zero i) at h)
in_flat f c i (suc left) (suc k) q h =
    in_right c (f i) (flat_map f (from (suc i) left))
    (in_flat f c (suc i) left k (omega (arith, q)) (rw (suc-add i k, ← add-suc i k) h))

pub stands : (c : ℕ) (xs : List ℕ) → In c xs → Stands c xs
stands c [] h = absurd h
stands c (x ∷ xs) (inl e) = record { place = 0; listed = omega arith; there = e }
stands c (x ∷ xs) (inr h) =
    let s = stands c xs h in
    record { place = suc s.place; listed = omega (arith, s.listed); there = s.there }

-- a choice stands among those of its size
module _ (m c : ℕ) where
  with_it : (k : ℕ) → In c (sized m k) → In (with_first c) (sized (suc m) (suc k))
  unfolding sized
  with_it k h = in_left (with_first c) (map with_first (sized m k)) (map without (sized m (suc k))) (in_map with_first c (sized m k) h)

  without_it : (k : ℕ) → In c (sized m k) → In (without c) (sized (suc m) k)
  unfolding sized
  without_it zero (inl e) = inl (omega (arith, e))
  without_it zero (inr h) = absurd h
  without_it (suc k) h =
      in_right (without c) (map with_first (sized m k)) (map without (sized m (suc k))) (in_map without c (sized m (suc k)) h)

by_size : (m c : ℕ) → c < 2 ^ m → In c (sized m (used m c))
unfolding sized used
by_size zero c h = inl (omega (arith, h))
by_size (suc m) c h = go (uses c 0) refl (by_size m (c / 2) half)
  where
    half : c / 2 < 2 ^ m
    half = omega (arith, h, pow-succ' 2 m)

    go :
        (b : Bool) →
        uses c 0 ≡ b →
        In (c / 2) (sized m (used m (c / 2))) →
        In c (sized (suc m) (cond b (suc (used m (c / 2))) (used m (c / 2))))
    go true e i = subst (λ x. In x (sized (suc m) (suc (used m (c / 2))))) (odd_is c e) (with_it m (c / 2) (used m (c / 2)) i)
    go false e i = subst (λ x. In x (sized (suc m) (used m (c / 2)))) (even_is c e) (without_it m (c / 2) (used m (c / 2)) i)

-- how many there are: those of sizes i, i + 1, .. of which there are `left`
many : ℕ → ℕ → ℕ → ℕ
many m i left = length (flat_map (sized m) (from i left))

none_left : (i left : ℕ) → many 0 (suc i) left ≡ 0
unfolding many flat_map from sized
none_left i zero = refl
none_left i (suc left) = none_left (suc i) left

-- of one more lash as many as use it and as do not
one_more : (m i left : ℕ) → many (suc m) (suc i) left ≡ many m i left + many m (suc i) left
unfolding many flat_map from sized
one_more m i zero = refl
one_more m i (suc left) = simp (length-append, length-map) (omega (arith, one_more m (suc i) left))

empty_first : (m left : ℕ) → many m 0 (suc left) ≡ suc (many m 1 left)
unfolding many flat_map from sized
empty_first m left = refl

all_many : (m left : ℕ) → m ≤ left → many m 0 (suc left) ≡ 2 ^ m
all_many zero left h = empty_first 0 left ∙ ap suc (none_left 0 left)
all_many (suc m) zero h = absurd (omega (arith, h))
all_many (suc m) (suc l) h =
    omega (
      arith,
      empty_first (suc m) (suc l),
      one_more m 0 (suc l),
      empty_first m (suc l),
      all_many m l (omega (arith, h)),
      all_many m (suc l) (omega (arith, h)),
      pow-succ' 2 m,
    )

-- none before itself
pub not_itself : (m a b : ℕ) → Before m a b → a ≡ b → ⊥
not_itself m a b (fewer h) e = omega (arith, h, ap (used m) e)
not_itself m a b (as_many _ u) e = true≢false (sym u.used_by ∙ ap (λ x. uses x u.lash) e ∙ u.not_by)

pub all_in : (m c : ℕ) → c < 2 ^ m → In c (choices m)
unfolding choices
all_in m c h =
    in_flat (sized m) c 0 (suc m) (used m c) (omega (arith, few_used m c)) (rw (zero-add (used m c)) (by_size m c h))

pub all_once : AllOnce
unfolding choices many
all_once m =
    record {
      each = λ c h. stands c (choices m) (all_in m c h);
      only = λ i h. (each_at (AtLeast m 0) 0 (choices m) (all_below m) i h).below;
      once = λ i j h l. not_itself m _ _ (all_in_order m i j h l);
      many = all_many m m (omega arith);
    }
