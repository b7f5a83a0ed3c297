-- All choices of m lashes stand in their order.
use Prim.Native.Nat.{ℕ, zero, suc, ◌^◌, ◌<◌, ◌≤◌}
use mathlib.Core.List.{List, flat_map}
use mathlib.Core.Path.{sym, ◌∙◌}
use native.Mathlib.Omega.{arith}
use Rattle.arith.specs.Lists.{from}
use Rattle.choices.specs.Choices.{used, sized, choices, UsesFirst, Before, fewer, as_many}
use Rattle.choices.specs.Theorems.{AllInOrder}
use Rattle.choices.proofs.Ranked.{Each, Ranked, each_join, each_so, ranked_at, ranked_join, ranked_so}
use Rattle.choices.proofs.Sized.{Uses, sized_uses, sized_ranked}

module _ (m : ℕ) where
  -- the choices that use i lashes, i + 1, .. of which there are `left`
  abbrev sizes : ℕ → ℕ → List ℕ
  sizes i left = flat_map (sized m) (from i left)

  pub record AtLeast (i c : ℕ) : Type 0 where
    pub below : c < 2 ^ m
    pub size : i ≤ used m c

  pub sizes_below : (i left : ℕ) → Each (AtLeast i) (sizes i left)
  unfolding flat_map from
  sizes_below i zero = tt
  sizes_below i (suc left) =
      each_join (AtLeast i) (sized m i) (sizes (suc i) left)
      (each_so (Uses m i) (AtLeast i) (λ c u. record { below = u.below; size = omega (arith, u.size) }) (sized m i) (sized_uses m i))
      (each_so (AtLeast (suc i)) (AtLeast i) (λ c u. record { below = u.below; size = omega (arith, u.size) }) (sizes (suc i) left)
      (sizes_below (suc i) left))

  -- among equals, and of two sizes
  alike : (i a b : ℕ) → Uses m i a → Uses m i b → UsesFirst m a b → Before m a b
  alike i a b p q u = as_many (p.size ∙ sym q.size) u

  smaller : (i a b : ℕ) → Uses m i a → AtLeast (suc i) b → Before m a b
  smaller i a b p q = fewer (omega (arith, p.size, q.size))

  sizes_ranked : (i left : ℕ) → Ranked (Before m) (sizes i left)
  unfolding flat_map from
  sizes_ranked i zero = tt
  sizes_ranked i (suc left) =
      ranked_join (Before m) (Uses m i) (AtLeast (suc i)) (smaller i) (sized m i) (sizes (suc i) left) (sized_uses m i)
      (sizes_below (suc i) left)
      (ranked_so (UsesFirst m) (Uses m i) (Before m) (alike i) (sized m i) (sized_uses m i) (sized_ranked m i))
      (sizes_ranked (suc i) left)

  pub all_below : Each (AtLeast 0) (choices m)
  unfolding choices
  all_below = sizes_below 0 (suc m)

  pub all_ranked : Ranked (Before m) (choices m)
  unfolding choices
  all_ranked = sizes_ranked 0 (suc m)

pub all_in_order : AllInOrder
all_in_order m i j h l = ranked_at (Before m) 0 (choices m) (all_ranked m) i j h l
