-- The choices that use k lashes: below 2^m, of that size, and among them the one first that uses the first lash where two differ.
use Prim.Native.Nat.{ℕ, zero, suc, ◌^◌, ◌<◌, ◌≤◌}
use mathlib.Core.Bool.{true, false}
use mathlib.Core.List.{List, [], ◌∷◌, map}
use mathlib.Core.Path.{◌≡◌, sym, ap, ◌∙◌}
use native.Mathlib.Nat.{pow-succ'}
use native.Mathlib.Omega.{arith}
use Rattle.choices.specs.Choices.{uses, used, sized, UsesFirst}
use Rattle.choices.proofs.Bits.{with_first, without, first_used, first_not, later_with, later_without, used_with, used_without}
use Rattle.choices.proofs.Bits.{none_used}
use Rattle.choices.proofs.Ranked.{Each, Ranked, each_join, each_map, ranked_join, ranked_map}

-- a choice of m lashes that uses k
pub record Uses (m k c : ℕ) : Type 0 where
  pub below : c < 2 ^ m
  pub size : used m c ≡ k

some : (m : ℕ) → 1 ≤ 2 ^ m
some zero = omega arith
some (suc m) = rw (pow-succ' 2 m) (omega (arith, some m))

pub one_with : (m k c : ℕ) → Uses m k c → Uses (suc m) (suc k) (with_first c)
one_with m k c u = record { below = rw (pow-succ' 2 m) (omega (arith, u.below)); size = used_with m c ∙ ap suc u.size }

pub one_without : (m k c : ℕ) → Uses m k c → Uses (suc m) k (without c)
one_without m k c u = record { below = rw (pow-succ' 2 m) (omega (arith, u.below)); size = used_without m c ∙ u.size }

pub sized_uses : (m k : ℕ) → Each (Uses m k) (sized m k)
unfolding sized
sized_uses m zero = (record { below = some m; size = none_used m }, tt)
sized_uses zero (suc k) = tt
sized_uses (suc m) (suc k) =
    each_join (Uses (suc m) (suc k)) (map with_first (sized m k)) (map without (sized m (suc k)))
    (each_map (Uses m k) (Uses (suc m) (suc k)) with_first (one_with m k) (sized m k) (sized_uses m k))
    (each_map (Uses m (suc k)) (Uses (suc m) (suc k)) without (one_without m (suc k)) (sized m (suc k)) (sized_uses m (suc k)))

-- the lash where two differ first lies one further where a lash is put in front of which both use or neither does
one_further :
    (f : ℕ → ℕ) →
    ((a b : ℕ) → uses (f a) 0 ≡ uses (f b) 0) →
    ((c k : ℕ) → uses (f c) (suc k) ≡ uses c k) →
    (m a b : ℕ) →
    UsesFirst m a b →
    UsesFirst (suc m) (f a) (f b)
one_further f same later m a b u =
    record {
      lash = suc u.lash;
      listed = omega (arith, u.listed);
      alike = alike;
      used_by = later a u.lash ∙ u.used_by;
      not_by = later b u.lash ∙ u.not_by;
    }
  where
    alike : (k : ℕ) → k < suc u.lash → uses (f a) k ≡ uses (f b) k
    alike zero h = same a b
    alike (suc k) h = later a k ∙ u.alike k (omega (arith, h)) ∙ sym (later b k)

both_with : (m a b : ℕ) → UsesFirst m a b → UsesFirst (suc m) (with_first a) (with_first b)
both_with = one_further with_first (λ a b. first_used a ∙ sym (first_used b)) later_with

neither : (m a b : ℕ) → UsesFirst m a b → UsesFirst (suc m) (without a) (without b)
neither = one_further without (λ a b. first_not a ∙ sym (first_not b)) later_without

-- of two choices one uses the first lash
at_first : (m a b : ℕ) → uses a 0 ≡ true → uses b 0 ≡ false → UsesFirst (suc m) a b
at_first m a b p q =
    record { lash = 0; listed = omega arith; alike = λ k h. absurd (omega (arith, h)); used_by = p; not_by = q }

abbrev UsesIt : ℕ → Type 0
UsesIt c = uses c 0 ≡ true

abbrev UsesNot : ℕ → Type 0
UsesNot c = uses c 0 ≡ false

any : (cs : List ℕ) → Each (λ c. Unit {0}) cs
any [] = tt
any (c ∷ cs) = (tt, any cs)

pub sized_ranked : (m k : ℕ) → Ranked (UsesFirst m) (sized m k)
unfolding sized
sized_ranked m zero = (tt, tt)
sized_ranked zero (suc k) = tt
sized_ranked (suc m) (suc k) =
    ranked_join (UsesFirst (suc m)) UsesIt UsesNot (at_first m)
    (map with_first (sized m k))
    (map without (sized m (suc k)))
    (each_map (λ c. Unit {0}) UsesIt with_first (λ c _. first_used c) (sized m k) (any (sized m k)))
    (each_map (λ c. Unit {0}) UsesNot without (λ c _. first_not c) (sized m (suc k)) (any (sized m (suc k))))
    (ranked_map (UsesFirst m) (UsesFirst (suc m)) with_first (both_with m) (sized m k) (sized_ranked m k))
    (ranked_map (UsesFirst m) (UsesFirst (suc m)) without (neither m) (sized m (suc k)) (sized_ranked m (suc k)))
