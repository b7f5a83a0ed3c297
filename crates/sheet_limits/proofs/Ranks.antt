-- One comparison of the ranks of two lashes is the comparison by tier, then hook, then kind, where hooks and kinds are below 256.
use mathlib.Core.Path.{◌≡◌, refl, sym, ap, ◌∙◌}
use mathlib.Core.Bool.{Bool, true, false, not, ◌&&◌, ◌||◌}
use mathlib.Core.List.{List}
use Prim.Native.Nat.{ℕ, zero, suc, ◌+◌, ◌*◌, ◌<◌}
use native.Mathlib.Numerals.{add-one}
use native.Mathlib.Omega.{arith}
use borrow.Author.Tests.{ltb-true, ltb-false, eqb-true, eqb-false, lt-ltb, le-ltb}
use lib.Dec.{ltb, eqb}
use lib.ListN.{get_or}
use Rattle.sheet.specs.Layout.{lash_of, lash_place, lash_in}
use Rattle.sheet.specs.Refusals.{later, not_later}
use Rattle.sheet_limits.specs.Inner.Ranks.{rank, least_rank}

-- of a lash's tier, hook and kind
abbrev number : ℕ → ℕ → ℕ → ℕ
number t h k = 65536 * t + 256 * h + k

module _ (t h k t' h' k' : ℕ) (p : h < 256) (q : k < 256) (p' : h' < 256) (q' : k' < 256) where
  by_tests :
      (tier same-tier hook same-hook kind : Bool) →
      ltb t t' ≡ tier →
      eqb t' t ≡ same-tier →
      ltb h h' ≡ hook →
      eqb h' h ≡ same-hook →
      ltb k k' ≡ kind →
      ltb (number t h k) (number t' h' k') ≡ tier || same-tier && (hook || same-hook && kind)
  by_tests true _ _ _ _ a _ _ _ _ = lt-ltb (number t h k) (number t' h' k') (omega (arith, ltb-true t t' a))
  by_tests false false _ _ _ a b _ _ _ = le-ltb (number t h k) (number t' h' k') (omega (arith, ltb-false t t' a, eqb-false t' t b))
  by_tests false true true _ _ _ b d _ _ = lt-ltb (number t h k) (number t' h' k') (omega (arith, eqb-true t' t b, ltb-true h h' d))
  by_tests false true false false _ _ b d e _ =
      le-ltb (number t h k) (number t' h' k') (omega (arith, eqb-true t' t b, ltb-false h h' d, eqb-false h' h e))
  by_tests false true false true true _ b _ e f =
      lt-ltb (number t h k) (number t' h' k') (omega (arith, eqb-true t' t b, eqb-true h' h e, ltb-true k k' f))
  by_tests false true false true false _ b _ e f =
      le-ltb (number t h k) (number t' h' k') (omega (arith, eqb-true t' t b, eqb-true h' h e, ltb-false k k' f))

  ranks : ltb (number t h k) (number t' h' k') ≡ ltb t t' || eqb t' t && (ltb h h' || eqb h' h && ltb k k')
  ranks = by_tests _ _ _ _ _ refl refl refl refl refl

-- the last row of a lash is one comparison of its rank
not_less : (x y : ℕ) → not (ltb x y) ≡ ltb y (x + 1)
not_less x y = go (ltb x y) refl
  where
    go : (less : Bool) → ltb x y ≡ less → not less ≡ ltb y (x + 1)
    go true e = sym (le-ltb y (x + 1) (omega (arith, ltb-true x y e)))
    go false e = sym (lt-ltb y (x + 1) (omega (arith, ltb-false x y e)))

module _ (s : List ℕ) (bytes : (i : ℕ) → get_or s i 0 < 256) where
  pub not_later_rank : (at k : ℕ) → not_later s at k ≡ ltb (rank (lash_in s at k)) (least_rank s at k)
  unfolding not_later later lash_of
  not_later_rank at zero = sym (le-ltb (rank (lash_in s at 0)) 0 (omega arith))
  not_later_rank at (suc k) =
      let p = lash_place at k in
      let q = lash_place at (suc k) in
      ap not
      (sym
      (ranks (get_or s p 0) (get_or s (p + 1) 0) (get_or s (p + 2) 0) (get_or s q 0) (get_or s (q + 1) 0) (get_or s (q + 2) 0)
      (bytes (p + 1)) (bytes (p + 2)) (bytes (q + 1)) (bytes (q + 2))))
      ∙ not_less (rank (lash_in s at k)) (rank (lash_in s at (suc k)))

pub least_next : (s : List ℕ) (at k : ℕ) → rank (lash_in s at k) + 1 ≡ least_rank s at (k + 1)
least_next s at k = ap (least_rank s at) (sym (add-one k))
