-- The side answer's bytes as the code writes them: the verdict, then the count and the figures of each tier.
use Prim.Native.Nat.{ℕ, zero, suc, ◌+◌, ◌<◌}
use mathlib.Core.Bool.{Bool, cond}
use mathlib.Core.List.{List, [], ◌∷◌, ◌++◌, flat_map}
use mathlib.Core.Path.{◌≡◌, refl, ap, ◌∙◌}
use native.Mathlib.Omega.{arith}
use lib.ListN.{get_or}
use lib.Seq.{sets}
use Rattle.arith.specs.Bytes.{bytes4}
use Rattle.arith.specs.Lists.{from, below, counted}
use Rattle.sheet.specs.declared.Sheet.{Sheet}
use Rattle.sheet.specs.Layout.{◌above◌}
use Rattle.answer_write.specs.Inner.Encoding.{Wrote}
use Rattle.answer_write.proofs.Stores.{run, then}
use Rattle.side_walls.specs.SideWalls.{reported_racking, reported_shift, side_limit, any_of, side_verdict, side_bytes}
use Rattle.side_walls.specs.Inner.Units.{SideFigured}
use Rattle.side_parts.proofs.Tests.{any_same}

-- entries that agree
same_from : (f g : ℕ → List ℕ) (i left : ℕ) → ((j : ℕ) → j < i + left → f j ≡ g j) → flat_map f (from i left) ≡ flat_map g (from i left)
unfolding flat_map from
same_from f g i zero h = refl
same_from f g i (suc left) h =
    rw (h i (omega arith), same_from f g (suc i) left (λ j q. h j (omega (arith, q)))) refl

counted_same : (f g : ℕ → List ℕ) (n : ℕ) → ((j : ℕ) → j < n → f j ≡ g j) → counted n f ≡ counted n g
counted_same f g n h = ap {B = List ℕ} (λ l. n ∷ l) (same_from f g 0 n (λ j q. h j (omega (arith, q))))

module _ {t : Sheet} {p racking shift : List ℕ} (f : SideFigured t p racking shift) where
  abbrev figures : List ℕ
  figures = counted t.ntiers (λ i. bytes4 (get_or racking i 0) ++ bytes4 (get_or shift i 0))

  figures_are : figures ≡ counted t.ntiers (λ i. bytes4 (reported_racking t p i) ++ bytes4 (reported_shift t p i))
  figures_are = counted_same _ _ t.ntiers (λ j q. rw (f.rackings j q, f.shifts j q) refl)

  verdict_is : {v : ℕ} → v ≡ cond (any_of (λ i. get_or racking i 0 above side_limit) (below t.ntiers)) 1 0 → v ≡ side_verdict t p
  unfolding side_verdict
  verdict_is e =
      e ∙ ap {B = ℕ} (λ (b : Bool). cond b 1 0) (any_same _ _ t.ntiers (λ j q. ap (λ (x : ℕ). x above side_limit) (f.rackings j q)))

  pub whole :
      {l k z : List ℕ} {v next : ℕ} →
      k ≡ sets l 0 (v ∷ []) →
      v ≡ cond (any_of (λ i. get_or racking i 0 above side_limit) (below t.ntiers)) 1 0 →
      Wrote k 1 figures z next →
      Wrote l 0 (side_bytes t p) z next
  unfolding side_bytes
  whole e g w = then (run {bytes = side_verdict t p ∷ []} (rw (verdict_is g) at e) refl) (rw figures_are at w)
