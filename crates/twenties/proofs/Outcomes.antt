-- What each of the two rows settles: its refusal where it holds, and where neither does the ranges and the verdict; and how great the
-- numbers of a judgement are.
use Rattle.std.specs.Prelude.{Ok, Err}
use Prim.Native.Nat.{ℕ, ◌*◌, ◌^◌, ◌≤◌, ◌<◌}
use mathlib.Core.Bool.{Bool, true, false, not, ◌||◌}
use mathlib.Core.List.{List, [], ◌∷◌}
use mathlib.Core.Path.{◌≡◌, refl, ap, subst, sym, ◌∙◌}
use native.Mathlib.Omega.{arith}
use borrow.Author.Tests.{leb-true}
use lib.Dec.{leb}
use lib.ListN.{length}
use Rattle.sheet.specs.Layout.{◌above◌, within}
use Rattle.sheet.proofs.Bools.{and_true, or_false, not_false}
use Rattle.sheet.proofs.Rows.{no_rows, row_holds, row_passed}
use Rattle.twenties.specs.Judgements.{Judgement, sum, total, all_fit, verdict, row22, judgement}
use Rattle.twenties.proofs.Rows.{permitted_most}
use Rattle.sheet.specs.Refusals as R

from_to : (lo hi x : ℕ) → not (within lo hi x) ≡ false → (lo ≤ x) × (x ≤ hi)
from_to lo hi x e =
    let p = and_true (leb lo x) (leb x hi) (not_false _ e) in
    (leb-true lo x p.0, leb-true x hi p.1)

-- boxes that fit weigh at most 30,480 kg each
sum_most : (masses : List ℕ) → all_fit masses ≡ true → sum masses ≤ 30480 * length masses
unfolding sum all_fit
sum_most [] e = omega arith
sum_most (m ∷ ms) e =
    let p = and_true (within 1 30480 m) (all_fit ms) e in
    omega (arith, sum_most ms p.1, leb-true m 30480 (and_true (leb 1 m) (leb m 30480) p.0).1)

above_lowest : (masses : List ℕ) → total masses ≤ sum masses
unfolding sum
above_lowest [] = omega arith
above_lowest (m ∷ ms) = omega arith

-- both masses of a verdict fit 24 bits, the first number of a refusal 8 and the second 56
abbrev pub Numbers : Judgement → Type 0
Numbers (Ok v) = (v.total < 2 ^ 24) × (v.permitted < 2 ^ 24)
Numbers (Err why) = (why.number < 256) × (why.second < 2 ^ 56)

module _ (table acceleration : ℕ) (masses : List ℕ) where
  abbrev outside : Bool
  outside = (row22 table acceleration (length masses)).holds

  pub refused_22 : outside ≡ true → judgement table acceleration masses ≡ Err (R.numbers 22 0)
  unfolding judgement
  refused_22 e = ap (λ r. R.unless_refused r (verdict table acceleration masses)) (row_holds _ _ e)

  pub refused_23 : outside ≡ false → not (all_fit masses) ≡ true → judgement table acceleration masses ≡ Err (R.numbers 23 0)
  unfolding judgement
  refused_23 e f = ap (λ r. R.unless_refused r (verdict table acceleration masses)) (row_passed _ _ e ∙ row_holds _ _ f)

  pub given :
      outside ≡ false → not (all_fit masses) ≡ false → judgement table acceleration masses ≡ Ok (verdict table acceleration masses)
  unfolding judgement
  given e f =
      ap
      (λ r. R.unless_refused r (verdict table acceleration masses))
      (row_passed _ _ e ∙ row_passed _ _ f ∙ no_rows)

  pub ranges :
      outside ≡ false → (350 ≤ acceleration) × (acceleration ≤ 650) × (3 ≤ length masses) × (length masses ≤ 11)
  ranges e =
      let p = or_false (table above 1 || not (within 350 650 acceleration)) (not (within 3 11 (length masses))) e in
      let a = from_to 350 650 acceleration (or_false (table above 1) (not (within 350 650 acceleration)) p.0).1 in
      let n = from_to 3 11 (length masses) p.1 in
      (a.0, a.1, n.0, n.1)

  pub numbers : Numbers (judgement table acceleration masses)
  unfolding verdict
  numbers = go outside (not (all_fit masses)) refl refl
    where
      go : (a b : Bool) → outside ≡ a → not (all_fit masses) ≡ b → Numbers (judgement table acceleration masses)
      go true b e f = subst Numbers (sym (refused_22 e)) (omega arith, omega arith)
      go false true e f = subst Numbers (sym (refused_23 e f)) (omega arith, omega arith)
      go false false e f =
          let n = (ranges e).3 in
          subst Numbers (sym (given e f)) (
            omega (arith, above_lowest masses, sum_most masses (not_false _ f)),
            omega (arith, permitted_most table acceleration (length masses) n),
          )
