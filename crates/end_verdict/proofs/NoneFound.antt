-- No size exceeds its limit where there is no byte of a finding.
use Prim.Native.Nat.{ℕ, zero, suc, ◌+◌, ◌-◌}
use mathlib.Core.Bool.{Bool, true, false, cond, not, ◌&&◌}
use mathlib.Core.List.{List, [], ◌∷◌, ◌++◌, flat_map}
use mathlib.Core.Path.{◌≡◌, refl, sym, ap, ap₂, ◌∙◌}
use native.Mathlib.Nat.{zero-add}
use native.Mathlib.Numerals.{add-one}
use native.Mathlib.Omega.{arith}
use lib.Dec.{eqb, ltb}
use lib.IntN.{pos, nat_abs}
use lib.ListN.{length, get_or, take, drop, length-append, length-drop}
use lib.Seq.{take_all}
use Rattle.arith.specs.Lists.{from, below}
use Rattle.sheet.specs.declared.Lash.{Lash}
use Rattle.statics.specs.declared.EndFigures.{EndFigures}
use Rattle.answer.specs.Limits.{racking_limit, compression_limit, lash_vertical_limit, lash_athwart_limit}
use Rattle.answer_put.specs.Inner.Puts.{finding_where, findings_over, lash_limit}
use Rattle.answer_findings.specs.Inner.Findings.{tier_findings, lash_findings}
use Rattle.answer_put.proofs.Entries.{one_more}
use Rattle.answer_findings.proofs.FindingLaws.{sum_none}
use Rattle.limits.specs.declared.PullLimit.{PullLimit}
use Rattle.end_verdict.specs.Inner.NoneOver.{none_over, none_found}

-- lists joined
joined_none : (a b : List ℕ) → eqb (length (a ++ b)) 0 ≡ eqb (length a) 0 && eqb (length b) 0
joined_none a b = ap (λ (n : ℕ). eqb n 0) (length-append a b) ∙ sum_none (length a) (length b)

-- one kind
module _ (end kind first : ℕ) (size limit : ℕ → ℕ) where
  abbrev at : ℕ → List ℕ
  at k = finding_where end kind (first + k) (size (first + k)) (limit (first + k))

  one_none : (i : ℕ) (b : Bool) → eqb (length (cond b (end ∷ kind ∷ i ∷ []) [])) 0 ≡ not b
  one_none i true = refl
  one_none i false = refl

  over_none : (n : ℕ) → eqb (length (findings_over end kind first size limit n)) 0 ≡ none_over size limit first n
  unfolding findings_over none_over flat_map from finding_where
  over_none zero = refl
  over_none (suc n) =
      ap (λ (k : ℕ). eqb (length (flat_map at (below k))) 0) (sym (add-one n))
      ∙ ap (λ (l : List ℕ). eqb (length l) 0) (one_more at n)
      ∙ joined_none (flat_map at (below n)) (at n)
      ∙ ap₂ (λ x y. x && y) (over_none n) (one_none (first + n) (ltb (limit (first + n)) (size (first + n))))

-- an end
and_assoc : (a b c : Bool) → (a && b) && c ≡ a && (b && c)
and_assoc true b c = refl
and_assoc false b c = refl

module _ (end n : ℕ) (pull : PullLimit) (ls : List Lash) (m : ℕ) (f : EndFigures) where
  pub none_found_lem : eqb (length (tier_findings end n pull f ++ lash_findings end ls m f)) 0 ≡ none_found n pull ls m f
  unfolding tier_findings lash_findings
  none_found_lem = simp (joined_none, over_none, and_assoc) refl

-- kind by kind
module _ (n : ℕ) (pull : PullLimit) (ls : List Lash) (m : ℕ) (f : EndFigures) where
  pub kinds_kept :
      {racking compression tension tensions vertical athwart : Bool} →
      racking ≡ none_over (λ i. nat_abs (get_or f.racking (i - 1) (pos 0))) (λ i. racking_limit) 1 n →
      compression ≡ none_over (λ i. get_or f.compression i 0) (λ i. compression_limit) 1 n →
      tension ≡ none_over (λ i. get_or f.tension i 0) (λ i. pull.limit) 0 n →
      tensions ≡ none_over (λ j. get_or f.pull j 0) (lash_limit ls) 0 m →
      vertical ≡ none_over (λ j. get_or f.vertical j 0) (λ j. lash_vertical_limit) 0 m →
      athwart ≡ none_over (λ j. get_or f.athwart j 0) (λ j. lash_athwart_limit) 0 m →
      ((((racking && compression) && tension) && tensions) && vertical) && athwart ≡ none_found n pull ls m f
  kinds_kept p q r s t u = cc

-- one more
module _ (size limit : ℕ → ℕ) (first k : ℕ) {kept : Bool} (e : kept ≡ none_over size limit first k) where
  pub kept_more : {over : Bool} → over ≡ ltb (limit (first + k)) (size (first + k)) → kept && not over ≡ none_over size limit first (k + 1)
  unfolding none_over
  kept_more o = rw (add-one k) (ap₂ (λ x y. x && not y) e o)

pub kept_none : (size limit : ℕ → ℕ) (first : ℕ) → true ≡ none_over size limit first 0
unfolding none_over
kept_none size limit first = refl

-- the indexes from 0 on
pub zero_first : (k : ℕ) (size limit : ℕ → ℕ) → ltb (limit k) (size k) ≡ ltb (limit (0 + k)) (size (0 + k))
zero_first k size limit = ap (λ (i : ℕ). ltb (limit i) (size i)) (sym (zero-add k))

-- a section that goes on to the end of its array
pub rest_kept :
    (from rest : ℕ) (l : List ℕ) (limit : ℕ → ℕ) (first n : ℕ) {kept : Bool} →
    length l ≡ from + rest →
    kept ≡ none_over (λ i. get_or (take rest (drop from l)) i 0) limit first n →
    kept ≡ none_over (λ i. get_or (drop from l) i 0) limit first n
rest_kept from rest l limit first n long e =
    let whole = take_all rest (drop from l) (omega (arith, length-drop from l, long)) in
    e ∙ ap (λ (xs : List ℕ). none_over (λ i. get_or xs i 0) limit first n) whole
