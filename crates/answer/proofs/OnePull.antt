-- One finding for one pull: the statements of specs/OnePull hold.
use mathlib.Core.Path.{◌≡◌, refl, sym, ◌∙◌}
use mathlib.Core.Bool.{Bool, true, false}
use mathlib.Core.List.{List, [], ◌∷◌}
use Prim.Native.Nat.{ℕ}
use borrow.Author.Tests.{ltb-false}
use Rattle.sheet.specs.declared.Sheet.{Sheet}
use Rattle.sheet.specs.Ends.{End}
use Rattle.statics.specs.declared.Figures.{Figures}
use Rattle.answer.specs.Findings.{Kind, Finding, figures_of, limit_at, size_at, exceeded, named, findings_by, findings, verdict}
use Rattle.answer.specs.OnePull.{OnePull}
use Rattle.answer.proofs.TwoLimits.{lower_named, other_unnamed, lowest, never_both, one, named_exceeded}
use Rattle.answer.proofs.Accepted.{not_none, none_said, none_anywhere, unexceeded, none_broken}

-- two lists that are empty together have one verdict
same : (xs ys : List Finding) → (xs ≡ [] → ys ≡ []) → (ys ≡ [] → xs ≡ []) → verdict xs ≡ verdict ys
same [] [] p q = refl
same [] (y ∷ ys) p q = absurd (not_none y ys (p refl))
same (x ∷ xs) [] p q = absurd (not_none x xs (q refl))
same (x ∷ xs) (y ∷ ys) p q = refl

module _ (t : Sheet) (f : Figures) where
  fewer : findings_by exceeded t f ≡ [] → findings t f ≡ []
  fewer none = none_anywhere named t f (λ e k i c. go e k i (named e t (figures_of e f) k i) refl (none_said exceeded t f none e k i c))
    where
      go :
          (e : End) (k : Kind) (i : ℕ) (b : Bool) →
          named e t (figures_of e f) k i ≡ b →
          exceeded e t (figures_of e f) k i ≡ false →
          b ≡ false
      go e k i true h n = sym (named_exceeded e t (figures_of e f) i k h) ∙ n
      go e k i false h n = refl

  same_verdict : verdict (findings t f) ≡ verdict (findings_by exceeded t f)
  same_verdict = same (findings t f) (findings_by exceeded t f) (λ none. none_anywhere exceeded t f (unexceeded t f none)) fewer

pub one_pull : OnePull
one_pull =
    record {
      same_verdict = same_verdict;
      none_exceeded =
          λ t f none e k i c. ltb-false (limit_at e t k i) (size_at (figures_of e f) k i) (unexceeded t f none e k i c);
      none_broken = λ margin rule t f figured none. none_broken t f figured none;
      never_both = never_both;
      one = one;
      lowest = lowest;
      lower_named = lower_named;
      other_unnamed = other_unnamed;
    }
