-- Document 02, P11: one finding for one pull, against the rule that names every limit that is exceeded.
use Rattle.std.specs.Prelude.{◌≡◌, Bool, false, cond, ◌&&◌, ◌||◌, [], ℕ, ◌≤◌, ltb}
use Rattle.sheet.specs.declared.Sheet.{Sheet}
use Rattle.sheet.specs.Ends.{End}
use Rattle.statics.specs.declared.EndFigures.{EndFigures}
use Rattle.statics.specs.declared.Figures.{Figures}
use Rattle.statics.specs.Loads.{Rule}
use Rattle.statics.specs.Reported.{EndFigured}
use Rattle.answer.specs.Findings.{Kind, corner_tension, lock_tension, figures_of, limit_at, size_at, exceeded, named, findings_by, findings}
use Rattle.answer.specs.Findings.{verdict}
use Rattle.answer.specs.Consequences.{CheckedAt, WithinLimits}

-- of the two limits at a level, the kind of the lower one, the corner's if they are equal; and the kind of the other
abbrev pub lock_lower : End → Sheet → ℕ → Bool
lock_lower e t i = ltb (limit_at e t lock_tension i) (limit_at e t corner_tension i)

abbrev pub lower : End → Sheet → ℕ → Kind
lower e t i = cond (lock_lower e t i) lock_tension corner_tension

abbrev pub other : End → Sheet → ℕ → Kind
other e t i = cond (lock_lower e t i) corner_tension lock_tension

pub record OnePull : Type 0 where
  -- verdicts are those of the rule that names both
  pub same_verdict : (t : Sheet) (f : Figures) → verdict (findings t f) ≡ verdict (findings_by exceeded t f)
  -- a stack with no finding breaks no limit, named or unnamed: in its reported sizes, and exactly
  pub none_exceeded :
      (t : Sheet) (f : Figures) →
      findings t f ≡ [] →
      (e : End) (k : Kind) (i : ℕ) →
      CheckedAt e t k i →
      size_at (figures_of e f) k i ≤ limit_at e t k i
  pub none_broken :
      (margin : ℕ) (rule : Rule) (t : Sheet) (f : Figures) →
      ((e : End) → EndFigured margin rule e t (figures_of e f)) →
      findings t f ≡ [] →
      WithinLimits rule t
  -- at a level never both are named, and one is if either is exceeded
  pub never_both : (e : End) (t : Sheet) (f : EndFigures) (i : ℕ) → named e t f corner_tension i && named e t f lock_tension i ≡ false
  pub one :
      (e : End) (t : Sheet) (f : EndFigures) (i : ℕ) →
      named e t f corner_tension i || named e t f lock_tension i ≡ exceeded e t f corner_tension i || exceeded e t f lock_tension i
  -- in short: tension is checked against the lower of the two limits, under the name of that one
  pub lowest : (e : End) (t : Sheet) (i : ℕ) → limit_at e t (lower e t i) i ≤ limit_at e t (other e t i) i
  pub lower_named : (e : End) (t : Sheet) (f : EndFigures) (i : ℕ) → named e t f (lower e t i) i ≡ exceeded e t f (lower e t i) i
  pub other_unnamed : (e : End) (t : Sheet) (f : EndFigures) (i : ℕ) → named e t f (other e t i) i ≡ false
