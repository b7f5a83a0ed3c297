-- What is proved of side walls under pitching, of every sheet t and every short sheet p.
use Rattle.std.specs.Prelude.{ℕ, suc, ◌<◌, ◌≤◌, ◌≡◌, List, pos}
use Rattle.arith.specs.Fractions.{nat, ◌+q◌, ◌*q◌, ◌/q◌, sumq, ◌⊑◌, ◌⊏◌}
use Rattle.arith.specs.Theorems.{LeastNotBelow}
use Rattle.sheet.specs.declared.Sheet.{Sheet}
use Rattle.sheet.specs.Fits.{Fits}
use Rattle.statics.specs.Loads.{half}
use Rattle.side_walls.specs.SideWalls.{side_force, tiers_above, side_racking, side_shift, reported_racking, reported_shift, side_limit}
use Rattle.side_walls.specs.SideWalls.{side_verdict}
use Rattle.side_walls.specs.Inner.Units.{Pitched}

-- what is reported is what its words say: neither is below zero, so that no sign is lost (proofs/Exact)
pub record Reports (t : Sheet) (p : List ℕ) (i : ℕ) : Type 0 where
  pub racking : LeastNotBelow (side_racking t p i) (pos (reported_racking t p i))
  pub shift : LeastNotBelow (nat 1000 *q side_shift t p (suc i)) (pos (reported_shift t p i))

abbrev pub AllReport : Type 0
AllReport = (t : Sheet) (p : List ℕ) (i : ℕ) → Reports t p i

-- the share by the rule number: 0.45 by rule 1, half by rule 2 (proofs/Verdicts)
pub record SharesByRule (t : Sheet) (p : List ℕ) (i : ℕ) : Type 0 where
  pub class_rule :
      t.head.rule ≡ 1 →
      side_racking t p i ≡ (nat 45 /q nat 100) *q side_force t p i +q sumq (side_force t p) (tiers_above t i)
  pub fleet : t.head.rule ≡ 2 → side_racking t p i ≡ half *q side_force t p i +q sumq (side_force t p) (tiers_above t i)

abbrev pub AllByRule : Type 0
AllByRule = (t : Sheet) (p : List ℕ) (i : ℕ) → SharesByRule t p i

-- a tier whose exact racking is above the limit
pub record Exceeded (t : Sheet) (p : List ℕ) : Type 0 where
  pub tier : ℕ
  pub stacked : tier < t.ntiers
  pub above : nat side_limit ⊏ side_racking t p tier

-- verdict 0 exactly when no reported racking exceeds the limit; then no exact one does. Verdict 1: some exact one does (proofs/Verdicts)
pub record Verdicts (t : Sheet) (p : List ℕ) : Type 0 where
  pub reported : side_verdict t p ≡ 0 → (i : ℕ) → i < t.ntiers → reported_racking t p i ≤ side_limit
  pub none : ((i : ℕ) → i < t.ntiers → reported_racking t p i ≤ side_limit) → side_verdict t p ≡ 0
  pub exact : side_verdict t p ≡ 0 → (i : ℕ) → i < t.ntiers → side_racking t p i ⊑ nat side_limit
  pub exceeded : ¬ (side_verdict t p ≡ 0) → (side_verdict t p ≡ 1) × Exceeded t p

abbrev pub AllJudged : Type 0
AllJudged = (t : Sheet) (p : List ℕ) → Verdicts t p

-- the most that a taken stack can report, by either rule: both numbers fit their 4 bytes (proofs/Most)
abbrev pub Most : Type 0
Most =
    (t : Sheet) (p : List ℕ) →
    Fits t →
    Pitched t.ntiers p →
    (i : ℕ) →
    i < t.ntiers →
    (reported_racking t p i ≤ 2130438) × (reported_shift t p i ≤ 1936586)
