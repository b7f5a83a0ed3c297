-- Contracts of inner functions; nothing here need be believed.
use Rattle.std.specs.Prelude.{◌≡◌, ℕ, ◌-◌, ◌≤◌, pos, nat_abs, get_or, length}
use mathlib.Core.List.{List, ◌++◌, flat_map}
use Rattle.sheet.specs.declared.Lash.{Lash}
use Rattle.sheet.specs.declared.Sheet.{Sheet}
use Rattle.statics.specs.declared.EndFigures.{EndFigures}
use Rattle.statics.specs.declared.Figures.{Figures}
use Rattle.sheet.specs.Ends.{door, closed, lashes_of}
use Rattle.answer.specs.Limits.{racking_limit, compression_limit, lash_vertical_limit, lash_athwart_limit}
use Rattle.answer.specs.Findings.{findings}
use Rattle.answer.specs.Answers.{finding_bytes}
use Rattle.answer_put.specs.Inner.Puts.{Put, lash_limit, findings_over}
use Rattle.limits.specs.declared.PullLimit.{PullLimit}

-- the counts of a sheet fit its arrays
pub record Sized (t : Sheet) : Type 0 where
  pub tiers : t.ntiers ≤ 10
  pub door_few : t.ndoor ≤ 8
  pub closed_few : t.nclosed ≤ 8
  pub door_lashes : length (lashes_of door t) ≡ t.ndoor
  pub closed_lashes : length (lashes_of closed t) ≡ t.nclosed

-- the bytes of an end's findings: kinds 1 to 4, of its tiers and levels, and kinds 5 to 7, of its lashes
unfoldable pub tier_findings : ℕ → ℕ → PullLimit → EndFigures → List ℕ
tier_findings end n pull f =
    findings_over end 1 1 (λ i. nat_abs (get_or f.racking (i - 1) (pos 0))) (λ i. racking_limit) n
    ++ findings_over end 2 1 (λ i. get_or f.compression i 0) (λ i. compression_limit) n
    ++ findings_over end pull.kind 0 (λ i. get_or f.tension i 0) (λ i. pull.limit) n

unfoldable pub lash_findings : ℕ → List Lash → ℕ → EndFigures → List ℕ
lash_findings end ls m f =
    findings_over end 5 0 (λ j. get_or f.pull j 0) (lash_limit ls) m
    ++ findings_over end 6 0 (λ j. get_or f.vertical j 0) (λ j. lash_vertical_limit) m
    ++ findings_over end 7 0 (λ j. get_or f.athwart j 0) (λ j. lash_athwart_limit) m

-- the findings put into a buffer of words from its start, and their count
pub record PutFindings (t : Sheet) (f : Figures) (before after : List ℕ) (count : ℕ) : Type 0 where
  pub put : Put before 0 (flat_map finding_bytes (findings t f)) after count
  pub counts : count ≡ length (findings t f)
  pub few : count ≤ 108
