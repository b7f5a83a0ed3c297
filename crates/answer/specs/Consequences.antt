-- What an answer says of the exact forces.
use Rattle.std.specs.Prelude.{◌≡◌, List, ℕ, ◌+◌, ◌≤◌, ◌<◌}
use Rattle.arith.specs.Fractions.{Frac, nat, ◌+q◌, absq, ◌⊑◌, ◌⊏◌}
use Rattle.sheet.specs.declared.Sheet.{Sheet}
use Rattle.statics.specs.Ends.{EndSolved}
use Rattle.sheet.specs.Ends.{End}
use Rattle.statics.specs.Loads.{Rule}
use Rattle.statics.specs.Reported.{EndReported}
use Rattle.answer.specs.Findings.{Kind, Finding, end_code, kind_code, first_index, index_count, limit_at, exact_at}
use Rattle.answer.specs.Places.{findings_place, ReadBack, reported_in, figures_in, finding_in}
use Rattle.arith.specs.Bytes.{byte_at}

-- kind k is checked at index i of an end
pub record CheckedAt (e : End) (t : Sheet) (k : Kind) (i : ℕ) : Type 0 where
  pub least : first_index k ≤ i
  pub most : i < first_index k + index_count e t k

-- no checked limit is exceeded: at every solution of an end's equations, each checked force is at most its limit in size
pub record WithinLimits (rule : Rule) (t : Sheet) : Type 0 where
  pub within :
      (e : End) (Ds : List Frac) →
      EndSolved rule e t Ds →
      (k : Kind) (i : ℕ) →
      CheckedAt e t k i →
      absq (exact_at rule e t Ds k i) ⊑ nat (limit_at e t k i)

-- a finding names a checked force that is above its limit, or less than `margin` N short of exceeding it
pub record Justified (margin : ℕ) (rule : Rule) (t : Sheet) (x : Finding) : Type 0 where
  pub end : End
  pub kind : Kind
  pub named_end : x.end ≡ end_code end
  pub named_kind : x.kind ≡ kind_code kind
  pub checked : CheckedAt end t kind x.index
  pub near :
      (Ds : List Frac) →
      EndSolved rule end t Ds →
      nat (limit_at end t kind x.index) ⊏ absq (exact_at rule end t Ds kind x.index) +q nat margin

-- what an answer's bytes s say by themselves of the sheet t: the forces read back are within `margin` N of the exact ones at every solution
-- of an end's equations, and the counts, findings and verdict are the rule's from these forces. Verdict 0: no checked limit is exceeded.
-- Each finding is justified
pub record AnswerSays (margin : ℕ) (rule : Rule) (t : Sheet) (s : List ℕ) : Type 0 where
  pub reported : (e : End) (Ds : List Frac) → EndSolved rule e t Ds → EndReported margin rule e t Ds (reported_in t e s)
  pub ruled : ReadBack t (figures_in t s) s
  pub accepted : byte_at s 0 ≡ 0 → WithinLimits rule t
  pub found : (k : ℕ) → k < byte_at s (findings_place t) → Justified margin rule t (finding_in t s k)
