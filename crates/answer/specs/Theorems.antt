-- Theorems of the answer, stated; proofs/Theorems shows that they hold.
use Rattle.std.specs.Prelude.{Ok, Err, ◌≡◌, List, ◌++◌, ℕ, ◌≤◌, length}
use Rattle.sheet.specs.declared.Sheet.{Sheet}
use Rattle.sheet.specs.Fits.{Fits}
use Rattle.sheet.specs.Layout.{sheet_of}
use Rattle.sheet.specs.Refusals.{refusal}
use Rattle.sheet.specs.Ends.{End}
use Rattle.statics.specs.declared.LoadRule.{LoadRule}
use Rattle.statics.specs.Loads.{Rule, rule_of, StandsFor}
use Rattle.statics.specs.Ends.{OneSolution}
use Rattle.answer.specs.Outcomes.{Outcome}
use Rattle.answer.specs.Checked.{AnswerTo, Checked, kept, demanded}
use Rattle.answer.specs.Consequences.{AnswerSays}
use Rattle.answer.specs.Places.{ReadBack}
use Rattle.answer.specs.Table.{Table}
use Rattle.answer.specs.SafeLoads.{SafeLoads}
use Rattle.answer.specs.Turned.{Turned}
use Rattle.answer.specs.Relief.{Relief}
use Rattle.answer.specs.FleetStandard.{FleetStandard}
use Rattle.answer.specs.OnePull.{OnePull}
use Rattle.answer.specs.Inner.Named.{answer_by, returned, written}

-- demand 3, of a sheet t and the bytes s that begin with its answer: each end's equations have exactly one solution in fractions; every
-- reported force is at least the exact force in size and less than 100 N above it, and a racking points the right way; an accepted stack
-- exceeds no checked limit, and at each finding the exact force is above its limit or less than 100 N short of it
pub record DemandThree (t : Sheet) (s : List ℕ) : Type 0 where
  pub one : (e : End) → OneSolution (rule_of t) e t
  pub says : AnswerSays demanded (rule_of t) t s

pub record Theorems : Type 0 where
  -- what the check answers, a function of its input by name, is what it must say: of any sheet within the limits, by any rule; and of bytes
  pub answer_named :
      (c : LoadRule) (rule : Rule) (t : Sheet) → StandsFor c rule → Fits t → AnswerTo kept rule t (answer_by c t)
  pub check_named : (s before : List ℕ) → Checked kept s before (written s before) (returned s (length before))
  -- what holds within a margin holds within any wider one
  pub answer_wider : (m n : ℕ) → m ≤ n → (rule : Rule) (t : Sheet) (bytes : List ℕ) → AnswerTo m rule t bytes → AnswerTo n rule t bytes
  pub checked_wider :
      (m n : ℕ) → m ≤ n → (s before after : List ℕ) (r : Outcome) → Checked m s before after r → Checked n s before after r
  -- the numbers read back from an answer's bytes, whatever stands behind them, are the counts, figures, findings and verdict
  pub read_back :
      (margin : ℕ) (rule : Rule) (t : Sheet) (bytes rest : List ℕ) →
      (a : AnswerTo margin rule t bytes) →
      ReadBack t a.figures (bytes ++ rest)
  -- so an answer's bytes say by themselves what the exact forces are
  pub says :
      (margin : ℕ) (rule : Rule) (t : Sheet) (bytes rest : List ℕ) →
      AnswerTo margin rule t bytes →
      AnswerSays margin rule t (bytes ++ rest)
  -- what `check` says is demand 3 for every sheet that it takes
  pub demand_three :
      (s before after : List ℕ) (r : Outcome) →
      refusal s (length before) ≡ Ok tt →
      Checked kept s before after r →
      DemandThree (sheet_of s) after
  -- document 01's figures (a) to (j)
  pub table : Table
  -- document 02's safe loads in whole kilonewtons
  pub safe_loads : SafeLoads
  -- document 02's turned boxes
  pub turned : Turned
  -- document 02's relief of the lock by a bottom hook
  pub relief : Relief
  -- document 02's fleet standard
  pub fleet_standard : FleetStandard
  -- document 02's one finding for one pull
  pub one_pull : OnePull
