-- What the program writes for a sheet.
use Rattle.std.specs.Prelude.{Ok, Err, ℕ, List}
use Rattle.sheet.specs.Refusals.{Reading}
use Rattle.sheet.specs.declared.Sheet.{Sheet}
use Rattle.sheet.specs.Layout.{sheet_of}
use Rattle.sheet.specs.Refusals.{longest_answer, refusal}
use Rattle.statics.specs.Loads.{rule_of}
use Rattle.answer.specs.Checked.{AnswerTo}
use Rattle.lashcheck.specs.Lines.{Line}

-- the line of a refusal, or the bytes that answer the sheet
abbrev pub ReplyAs : Reading → ℕ → Sheet → List ℕ → Type 0
ReplyAs (Err why) margin t bytes = Line why.number why.second bytes
ReplyAs (Ok _) margin t bytes = AnswerTo margin (rule_of t) t bytes

-- for the sheet s; the program's answer buffer has room for the longest answer
pub record Reply (margin : ℕ) (s bytes : List ℕ) : Type 0 where
  pub holds : ReplyAs (refusal s longest_answer) margin (sheet_of s) bytes
