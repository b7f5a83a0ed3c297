-- What the check answers, by name: a function of the sheet's bytes and the buffer, so that other calls can say what the check would answer.
-- Theorems says what it is worth; nothing here need be believed.
use Rattle.std.specs.Prelude.{Ok, Err, List, ◌++◌, ℕ, drop, length}
use Rattle.sheet.specs.Refusals.{Reading}
use Rattle.sheet.specs.declared.Sheet.{Sheet}
use Rattle.sheet.specs.Layout.{sheet_of}
use Rattle.sheet.specs.Refusals.{refusal}
use Rattle.statics.specs.declared.LoadRule.{LoadRule}
use Rattle.statics.specs.Inner.Computed.{figures_by, load_rule_of}
use Rattle.answer.specs.Outcomes.{Outcome}
use Rattle.answer.specs.Answers.{answer_bytes}

-- the bytes of the answer to a decoded sheet, by the rule c
abbrev pub answer_by : LoadRule → Sheet → List ℕ
answer_by c t = answer_bytes t (figures_by c t)

-- what is returned and what a buffer that held `before` holds then, by cases on a refusal
abbrev pub returned_as : Reading → List ℕ → Outcome
returned_as (Err why) bytes = Err why
returned_as (Ok _) bytes = Ok (length bytes)

abbrev pub written_as : Reading → List ℕ → List ℕ → List ℕ
written_as (Err why) bytes before = before
written_as (Ok _) bytes before = bytes ++ drop (length bytes) before

-- of a sheet's bytes, by the rule of the sheet
abbrev pub check_bytes : List ℕ → List ℕ
check_bytes s = answer_by (load_rule_of (sheet_of s)) (sheet_of s)

unfoldable pub returned : List ℕ → ℕ → Outcome
returned s room = returned_as (refusal s room) (check_bytes s)

unfoldable pub written : List ℕ → List ℕ → List ℕ
written s before = written_as (refusal s (length before)) (check_bytes s) before
