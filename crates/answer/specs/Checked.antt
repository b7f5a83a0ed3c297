-- What `check` says: document 01's demands on the two numbers returned and on each byte of the buffer.
use Rattle.std.specs.Prelude.{Ok, Err, ◌≡◌, List, [], ◌∷◌, ◌++◌, ℕ, drop, length}
use Rattle.sheet.specs.Refusals.{Reading}
use Rattle.sheet.specs.declared.Sheet.{Sheet}
use Rattle.sheet.specs.Layout.{sheet_of}
use Rattle.sheet.specs.Refusals.{row13, first, longest_answer, refusal}
use Rattle.statics.specs.declared.Figures.{Figures}
use Rattle.statics.specs.declared.LoadRule.{LoadRule}
use Rattle.statics.specs.Loads.{Rule, rule_of, StandsFor}
use Rattle.statics.specs.Ends.{OneSolution}
use Rattle.sheet.specs.Ends.{End}
use Rattle.statics.specs.Reported.{EndFigured}
use Rattle.answer.specs.Outcomes.{Outcome}
use Rattle.answer.specs.Findings.{figures_of}
use Rattle.answer.specs.Answers.{answer_bytes}
use Rattle.sheet.specs.declared.Refusal.{Refusal}

-- the two numbers that document 01 returns: 0 and the answer's length, or a refusal's number and second number
abbrev pub number : Outcome → ℕ
number (Ok n) = 0
number (Err why) = why.number

abbrev pub second : Outcome → ℕ
second (Ok n) = n
second (Err why) = why.second

-- bytes that answer a sheet t, with what its loads go by: those of figures that are within `margin` N of the exact forces at each end,
-- whose equations have one solution. Findings and verdict are the rule's from these figures, by answer_bytes
pub record AnswerTo (margin : ℕ) (rule : Rule) (t : Sheet) (bytes : List ℕ) : Type 0 where
  pub figures : Figures
  pub encoded : bytes ≡ answer_bytes t figures
  pub reports : (e : End) → EndFigured margin rule e t (figures_of e figures)
  pub one : (e : End) → OneSolution rule e t

-- a refused sheet: its two numbers, and the buffer as it was
pub record TurnedBack (why : Refusal) (before after : List ℕ) (r : Outcome) : Type 0 where
  pub refused : r ≡ Err why
  pub untouched : after ≡ before

-- a taken sheet t: 0 and the answer's length; the buffer holds the answer's bytes, then what stood there
pub record Answered (margin : ℕ) (rule : Rule) (t : Sheet) (before after : List ℕ) (r : Outcome) : Type 0 where
  pub bytes : List ℕ
  pub answer : AnswerTo margin rule t bytes
  pub taken : r ≡ Ok (length bytes)
  pub written : after ≡ bytes ++ drop (length bytes) before

-- by cases on a refusal
abbrev pub AnsweredAs : Reading → ℕ → Rule → Sheet → List ℕ → List ℕ → Outcome → Type 0
AnsweredAs (Err why) margin rule t before after r = TurnedBack why before after r
AnsweredAs (Ok _) margin rule t before after r = Answered margin rule t before after r

-- the check of the sheet s with a buffer that held `before`, by document 01's refusals; its loads go by the rule of the sheet
pub record Checked (margin : ℕ) (s before after : List ℕ) (r : Outcome) : Type 0 where
  pub holds : AnsweredAs (refusal s (length before)) margin (rule_of (sheet_of s)) (sheet_of s) before after r

-- the answer to a decoded sheet t, by every rule that c stands for: only the room can be too short
abbrev pub room_for : ℕ → Reading
room_for room = first (row13 longest_answer room ∷ [])

pub record AnsweredBy (margin : ℕ) (c : LoadRule) (t : Sheet) (before after : List ℕ) (r : Outcome) : Type 0 where
  pub holds : (rule : Rule) → StandsFor c rule → AnsweredAs (room_for (length before)) margin rule t before after r

-- demand 3's margin, and the one that the check keeps
abbrev pub demanded : ℕ
demanded = 100

abbrev pub kept : ℕ
kept = 9
