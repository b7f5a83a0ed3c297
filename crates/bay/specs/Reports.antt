-- Document 02, P6: the whole bay in one report. Rows are counted from 0 here, from 1 in a refusal.
use Rattle.std.specs.Prelude.{Result, Ok, Err, ℕ, ◌<◌, true, false, ◌≡◌, drop, length}
use mathlib.Core.List.{List, [], ◌∷◌, ◌++◌, flat_map}
use Rattle.arith.specs.Bytes.{bytes4}
use Rattle.arith.specs.Lists.{below}
use Rattle.sheet.specs.declared.Sheet.{Sheet}
use Rattle.sheet.specs.Layout.{sheet_of}
use Rattle.statics.specs.Loads.{rule_of}
use Rattle.answer.specs.Checked.{AnswerTo}
use Rattle.bay_wind.specs.Sums.{sum_of, greatest_of}
use Rattle.bay_wind.specs.Exposure.{neighbours_of, sheet_in_bay}
use Rattle.bay_rows.specs.declared.BayRefusal.{BayRefusal}
use Rattle.bay_rows.specs.Bay.{row_count, row_of, is_empty, outlines}
use Rattle.bay_rows.specs.Refusals.{BayReading, bay_refusal}
use Rattle.bay_answer.specs.Rows.{row_bytes, accepted_in, mass_of, racking_in}

-- what a report returns: its length, or the three numbers of a refusal
abbrev pub BayOutcome : Type 0
BayOutcome = Result ℕ BayRefusal

-- the three numbers that are returned: 0, the report's length and 0; or a refusal's number, its second number and the row
abbrev pub number : BayOutcome → ℕ
number (Ok n) = 0
number (Err why) = why.number

abbrev pub second : BayOutcome → ℕ
second (Ok n) = n
second (Err why) = why.second

abbrev pub row : BayOutcome → ℕ
row (Ok n) = 0
row (Err why) = why.row

-- the sheet of row k with the wind codes that the rows beside it give it
abbrev pub row_sheet : List ℕ → ℕ → Sheet
row_sheet b k = sheet_in_bay (neighbours_of (outlines b) k) (sheet_of (row_of b k))

-- the report, from the rows' answers: the number of accepted loaded rows in a byte, the total mass in kg and the greatest reported racking
-- in size (0 if none), 4 bytes each, then each row's 2-byte answer length and answer
unfoldable pub report_bytes : List ℕ → (ℕ → List ℕ) → List ℕ
report_bytes b answer =
    (sum_of (λ k. accepted_in (answer k)) (row_count b) ∷ [])
    ++ bytes4 (sum_of (λ k. mass_of (row_sheet b k)) (row_count b))
    ++ bytes4 (greatest_of (λ k. racking_in (row_sheet b k) (answer k)) (row_count b))
    ++ flat_map (λ k. row_bytes (answer k)) (below (row_count b))

-- length 0 for an empty row; else the margin is that of the same stack with those wind codes
pub record RowAnswered (margin : ℕ) (b : List ℕ) (k : ℕ) (bytes : List ℕ) : Type 0 where
  pub empty : is_empty (row_of b k) ≡ true → bytes ≡ []
  pub loaded : is_empty (row_of b k) ≡ false → AnswerTo margin (rule_of (row_sheet b k)) (row_sheet b k) bytes

-- a refused bay: its three numbers, and the buffer as it was
pub record BayTurnedBack (why : BayRefusal) (before after : List ℕ) (r : BayOutcome) : Type 0 where
  pub refused : r ≡ Err why
  pub untouched : after ≡ before

-- a taken bay: 0 and the report's length; the buffer holds the report's bytes, then what stood there
pub record ReportWritten (margin : ℕ) (b before after : List ℕ) (r : BayOutcome) : Type 0 where
  pub answer : ℕ → List ℕ
  pub rows : (k : ℕ) → k < row_count b → RowAnswered margin b k (answer k)
  pub taken : r ≡ Ok (length (report_bytes b answer))
  pub written : after ≡ report_bytes b answer ++ drop (length (report_bytes b answer)) before

-- by cases on a refusal
abbrev pub ReportedAs : BayReading → ℕ → List ℕ → List ℕ → List ℕ → BayOutcome → Type 0
ReportedAs (Err why) margin b before after r = BayTurnedBack why before after r
ReportedAs (Ok _) margin b before after r = ReportWritten margin b before after r

-- the report of the bay b with a buffer that held `before`
pub record BayReported (margin : ℕ) (b before after : List ℕ) (r : BayOutcome) : Type 0 where
  pub holds : ReportedAs (bay_refusal b (length before)) margin b before after r
