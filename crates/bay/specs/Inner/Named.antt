-- What a bay is reported, by name: a function of its bytes and the buffer. Theorems says what it is worth; nothing here need be
-- believed.
use Rattle.std.specs.Prelude.{Ok, Err, ℕ, List, ◌++◌, drop, length}
use Rattle.bay_rows.specs.Refusals.{BayReading, bay_refusal}
use Rattle.bay_put_rows.specs.Inner.Together.{answer_at}
use Rattle.bay.specs.Reports.{BayOutcome, report_bytes}

-- the answer to row k
abbrev pub row_answer : List ℕ → ℕ → List ℕ
row_answer b k = answer_at b k

-- the report's bytes; what is returned and what a buffer that held `before` holds then, by cases on a refusal
abbrev pub bay_bytes : List ℕ → List ℕ
bay_bytes b = report_bytes b (row_answer b)

abbrev pub report_returned_as : BayReading → List ℕ → BayOutcome
report_returned_as (Err why) bytes = Err why
report_returned_as (Ok _) bytes = Ok (length bytes)

abbrev pub report_written_as : BayReading → List ℕ → List ℕ → List ℕ
report_written_as (Err why) bytes before = before
report_written_as (Ok _) bytes before = bytes ++ drop (length bytes) before

unfoldable pub bay_returned : List ℕ → ℕ → BayOutcome
bay_returned b room = report_returned_as (bay_refusal b room) (bay_bytes b)

unfoldable pub bay_written : List ℕ → List ℕ → List ℕ
bay_written b before = report_written_as (bay_refusal b (length before)) (bay_bytes b) before
