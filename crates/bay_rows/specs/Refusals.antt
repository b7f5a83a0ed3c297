-- Document 02, P6: what turns a bay back, with three numbers: a refusal's two, and the row that it is about, counted from 1; 0 where it is
-- about none.
use Rattle.std.specs.Prelude.{Result, Ok, Err, ℕ, suc, ◌+◌, ◌*◌, not, cond, ◌||◌, List, [], ◌∷◌, length}
use Rattle.arith.specs.Lists.{below}
use Rattle.sheet.specs.Layout.{◌is◌, within}
use Rattle.sheet.specs.Refusals.{Reading, Row, row, row13, first, sheet_rows, longest_answer}
use Rattle.sheet.specs.declared.Refusal.{Refusal}
use Rattle.bay_rows.specs.declared.BayRefusal.{BayRefusal}
use Rattle.bay_rows.specs.Bay.{row_count, row_place, row_of, is_empty}

-- a refusal about row k, counted from 1; k is 0 where it is about the bay itself
abbrev pub of_row : ℕ → Refusal → BayRefusal
of_row k why = record { number = why.number; second = why.second; row = k }

-- what comes of reading a bay: it is taken, or turned back
abbrev pub BayReading : Type 0
BayReading = Result Unit BayRefusal

-- what is read of row k, counted so too
abbrev pub about : ℕ → Reading → BayReading
about k (Ok _) = Ok tt
about k (Err why) = Err (of_row k why)

infixr 20 ◌else◌
abbrev pub ◌else◌ : BayReading → BayReading → BayReading
Ok _ else r = r
Err why else r = Err why

-- 16, 0: a bad count, or lengths that do not end with the bay's bytes
abbrev pub row16 : List ℕ → Row
row16 b = row 16 0 (not (within 1 24 (row_count b)) || not (row_place b (row_count b) is length b))

-- what turns one row back: an empty one has no refusal
abbrev pub row_reading : List ℕ → Reading
row_reading s = cond (is_empty s) (Ok tt) (first (sheet_rows s))

-- the first of these rows with a refusal of its own
unfoldable pub first_of : List ℕ → List ℕ → BayReading
first_of b [] = Ok tt
first_of b (k ∷ ks) = about (suc k) (row_reading (row_of b k)) else first_of b ks

-- 16 comes before any row, then the rows in order
unfoldable pub rows_refusal : List ℕ → BayReading
rows_refusal b = about 0 (first (row16 b ∷ [])) else first_of b (below (row_count b))

-- the room that a report is given: 9 bytes and, of each of 24 rows, its length and the longest answer, which is 20,073 in all
abbrev pub longest_report : ℕ
longest_report = 9 + 24 * (2 + longest_answer)

-- 13 comes last
unfoldable pub bay_refusal : List ℕ → ℕ → BayReading
bay_refusal b room = rows_refusal b else about 0 (first (row13 longest_report room ∷ []))
