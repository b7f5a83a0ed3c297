-- Contracts of inner functions; nothing here need be believed.
use Rattle.std.specs.Prelude.{ℕ, cond, List, [], ◌++◌, ◌≡◌, length, drop}
use Rattle.sheet.specs.declared.Sheet.{Sheet}
use Rattle.sheet.specs.Layout.{sheet_of}
use Rattle.bay_wind.specs.declared.Neighbours.{Neighbours}
use Rattle.bay_wind.specs.Exposure.{sheet_in_bay}
use Rattle.bay_rows.specs.Bay.{is_empty}
use Rattle.bay_answer.specs.declared.Totals.{Totals}
use Rattle.bay_answer.specs.Rows.{row_bytes}
use Rattle.bay_answer.specs.Inner.Totalled.{answer_of, row_totals, Bounded}

-- the answer to a row between these neighbours
unfoldable pub answer_in : Neighbours → List ℕ → List ℕ
answer_in near row = cond (is_empty row) [] (answer_of (sheet_in_bay near (sheet_of row)))

-- the length of the answer to a sheet is returned, and it stands at the start of a buffer
abbrev pub RowAnswered : Sheet → List ℕ → List ℕ → ℕ → Type 0
RowAnswered t before after n = (n ≡ length (answer_of t)) × (after ≡ answer_of t ++ drop (length (answer_of t)) before)

-- what is said of a row between these neighbours is returned, and its answer stands there behind its length
abbrev pub RowPut : Neighbours → List ℕ → List ℕ → List ℕ → Totals → Type 0
RowPut near row before after r =
    (r ≡ row_totals (sheet_in_bay near (sheet_of row)) (answer_in near row))
    × Bounded 1 r
    × (after ≡ row_bytes (answer_in near row) ++ drop (length (row_bytes (answer_in near row))) before)
