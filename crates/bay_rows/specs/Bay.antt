-- Document 02, P6: the bay sheet. A count of 1 to 24 rows from port to starboard, then each row's stack sheet after its 2-byte length; a
-- length of zero is an empty row. Rows are counted from 0 here.
use Rattle.std.specs.Prelude.{ℕ, zero, suc, ◌+◌, Bool, cond, List, map, take, drop, length}
use Rattle.arith.specs.Bytes.{byte_at, le2}
use Rattle.arith.specs.Lists.{below}
use Rattle.sheet.specs.Layout.{◌is◌, sheet_of}
use Rattle.bay_wind.specs.declared.Outline.{Outline}
use Rattle.bay_wind.specs.Exposure.{empty_row, stack_of}

abbrev pub row_count : List ℕ → ℕ
row_count b = byte_at b 0

-- where the length of row k stands: behind the row before it
unfoldable pub row_place : List ℕ → ℕ → ℕ
row_place b zero = 1
row_place b (suc k) = row_place b k + 2 + le2 b (row_place b k)

-- the bytes behind the length at `at`
abbrev pub row_at : List ℕ → ℕ → List ℕ
row_at b at = take (le2 b at) (drop (at + 2) b)

unfoldable pub row_of : List ℕ → ℕ → List ℕ
row_of b k = row_at b (row_place b k)

abbrev pub is_empty : List ℕ → Bool
is_empty row = length row is 0

-- the rows as those beside them see them
unfoldable pub outline_of : List ℕ → Outline
outline_of row = cond (is_empty row) empty_row (stack_of (sheet_of row))

abbrev pub outlines : List ℕ → List Outline
outlines b = map (λ k. outline_of (row_of b k)) (below (row_count b))
