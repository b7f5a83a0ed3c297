-- Contracts of inner functions; nothing here need be believed.
use Rattle.std.specs.Prelude.{ℕ, ◌+◌, length}
use mathlib.Core.List.{List, flat_map}
use Rattle.arith.specs.Lists.{below}
use Rattle.sheet.specs.declared.Sheet.{Sheet}
use Rattle.sheet.specs.Layout.{sheet_of}
use Rattle.bay_wind.specs.Sums.{sum_of, larger, greatest_of}
use Rattle.bay_wind.specs.Exposure.{neighbours_of, sheet_in_bay}
use Rattle.bay_rows.specs.Bay.{row_of, outlines}
use Rattle.bay_answer.specs.declared.Totals.{Totals}
use Rattle.bay_answer.specs.Rows.{row_bytes, accepted_in, mass_of, racking_in}
use Rattle.bay_put.specs.Inner.Answered.{answer_in}

-- the sheet of row k with the wind codes that the rows beside it give it, and the answer to it
abbrev pub sheet_at : List ℕ → ℕ → Sheet
sheet_at b k = sheet_in_bay (neighbours_of (outlines b) k) (sheet_of (row_of b k))

abbrev pub answer_at : List ℕ → ℕ → List ℕ
answer_at b k = answer_in (neighbours_of (outlines b) k) (row_of b k)

-- the bytes of the first k rows, and what is said of them together
unfoldable pub rows_bytes : List ℕ → ℕ → List ℕ
rows_bytes b k = flat_map (λ j. row_bytes (answer_at b j)) (below k)

abbrev pub totals_of : List ℕ → ℕ → Totals
totals_of b k =
    record {
      length = length (rows_bytes b k);
      accepted = sum_of (λ j. accepted_in (answer_at b j)) k;
      mass = sum_of (λ j. mass_of (sheet_at b j)) k;
      racking = greatest_of (λ j. racking_in (sheet_at b j) (answer_at b j)) k;
    }

abbrev pub added_up : Totals → Totals → Totals
added_up a b =
    record {
      length = a.length + b.length;
      accepted = a.accepted + b.accepted;
      mass = a.mass + b.mass;
      racking = larger a.racking b.racking;
    }
