-- `bay_put_rows::put_rows`: after k turns the buffer holds the first k rows, and the totals are theirs (Steps).
use Prim.Native.Nat.{◌+◌, ◌*◌, ◌≤◌}
use mathlib.Core.List.{◌++◌}
use mathlib.Core.Path.{◌≡◌}
use lib.ListN.{length, drop}
use Rattle.bay_rows.specs.Bay.{row_place}
use Rattle.bay_answer.specs.Inner.Totalled.{Bounded}
use Rattle.bay_put_rows.specs.Inner.Together.{rows_bytes, totals_of}
use Rattle.bay_put_rows.proofs.put_rows.Given as goal

abbrev pub invariant-loop-k : goal.invariant-loop-k
invariant-loop-k l =
    record {
      few : l.n ≤ 24;
      at : l.at ≡ row_place l.bay l.k;
      near : l.at ≤ 1 + 65537 * l.k;
      totals : l.totals ≡ totals_of l.bay l.k;
      bounded : Bounded l.k l.totals;
      stored : l.report ≡ rows_bytes l.bay l.k ++ drop (length (rows_bytes l.bay l.k)) l.initial.report;
      size : length l.report ≡ length l.initial.report;
    }
