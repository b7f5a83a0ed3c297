-- `bay_put::put_row`: an empty row is a length of 0; a loaded one is answered as its sheet in the bay is (Rows).
use native.Mathlib.Omega.{arith}
use Rattle.bay_put.proofs.Rows.{empty_totals, nothing_bounded, empty_stored, row_taken_lem}
use Rattle.bay_put.proofs.put_row.Goals as goal

pub returns-then-row-eq0 : goal.returns-then-row-eq0
returns-then-row-eq0 c =
    let a = c.args in
    let s = a.row.now in (
      empty_totals a.near s c.if-row-eq0.true,
      nothing_bounded,
      empty_stored a.near s a.report.now c.if-row-eq0.true (omega (arith, c.requires.1)) c.write2.ensures,
    )

pub put_answer-requires : goal.put_answer-requires
put_answer-requires c =
    (row_taken_lem c.args.near c.args.row.now c.if-row-eq0.false c.requires.0, c.requires.1)

pub returns : goal.returns
returns c = c.put_answer.ensures
