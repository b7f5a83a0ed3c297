-- `bay::put_report`: the rows from byte 9 on, then the totals in front of them (Whole).
use Prim.Native.Nat.{◌≤◌}
use Rattle.bay_rows.proofs.Readings.{sound}
use Rattle.bay.proofs.Whole.{report_length, report_stored}
use Rattle.bay.proofs.put_report.Goals as goal

pub returns : goal.returns
returns c =
    let bay = c.args.bay.now in
    let few : c.byte_at-n.result ≤ 24 = rw c.byte_at-n.ensures.0 (sound bay c.requires.0).few in
    let stored = c.put_totals.ensures in (
      report_length bay c.args.report.now c.byte_at-n.result c.requires.1 c.byte_at-n.ensures.0 c.put_rows-totals.ensures few stored,
      report_stored bay c.args.report.now c.byte_at-n.result c.requires.1 c.byte_at-n.ensures.0 c.put_rows-totals.ensures few stored,
    )
