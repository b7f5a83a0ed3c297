-- `cases::layout::next`: the parts of a case follow one another.
use Rattle.cases.proofs.CaseLaws.{case_cut}
use Rattle.cases.proofs.layout.next.Goals as goal

pub returns-clause-case : goal.returns-clause-case
returns-clause-case c =
    let h = c.in_ok-head.ensures.cases in
    let n = c.in_ok-name.ensures.cases in
    let s = c.in_ok-sheet.ensures.cases in
    let f = c.in_ok-fields.ensures.cases in
    case_cut _ h.1 h.2 c.read1.ensures.0 c.read2.ensures.0 c.read2-room.ensures.0 c.read2-2.ensures.0 n.1 n.2 s.1 s.2 f.1 f.2
