-- `arrangements::list_aboard`: a short buffer, or the list (Refusals).
use Rattle.arrangements.proofs.Refusals.{short, listed}
use Rattle.arrangements.specs.Inner.Named.{list_for}
use lib.ListN.{take}
use Rattle.arrangements.proofs.list_aboard.Goals as goal

pub returns-then-list-lt-LONGEST : goal.returns-then-list-lt-LONGEST
returns-then-list-lt-LONGEST c =
    let a = c.args in
    short (list_for a.t (take a.m a.lashes)) a.list.now c.if-list-lt-LONGEST.true

pub returns : goal.returns
returns c =
    let a = c.args in
    let e = c.write_list.ensures in
    listed (list_for a.t (take a.m a.lashes)) a.list.now c.if-list-lt-LONGEST.false e.0 e.1
