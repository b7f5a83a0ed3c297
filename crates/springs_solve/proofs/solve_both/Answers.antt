-- `springs_solve::solve_both` puts `solved` of each end into its array, and so keeps its promise (Laws).
use Rattle.springs_solve.proofs.Laws.{promised}
use Rattle.springs_solve.proofs.solve_both.Goals as goal

pub returns : goal.returns
returns c =
    let p = c.args.door in
    let q = c.args.closed in
    let door = c.settle.ensures in
    let closed = c.settle-2.ensures in record {
      door = (door, promised p.n p.k.now p.kappa.now p.omega.now _ p.solvable door);
      closed = (closed, promised q.n q.k.now q.kappa.now q.omega.now _ q.solvable closed);
    }
