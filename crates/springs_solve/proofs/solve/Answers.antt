-- `springs_solve::solve` returns `solved`, and so keeps its promise (Laws).
use Rattle.springs_solve.proofs.Laws.{promised}
use Rattle.springs_solve.proofs.solve.Goals as goal

pub returns : goal.returns
returns c =
    let g = c.args.chain in
    let named = c.settle.ensures in record { promised = promised g.n g.k.now g.kappa.now g.omega.now _ g.solvable named; named = named }
