-- `springs_guess::guess` puts the candidate into its array: what its two loops do, one after the other.
use Rattle.springs.specs.Inner.Candidate.{by_level}
use Rattle.springs.proofs.Candidates.{gives_candidate}
use Rattle.springs_guess.proofs.guess.Goals as goal

pub returns : goal.returns
returns c =
    let g = c.args.chain in
    let found = c.slope.new in
    gives_candidate g.n g.k.now g.kappa.now g.omega.now (by_level found.a) (by_level found.w) c.slope.ensures _
    c.rise.ensures
