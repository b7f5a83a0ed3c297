-- `springs_guess_both::guess_both` puts the candidate of each end into its array: what its two loops do, one after the other.
use Rattle.springs.specs.Inner.Candidate.{every_fourth}
use Rattle.springs.proofs.Candidates.{gives_candidate}
use Rattle.springs_guess_both.proofs.guess_both.Goals as goal

pub returns : goal.returns
returns c =
    let p = c.args.door in
    let q = c.args.closed in
    let found = c.slope_both.new.slopes in
    let e = c.slope_both.ensures in record {
      d_after = gives_candidate p.n p.k.now p.kappa.now p.omega.now (every_fourth 0 found) (every_fourth 2 found) e.door_sloped _
          c.rise_both.ensures.d_after;
      e_after = gives_candidate q.n q.k.now q.kappa.now q.omega.now (every_fourth 1 found) (every_fourth 3 found) e.closed_sloped _
          (rw c.requires.in_common.0 c.rise_both.ensures.e_after);
    }
