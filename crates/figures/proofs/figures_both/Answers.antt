-- `figures::figures_both`: the shifts of both ends, then the figures of each end at its shifts (EndLaws).
use mathlib.Core.Path.{◌≡◌}
use native.Mathlib.Omega.{arith}
use lib.ListN.{length}
use lib.Seq.{length-take-le}
use Rattle.sheet.specs.Ends.{door, closed, lashes_of}
use Rattle.figures.proofs.EndLaws.{end_solvable, end_solved, end_fits}
use Rattle.figures.proofs.figures_both.Goals as goal

pub invariant_of-door_chain : goal.invariant_of-door_chain
invariant_of-door_chain c =
    let p = c.requires in
    let s = c.args.s in
    let few = p.door_workable.few in
    let counted : length (lashes_of door s) ≡ s.ndoor = length-take-le s.ndoor s.door (omega (arith, p.door_workable.few_lashes)) in
    record {
      solvable = end_solvable p.door_workable counted p.level_stiffnesses.0;
      there = (omega (arith, few), omega (arith, few), omega (arith, few));
    }

pub invariant_of-closed_chain : goal.invariant_of-closed_chain
invariant_of-closed_chain c =
    let p = c.requires in
    let s = c.args.s in
    let few = p.closed_workable.few in
    let counted : length (lashes_of closed s) ≡ s.nclosed =
    length-take-le s.nclosed s.closed (omega (arith, p.closed_workable.few_lashes)) in
    record {
      solvable = end_solvable p.closed_workable counted p.level_stiffnesses.1;
      there = (omega (arith, few), omega (arith, few), omega (arith, few));
    }

pub returns : goal.returns
returns c =
    let g = c.args in
    let ω = g.tiers.now.loads in
    let p = c.requires in
    let d = c.solve_both.ensures in
    let levels = p.level_stiffnesses in
    let door_fits = end_fits door g.s g.springs.now.door g.door_lashes.now.levels ω (omega arith) levels.0 d.door.0 p.fitting.0 in
    let closed_fits =
    end_fits closed g.s g.springs.now.closed g.closed_lashes.now.levels ω (omega arith) levels.1 d.closed.0 p.fitting.1 in
    record {
      door_figures =
          end_solved door g.s g.springs.now.door g.door_lashes.now.levels ω (omega arith) levels.0 d.door.0
          (c.figures_at.ensures _ p.tiers_measured door_fits);
      closed_figures =
          end_solved closed g.s g.springs.now.closed g.closed_lashes.now.levels ω (omega arith) levels.1 d.closed.0
          (c.figures_at-2.ensures _ p.tiers_measured closed_fits);
    }
