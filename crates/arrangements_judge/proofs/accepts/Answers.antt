-- `arrangements_judge::accepts`: the door end has a finding, or the closed end decides.
use mathlib.Core.Bool.{not}
use mathlib.Core.Path.{ap}
use Rattle.sheet.specs.Ends.{door, closed}
use Rattle.arrangements_judge.proofs.EndsJudged.{end_given, given_measured, given_fits, door_found, door_clear}
use Rattle.arrangements_judge.proofs.accepts.Goals as goal

pub end_without_finding-requires : goal.end_without_finding-requires
end_without_finding-requires c =
    let p = c.requires in
    record {
      end_given = end_given p.stack_given p.held.0 p.held.1 door;
      lashes_measured = given_measured p.stack_given p.held.0 p.held.1;
    }

pub returns-then-not-end_without_finding : goal.returns-then-not-end_without_finding
returns-then-not-end_without_finding c =
    let p = c.requires in
    door_found p.stack_given p.held.0 p.held.1
    (c.end_without_finding.ensures _ p.stack_given.measured (given_fits p.stack_given p.held.0 p.held.1 door))
    (ap not c.if-not-end_without_finding.true)

pub end_without_finding-requires-2 : goal.end_without_finding-requires-2
end_without_finding-requires-2 c =
    let p = c.requires in
    record {
      end_given = end_given p.stack_given p.held.0 p.held.1 closed;
      lashes_measured = given_measured p.stack_given p.held.0 p.held.1;
    }

pub returns : goal.returns
returns c =
    let p = c.requires in
    let fits = given_fits p.stack_given p.held.0 p.held.1 in
    door_clear p.stack_given p.held.0 p.held.1 (c.end_without_finding.ensures _ p.stack_given.measured (fits door))
    (ap not c.if-not-end_without_finding.false)
    (c.end_without_finding-2.ensures _ p.stack_given.measured (fits closed))
