-- `twenties::total_of`: std's `sum` of the boxes, of which there are at most eleven.
use mathlib.Core.Path.{◌≡◌, sym, ◌∙◌}
use Rattle.std.specs.List.{sum as std_sum}
use Rattle.std.proofs.Common.{rules}
use Rattle.std.proofs.iter.runs.Made.{chains}
use Rattle.std.proofs.iter.runs.Sources.{sums}
use Rattle.twenties.proofs.Masses.{sum_same}
use Rattle.twenties.proofs.total_of.Goals as goal

pub sum-requires-clause-fits : goal.sum-requires-clause-fits
sum-requires-clause-fits c = search (rules, sums)

pub returns : goal.returns
returns c =
    let e : c.sum.result ≡ std_sum c.args.masses.now = search (rules, chains) in
    e ∙ sym (sum_same c.args.masses.now)
