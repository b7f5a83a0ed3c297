-- `bay_rows::badly_laid_out`: the two conditions of 16 (Readings).
use mathlib.Core.Bool.{not}
use mathlib.Core.Path.{ap}
use Rattle.bay_rows.proofs.Readings.{bad_count, good_count, few_rows}
use Rattle.bay_rows.proofs.badly_laid_out.Goals as goal

pub returns-then-not-n : goal.returns-then-not-n
returns-then-not-n c = bad_count c.args.bay.now c.byte_at-n.ensures.0 (ap not c.if-not-n.true)

pub end_place-requires : goal.end_place-requires
end_place-requires c = (few_rows _ (ap not c.if-not-n.false)).1

pub returns : goal.returns
returns c =
    good_count c.args.bay.now c.byte_at-n.ensures.0 (ap not c.if-not-n.false) c.end_place.ensures
