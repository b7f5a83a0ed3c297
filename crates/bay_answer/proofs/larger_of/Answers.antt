-- `bay_answer::larger_of`: std's `max` by another name.
use mathlib.Core.Path.{sym, ◌∙◌}
use Rattle.bay_answer.proofs.Sizes.{larger_max}
use Rattle.bay_answer.proofs.larger_of.Goals as goal

pub returns : goal.returns
returns c = c.max.ensures ∙ sym (larger_max c.args.a c.args.b)
