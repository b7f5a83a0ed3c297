-- `choices::choice_at`: the code's table is the list of the definitions.
use mathlib.Core.List.{flat_map}
use Rattle.arith.specs.Lists.{from}
use Rattle.choices.specs.Choices.{sized, choices}
use Rattle.choices.proofs.Lines.{by_lines}
use Rattle.choices.proofs.choice_at.Goals as goal

pub returns : goal.returns
unfolding choices flat_map from sized
returns c = by_lines 32 (choices 8) c.args.i c.requires
