-- `twenties::tables::entry`: the code's tables are those of the definitions.
use mathlib.Core.Path.{refl}
use borrow.Author.Tests.{eq-eqb, ne_eqb}
use Rattle.twenties.specs.Tables.{table52, table53}
use Rattle.twenties.specs.Judgements.{entry}
use Rattle.twenties.proofs.tables.entry.Goals as goal

pub returns-then-table-eq0 : goal.returns-then-table-eq0
unfolding entry table52 table53
returns-then-table-eq0 c = rw (eq-eqb _ _ c.if-table-eq0.true) refl

pub returns : goal.returns
unfolding entry table52 table53
returns c = rw (ne_eqb _ _ c.if-table-eq0.false) refl
