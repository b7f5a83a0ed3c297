-- `load_rules::share_of`, by the test of the rule number.
use borrow.Author.Tests.{eq-eqb, ne_eqb}
use lib.Dec.{lit≤}
use Rattle.load_rules.proofs.share_of.Goals as goal

pub returns-then-number-eq2 : goal.returns-then-number-eq2
returns-then-number-eq2 c = (simp (eq-eqb _ _ c.if-number-eq2.true), lit≤ tt)

pub returns : goal.returns
returns c = (simp (ne_eqb _ _ c.if-number-eq2.false), lit≤ tt)
