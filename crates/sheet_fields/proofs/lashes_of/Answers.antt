-- `sheet_fields::lashes_of`: the lashes of an end: after k turns the array holds the first k, then blanks.
use mathlib.Core.Path.{◌∙◌, ap}
use native.Mathlib.Omega.{arith}
use borrow.Author.Rules.{rules}
use Rattle.sheet.specs.Layout.{lash_in, lashes_in, blank_lash}
use Rattle.arith.specs.Lists.{from}
use Rattle.arith.proofs.Arrays.{one_more}
use Rattle.sheet_fields.proofs.lashes_of.Goals as goal

pub loop-k-init : goal.loop-k-init
unfolding from
loop-k-init c = (search rules, rw c.blank_lash-lashes.ensures)

pub loop-k-preserved : goal.loop-k-preserved
loop-k-preserved c =
    (search rules, rw (c.loop-k.invariant.1, c.lash_of.ensures) (one_more (lash_in _ _) blank_lash 8 c.loop-k.k (omega arith)))

pub returns : goal.returns
returns c = c.loop-k.invariant.1 ∙ ap (lashes_in _ _) (omega arith)
