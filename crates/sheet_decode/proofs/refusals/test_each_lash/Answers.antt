-- `sheet_decode::refusals::test_each_lash`: the lashes of an end in order: the rows of those left give what the rows of all give.
use Rattle.std.specs.Prelude.{Ok}
use Prim.Native.Nat.{◌+◌}
use mathlib.Core.Path.{◌≡◌, refl, sym, ◌∙◌}
use native.Mathlib.Nat.{sub-zero}
use borrow.Author.Rules.{rules}
use borrow.Author.Tests.{ltb-false}
use lib.ListN.{length}
use Rattle.sheet.specs.Layout.{lash_place}
use Rattle.sheet.specs.Refusals.{first, lash_rows}
use Rattle.sheet.proofs.Clear.{clear}
use Rattle.sheet.proofs.Rows.{entry_taken, entry_refused, no_entry_left}
use Rattle.sheet_limits.proofs.Ranks.{least_next}
use Rattle.sheet_decode.proofs.refusals.test_each_lash.Goals.{In_ok-test_lash}
use Rattle.sheet_decode.proofs.refusals.test_each_lash.Goals as goal

pub loop-k-init : goal.loop-k-init
loop-k-init c = (search rules, refl, rw sub-zero)

pub test_lash-requires : goal.test_lash-requires
test_lash-requires c = (search rules, search rules, c.loop-k.invariant.1)

pub returns-in_err-test_lash : goal.returns-in_err-test_lash
returns-in_err-test_lash c =
    let a = c.args in
    search rules
    ∙ sym (entry_refused (lash_rows a.n a.s.now a.at) c.loop-k.k _ c.loop-k-test.true (sym c.test_lash.ensures ∙ c.in_err-test_lash.was))
    ∙ c.loop-k.invariant.2

-- the lash has passed its rows
passed :
    (c : In_ok-test_lash) →
    let a = c.args in
    first (lash_rows a.n a.s.now a.at c.loop-k.k) ≡ Ok tt
passed c = sym c.test_lash.ensures ∙ c.in_ok-test_lash.was

pub lash_of-requires : goal.lash_of-requires
lash_of-requires c =
    let a = c.args in
    ltb-false (length a.s.now) (lash_place a.at c.loop-k.k + 20)
    (clear (lash_rows a.n a.s.now a.at c.loop-k.k) (passed (goal.at.lash_of-requires c).In_ok-test_lash)).0

pub loop-k-preserved : goal.loop-k-preserved
loop-k-preserved c =
    let a = c.args in
    let r = rw c.lash_of.ensures at c.rank-least.ensures.0 in (
      search rules,
      rw r (least_next a.s.now a.at c.loop-k.k),
      sym (entry_taken (lash_rows a.n a.s.now a.at) c.loop-k.k _ c.loop-k-test.true (passed (goal.at.loop-k-preserved c).In_ok-test_lash))
          ∙ c.loop-k.invariant.2,
    )

pub returns : goal.returns
returns c =
    let a = c.args in
    sym (no_entry_left (lash_rows a.n a.s.now a.at) c.loop-k.k _ c.loop-k-test.false) ∙ c.loop-k.invariant.2
