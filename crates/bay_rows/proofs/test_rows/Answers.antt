-- `bay_rows::test_rows`: the rows in order: those left give what all give.
use Prim.Native.Nat.{ℕ}
use mathlib.Core.List.{List}
use mathlib.Core.Path.{◌≡◌, sym, ap, ◌∙◌}
use native.Mathlib.Nat.{sub-zero}
use native.Mathlib.Omega.{arith}
use borrow.Author.Rules.{rules}
use Rattle.sheet.specs.Refusals.{Reading}
use Rattle.bay_rows.specs.Bay.{row_place, row_at, row_of}
use Rattle.bay_rows.specs.Refusals.{row_reading}
use Rattle.bay_rows.proofs.Places.{place_first, next_is, row_there, row_is}
use Rattle.bay_rows.proofs.Readings.{next_taken, next_refused, none_left}
use Rattle.bay_rows.proofs.test_rows.Goals as goal

-- what the tests of row k say
reading :
    (bay : List ℕ) (k : ℕ) {at : ℕ} {row : List ℕ} {said : Reading} →
    said ≡ row_reading row →
    at ≡ row_place bay k →
    row ≡ row_at bay at →
    row_reading (row_of bay k) ≡ said
reading bay k h e g = sym (h ∙ ap row_reading (row_is bay k e g))

pub loop-k-init : goal.loop-k-init
loop-k-init c = (sym (place_first c.args.bay.now), search rules, rw sub-zero)

pub row_at-requires : goal.row_at-requires
row_at-requires c =
    let bay = c.args.bay.now in
    (omega arith, row_there bay c.loop-k.k c.loop-k.invariant.0 c.args.n c.loop-k-test.true c.requires.1)

pub returns-in-Err : goal.returns-in-Err
returns-in-Err c =
    let bay = c.args.bay.now in
    let k = c.loop-k.k in
    let said = reading bay k c.test_row.ensures c.loop-k.invariant.0 c.row_at.ensures in
    sym (next_refused bay k c.args.n c.loop-k-test.true (said ∙ c.in-Err.is)) ∙ c.loop-k.invariant.2

pub loop-k-preserved : goal.loop-k-preserved
loop-k-preserved c =
    let bay = c.args.bay.now in
    let k = c.loop-k.k in
    let said = reading bay k c.test_row.ensures c.loop-k.invariant.0 c.row_at.ensures in
    let e = c.next_place-at.ensures in (
      next_is bay k c.loop-k.invariant.0 e.0,
      omega arith,
      sym (next_taken bay k c.args.n c.loop-k-test.true (said ∙ c.in_default.is)) ∙ c.loop-k.invariant.2,
    )

pub returns : goal.returns
returns c =
    sym (none_left c.args.bay.now c.loop-k.k c.args.n c.loop-k-test.false) ∙ c.loop-k.invariant.2
