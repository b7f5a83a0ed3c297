-- `sheet_decode::refusals::test_ends`: the door end, the closed end, then 2.
use borrow.Author.Rules.{rules}
use mathlib.Core.Path.{◌≡◌, sym, ◌∙◌}
use borrow.Author.Tests.{lt-ltb, le-ltb}
use Rattle.sheet.specs.Refusals.{first, door_rows, closed_rows}
use Rattle.sheet.proofs.Rows.{door_refused, closed_refused, ends_taken}
use Rattle.sheet_decode.proofs.refusals.test_ends.Goals.{After-test_end, After-test_end-2}
use Rattle.sheet_decode.proofs.refusals.test_ends.Goals as goal

-- what the rows of each end give
door : (c : After-test_end) → first (door_rows c.args.s.now) ≡ c.test_end.result
door c = sym (rw (c.byte_at-n.ensures.0, c.door_place.ensures.0) at c.test_end.ensures)

closed : (c : After-test_end-2) → first (closed_rows c.args.s.now) ≡ c.test_end-2.result
closed c = sym (rw (c.byte_at-n.ensures.0, c.closed_place.ensures.0) at c.test_end-2.ensures)

pub returns-in_err-test_end : goal.returns-in_err-test_end
returns-in_err-test_end c =
    let p = goal.at.returns-in_err-test_end c in
    search rules ∙ sym (door_refused c.args.s.now (door p.After-test_end ∙ c.in_err-test_end.was))

pub returns-in_err-test_end-2 : goal.returns-in_err-test_end-2
returns-in_err-test_end-2 c =
    let p = goal.at.returns-in_err-test_end-2 c in
    search rules
    ∙ sym (closed_refused c.args.s.now (door p.After-test_end ∙ c.in_ok-test_end.was) (closed p.After-test_end-2 ∙ c.in_err-test_end-2.was))

pub returns-then-spare-s : goal.returns-then-spare-s
unfolding first
returns-then-spare-s c =
    let p = goal.at.returns-then-spare-s c in
    rw (ends_taken c.args.s.now (door p.After-test_end ∙ c.in_ok-test_end.was) (closed p.After-test_end-2 ∙ c.in_ok-test_end-2.was))
    (simp (← c.spare_place-spare.ensures, lt-ltb _ _ c.if-spare-s.true))

pub returns : goal.returns
unfolding first
returns c =
    let p = goal.at.returns c in
    rw (ends_taken c.args.s.now (door p.After-test_end ∙ c.in_ok-test_end.was) (closed p.After-test_end-2 ∙ c.in_ok-test_end-2.was))
    (simp (← c.spare_place-spare.ensures, le-ltb _ _ c.if-spare-s.false))
