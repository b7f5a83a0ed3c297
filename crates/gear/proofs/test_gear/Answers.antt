-- `gear::test_gear`: the section as an end of a sheet, then 2.
use Rattle.std.specs.Prelude.{Err}
use Prim.Native.Nat.{◌+◌, ◌*◌}
use mathlib.Core.Path.{sym, ap, ◌∙◌}
use native.Mathlib.Omega.{arith}
use Rattle.sheet.specs.Refusals.{numbers, end_rows}
use Rattle.sheet.proofs.Rows.{behind_refused}
use Rattle.gear.proofs.Section.{spare_refused, section_taken}
use Rattle.gear.proofs.test_gear.Goals as goal

pub returns-in-Err : goal.returns-in-Err
returns-in-Err c =
    let a = c.args in
    sym (behind_refused (end_rows a.n a.gear.now 0) _ (sym c.test_end.ensures ∙ c.in-Err.is))

pub returns-then-spare-gear : goal.returns-then-spare-gear
returns-then-spare-gear c =
    let a = c.args in
    let taken = sym c.test_end.ensures ∙ c.in_default.is in
    ap (λ k. Err (numbers 2 (1 + 20 * k))) c.byte_at.ensures.0
    ∙ sym (spare_refused a.n a.gear.now taken (omega (arith, c.if-spare-gear.true, c.byte_at.ensures.0)))

pub returns : goal.returns
returns c =
    let a = c.args in
    let taken = sym c.test_end.ensures ∙ c.in_default.is in
    sym (section_taken a.n a.gear.now taken (omega (arith, c.if-spare-gear.false, c.byte_at.ensures.0)))
