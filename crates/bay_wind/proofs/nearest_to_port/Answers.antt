-- `bay_wind::nearest_to_port`: the rows not yet passed give what all rows to port give (Sides).
use Prim.Native.Nat.{◌+◌, ◌≤◌, ◌-◌}
use mathlib.Core.List.{reverse}
use mathlib.Core.Path.{◌≡◌, refl, sym, ◌∙◌}
use native.Mathlib.Omega.{arith}
use lib.ListN.{length}
use lib.Seq.{take_all}
use Rattle.bay_wind.proofs.Sides.{port_loaded, port_empty, port_none}
use Rattle.bay_wind.proofs.nearest_to_port.Goals as goal

pub loop-j-init : goal.loop-j-init
loop-j-init c =
    let rows = c.args.rows.now in
    let none : length rows - length rows ≡ 0 = omega arith in
    rw (none, take_all (length rows) rows (omega arith)) refl

pub returns-then-row-ne0 : goal.returns-then-row-ne0
returns-then-row-ne0 c =
    let rows = c.args.rows.now in
    let j = c.loop-j.j in
    let passed : length rows - (j - 1 + 1) ≡ length rows - j = omega arith in
    rw passed
    (sym (port_loaded rows (length rows) j c.loop-j-test.true c.loop-j.auto.j (omega arith) c.if-row-ne0.true) ∙ c.loop-j.invariant)

pub loop-j-preserved : goal.loop-j-preserved
loop-j-preserved c =
    let rows = c.args.rows.now in
    sym (port_empty rows (length rows) c.loop-j.j c.loop-j-test.true c.loop-j.auto.j (omega arith) c.if-row-ne0.false) ∙ c.loop-j.invariant

pub returns : goal.returns
returns c =
    let rows = c.args.rows.now in
    sym (port_none rows (length rows - c.loop-j.j) c.loop-j.j c.loop-j-test.false) ∙ c.loop-j.invariant
