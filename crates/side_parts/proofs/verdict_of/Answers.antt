-- `side_parts::verdict_of`: the rackings passed do not exceed the limit (Tests).
use Prim.Native.Nat.{ℕ}
use mathlib.Core.Bool.{Bool, cond}
use mathlib.Core.Path.{◌≡◌, sym, ap, ◌∙◌}
use native.Mathlib.Omega.{arith}
use borrow.Author.Tests.{lt-ltb, le-ltb}
use Rattle.side_walls.specs.SideWalls.{side_limit}
use Rattle.side_parts.proofs.Tests.{any_all, any_here, any_later, any_end}
use Rattle.side_parts.proofs.verdict_of.Invariants.{over}
use Rattle.side_parts.proofs.verdict_of.Goals as goal

judged : {a b : Bool} → a ≡ b → ◌≡◌ {A = ℕ} (cond a 1 0) (cond b 1 0)
judged e = ap {B = ℕ} (λ (x : Bool). cond x 1 0) e

pub loop-i-init : goal.loop-i-init
loop-i-init c = any_all (over c.args.racking.now) c.args.n

pub returns-then-racking-i : goal.returns-then-racking-i
returns-then-racking-i c =
    let l = c.loop-i in
    let a = c.args in
    let f = over a.racking.now in
    (judged (sym (any_here f a.n l.i c.loop-i-test.true (lt-ltb side_limit _ c.if-racking-i.true)) ∙ l.invariant), omega arith)

pub loop-i-preserved : goal.loop-i-preserved
loop-i-preserved c =
    let l = c.loop-i in
    let a = c.args in
    let f = over a.racking.now in
    let within = le-ltb side_limit _ c.if-racking-i.false in
    sym (any_later f a.n l.i c.loop-i-test.true within) ∙ l.invariant

pub returns : goal.returns
returns c =
    let l = c.loop-i in
    let a = c.args in
    let f = over a.racking.now in
    (judged (sym (any_end f a.n l.i c.loop-i-test.false) ∙ l.invariant), omega arith)
