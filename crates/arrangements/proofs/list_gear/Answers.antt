-- `arrangements::list_gear`: a sheet that holds a lash, a gear section turned back, or the list (Refusals).
use Rattle.std.specs.Prelude.{Ok, Err}
use borrow.Author.Rules.{rules}
use mathlib.Core.Path.{◌≡◌, sym, ◌∙◌}
use Rattle.arrangements.proofs.Refusals.{lash_held, gear_refused, gear_aboard, gear_taken}
use Rattle.arrangements.proofs.list_gear.Goals as goal

pub returns-then-t : goal.returns-then-t
returns-then-t c =
    let a = c.args in
    lash_held a.t a.gear.now a.list.now c.if-t.true

pub returns-in_err-aboard : goal.returns-in_err-aboard
returns-in_err-aboard c =
    let a = c.args in
    let e : c.from_residual.result ≡ Err c.in_err-aboard.field-0.0 = search rules in
    rw e (gear_refused a.t a.gear.now a.list.now c.if-t.false (sym c.decode.ensures ∙ c.in_err-aboard.was))

pub list_aboard-requires : goal.list_aboard-requires
list_aboard-requires c =
    let a = c.args in
    (c.requires, gear_aboard a.t a.gear.now a.list.now c.if-t.false (sym c.decode.ensures ∙ c.in_ok-aboard.was) c.requires)

pub returns : goal.returns
returns c =
    let a = c.args in
    gear_taken a.t a.gear.now a.list.now c.if-t.false (sym c.decode.ensures ∙ c.in_ok-aboard.was) c.list_aboard.ensures
