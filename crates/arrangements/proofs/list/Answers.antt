-- `arrangements::list`: the sheet's own refusals, then what `list_gear` says of a taken one (Named).
use Rattle.std.specs.Prelude.{Ok, Err}
use borrow.Author.Rules.{rules}
use mathlib.Core.Path.{◌≡◌, sym, ◌∙◌}
use Rattle.sheet.proofs.TakenSheets.{decoded_fits}
use Rattle.arrangements.proofs.Named.{sheet_refused, sheet_taken}
use Rattle.arrangements.proofs.list.Goals as goal

pub returns-in_err-t : goal.returns-in_err-t
returns-in_err-t c =
    let a = c.args in
    let e : c.from_residual.result ≡ Err c.in_err-t.field-0.0 = search rules in
    let k = sheet_refused a.sheet.now a.gear.now a.list.now (sym c.decode.ensures ∙ c.in_err-t.was) in
    rw e (record { listed = k.0; named = k.1 })

pub list_gear-requires : goal.list_gear-requires
list_gear-requires c = decoded_fits c.args.sheet.now (sym c.decode.ensures ∙ c.in_ok-t.was)

pub returns : goal.returns
returns c =
    let a = c.args in
    let k = sheet_taken a.sheet.now a.gear.now a.list.now (sym c.decode.ensures ∙ c.in_ok-t.was) c.list_gear.ensures in
    record { listed = k.0; named = k.1 }
