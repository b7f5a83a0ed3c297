-- `gear::decode`: a section decoded, unless a row turns it back.
use mathlib.Core.Path.{◌≡◌, sym, ◌∙◌}
use Rattle.std.specs.Prelude.{Err}
use borrow.Author.Rules.{rules}
use Rattle.gear.specs.Gear.{gear_decoded}
use Rattle.gear.proofs.Section.{as_counted, few, there, gear_not}
use Rattle.gear.proofs.decode.Goals as goal

pub returns-in_err-test_gear : goal.returns-in_err-test_gear
returns-in_err-test_gear c =
    let e : c.from_residual.result ≡ Err c.in_err-test_gear.field-0.0 = search rules in
    e ∙ sym (gear_not c.args.n c.args.gear.now (sym c.test_gear.ensures ∙ c.in_err-test_gear.was))

pub lashes_of-requires : goal.lashes_of-requires
lashes_of-requires c =
    let a = c.args in
    let taken = sym c.test_gear.ensures ∙ c.in_ok-test_gear.was in
    rw c.byte_at-count.ensures.0 (few a.n a.gear.now taken, there a.n a.gear.now taken)

pub returns : goal.returns
unfolding gear_decoded
returns c =
    let a = c.args in
    let taken = sym c.test_gear.ensures ∙ c.in_ok-test_gear.was in
    rw (taken, c.lashes_of.ensures, c.byte_at-count.ensures.0, as_counted a.gear.now)
