-- `stack_check::check`: the refusals in their order, then the answer (CheckLaws).
use Rattle.std.specs.Prelude.{Ok}
use mathlib.Core.Path.{◌≡◌, sym, ap, ◌∙◌}
use Rattle.sheet.specs.Layout.{sheet_of}
use Rattle.sheet.specs.Refusals.{first, sheet_rows}
use Rattle.sheet.proofs.Clear.{parts, head_there}
use Rattle.sheet.proofs.TakenSheets.{taken_fits}
use Rattle.statics.specs.Inner.Computed.{load_rule_by}
use Rattle.stack_check.proofs.CheckLaws.{refused, taken}
use Rattle.stack_check.proofs.check.Goals.{In_default}
use Rattle.stack_check.proofs.check.Goals as goal

passed : (c : In_default) → first (sheet_rows c.args.sheet.now) ≡ Ok tt
passed c = sym c.test_sheet.ensures ∙ c.in_default.is

pub returns-in-Err : goal.returns-in-Err
returns-in-Err c =
    let k = refused c.args.sheet.now c.args.answer.now (sym c.test_sheet.ensures ∙ c.in-Err.is) in
    record { checked = k.0; named = k.1 }

pub head_of-requires : goal.head_of-requires
head_of-requires c =
    let s = c.args.sheet.now in
    head_there s (parts s (passed (goal.at.head_of-requires c).In_default)).head

pub rule_of-rule-requires : goal.rule_of-rule-requires
unfolding sheet_of
rule_of-rule-requires c = rw c.head_of.ensures (taken_fits _ (passed (goal.at.rule_of-rule-requires c).In_default)).route

pub own_tiers-requires : goal.own_tiers-requires
own_tiers-requires c = passed (goal.at.own_tiers-requires c).In_default

pub answer_with-requires : goal.answer_with-requires
answer_with-requires c =
    let e = passed (goal.at.answer_with-requires c).In_default in
    let g = c.rule_of-rule.ensures in
    (e, rw c.own_tiers.ensures (taken_fits _ e), g.1, g.2)

pub returns : goal.returns
unfolding sheet_of
returns c =
    let e =
    taken c.args.sheet.now c.args.answer.now (passed (goal.at.returns c).In_default)
    (c.rule_of-rule.ensures.0 ∙ ap load_rule_by c.head_of.ensures) c.own_tiers.ensures c.answer_with.ensures.named in
    record { checked = e.0; named = e.1 }
