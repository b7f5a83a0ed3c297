-- `bay_put::answer_row`: with room for it, the answer is never refused (Answers).
use mathlib.Core.Path.{ap, ◌∙◌}
use Rattle.std.specs.Result.{result_unwrap_or}
use Rattle.sheet.specs.Layout.{sheet_of}
use Rattle.sheet.specs.Inner.Changed.{with_tiers}
use Rattle.sheet.proofs.Clear.{parts, head_there}
use Rattle.statics.specs.Inner.Computed.{load_rule_by}
use Rattle.bay_put.proofs.Answers.{returns_length, writes_answer}
use Rattle.bay_put.proofs.answer_row.Goals as goal

pub head_of-requires : goal.head_of-requires
head_of-requires c =
    let s = c.args.row.now in
    head_there s (parts s c.requires.0).head

pub rule_of-rule-requires : goal.rule_of-rule-requires
unfolding sheet_of
rule_of-rule-requires c = rw c.head_of.ensures c.requires.1.route

pub returns : goal.returns
unfolding sheet_of
returns c =
    let before = c.args.answer.now in
    let rule = c.rule_of-rule.result in
    let sheet = with_tiers c.args.tiers (sheet_of c.args.row.now) in
    let ruled = c.rule_of-rule.ensures.0 ∙ ap load_rule_by c.head_of.ensures in
    let named = c.answer_with.ensures.named in (
      c.unwrap_or.ensures ∙ ap (λ o. result_unwrap_or o 0) (returns_length rule sheet before c.requires.2 ruled named),
      writes_answer rule sheet before c.requires.2 ruled named,
    )
