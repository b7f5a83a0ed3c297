-- `forecast::answer_sheet`: 20, then 21, then the answer by the sheet's rule with the forecast's factor (Refusals).
use mathlib.Core.List.{List}
use mathlib.Core.Path.{◌≡◌, sym, ap, ap₂, ◌∙◌}
use Prim.Native.Nat.{ℕ}
use native.Mathlib.Omega.{arith}
use borrow.Author.Rules.{rules}
use Rattle.sheet.specs.declared.Head.{Head}
use Rattle.sheet.specs.Layout.{head_of, sheet_of}
use Rattle.sheet.proofs.Clear.{parts, head_there}
use Rattle.sheet.proofs.TakenSheets.{taken_fits}
use Rattle.statics.specs.declared.LoadRule.{LoadRule}
use Rattle.statics.specs.Inner.Computed.{load_rule_by}
use Rattle.forecast.proofs.Refusals.{other_route, long_voyage, some_breadth, answered}
use Rattle.forecast.proofs.answer_sheet.Goals as goal

-- what is read of the head is what the sheet holds
read : (s : List ℕ) {head : Head} → head ≡ head_of s → head ≡ (sheet_of s).head
unfolding sheet_of
read s e = e

no-route : (s : List ℕ) {head : Head} → head ≡ head_of s → head.route ≡ 0 → (sheet_of s).head.route ≡ 0
no-route s e none = sym (ap (λ (x : Head). x.route) (read s e)) ∙ none

pub head_of-head-requires : goal.head_of-head-requires
head_of-head-requires c =
    let s = c.args.s.now in
    head_there s (parts s c.requires).head

pub returns-then-head-ne0 : goal.returns-then-head-ne0
returns-then-head-ne0 c =
    let a = c.args in
    other_route (sheet_of a.s.now) a.wave a.breadth a.hours a.answer.now
    (λ e. c.if-head-ne0.true (ap (λ (x : Head). x.route) (read c.args.s.now c.head_of-head.ensures) ∙ e))

pub returns-then-hours-breadth : goal.returns-then-hours-breadth
returns-then-hours-breadth c =
    let a = c.args in
    long_voyage (sheet_of a.s.now) a.wave a.breadth a.hours a.answer.now (no-route a.s.now c.head_of-head.ensures c.if-head-ne0.false) c.if-hours-breadth.true

pub factor_of-found-requires : goal.factor_of-found-requires
factor_of-found-requires c =
    let a = c.args in
    some_breadth (sheet_of a.s.now) a.wave a.breadth a.hours a.answer.now (no-route a.s.now c.head_of-head.ensures c.if-head-ne0.false) c.if-hours-breadth.false

pub rule_of-by_route-requires : goal.rule_of-by_route-requires
rule_of-by_route-requires c = omega (arith, c.if-head-ne0.false)

pub answer_with-requires : goal.answer_with-requires
answer_with-requires c =
    (c.requires, rw c.own_tiers.ensures (taken_fits _ c.requires), search rules, search rules)

pub returns : goal.returns
returns c =
    let a = c.args in
    let share = ap (λ (x : LoadRule). x.share) (c.rule_of-by_route.ensures.0 ∙ ap load_rule_by (read c.args.s.now c.head_of-head.ensures)) in
    let is = ap₂ {C = LoadRule} (λ (n p : ℕ). record { share = n; factor = p }) share c.factor_of-found.ensures.factor_value.0 in
    answered (sheet_of a.s.now) a.wave a.breadth a.hours a.answer.now (no-route a.s.now c.head_of-head.ensures c.if-head-ne0.false) c.if-hours-breadth.false is
    c.own_tiers.ensures c.answer_with.ensures.named
