-- `preview::answer_moved`: 17, then 7, then the answer to the sheet with the new mass (Moves).
use Prim.Native.Nat.{ℕ, ◌-◌, ◌<◌}
use mathlib.Core.Bool.{false, not, ◌||◌}
use mathlib.Core.List.{List}
use mathlib.Core.Path.{◌≡◌, ap, ◌∙◌}
use native.Mathlib.Omega.{arith}
use lib.Dec.{eqb, ltb}
use Rattle.sheet.specs.Layout.{tier_count, sheet_of}
use Rattle.sheet.proofs.Clear.{parts, head_there, few_tiers}
use Rattle.sheet.proofs.TakenSheets.{taken_fits}
use Rattle.statics.specs.Inner.Computed.{load_rule_by}
use Rattle.preview_moves.proofs.Moves.{without_tier, without_mass, some, below, moved_fits, with_mass}
use Rattle.preview_moves.proofs.Order.{lacking}
use Rattle.preview.proofs.answer_moved.Goals as goal

-- the stack has the tier
has : (s : List ℕ) (tier : ℕ) {n : ℕ} → n ≡ tier_count s → eqb tier 0 || ltb n tier ≡ false → lacking s tier ≡ false
has s tier e h = rw e at h

has_tier : (s : List ℕ) (tier mass : ℕ) (before : List ℕ) → lacking s tier ≡ false → tier - 1 < tier_count s
unfolding sheet_of
has_tier s tier mass before h = below (sheet_of s) tier mass before h

pub returns-then-number-n : goal.returns-then-number-n
unfolding sheet_of
returns-then-number-n c =
    let a = c.args in
    without_tier (sheet_of a.sheet.now) a.tier a.mass a.answer.now
    (rw c.byte_at-n.ensures.0 at c.if-number-n.true)

pub overflow_sub-k : goal.overflow_sub-k
unfolding sheet_of
overflow_sub-k c =
    let a = c.args in
    some (sheet_of a.sheet.now) a.tier a.mass a.answer.now (rw c.byte_at-n.ensures.0 at c.if-number-n.false)

pub returns-then-not-mass : goal.returns-then-not-mass
unfolding sheet_of
returns-then-not-mass c =
    let a = c.args in
    let has = has a.sheet.now a.tier c.byte_at-n.ensures.0 c.if-number-n.false in
    without_mass (sheet_of a.sheet.now) a.tier a.mass a.answer.now has (ap not c.if-not-mass.true)

pub head_of-requires : goal.head_of-requires
head_of-requires c =
    let s = c.args.sheet.now in
    head_there s (parts s c.requires).head

pub rule_of-rule-requires : goal.rule_of-rule-requires
unfolding sheet_of
rule_of-rule-requires c =
    rw c.head_of.ensures (taken_fits _ c.requires).route

pub own_tiers-own-requires : goal.own_tiers-own-requires
own_tiers-own-requires c = c.requires

pub with_mass-tiers-requires : goal.with_mass-tiers-requires
with_mass-tiers-requires c =
    let a = c.args in
    let s = a.sheet.now in
    let has = has s a.tier c.byte_at-n.ensures.0 c.if-number-n.false in
    omega (arith, has_tier s a.tier a.mass a.answer.now has, few_tiers s (parts s c.requires).tiers)

pub answer_with-requires : goal.answer_with-requires
unfolding sheet_of
answer_with-requires c =
    let a = c.args in
    let has = has a.sheet.now a.tier c.byte_at-n.ensures.0 c.if-number-n.false in
    let tier = has_tier a.sheet.now a.tier a.mass a.answer.now has in
    let fits = moved_fits (taken_fits a.sheet.now c.requires) (a.tier - 1) a.mass tier c.if-not-mass.false in
    let tiers = rw c.own_tiers-own.ensures at c.with_mass-tiers.ensures in
    (c.requires, rw tiers fits, c.rule_of-rule.ensures.1, c.rule_of-rule.ensures.2)

pub returns : goal.returns
unfolding sheet_of
returns c =
    let a = c.args in
    let has = has a.sheet.now a.tier c.byte_at-n.ensures.0 c.if-number-n.false in
    let tiers = rw c.own_tiers-own.ensures at c.with_mass-tiers.ensures in
    with_mass (sheet_of a.sheet.now) a.tier a.mass a.answer.now has (ap not c.if-not-mass.false)
    (c.rule_of-rule.ensures.0 ∙ ap load_rule_by c.head_of.ensures) tiers c.answer_with.ensures.named
