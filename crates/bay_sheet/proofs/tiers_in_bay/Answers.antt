-- `bay_sheet::tiers_in_bay`: after k turns the first k tiers are there, then blanks, and `top` is their height (Tiers).
use Prim.Native.Nat.{ℕ, ◌+◌}
use mathlib.Core.List.{map}
use mathlib.Core.Path.{◌≡◌, sym, ◌∙◌, ap, ap₂}
use native.Mathlib.Omega.{arith}
use borrow.Author.Rules.{rules}
use Rattle.arith.specs.Lists.{from, below, padded}
use Rattle.arith.proofs.Arrays.{one_more}
use Rattle.sheet.specs.declared.Tier.{Tier}
use Rattle.sheet.specs.Layout.{tier_count, tiers_in, blank_tier}
use Rattle.sheet.specs.Fits.{tier_at}
use Rattle.bay_wind.specs.Exposure.{with_wind}
use Rattle.bay_wind.proofs.Sums.{sum_none, sum_more, sum_next}
use Rattle.bay_cover.specs.Inner.Covers.{cover_of, shown_above}
use Rattle.bay_sheet.proofs.Tiers.{tier_under, few, there, first_there, held, all_under}
use Rattle.bay_sheet.proofs.tiers_in_bay.Goals as goal

pub field1-requires : goal.field1-requires
field1-requires c = omega (arith, first_there c.args.row.now c.requires.0)

pub loop-k-init : goal.loop-k-init
unfolding from
loop-k-init c =
    let row = c.args.row.now in
    record {
      few = rw c.requires.1 (few row c.requires.0);
      there = rw c.requires.1 (there row c.requires.0);
      top = sym (sum_none _);
      small = search rules;
      tiers = rw c.blank_tier-tiers.ensures;
    }

pub loop-k-preserved : goal.loop-k-preserved
loop-k-preserved c =
    let row = c.args.row.now in
    let tiers = tiers_in row (tier_count row) in
    let cover = c.cover_of-cover.result in
    let k = c.loop-k.k in
    let t = tier_at tiers k in
    let heights : ℕ → ℕ = λ j. (tier_at tiers j).height in
    let read : c.tier_of-t.result ≡ t =
    c.tier_of-t.ensures ∙ held row c.requires.0 k (rw c.requires.1 at c.loop-k-test.true) in
    let top = ap₂ (λ n (x : Tier). n + x.height) c.loop-k.invariant.top read in
    let seen = c.shown_above.ensures ∙ ap₂ (λ (x : Tier) n. shown_above cover x.height n) read (top ∙ sym (sum_next heights k)) in
    let fresh = c.with_wind.ensures ∙ ap₂ with_wind seen read in
    record {
      few = search rules;
      there = search rules;
      top = top ∙ sym (sum_more heights k);
      small = omega arith;
      tiers = rw (c.loop-k.invariant.tiers, fresh) (one_more (tier_under cover tiers) blank_tier 10 k (omega arith));
    }

pub returns : goal.returns
returns c =
    let row = c.args.row.now in
    let cover = c.cover_of-cover.result in
    let all : c.loop-k.k ≡ tier_count row = omega (arith, c.loop-k-test.false, c.requires.1) in
    c.loop-k.invariant.tiers
    ∙ ap (λ n. padded 10 blank_tier (map (tier_under cover (tiers_in row (tier_count row))) (below n))) all
    ∙ all_under row c.requires.0 c.args.near (c.cover_of-cover.ensures ∙ ap (λ z. cover_of z c.args.near) c.field1.ensures)
