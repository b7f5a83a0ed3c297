-- `figures_tiers::loads_of`: from the top down, each level's load, the weights above it, and the heights (LoadLaws).
use mathlib.Core.Path.{refl}
use lib.ListN.{get_or, take, length-set}
use lib.Seq.{get_or-take, length-take-le}
use Prim.Native.Nat.{ℕ, ◌-◌, ◌<◌, ◌≤◌}
use mathlib.Core.List.{List}
use Rattle.sheet.specs.declared.Tier.{Tier}
use native.Mathlib.Omega.{arith}
use Rattle.sheet.specs.Layout.{blank_tier}
use Rattle.sheet.specs.Inner.Limits.{TierLimits}
use Rattle.statics.proofs.Sections.{first_set, second_set}
use Rattle.figures_tiers.proofs.LoadLaws.{loaded_none, loaded_more, loaded_all, carried_none, carried_more}
use Rattle.figures_tiers.proofs.LoadLaws.{carried_all, heights_none, heights_more, heights_all}
use Rattle.figures_tiers.proofs.loads_of.Goals as goal

-- the tier of a turn is within the limits
limits :
    (n j : ℕ) (tiers : List Tier) →
    j < n →
    ((i : ℕ) → i < n → TierLimits (get_or (take n tiers) i blank_tier)) →
    TierLimits (get_or tiers j blank_tier)
limits n j tiers h each = rw (get_or-take n tiers j blank_tier h) at (each j h)

pub loop-i-init : goal.loop-i-init
loop-i-init c =
    let stacked = length-take-le c.args.n c.args.tiers (omega (arith, c.requires.n_bound.0)) in
    let p = c.requires.zeros in
    rw (p.0, p.1)
    (loaded_none stacked, carried_none stacked, carried_none stacked, heights_none stacked c.requires.n_bound.0 (omega arith), refl)

pub tier_load-tier-requires : goal.tier_load-tier-requires
tier_load-tier-requires c = limits c.args.n (c.loop-i.i - 1) c.args.tiers (omega arith) c.requires.by_index

pub mass_by-vmax_units-requires : goal.mass_by-vmax_units-requires
mass_by-vmax_units-requires c =
    let f = limits c.args.n (c.loop-i.i - 1) c.args.tiers (omega arith) c.requires.by_index in
    (f.mass, f.aVmax)

pub mass_by-vmin_units-requires : goal.mass_by-vmin_units-requires
mass_by-vmin_units-requires c =
    let f = limits c.args.n (c.loop-i.i - 1) c.args.tiers (omega arith) c.requires.by_index in
    (f.mass, omega (arith, f.aVmin))

pub loop-i-preserved : goal.loop-i-preserved
loop-i-preserved c =
    let stacked = length-take-le c.args.n c.args.tiers (omega (arith, c.requires.n_bound.0)) in
    let l = c.loop-i in
    let own = get_or-take c.args.n c.args.tiers (l.i - 1) blank_tier (omega arith) in
    let few = c.requires.n_bound.0 in
    let up : 0 < l.i = omega arith in
    let e = c.tier_load-tier.ensures in
    let r = c.level_load.ensures in
    let f = c.mass_by-vmax_units.ensures in
    let g = c.mass_by-vmin_units.ensures in
    let x = c.half_weight.ensures in
    let y = c.half_weight-in-loop-i.ensures in
    let low : l.i - 1 < 11 = omega (arith, few) in (
      loaded_more few up l.invariant.0 (rw own e.0) (rw own e.2) e.1 e.3 r.0 r.1,
      rw (first_set 11 l.measures.weights low c.half_weight.result c.half_weight-in-loop-i.result)
          (carried_more stacked few up l.invariant.1 (rw own f.0) f.1 x.0 x.1),
      rw (second_set 11 l.measures.weights low c.half_weight.result c.half_weight-in-loop-i.result)
          (carried_more stacked few up l.invariant.2 (rw own g.0) g.1 y.0 y.1),
      heights_more stacked few up l.invariant.0.within l.invariant.3 (rw own refl),
      simp length-set l.invariant.4,
    )

pub returns : goal.returns
returns c =
    let stacked = length-take-le c.args.n c.args.tiers (omega (arith, c.requires.n_bound.0)) in
    let l = c.loop-i in
    let all : l.i ≤ 0 = omega arith in
    let m = carried_all stacked all l.invariant.1 in
    let k = carried_all stacked all l.invariant.2 in (
      record {
        named = loaded_all stacked c.requires.n_bound.0 all l.invariant.0;
        small = λ i h. (l.invariant.0.loaded.each i (omega arith) h).1;
      },
      record {
        heights_are = heights_all all l.invariant.3;
        vmax_is = λ i. (m i).0;
        vmin_is = λ i. (k i).0;
        most_light = λ i. (m i).1;
        least_light = λ i. (k i).1;
      },
    )
