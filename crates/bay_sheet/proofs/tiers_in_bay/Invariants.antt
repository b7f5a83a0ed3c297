-- `bay_sheet::tiers_in_bay`: after k turns the first k tiers are there, then blanks, and `top` is their height (Tiers).
use Prim.Native.Nat.{◌+◌, ◌≤◌, ◌*◌}
use mathlib.Core.List.{map}
use mathlib.Core.Path.{◌≡◌}
use lib.ListN.{length}
use Rattle.arith.specs.Lists.{below, padded}
use Rattle.sheet.specs.Layout.{tier_count, tiers_in, blank_tier}
use Rattle.bay_wind.specs.Exposure.{height_of}
use Rattle.bay_sheet.proofs.Tiers.{tier_under}
use Rattle.bay_sheet.proofs.tiers_in_bay.Given as goal

abbrev pub invariant-loop-k : goal.invariant-loop-k
invariant-loop-k l =
    record {
      few : l.n ≤ 10;
      there : 9 + 12 * l.n ≤ length l.row;
      top : l.top ≡ height_of (tiers_in l.row (tier_count l.row)) l.k;
      small : l.top ≤ 65535 * l.k;
      tiers : l.tiers ≡ padded 10 blank_tier (map (tier_under l.cover (tiers_in l.row (tier_count l.row))) (below l.k));
    }
