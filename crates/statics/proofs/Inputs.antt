-- The solver's inputs, in whole numbers, for an end of a taken sheet: within the solver's limits, and near the exact chain of that end.
use mathlib.Core.Path.{◌≡◌, sym, subst}
use mathlib.Core.List.{List}
use Prim.Native.Nat.{ℕ, suc, ◌≤◌, ◌<◌}
use native.Mathlib.Omega.{arith}
use lib.Dec.{lit≤}
use lib.ListN.{get_or, length}
use Rattle.sheet.specs.Layout.{turned, blank_tier}
use Rattle.arith.specs.Fractions.{nat, ◌≈◌}
use Rattle.arith.proofs.FractionLaws.{≈-refl}
use Rattle.springs.specs.Inner.Promise.{Near, Solvable, most_held, most_loaded}
use Rattle.springs.proofs.Inputs.{rounded_more}
use Rattle.sheet.specs.declared.Tier.{Tier}
use Rattle.sheet.specs.declared.Sheet.{Sheet}
use Rattle.statics.specs.declared.LoadRule.{LoadRule}
use Rattle.statics.specs.Loads.{Rule, StandsFor}
use Rattle.statics.specs.Ends.{spring_of, end_tiers, end_lashes}
use Rattle.sheet.specs.Ends.{End, door, closed, tiers_of, lashes_of}
use Rattle.statics.specs.Inner.WholeNumbers.{level_stiffness, level_load}
use Rattle.statics.specs.Inner.Computed.{springs_of, stiffnesses_of, loads_of}
use Rattle.sheet.specs.Inner.Limits.{SheetLimits}
use Rattle.statics.proofs.Arrays.{entry_at, padded_at}
use Rattle.statics.proofs.LevelStiffness.{level_most, level_rounded}
use Rattle.statics.proofs.LevelLoads.{load_most}
use Rattle.statics.proofs.EndChain.{tier_limits, either, end_each, end_length, end_spring, end_stiff, end_loaded}

pub spring_least : (e : End) (u : Tier) → 3730 ≤ spring_of e u
spring_least door u = either (λ k. 3730 ≤ k) (turned u) (lit≤ tt) (lit≤ tt)
spring_least closed u = either (λ k. 3730 ≤ k) (turned u) (lit≤ tt) (lit≤ tt)

pub spring_most : (e : End) (u : Tier) → spring_of e u ≤ 15690
spring_most door u = either (λ k. k ≤ 15690) (turned u) (lit≤ tt) (lit≤ tt)
spring_most closed u = either (λ k. k ≤ 15690) (turned u) (lit≤ tt) (lit≤ tt)

module _ {rule : Rule} {c : LoadRule} (stands : StandsFor c rule) (e : End) {t : Sheet} (f : SheetLimits t) where
  abbrev tier : ℕ → Tier
  tier i = get_or (tiers_of t) i blank_tier

  abbrev k : List ℕ
  k = springs_of e (tiers_of t)

  abbrev κ : List ℕ
  κ = stiffnesses_of (lashes_of e t)

  abbrev ω : List ℕ
  ω = loads_of c (tiers_of t)

  inside : (i : ℕ) → i < t.ntiers → i < 10
  inside i l = omega (arith, f.few)

  pub spring_at_lem : (i : ℕ) → i < t.ntiers → get_or k i 0 ≡ spring_of e (tier i)
  spring_at_lem i l = entry_at (λ i. spring_of e (tier i)) 0 10 i (inside i l)

  held_at : (i : ℕ) → i < t.ntiers → get_or κ i 0 ≡ level_stiffness (lashes_of e t) (suc i)
  unfolding stiffnesses_of
  held_at i l = entry_at (λ i. level_stiffness (lashes_of e t) (suc i)) 0 10 i (inside i l)

  loaded_at : (i : ℕ) → i < t.ntiers → get_or ω i 0 ≡ level_load c.share c.factor (tier i) (tier (suc i))
  unfolding loads_of
  loaded_at i l =
      padded_at (λ i. level_load c.share c.factor (tier i) (tier (suc i))) 0 10 (length (tiers_of t)) i (omega (arith, f.tiers))

  held_most : (i : ℕ) → i < t.ntiers → get_or κ i 0 ≤ most_held
  held_most i l =
      rw (held_at i l)
      (omega (arith, level_most t.ntiers (lashes_of e t) (end_each e f) (suc i), (f.ends e).each_level (suc i)))

  loaded_most : (i : ℕ) → i < t.ntiers → get_or ω i 0 ≤ most_loaded
  loaded_most i l =
      rw (loaded_at i l)
      (load_most c.share c.factor (tier i) (tier (suc i)) stands.share_most stands.factor_most (tier_limits f i)
      (tier_limits f (suc i)))

  pub solvable : Solvable t.ntiers k κ ω
  solvable =
      record {
        few = f.few;
        springs = λ i l. rw (spring_at_lem i l) (spring_least e (tier i), spring_most e (tier i));
        held = held_most;
        loaded = loaded_most;
      }

  pub near : Near t.ntiers k κ ω (end_tiers rule e t) (end_lashes e t)
  near =
      record {
        tiers = end_length rule e t f;
        stiff = end_stiff rule e t f;
        spring =
            λ i l.
            rw (spring_at_lem i l)
            (subst (λ z. z ≈ nat (spring_of e (tier i))) (sym (end_spring rule e t f i l)) (≈-refl (nat (spring_of e (tier i)))));
        held =
            λ i l.
            rw (held_at i l)
            (rounded_more _ _ _ _ _ ((f.ends e).each_level (suc i)) (level_rounded t.ntiers (lashes_of e t) (end_each e f) (suc i)));
        loaded = λ i l. rw (loaded_at i l) (rounded_more _ 1 4 _ _ (omega arith) (end_loaded rule c stands e t i));
      }
