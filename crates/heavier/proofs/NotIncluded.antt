-- Why racking and corner tension are not included, computed from the definitions.
use mathlib.Core.Bool.{Bool, true, false}
use mathlib.Core.List.{List, [], ◌∷◌}
use mathlib.Core.Path.{◌≡◌, refl}
use Prim.Native.Nat.{ℕ, zero, suc, ◌<◌}
use native.Mathlib.Omega.{arith}
use lib.Dec.{lit≤}
use Rattle.arith.specs.Fractions.{Frac, nat, ◌-q◌, ◌/q◌, recip, sumq, ◌≈◌, ◌⊏◌}
use Rattle.arith.proofs.FractionLaws.{≈-trans}
use Rattle.sheet.specs.declared.Sheet.{Sheet}
use Rattle.sheet.specs.Layout.{tier_fits, breaking_fits, lash_fits}
use Rattle.sheet.specs.Refusals.{off_tiers}
use Rattle.sheet.specs.Fits.{tier_at, lash_at, EndFits, Fits}
use Rattle.sheet.specs.Lashings.{level_of}
use Rattle.sheet.specs.Ends.{door, closed, tiers_of, lashes_of}
use Rattle.sheet.proofs.SheetLimits.{sheet_limits}
use Rattle.springs.specs.Equations as S
use Rattle.springs.specs.Equations.{shift}
use Rattle.springs.proofs.OneSolution.{same_racking}
use Rattle.statics.specs.Loads.{weight, transverse, vertical_force, wind, load, rule_of}
use Rattle.statics.specs.Lashes.{pull, athwart_part}
use Rattle.statics.specs.Ends.{chain_tiers, chain_lash, end_tiers, end_lashes, EndSolved}
use Rattle.statics.specs.Forces.{racking}
use Rattle.statics.specs.Posts.{level_height, turning, moment, at_most, tension}
use Rattle.statics.specs.Theorems.{HeavierTier}
use Rattle.statics.proofs.OneSolution.{unique}
use Rattle.answer.proofs.Table.{length_s}
use Rattle.heavier.specs.Heavier.{HeavierSheet}
use Rattle.heavier.specs.NotIncluded.{over, light, heavy, ForceIs, racking_light, racking_heavy, tension_light, tension_heavy}
use Rattle.heavier.specs.NotIncluded.{NotIncluded}

-- within the limits
tiers_fit : (mass : ℕ) → tier_fits (tier_at (over mass).tiers 0) ≡ true → (k : ℕ) → k < 2 → tier_fits (tier_at (over mass).tiers k) ≡ true
unfolding tier_fits
tiers_fit mass f zero h = f
tiers_fit mass f (suc zero) h = refl
tiers_fit mass f (suc (suc k)) h = absurd (omega arith)

sizes_same : (mass k : ℕ) → k < 2 → (tier_at (over mass).tiers k).size ≡ 40
sizes_same mass zero h = refl
sizes_same mass (suc zero) h = refl
sizes_same mass (suc (suc k)) h = absurd (omega arith)

bare : (mass : ℕ) → EndFits 2 (over mass).door 0
bare mass =
    record {
      few = omega arith;
      fits = λ k h. absurd (omega arith);
      placed = λ k h. absurd (omega arith);
      ordered = λ k h. absurd (omega arith);
    }

lashed : (mass : ℕ) → EndFits 2 (over mass).closed 1
unfolding lash_fits breaking_fits off_tiers
lashed mass = record { few = omega arith; fits = fits; placed = placed; ordered = λ k h. absurd (omega arith) }
  where
    fits : (k : ℕ) → k < 1 → lash_fits (lash_at (over mass).closed k) ≡ true
    fits zero h = refl
    fits (suc k) h = absurd (omega arith)

    placed : (k : ℕ) → k < 1 → off_tiers 2 (lash_at (over mass).closed k) ≡ false
    placed zero h = refl
    placed (suc k) h = absurd (omega arith)

sheet_fits : (mass : ℕ) → tier_fits (tier_at (over mass).tiers 0) ≡ true → Fits (over mass)
unfolding breaking_fits
sheet_fits mass f =
    record {
      rule = refl;
      zero = refl;
      route = omega arith;
      lock = omega arith;
      breaking = refl;
      some = omega arith;
      few = omega arith;
      tiers = tiers_fit mass f;
      sizes = sizes_same mass;
      door = bare mass;
      closed = lashed mass;
    }

light_fits : Fits light
unfolding tier_fits
light_fits = sheet_fits _ refl

heavy_fits : Fits heavy
unfolding tier_fits
heavy_fits = sheet_fits _ refl

heavier : HeavierSheet light heavy
heavier = record { same = refl; tiers = tiers }
  where
    tiers : (k : ℕ) → k < 2 → HeavierTier (tier_at light.tiers k) (tier_at heavy.tiers k)
    tiers zero h = record { same = refl; mass = lit≤ tt }
    tiers (suc zero) h = record { same = refl; mass = lit≤ tt }
    tiers (suc (suc k)) h = absurd (omega arith)

-- over the light box, and over the heavy one
abbrev sheet : Bool → Sheet
sheet false = light
sheet true = heavy

-- the shifts of the closed end
abbrev shifts : Bool → List Frac
shifts false = (nat 45082509 /q nat 20982760) ∷ (nat 97773 /q nat 40120) ∷ []
shifts true = (nat 10812909 /q nat 4196552) ∷ (nat 21909 /q nat 8024) ∷ []

abbrev Balanced : Bool → ℕ → Type 0
Balanced b i =
    let ts = end_tiers (rule_of (sheet b)) closed (sheet b) in
    S.racking ts (shifts b) i ≈ (S.tier_at ts i).Q -q S.athwart_from (end_lashes closed (sheet b)) (shifts b) (suc i)

balanced : (b : Bool) (i : ℕ) → i < 2 → Balanced b i
unfolding shift sumq recip chain_tiers load transverse weight wind chain_lash athwart_part pull level_of
balanced false zero h = rw (length_s 2) (record { cross = refl })
balanced false (suc zero) h = rw (length_s 2) (record { cross = refl })
balanced true zero h = rw (length_s 2) (record { cross = refl })
balanced true (suc zero) h = rw (length_s 2) (record { cross = refl })
balanced b (suc (suc i)) h = absurd (omega arith)

solved : (b : Bool) → EndSolved (rule_of (sheet b)) closed (sheet b) (shifts b)
unfolding chain_tiers
solved false = record { solves = record { levels = refl; balance = balanced false } }
solved true = record { solves = record { levels = refl; balance = balanced true } }

abbrev rackings : Bool → Frac
rackings false = racking_light
rackings true = racking_heavy

racked : (b : Bool) → S.racking (end_tiers (rule_of (sheet b)) closed (sheet b)) (shifts b) 1 ≈ rackings b
unfolding shift recip chain_tiers
racked false = record { cross = refl }
racked true = record { cross = refl }

-- at one solution, so at every solution
every_racking : (b : Bool) → Fits (sheet b) → ForceIs racking (sheet b) closed 1 (rackings b)
every_racking b f Ds s =
    let ts = end_tiers (rule_of (sheet b)) closed (sheet b) in
    ≈-trans (S.racking ts Ds 1) (S.racking ts (shifts b) 1) (rackings b)
    (same_racking ts Ds (shifts b) (unique (rule_of (sheet b)) closed (sheet_limits f) s (solved b)) 1) (racked b)

-- the door end has no lash: the shifts do not enter
abbrev tensions : Bool → Frac
tensions false = tension_light
tensions true = tension_heavy

pulled : (b : Bool) (Ds : List Frac) → tension (rule_of (sheet b)) (tiers_of (sheet b)) (lashes_of door (sheet b)) Ds 0 ≈ tensions b
unfolding tension at_most moment turning transverse vertical_force weight wind sumq recip level_height
pulled false Ds = record { cross = refl }
pulled true Ds = record { cross = refl }

racking_lower : racking_heavy ⊏ racking_light
unfolding recip
racking_lower = record { cross = record { lt = tt } }

racking_leeward : nat 0 ⊏ racking_heavy
unfolding recip
racking_leeward = record { cross = record { lt = tt } }

tension_lower : tension_heavy ⊏ tension_light
unfolding recip
tension_lower = record { cross = record { lt = tt } }

pub not_included : NotIncluded
not_included =
    record {
      light_fits = light_fits;
      heavy_fits = heavy_fits;
      heavier = heavier;
      racking_light_lem = every_racking false light_fits;
      racking_heavy_lem = every_racking true heavy_fits;
      racking_lower = racking_lower;
      racking_leeward = racking_leeward;
      tension_light_lem = λ Ds s. pulled false Ds;
      tension_heavy_lem = λ Ds s. pulled true Ds;
      tension_lower = tension_lower;
    }
