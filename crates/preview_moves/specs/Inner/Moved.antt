-- A preview by name, as an equation with the check of the copy; and what its steps say: the decoded sheet with the new mass, its answer.
use Rattle.std.specs.Prelude.{ℕ, ◌-◌, not, ◌||◌, List, [], ◌∷◌, ◌≡◌, length, set}
use Rattle.sheet.specs.declared.Tier.{Tier}
use Rattle.sheet.specs.declared.Sheet.{Sheet}
use Rattle.sheet.specs.Refusals.{Reading}
use Rattle.sheet.specs.Layout.{tier_place, within, ◌is◌, ◌above◌}
use Rattle.sheet.specs.Fits.{tier_at}
use Rattle.sheet.specs.Refusals.{Row, row, row13, first, longest_answer}
use Rattle.sheet.specs.Inner.Changed.{with_tiers}
use Rattle.statics.specs.Inner.Computed.{load_rule_of}
use Rattle.answer.specs.Outcomes.{Outcome}
use Rattle.answer.specs.Inner.Named.{answer_by, returned_as, written_as, returned, written}
use Rattle.preview_moves.specs.Previews.{with_mass, move_refusal, UnlessTurnedBack}

-- what the check returns and writes on the copy
abbrev pub AsChecked : List ℕ → ℕ → ℕ → List ℕ → List ℕ → Outcome → Type 0
AsChecked s tier mass before after r =
    UnlessTurnedBack (move_refusal s tier) before after r
    ((r ≡ returned (with_mass tier mass s) (length before)) × (after ≡ written (with_mass tier mass s) before))

-- a tier with another mass, and a sheet whose k-th tier, from 0, has it
abbrev pub weighing : ℕ → Tier → Tier
weighing mass t =
    record {
      size = t.size;
      wind = t.wind;
      height = t.height;
      mass = mass;
      aT = t.aT;
      aVmax = t.aVmax;
      aVmin = t.aVmin;
    }

abbrev pub moved : ℕ → ℕ → Sheet → Sheet
moved k mass t = with_tiers (set t.tiers k (weighing mass (tier_at t.tiers k))) t

-- the answer to a decoded sheet with the new mass: 17, then 7 for the mass, then 13
abbrev pub tier_row : Sheet → ℕ → Row
tier_row t tier = row 17 tier (tier is 0 || tier above t.ntiers)

abbrev pub mass_row : ℕ → ℕ → Row
mass_row tier mass = row 7 (tier_place (tier - 1)) (not (within 1 30480 mass))

abbrev pub moved_refusal : Sheet → ℕ → ℕ → ℕ → Reading
moved_refusal t tier mass room = first (tier_row t tier ∷ mass_row tier mass ∷ row13 longest_answer room ∷ [])

abbrev pub moved_bytes : Sheet → ℕ → ℕ → List ℕ
moved_bytes t tier mass = let copy = moved (tier - 1) mass t in answer_by (load_rule_of copy) copy

abbrev pub Answers : Sheet → ℕ → ℕ → List ℕ → List ℕ → Outcome → Type 0
Answers t tier mass before after r =
    let refusal = moved_refusal t tier mass (length before) in
    let bytes = moved_bytes t tier mass in
    (r ≡ returned_as refusal bytes) × (after ≡ written_as refusal bytes before)
