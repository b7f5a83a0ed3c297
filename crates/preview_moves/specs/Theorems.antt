-- What is proved of previews.
use Rattle.std.specs.Prelude.{Ok, Err, ℕ, ◌+◌, ◌-◌, ◌<◌, ◌≤◌, true, false, List, [], ◌∷◌, ◌≡◌, length}
use Rattle.arith.specs.Bytes.{byte_at, le2}
use Rattle.sheet.specs.Refusals.{Reading}
use Rattle.sheet.specs.Layout.{tier_count, tier_place, within, sheet_of}
use Rattle.sheet.specs.Refusals.{row7, first, sheet_rows, refusal_of, longest_answer, refusal}
use Rattle.answer.specs.Outcomes.{Outcome}
use Rattle.preview_moves.specs.Previews.{mass_place, with_mass, row17, move_refusal, Previewed}
use Rattle.preview_moves.specs.Inner.Moved.{moved}
use Rattle.sheet.specs.Refusals.{numbers}

-- the copy is the sheet but for the two bytes of a mass, and holds what the sheet holds with the mass put in; a mass from 1 to 30,480 has
-- it taken, any other has it refused with 7 at its tier
pub record CopyOf (s : List ℕ) (tier mass : ℕ) : Type 0 where
  pub size : length (with_mass tier mass s) ≡ length s
  pub put : le2 (with_mass tier mass s) (mass_place tier) ≡ mass
  pub before : (i : ℕ) → i < mass_place tier → byte_at (with_mass tier mass s) i ≡ byte_at s i
  pub behind : (i : ℕ) → mass_place tier + 2 ≤ i → byte_at (with_mass tier mass s) i ≡ byte_at s i
  pub holds : sheet_of (with_mass tier mass s) ≡ moved (tier - 1) mass (sheet_of s)
  pub taken : within 1 30480 mass ≡ true → first (sheet_rows (with_mass tier mass s)) ≡ Ok tt
  pub refused : within 1 30480 mass ≡ false → first (sheet_rows (with_mass tier mass s)) ≡ Err (numbers 7 (tier_place (tier - 1)))

-- of every taken sheet, for each tier that it has (proofs/Copies)
abbrev pub Copies : Type 0
Copies = (s : List ℕ) (tier mass : ℕ) → first (sheet_rows s) ≡ Ok tt → 1 ≤ tier → tier ≤ tier_count s → mass < 65536 → CopyOf s tier mass

-- what turns a preview back in all: what does so before the new mass is looked at, or else what the check of the copy is turned back for
abbrev pub or_copy : Reading → Reading → Reading
or_copy (Ok _) r = r
or_copy (Err why) r = Err why

-- that is the first of these rows: the sheet's own, 17, 7 at the tier by the new mass, 13 (proofs/Order)
abbrev pub RefusedInOrder : Type 0
RefusedInOrder =
    (s : List ℕ) (tier mass room : ℕ) →
    mass < 65536 →
    or_copy (move_refusal s tier) (refusal (with_mass tier mass s) room) ≡
    refusal_of s (row17 s tier ∷ row7 (with_mass tier mass s) (tier - 1) ∷ []) longest_answer room

-- what holds within a margin holds within any wider one (proofs/TwoNumbers)
abbrev pub Wider : Type 0
Wider =
    (m n : ℕ) →
    m ≤ n →
    (s : List ℕ) (tier mass : ℕ) (before after : List ℕ) (r : Outcome) →
    Previewed m s tier mass before after r →
    Previewed n s tier mass before after r
