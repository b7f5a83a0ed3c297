-- The list by name: a function of the sheet's bytes, the gear section and the buffer; and what the steps of the call say. Nothing here
-- need be believed.
use Rattle.std.specs.Prelude.{ℕ, ◌<◌, ◌≤◌, List, [], ◌∷◌, ◌++◌, ◌≡◌, length, get_or}
use Rattle.sheet.specs.declared.Lash.{Lash}
use Rattle.sheet.specs.Refusals.{Reading}
use Rattle.sheet.specs.declared.Sheet.{Sheet}
use Rattle.sheet.specs.Fits.{Fits}
use Rattle.sheet.specs.Layout.{blank_lash, sheet_of}
use Rattle.sheet.specs.Inner.Limits.{LashLimits}
use Rattle.sheet.specs.Refusals.{row13, first}
use Rattle.statics.specs.Inner.Computed.{load_rule_of}
use Rattle.answer.specs.Outcomes.{Outcome}
use Rattle.answer.specs.Inner.Named.{answer_by, returned_as, written_as}
use Rattle.choices.specs.Choices.{chosen}
use Rattle.gear.specs.Gear.{gear_lashes, with_lashes}
use Rattle.arrangements.specs.Arrangements.{own_rows, longest_list, list_refusal, list_bytes}

-- the check's answer to a stack t with a choice of the lashes ls at both ends, and the list of the choices
abbrev pub answer_with : Sheet → List Lash → ℕ → List ℕ
answer_with t ls c = answer_by (load_rule_of t) (with_lashes (chosen c ls) t)

abbrev pub list_for : Sheet → List Lash → List ℕ
list_for t ls = list_bytes (answer_with t ls) (length ls)

-- m lashes aboard, of which no choice is refused
pub record Aboard (t : Sheet) (m : ℕ) (ls : List Lash) : Type 0 where
  pub few : m ≤ 8
  pub counted : length ls ≡ m
  pub each : (j : ℕ) → j < m → LashLimits 10 (get_or ls j blank_lash)
  pub fits : (c : ℕ) → Fits (with_lashes (chosen c ls) t)

-- what a taken sheet may still be turned back for; what is left of it once the gear section is taken too
abbrev pub gear_reading : Sheet → List ℕ → ℕ → Reading
gear_reading t g room = first (own_rows t g ++ (row13 longest_list room ∷ []))

abbrev pub room_reading : ℕ → Reading
room_reading room = first (row13 longest_list room ∷ [])

-- what is returned and written, by a refusal
pub record Settled (q : Reading) (bytes before after : List ℕ) (r : Outcome) : Type 0 where
  pub returns : r ≡ returned_as q bytes
  pub writes : after ≡ written_as q bytes before

-- of a sheet's bytes and a gear section's
unfoldable pub list_returned : List ℕ → List ℕ → ℕ → Outcome
list_returned s g room = returned_as (list_refusal s g room) (list_for (sheet_of s) (gear_lashes g))

unfoldable pub list_written : List ℕ → List ℕ → List ℕ → List ℕ
list_written s g before = written_as (list_refusal s g (length before)) (list_for (sheet_of s) (gear_lashes g)) before
