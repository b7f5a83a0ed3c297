-- Contracts of inner functions: what is given of the gear, and the accepted choices by name. Nothing here need be believed.
use Rattle.std.specs.Prelude.{ℕ, ◌<◌, ◌≤◌, List, ◌≡◌, length, get_or}
use Rattle.sheet.specs.declared.Lash.{Lash}
use Rattle.sheet.specs.declared.Sheet.{Sheet}
use Rattle.sheet.specs.Fits.{Fits}
use Rattle.sheet.specs.Layout.{blank_lash}
use Rattle.sheet.specs.Inner.Limits.{LashLimits}
use Rattle.figures_lashes.specs.Inner.Lashes.{LashesMeasured}
use Rattle.choices.specs.Choices.{chosen, choices, those}
use Rattle.gear.specs.Gear.{with_lashes}
use Rattle.arrangements_judge.specs.Inner.Judged.{accepted_with}

-- m lashes ls with their lengths and stiffnesses, of which no choice is refused
pub record GearGiven (t : Sheet) (m : ℕ) (ls : List Lash) (lengths stiffnesses : List ℕ) : Type 0 where
  pub few : m ≤ 8
  pub counted : length ls ≡ m
  pub each : (j : ℕ) → j < m → LashLimits 10 (get_or ls j blank_lash)
  pub measured : LashesMeasured m ls lengths stiffnesses
  pub fits : (c : ℕ) → Fits (with_lashes (chosen c ls) t)

-- the accepted choices of m lashes ls, in their order
unfoldable pub accepted_choices : Sheet → List Lash → ℕ → List ℕ
accepted_choices t ls m = those (λ c. accepted_with (chosen c ls) t) (choices m)
