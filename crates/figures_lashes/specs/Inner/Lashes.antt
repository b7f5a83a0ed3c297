-- Contracts of inner functions: what is found of an end's lashes before and after the springs are solved. Nothing here need be believed.
use Rattle.std.specs.Prelude.{◌≡◌, List, ℕ, suc, ◌^◌, ◌≤◌, eqb, get_or, length}
use Rattle.sheet.specs.declared.Lash.{Lash}
use Rattle.sheet.specs.declared.Lashing.{Lashing}
use Rattle.sheet.specs.Layout.{blank_lash}
use Rattle.statics.specs.Lashes.{lash_length}
use Rattle.statics.specs.Inner.WholeNumbers.{Filled, stiffness_of, level_stiffness, pull_figure, athwart_figure, vertical_figure, upwards}
use Rattle.lash_forces.specs.Inner.OneLash.{corner_of}

-- lengths and stiffnesses of m lashes
pub record LashesMeasured (m : ℕ) (ls : List Lash) (lengths stiffnesses : List ℕ) : Type 0 where
  pub long : Filled 8 0 m (λ j. lash_length (get_or ls j blank_lash)) lengths
  pub stiff : Filled 8 0 m (λ j. stiffness_of (get_or ls j blank_lash)) stiffnesses

-- the stiffness of all lashes at each level over the deck
abbrev pub LevelStiffnesses : List Lash → List ℕ → Type 0
LevelStiffnesses ls levels = (i : ℕ) → get_or levels i 0 ≡ level_stiffness ls (suc i)

-- the figures of m lashes at the shifts d
pub record LashesFigured (m : ℕ) (ls : List Lash) (d tension athwart vertical : List ℕ) : Type 0 where
  pub lash_tension_is : Filled 8 0 m (λ j. pull_figure d (get_or ls j blank_lash)) tension
  pub athwart_is : Filled 8 0 m (λ j. athwart_figure d (get_or ls j blank_lash)) athwart
  pub vertical_is : Filled 8 0 m (λ j. vertical_figure d (get_or ls j blank_lash)) vertical

-- the vertical parts of the lashes on a post at each corner
pub record VerticalsOn (post : Lashing → ℕ → ℕ) (ls : List Lash) (d r : List ℕ) : Type 0 where
  pub each : (i : ℕ) → get_or r i 0 ≡ upwards post (λ l. eqb i (corner_of l)) d ls
  pub small : (i : ℕ) → get_or r i 0 ≤ 2 ^ 57
  pub long : length r ≡ 22
