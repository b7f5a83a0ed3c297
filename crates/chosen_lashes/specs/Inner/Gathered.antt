-- Contracts of inner functions: the lashes of a choice in arrays, by name. Nothing here need be believed.
use Rattle.std.specs.Prelude.{ℕ, List, map, length}
use Rattle.arith.specs.Lists.{padded}
use Rattle.sheet.specs.declared.Lash.{Lash}
use Rattle.sheet.specs.Layout.{blank_lash}
use Rattle.statics.specs.Lashes.{lash_length}
use Rattle.statics.specs.Inner.WholeNumbers.{stiffness_of}
use Rattle.statics.specs.Inner.Computed.{stiffnesses_of}
use Rattle.choices.specs.Choices.{chosen}
use Rattle.gear.specs.declared.Gear.{Gear}

-- lashes in arrays: with their lengths, their stiffnesses, and the sums of these by level
pub record Held : Type 0 where
  pub lashes : List Lash
  pub lengths : List ℕ
  pub stiffnesses : List ℕ
  pub levels : List ℕ
  pub count : ℕ

abbrev pub held_in : Gear → List ℕ → List ℕ → List ℕ → Held
held_in g lengths stiffnesses levels =
    record { lashes = g.lashes; lengths = lengths; stiffnesses = stiffnesses; levels = levels; count = g.count }

abbrev pub held_of : List Lash → Held
held_of ls =
    record {
      lashes = padded 8 blank_lash ls;
      lengths = padded 8 0 (map lash_length ls);
      stiffnesses = padded 8 0 (map stiffness_of ls);
      levels = stiffnesses_of ls;
      count = length ls;
    }

-- those that a choice uses
abbrev pub gathered : ℕ → List Lash → Held
gathered c ls = held_of (chosen c ls)
