-- What the call lash_roll says: accelerations or a refusal, packed in one number. Its first number is in the low 8 bits.
use Rattle.std.specs.Prelude.{Ok, Err, ℕ}
use Rattle.roll.specs.Rounded.{Rolled}
use Rattle.packing.specs.AccelerationsIn.{AccelerationsIn}
use Rattle.packing.specs.RefusalIn.{RefusalIn}

abbrev pub RolledIn : Rolled → ℕ → Type 0
RolledIn (Ok a) r = AccelerationsIn a r
RolledIn (Err why) r = RefusalIn why r
