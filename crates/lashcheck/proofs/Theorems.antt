-- The theorems of specs/Theorems hold.
use Rattle.lashcheck.specs.Theorems.{Theorems}
use Rattle.lashcheck.proofs.EmptyInput.{empty_input}
use Rattle.lashcheck.proofs.FirstBytes.{whole_input}

pub theorems : Theorems
theorems = record { first_452 = λ margin s bytes r. whole_input s r; empty_input = λ margin bytes r. empty_input r }
