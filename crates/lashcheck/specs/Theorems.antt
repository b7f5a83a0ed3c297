-- Theorems of the program, stated; proofs/Theorems shows that they hold.
use Rattle.std.specs.Prelude.{ℕ, List, [], ◌∷◌, ◌≡◌, take}
use Rattle.lashcheck.specs.Replies.{Reply}

pub record Theorems : Type 0 where
  -- what is written for the first 452 bytes of an input is what would be written for all of it
  pub first_452 : (margin : ℕ) (s bytes : List ℕ) → Reply margin (take 452 s) bytes → Reply margin s bytes
  -- document 01's example: for an empty input, 1 0 and a line end
  pub empty_input : (margin : ℕ) (bytes : List ℕ) → Reply margin [] bytes → bytes ≡ 49 ∷ 32 ∷ 48 ∷ 10 ∷ []
