-- A refusal as a line of text.
use Rattle.std.specs.Prelude.{ℕ, List, [], ◌∷◌, ◌++◌, ◌≡◌}
use Rattle.io.specs.Digits.{last_digits, IsDigitCount}

-- the text of n in decimal, in ASCII, with no zero in front
pub record Decimal (n : ℕ) (text : List ℕ) : Type 0 where
  pub count : ℕ
  pub fewest : IsDigitCount 10 1 n count
  pub spelled : text ≡ last_digits 10 count n

-- two numbers in decimal, one blank between them, and a line end
pub record Line (number second : ℕ) (text : List ℕ) : Type 0 where
  pub left : List ℕ
  pub right : List ℕ
  pub left_in : Decimal number left
  pub right_in : Decimal second right
  pub whole : text ≡ left ++ (32 ∷ []) ++ right ++ (10 ∷ [])
