-- Whole numbers in bytes, the least byte first; signed ones in two's complement of 32 bits.
use Rattle.std.specs.Prelude.{ℕ, suc, ◌+◌, ◌*◌, ◌-◌, ◌/◌, ◌%◌, cond, List, [], ◌∷◌, ltb, ℤ, pos, negsuc, ◌-ℤ◌, get_or}

-- the byte at `at`; one past the end reads 0
abbrev pub byte_at : List ℕ → ℕ → ℕ
byte_at s at = get_or s at 0

-- the number whose two bytes, least first, stand at `at`
abbrev pub le2 : List ℕ → ℕ → ℕ
le2 s at = byte_at s at + 256 * byte_at s (at + 1)

-- the number whose four bytes stand at `at`
abbrev pub le4 : List ℕ → ℕ → ℕ
le4 s at = le2 s at + 65536 * le2 s (at + 2)

-- a number's bytes, least first: of a number below 2^16, of a number below 2^32
abbrev pub bytes2 : ℕ → List ℕ
bytes2 v = v % 256 ∷ v / 256 % 256 ∷ []

abbrev pub bytes4 : ℕ → List ℕ
bytes4 v = v % 256 ∷ v / 256 % 256 ∷ v / 65536 % 256 ∷ v / 16777216 % 256 ∷ []

-- a signed number's 32 bits in two's complement, and the number whose bits they are
unfoldable pub twos : ℤ → ℕ
twos (pos n) = n
twos (negsuc n) = 4294967296 - suc n

unfoldable pub of_twos : ℕ → ℤ
of_twos v = cond (ltb v 2147483648) (pos v) (pos v -ℤ pos 4294967296)

-- the signed number whose four bytes stand at `at`
abbrev pub signed4 : List ℕ → ℕ → ℤ
signed4 s at = of_twos (le4 s at)
