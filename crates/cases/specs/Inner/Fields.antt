-- Contracts of inner functions; nothing here need be believed. An answer held to the fields of its case.
use Rattle.std.specs.Prelude.{◌&&◌, cond, Option, Some, None, Result, Ok, Err, List, ℕ, zero, suc, ◌+◌, ◌-◌, ltb, leb, eqb, take, drop, length}
use Rattle.std.specs.Option.{option_map_or}
use Rattle.arith.specs.Bytes.{byte_at, le4}

-- the size of a number x that is within its bounds
abbrev pub size_if : ℕ → ℕ → ℕ → ℕ → Option ℕ
size_if size x least most = cond (leb least x && leb x most) (Some size) None

-- the size of the number at `place` of the buffer, if it is there and within the bounds of the field
unfoldable pub size_within : List ℕ → List ℕ → ℕ → Option ℕ
size_within field buffer place =
    cond (ltb (length buffer - place) (byte_at field 0)) None
    (cond (eqb (byte_at field 0) 1) (size_if (byte_at field 0) (byte_at buffer place) (le4 field 1) (le4 field 5))
    (cond (eqb (byte_at field 0) 4) (size_if (byte_at field 0) (le4 buffer place) (le4 field 1) (le4 field 5)) None))

-- the first `left` fields of `fields`, for the numbers from `place` on, which end at n: the place where the answer first differs
unfoldable pub held_from : List ℕ → ℕ → ℕ → List ℕ → ℕ → Result Unit ℕ
held_from buffer n zero fields place = cond (eqb place n) (Ok tt) (Err place)
held_from buffer n (suc left) fields place =
    option_map_or (λ size. held_from buffer n left (drop 9 fields) (place + size)) (size_within (take 9 fields) buffer place) (Err place)
