-- Contracts of inner functions; nothing here need be believed. The parts of a case that stands at the front of an input s.
use Rattle.std.specs.Prelude.{◌≡◌, List, ℕ, ◌+◌, ◌*◌, ◌≤◌, take, drop, length}
use Rattle.arith.specs.Bytes.{byte_at, le2}
use Rattle.cases.specs.declared.layout.Case.{Case}

-- the lengths that its head gives: of its name, of its sheet, of its answer buffer, of its fields
module _ (s : List ℕ) where
  abbrev pub name_length : ℕ
  name_length = byte_at s 0

  abbrev pub sheet_length : ℕ
  sheet_length = le2 s 1

  abbrev pub room_length : ℕ
  room_length = le2 s 3

  abbrev pub fields_length : ℕ
  fields_length = 9 * le2 s 5

  -- where its sheet and its fields stand, and where it ends
  abbrev pub sheet_place : ℕ
  sheet_place = 7 + name_length

  abbrev pub fields_place : ℕ
  fields_place = sheet_place + sheet_length

  abbrev pub end_place : ℕ
  end_place = fields_place + fields_length

  -- all of it is there and its answer buffer at most 1,024 bytes
  pub record IsWhole : Type 0 where
    pub head : 7 ≤ length s
    pub room : room_length ≤ 1024
    pub end : end_place ≤ length s

  -- the case, and what follows it
  pub record IsCase (c : Case) (behind : List ℕ) : Type 0 where
    pub name : c.name.now ≡ take name_length (drop 7 s)
    pub sheet : c.sheet.now ≡ take sheet_length (drop sheet_place s)
    pub fields : c.fields.now ≡ take fields_length (drop fields_place s)
    pub room : c.room ≡ room_length
    pub rest : behind ≡ drop end_place s
