-- What is proved of the call for side walls.
use Rattle.std.specs.Prelude.{Ok, ℕ, ◌+◌, ◌*◌, ◌<◌, List, ◌≡◌, length}
use Rattle.arith.specs.Bytes.{byte_at, le4}
use Rattle.sheet.specs.declared.Sheet.{Sheet}
use Rattle.sheet.specs.Layout.{sheet_of}
use Rattle.answer.specs.Outcomes.{Outcome}
use Rattle.side_walls.specs.SideWalls.{reported_racking, reported_shift, side_verdict}
use Rattle.side.specs.Sides.{side_refusal, Sided}

-- where each number of a side answer lies, and what is read back from there; tiers are counted from 0
pub record SideReadBack (t : Sheet) (p : List ℕ) (side : List ℕ) : Type 0 where
  pub verdict : byte_at side 0 ≡ side_verdict t p
  pub count : byte_at side 1 ≡ t.ntiers
  pub racking : (i : ℕ) → i < t.ntiers → le4 side (2 + 8 * i) ≡ reported_racking t p i
  pub shift : (i : ℕ) → i < t.ntiers → le4 side (2 + 8 * i + 4) ≡ reported_shift t p i

-- of every pair of sheets that is taken: the length returned, and every number of the buffer (proofs/ReadBack)
abbrev pub AllReadBack : Type 0
AllReadBack =
    (s p before after : List ℕ) (r : Outcome) →
    side_refusal s p (length before) ≡ Ok tt →
    Sided s p before after r →
    (r ≡ Ok (2 + 8 * (sheet_of s).ntiers)) × SideReadBack (sheet_of s) p after
