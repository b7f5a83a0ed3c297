-- Document 02, P5: what the call for side walls says that is given a stack sheet s, a second short sheet p and a side buffer.
use Rattle.std.specs.Prelude.{Ok, Err, ℕ, List, ◌++◌, ◌≡◌, length, drop}
use Rattle.sheet.specs.Layout.{tier_count, sheet_of}
use Rattle.sheet.specs.Refusals.{Reading, refusal_of}
use Rattle.answer.specs.Outcomes.{Outcome}
use Rattle.answer.specs.Checked.{TurnedBack}
use Rattle.side_walls.specs.SideWalls.{side_bytes}
use Rattle.side_parts.specs.ShortSheets.{pitch_rows}

-- 13, 82: a side buffer under 82 bytes. After the stack sheet's own tests 14, then 15, then 13
abbrev pub longest_side : ℕ
longest_side = 82

abbrev pub side_refusal : List ℕ → List ℕ → ℕ → Reading
side_refusal s p room = refusal_of s (pitch_rows (tier_count s) p) longest_side room

-- answered: 0 and the side answer's length; the buffer holds its bytes, then what stood there
pub record SideAnswered (bytes before after : List ℕ) (r : Outcome) : Type 0 where
  pub taken : r ≡ Ok (length bytes)
  pub written : after ≡ bytes ++ drop (length bytes) before

-- by cases on a refusal, which leaves the buffer as it was
abbrev pub SidedAs : Reading → List ℕ → List ℕ → List ℕ → Outcome → Type 0
SidedAs (Err why) bytes before after r = TurnedBack why before after r
SidedAs (Ok _) bytes before after r = SideAnswered bytes before after r

-- the call with a side buffer that held `before`
pub record Sided (s p before after : List ℕ) (r : Outcome) : Type 0 where
  pub holds : SidedAs (side_refusal s p (length before)) (side_bytes (sheet_of s) p) before after r
