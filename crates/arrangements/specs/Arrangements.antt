-- Document 02, P13: what the call for arrangements says that is given a stack sheet s, a gear section g and a list buffer.
use Rattle.std.specs.Prelude.{Ok, Err, ℕ, ◌<◌, ◌^◌, List, ◌∷◌, ◌++◌, ◌≡◌, length, drop}
use Rattle.arith.specs.Bytes.{byte_at, bytes2}
use Rattle.sheet.specs.Refusals.{Reading}
use Rattle.sheet.specs.declared.Sheet.{Sheet}
use Rattle.sheet.specs.Layout.{sheet_of, ◌is◌}
use Rattle.sheet.specs.Refusals.{Row, refusal_of}
use Rattle.statics.specs.Loads.{rule_of}
use Rattle.answer.specs.Outcomes.{Outcome}
use Rattle.answer.specs.Checked.{AnswerTo, TurnedBack}
use Rattle.choices.specs.Choices.{chosen, choices, those}
use Rattle.gear.specs.Gear.{gear_count, gear_lashes, row24, gear_rows, with_lashes}

-- after the stack sheet's own tests 24, then those of the gear section, for the sheet's tiers
abbrev pub own_rows : Sheet → List ℕ → List Row
own_rows t g = row24 t ∷ gear_rows t.ntiers g

-- 13, 258: a list buffer under 258 bytes
abbrev pub longest_list : ℕ
longest_list = 258

abbrev pub list_refusal : List ℕ → List ℕ → ℕ → Reading
list_refusal s g room = refusal_of s (own_rows (sheet_of s) g) longest_list room

-- the stack with the lashes of a choice c used alike at both ends
abbrev pub with_choice : List ℕ → List ℕ → ℕ → Sheet
with_choice s g c = with_lashes (chosen c (gear_lashes g)) (sheet_of s)

-- the accepted ones of all choices of m lashes, in their order: those whose answer has the verdict 0
abbrev pub accepted_by : (ℕ → List ℕ) → ℕ → List ℕ
accepted_by answer m = those (λ c. byte_at (answer c) 0 is 0) (choices m)

-- the list: a 2-byte count, then a byte a choice
unfoldable pub list_bytes : (ℕ → List ℕ) → ℕ → List ℕ
list_bytes answer m = bytes2 (length (accepted_by answer m)) ++ accepted_by answer m

-- listed: 0 and the list's length; the buffer holds the list's bytes, then what stood there. Each choice is answered as the check answers
-- the stack with it
pub record ListWritten (margin : ℕ) (s g before after : List ℕ) (r : Outcome) : Type 0 where
  pub answer : ℕ → List ℕ
  pub answers : (c : ℕ) → c < 2 ^ gear_count g → AnswerTo margin (rule_of (with_choice s g c)) (with_choice s g c) (answer c)
  pub taken : r ≡ Ok (length (list_bytes answer (gear_count g)))
  pub written : after ≡ list_bytes answer (gear_count g) ++ drop (length (list_bytes answer (gear_count g))) before

-- by cases on a refusal, which leaves the buffer as it was
abbrev pub ListedAs : Reading → ℕ → List ℕ → List ℕ → List ℕ → List ℕ → Outcome → Type 0
ListedAs (Err why) margin s g before after r = TurnedBack why before after r
ListedAs (Ok _) margin s g before after r = ListWritten margin s g before after r

-- the call with a list buffer that held `before`
pub record Listed (margin : ℕ) (s g before after : List ℕ) (r : Outcome) : Type 0 where
  pub holds : ListedAs (list_refusal s g (length before)) margin s g before after r
