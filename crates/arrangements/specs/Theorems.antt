-- What is proved of lists; proofs/Theorems shows that it holds.
use Rattle.std.specs.Prelude.{Ok, Err, ℕ, ◌<◌, ◌≤◌, ◌^◌, List, ◌≡◌, length, get_or, take, drop}
use Rattle.arith.specs.Bytes.{byte_at, le2}
use Rattle.sheet.specs.declared.Sheet.{Sheet}
use Rattle.sheet.specs.Fits.{Fits}
use Rattle.sheet.specs.Refusals.{longest_answer}
use Rattle.statics.specs.Loads.{Rule, rule_of}
use Rattle.answer.specs.Outcomes.{Outcome}
use Rattle.answer.specs.Checked.{number, second, kept, demanded}
use Rattle.answer.specs.Consequences.{WithinLimits, Justified}
use Rattle.answer.specs.Findings.{Finding}
use Rattle.answer.specs.Inner.Named.{written}
use Rattle.choices.specs.Choices.{Before}
use Rattle.choices.specs.Theorems.{Stands}
use Rattle.gear.specs.Bytes.{InBytes, bytes_with}
use Rattle.gear.specs.Gear.{gear_count}
use Rattle.arrangements.specs.Arrangements.{list_refusal, with_choice, ListWritten, Listed}
use Rattle.arrangements.specs.Inner.Named.{list_returned, list_written}

-- the choices that a list names, as many as its count says
abbrev pub listed_in : List ℕ → List ℕ
listed_in list = take (le2 list 0) (drop 2 list)

-- an exact force of the stack is above its limit, or less than `margin` N short of it: one that a finding names
pub record SomeNear (margin : ℕ) (rule : Rule) (t : Sheet) : Type 0 where
  pub finding : Finding
  pub near : Justified margin rule t finding

-- what a list says of each choice c: a listed one is one of the gear's and exceeds no limit exactly; any other of the gear's has an exact
-- force above its limit or less than 100 N short of it
pub record SaysOfEach (s g list : List ℕ) : Type 0 where
  pub only : (c : ℕ) → Stands c (listed_in list) → c < 2 ^ gear_count g
  pub listed : (c : ℕ) → Stands c (listed_in list) → WithinLimits (rule_of (with_choice s g c)) (with_choice s g c)
  pub other :
      (c : ℕ) →
      c < 2 ^ gear_count g →
      (Stands c (listed_in list) → ⊥) →
      SomeNear demanded (rule_of (with_choice s g c)) (with_choice s g c)
  -- an earlier one comes before a later one: so each stands there once
  pub in_order :
      (i j : ℕ) → i < j → j < length (listed_in list) → Before (gear_count g) (get_or (listed_in list) i 0) (get_or (listed_in list) j 0)

-- a choice stands in the list exactly where the plain check of the sheet's bytes with its lashes at both ends has the verdict 0
pub record CheckedAlone (s g before : List ℕ) (c : ℕ) (answer : List ℕ) : Type 0 where
  pub listed : Stands c (listed_in (list_written s g before)) → byte_at (written (bytes_with s g c) answer) 0 ≡ 0
  pub accepted : byte_at (written (bytes_with s g c) answer) 0 ≡ 0 → Stands c (listed_in (list_written s g before))

pub record Theorems : Type 0 where
  -- what is listed, a function of the bytes by name, is what must be said
  pub list_named : (s g before : List ℕ) → Listed kept s g before (list_written s g before) (list_returned s g (length before))
  -- a refusal's number is at most 24; a second number, and a list, at most 834
  pub numbers :
      (margin : ℕ) (s g before after : List ℕ) (r : Outcome) → Listed margin s g before after r → (number r ≤ 24) × (second r ≤ 834)
  -- no choice is refused
  pub choice_fits : (s g : List ℕ) (room c : ℕ) → list_refusal s g room ≡ Ok tt → Fits (with_choice s g c)
  -- what a list says
  pub says_of_each :
      (s g before after : List ℕ) (r : Outcome) →
      list_refusal s g (length before) ≡ Ok tt →
      ListWritten kept s g before after r →
      SaysOfEach s g after
  -- and what the plain check says of each choice
  pub alone :
      (s g before : List ℕ) (c : ℕ) (answer : List ℕ) →
      InBytes s →
      InBytes g →
      list_refusal s g (length before) ≡ Ok tt →
      c < 2 ^ gear_count g →
      longest_answer ≤ length answer →
      CheckedAlone s g before c answer
