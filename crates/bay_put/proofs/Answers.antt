-- The answer to a sheet within the limits in a buffer with room for it, and the lengths of its parts.
use Rattle.std.specs.Prelude.{Ok}
use Prim.Native.Nat.{ℕ, ◌+◌, ◌*◌, ◌-◌, ◌≤◌}
use mathlib.Core.List.{List, [], ◌++◌, append_assoc}
use mathlib.Core.Path.{◌≡◌, refl, sym, ap, ap₂, ◌∙◌}
use native.Mathlib.Nat.{add-zero}
use native.Mathlib.Omega.{arith}
use borrow.Author.Tests.{le-ltb}
use borrow.Rule.Slice.PartMut.{mid_of, put_mid}
use lib.IntN.{nat_abs}
use lib.ListN.{length, take, drop, length-append}
use lib.Seq.{sets, sets-eq, length-take-le, drop_at, take_at}
use Rattle.arith.specs.Bytes.{bytes2, signed4}
use Rattle.arith.proofs.Parts.{part_put}
use Rattle.sheet.specs.declared.Sheet.{Sheet}
use Rattle.sheet.specs.Ends.{End, door, closed, lashes_of}
use Rattle.sheet.specs.Fits.{Fits}
use Rattle.sheet.specs.Refusals.{row13, longest_answer}
use Rattle.sheet.proofs.Rows.{no_rows, row_passed}
use Rattle.statics.specs.declared.LoadRule.{LoadRule}
use Rattle.statics.specs.Inner.Computed.{load_rule_of, figures_by}
use Rattle.answer.specs.Outcomes.{Outcome}
use Rattle.answer.specs.Answers.{answer_bytes}
use Rattle.answer.specs.Checked.{room_for}
use Rattle.answer.specs.Places.{entry_place, end_place}
use Rattle.answer.specs.Inner.Named.{answer_by, returned_as, written_as}
use Rattle.answer.proofs.Longest.{answer_most}
use Rattle.answer.proofs.ReadBack.{end_length}
use Rattle.answer_encode.proofs.AnswerLaws.{sized}
use Rattle.bay_wind.specs.Sums.{larger, greatest_of}
use Rattle.bay_answer.specs.Rows.{row_bytes, accepted_in, mass_of, end_racking, racking_in}
use Rattle.bay_answer.specs.Inner.Totalled.{answer_of, row_totals, greatest_with, totals_with}

-- it is never refused
module _ (c : LoadRule) (t : Sheet) (before : List ℕ) {after : List ℕ} {r : Outcome} (room : 834 ≤ length before) (rule : c ≡ load_rule_of t)
    (named : (r ≡ returned_as (room_for (length before)) (answer_by c t))
    × (after ≡ written_as (room_for (length before)) (answer_by c t) before)) where
  roomy : room_for (length before) ≡ Ok tt
  roomy = row_passed (row13 longest_answer (length before)) [] (le-ltb (length before) 834 room) ∙ no_rows

  bytes : answer_by c t ≡ answer_of t
  bytes = ap (λ c. answer_by c t) rule

  pub returns_length : r ≡ Ok (length (answer_of t))
  returns_length = named.0 ∙ ap₂ returned_as roomy bytes

  pub writes_answer : after ≡ answer_of t ++ drop (length (answer_of t)) before
  writes_answer = named.1 ∙ ap₂ (λ q b. written_as q b before) roomy bytes

-- the rackings of an end whose bytes begin at `at`
pub end_racking_lem :
    (t : Sheet) (answer : List ℕ) (e : End) (at : ℕ) →
    at ≡ end_place t e →
    greatest_of (λ i. nat_abs (signed4 answer (entry_place at 4 i))) t.ntiers ≡ end_racking t answer e
end_racking_lem t answer e at is =
    ap (λ p. greatest_of (λ i. nat_abs (signed4 answer (entry_place p 4 i))) t.ntiers) is
    ∙ ap (λ (f : ℕ → ℕ). greatest_of f t.ntiers)
    (λ j i. nat_abs (signed4 answer (sym (add-zero (entry_place (end_place t e) 4 i)) j)))

-- the verdict, both ends and the findings
module _ {t : Sheet} (f : Fits t) where
  pub lashes : (e : End) → length (lashes_of e t) ≤ 8
  lashes door = omega (arith, (sized f).door_lashes, (sized f).door_few)
  lashes closed = omega (arith, (sized f).closed_lashes, (sized f).closed_few)

  pub closed_place_lem : 9 + 12 * t.ntiers + 12 * t.ndoor ≡ end_place t closed
  closed_place_lem = omega (arith, (sized f).door_lashes)

  pub answer_short : length (answer_of t) ≤ 774
  answer_short = answer_most t (figures_by (load_rule_of t) t) f.few lashes

  pub answer_long : 10 + 16 * t.ntiers + 12 * t.ndoor ≤ length (answer_of t)
  unfolding answer_bytes
  answer_long =
      let g = figures_by (load_rule_of t) t in
      simp length-append
      (omega (arith, end_length t door g.door, end_length t closed g.closed, (sized f).door_lashes))

  -- the rackings of both ends, and what is said of the row
  rackings : (answer : List ℕ) → greatest_with answer t.ntiers t.ndoor ≡ racking_in t answer
  unfolding racking_in
  rackings answer = ap₂ larger (end_racking_lem t answer door 1 refl) (end_racking_lem t answer closed _ closed_place_lem)

  pub row_totals_lem : (answer : List ℕ) → totals_with answer t.ntiers t.ndoor (mass_of t) ≡ row_totals t answer
  row_totals_lem answer =
      let e = rackings answer in
      λ i. record { length = 2 + length answer; accepted = accepted_in answer; mass = mass_of t; racking = e i }

-- the answer a behind its length, from the start of a buffer that held xs
module _ (xs a : List ℕ) (room : 2 + length a ≤ length xs) {last stored : List ℕ} {n : ℕ}
    (written : last ≡ a ++ drop (length a) (mid_of 2 (length xs - 2) xs)) (is : n ≡ length a)
    (counted : stored ≡ sets (put_mid 2 (length xs - 2) xs last) 0 (bytes2 n)) where
  abbrev rest : List ℕ
  rest = drop (2 + length a) xs

  with_answer : put_mid 2 (length xs - 2) xs last ≡ take 2 xs ++ (a ++ rest)
  with_answer = ap (put_mid 2 (length xs - 2) xs) written ∙ part_put xs a 2 (length a) refl room ∙ append_assoc (take 2 xs) a rest

  two : length (take 2 xs) ≡ 2
  two = length-take-le 2 xs (omega arith)

  pub row_stored : stored ≡ row_bytes a ++ drop (length (row_bytes a)) xs
  row_stored =
      let size : 2 + length a ≡ length (row_bytes a) = omega arith in
      let long : 0 + 2 ≤ length (take 2 xs ++ (a ++ rest)) = rw (length-append (take 2 xs) (a ++ rest), two) (omega arith) in
      counted
      ∙ ap₂ (λ l m. sets l 0 (bytes2 m)) with_answer is
      ∙ sets-eq (bytes2 (length a)) (take 2 xs ++ (a ++ rest)) 0 long
      ∙ ap (λ l. bytes2 (length a) ++ l) (drop_at (take 2 xs) (a ++ rest) 2 two ∙ ap (λ m. a ++ drop m xs) size)

  pub row_read : take (2 + n - 2) (drop 2 stored) ≡ a
  row_read =
      let e : 2 + n - 2 ≡ length a = omega arith in
      ap₂ (λ k l. take k (drop 2 l)) e row_stored ∙ take_at a (drop (length (row_bytes a)) xs) (length a) refl
