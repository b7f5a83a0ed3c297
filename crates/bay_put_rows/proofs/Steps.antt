-- One row more in the report: its bytes, and what is said of the rows together.
use Prim.Native.Nat.{ℕ, ◌+◌, ◌-◌, ◌≤◌, ◌^◌}
use mathlib.Core.List.{List, [], ◌++◌, flat_map, map}
use mathlib.Core.Path.{◌≡◌, refl, sym, ap, ap₂, subst, ◌∙◌}
use native.Mathlib.Omega.{arith}
use borrow.Author.Rules.{part_to_end}
use borrow.Rule.Slice.PartMut.{mid_of, put_mid, same_len_mid}
use lib.ListN.{length, take, drop, replicate, length-append, length-drop}
use lib.Seq.{take_at, drop-drop, drop-append-add}
use Rattle.arith.specs.Lists.{from, below, padded}
use Rattle.arith.proofs.Arrays.{length_entries}
use Rattle.arith.proofs.Parts.{part_put}
use Rattle.answer_put.proofs.Entries.{one_more}
use Rattle.bay_wind.specs.declared.Outline.{Outline}
use Rattle.bay_wind.specs.Exposure.{empty_row}
use Rattle.bay_wind.proofs.Sums.{sum_none, sum_more, greatest_none, greatest_more}
use Rattle.bay_rows.specs.Bay.{row_count, row_of, outline_of, outlines}
use Rattle.bay_answer.specs.declared.Totals.{Totals}
use Rattle.bay_answer.specs.Rows.{row_bytes, accepted_in, mass_of, racking_in}
use Rattle.bay_answer.specs.Inner.Totalled.{row_totals, Bounded}
use Rattle.bay_answer.proofs.Sizes.{larger_most}
use Rattle.bay_put_rows.specs.Inner.Together.{sheet_at, answer_at, rows_bytes, totals_of, added_up}

-- a text put behind what a buffer holds from its start
module _ (before front text : List ℕ) {buffer last : List ℕ} {to : ℕ} (held : buffer ≡ front ++ drop (length front) before)
    (at : to ≡ length front) (room : to + length text ≤ length buffer)
    (put : last ≡ text ++ drop (length text) (mid_of to (length buffer - to) buffer)) where
  front_is : take to buffer ≡ front
  front_is = ap (take to) held ∙ take_at front (drop (length front) before) to (sym at)

  rest_is : drop (to + length text) buffer ≡ drop (length (front ++ text)) before
  rest_is =
      ap₂ (λ n l. drop (n + length text) l) at held
      ∙ drop-append-add front (drop (length front) before) (length text)
      ∙ drop-drop (length text) (length front) before
      ∙ ap (λ n. drop n before) (sym (length-append front text))

  pub put_behind : put_mid to (length buffer - to) buffer last ≡ (front ++ text) ++ drop (length (front ++ text)) before
  put_behind =
      ap (put_mid to (length buffer - to) buffer) put
      ∙ part_put buffer text to (length text) refl room
      ∙ ap₂ (λ a r. a ++ text ++ r) front_is rest_is

-- the buffer is as long as it was
pub same_room :
    (text buffer : List ℕ) {last : List ℕ} (to : ℕ) →
    to + length text ≤ length buffer →
    last ≡ text ++ drop (length text) (mid_of to (length buffer - to) buffer) →
    length (put_mid to (length buffer - to) buffer last) ≡ length buffer
same_room text buffer {last} to room put =
    let part = mid_of to (length buffer - to) buffer in
    let size : length part ≡ length buffer - to = ap length (part_to_end buffer to) ∙ length-drop to buffer in
    let as_long : length (text ++ drop (length text) part) ≡ length part = simp (length-append, length-drop) (omega arith) in
    same_len_mid to (length buffer - to) buffer last (ap length put ∙ as_long)

module _ (b : List ℕ) where
  pub none_yet : rows_bytes b 0 ≡ []
  unfolding rows_bytes flat_map from
  none_yet = refl

  pub bytes_more : (k : ℕ) → rows_bytes b (k + 1) ≡ rows_bytes b k ++ row_bytes (answer_at b k)
  unfolding rows_bytes
  bytes_more k = one_more (λ j. row_bytes (answer_at b j)) k

  pub stored_none : (report : List ℕ) → report ≡ rows_bytes b 0 ++ drop (length (rows_bytes b 0)) report
  stored_none report = ap (λ l. l ++ drop (length l) report) (sym none_yet)

  -- row k put behind the rows before it
  pub stored_more :
      (k : ℕ) (before : List ℕ) {report last answer : List ℕ} {to : ℕ} →
      report ≡ rows_bytes b k ++ drop (length (rows_bytes b k)) before →
      to ≡ length (rows_bytes b k) →
      to + length (row_bytes answer) ≤ length report →
      last ≡ row_bytes answer ++ drop (length (row_bytes answer)) (mid_of to (length report - to) report) →
      answer ≡ answer_at b k →
      put_mid to (length report - to) report last ≡ rows_bytes b (k + 1) ++ drop (length (rows_bytes b (k + 1))) before
  stored_more k before {answer = answer} held at room put is =
      put_behind before (rows_bytes b k) (row_bytes answer) held at room put
      ∙ ap (λ l. l ++ drop (length l) before) (ap (λ a. rows_bytes b k ++ row_bytes a) is ∙ sym (bytes_more k))

  -- the outlines of n rows, in an array of 24
  pub rows_are :
      (n : ℕ) {rows : List Outline} →
      rows ≡ padded 24 empty_row (map (λ k. outline_of (row_of b k)) (below n)) →
      n ≡ row_count b →
      take n rows ≡ outlines b
  rows_are n e is =
      let outline : ℕ → Outline = λ k. outline_of (row_of b k) in
      let entries = map outline (below n) in
      ap (take n) e
      ∙ take_at entries (replicate (24 - length entries) empty_row) n (length_entries outline empty_row n)
      ∙ ap (λ m. map outline (below m)) is

  pub totals_none :
      {r : Totals} → (r.length ≡ 0) × (r.accepted ≡ 0) × (r.mass ≡ 0) × (r.racking ≡ 0) → r ≡ totals_of b 0
  totals_none (l, a, m, g) =
      let none = l ∙ sym (ap length none_yet) in
      λ i. record {
        length = none i;
        accepted = (a ∙ sym (sum_none (λ j. accepted_in (answer_at b j)))) i;
        mass = (m ∙ sym (sum_none (λ j. mass_of (sheet_at b j)))) i;
        racking = (g ∙ sym (greatest_none (λ j. racking_in (sheet_at b j) (answer_at b j)))) i;
      }

  module _ (k : ℕ) {totals row r : Totals} (so_far : totals ≡ totals_of b k) (next : row ≡ row_totals (sheet_at b k) (answer_at b k))
      (sum : r ≡ added_up totals row) where
    length_more : length (rows_bytes b k) + (2 + length (answer_at b k)) ≡ length (rows_bytes b (k + 1))
    length_more =
        let size : 2 + length (answer_at b k) ≡ length (row_bytes (answer_at b k)) = omega arith in
        ap (λ n. length (rows_bytes b k) + n) size
        ∙ sym (length-append (rows_bytes b k) (row_bytes (answer_at b k)))
        ∙ ap length (sym (bytes_more k))

    pub totals_more : r ≡ totals_of b (k + 1)
    totals_more =
        sum ∙ ap₂ added_up so_far next
        ∙ (λ i. record {
          length = length_more i;
          accepted = sym (sum_more (λ j. accepted_in (answer_at b j)) k) i;
          mass = sym (sum_more (λ j. mass_of (sheet_at b j)) k) i;
          racking = sym (greatest_more (λ j. racking_in (sheet_at b j) (answer_at b j)) k) i;
        })

pub bounded_none : {r : Totals} → (r.length ≡ 0) × (r.accepted ≡ 0) × (r.mass ≡ 0) × (r.racking ≡ 0) → Bounded 0 r
bounded_none (l, a, m, g) =
    record { length = omega (arith, l); accepted = omega (arith, a); mass = omega (arith, m); racking = omega (arith, g) }

pub bounded_more : (k : ℕ) {a b r : Totals} → Bounded k a → Bounded 1 b → r ≡ added_up a b → Bounded (k + 1) r
bounded_more k {a} {b} x y e =
    subst (Bounded (k + 1)) (sym e)
    (record {
      length = omega (arith, x.length, y.length);
      accepted = omega (arith, x.accepted, y.accepted);
      mass = omega (arith, x.mass, y.mass);
      racking = larger_most a.racking b.racking (2 ^ 31) x.racking y.racking;
    })
