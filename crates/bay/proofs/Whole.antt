-- The whole report in its buffer: the rows from byte 9 on, then the totals in front of them.
use Prim.Native.Nat.{ℕ, ◌+◌, ◌-◌, ◌≤◌}
use mathlib.Core.List.{List, [], ◌∷◌, ◌++◌, append_assoc}
use mathlib.Core.Path.{◌≡◌, sym, ap, ap₂, ◌∙◌}
use native.Mathlib.Omega.{arith}
use borrow.Rule.Slice.PartMut.{mid_of, put_mid}
use lib.ListN.{length, take, drop, length-append, take-append-drop}
use lib.Seq.{sets, sets-eq, length-take-le, drop_at}
use Rattle.arith.specs.Bytes.{bytes4}
use Rattle.bay_rows.specs.Bay.{row_count}
use Rattle.bay_answer.specs.declared.Totals.{Totals}
use Rattle.bay_answer.specs.Inner.Totalled.{Bounded}
use Rattle.bay.specs.Reports.{report_bytes}
use Rattle.bay_put_rows.specs.Inner.Together.{rows_bytes, totals_of}
use Rattle.bay_put_rows.proofs.Steps.{put_behind}
use Rattle.bay.specs.Inner.Named.{bay_bytes}

abbrev head_of : Totals → List ℕ
head_of t = (t.accepted ∷ []) ++ bytes4 t.mass ++ bytes4 t.racking

bytes_are : (b : List ℕ) (n : ℕ) → n ≡ row_count b → head_of (totals_of b n) ++ rows_bytes b n ≡ bay_bytes b
unfolding report_bytes rows_bytes
bytes_are b n e = ap (λ m. head_of (totals_of b m) ++ rows_bytes b m) e

module _ (b xs : List ℕ) (n : ℕ) (room : 20073 ≤ length xs) (count : n ≡ row_count b) {totals : Totals} {last stored : List ℕ}
    (put : (totals ≡ totals_of b n)
    × Bounded n totals
    × (last ≡ rows_bytes b n ++ drop (length (rows_bytes b n)) (mid_of 9 (length xs - 9) xs)))
    (few : n ≤ 24)
    (headed : stored ≡ sets (put_mid 9 (length xs - 9) xs last) 0 (head_of totals)) where
  abbrev rows : List ℕ
  rows = rows_bytes b n

  nine : length (take 9 xs) ≡ 9
  nine = length-take-le 9 xs (omega arith)

  size : totals.length ≡ length rows
  size = ap (λ (t : Totals). t.length) put.0

  short : 9 + length rows ≤ length xs
  short = omega (arith, put.1.length, size)

  abbrev behind : List ℕ
  behind = drop (9 + length rows) xs

  with_rows : put_mid 9 (length xs - 9) xs last ≡ take 9 xs ++ (rows ++ behind)
  with_rows =
      let held : xs ≡ take 9 xs ++ drop (length (take 9 xs)) xs = sym (ap (λ m. take 9 xs ++ drop m xs) nine ∙ take-append-drop 9 xs) in
      let long : length (take 9 xs ++ rows) ≡ 9 + length rows = length-append (take 9 xs) rows ∙ ap (λ m. m + length rows) nine in
      put_behind xs (take 9 xs) rows held (sym nine) short put.2
      ∙ ap (λ m. (take 9 xs ++ rows) ++ drop m xs) long
      ∙ append_assoc (take 9 xs) rows behind

  pub report_length : 9 + totals.length ≡ length (bay_bytes b)
  report_length =
      let whole : 9 + length rows ≡ length (head_of (totals_of b n) ++ rows) = omega arith in
      ap (λ m. 9 + m) size ∙ whole ∙ ap length (bytes_are b n count)

  pub report_stored : stored ≡ bay_bytes b ++ drop (length (bay_bytes b)) xs
  report_stored =
      let long : 0 + 9 ≤ length (take 9 xs ++ (rows ++ behind)) = rw (length-append (take 9 xs) (rows ++ behind), nine) (omega arith) in
      let e : 9 + length rows ≡ length (head_of (totals_of b n) ++ rows) = omega arith in
      headed
      ∙ ap₂ (λ l t. sets l 0 (head_of t)) with_rows put.0
      ∙ sets-eq (head_of (totals_of b n)) (take 9 xs ++ (rows ++ behind)) 0 long
      ∙ ap (λ l. head_of (totals_of b n) ++ l) (drop_at (take 9 xs) (rows ++ behind) 9 nine)
      ∙ ap (λ m. (head_of (totals_of b n) ++ rows) ++ drop m xs) e
      ∙ ap (λ l. l ++ drop (length l) xs) (bytes_are b n count)
