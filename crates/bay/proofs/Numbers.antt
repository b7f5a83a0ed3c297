-- How great the three numbers of a report are.
use Rattle.std.specs.Prelude.{Ok, Err}
use Prim.Native.Nat.{ℕ, zero, suc, ◌+◌, ◌*◌, ◌<◌, ◌≤◌}
use mathlib.Core.Bool.{Bool, true, false}
use mathlib.Core.List.{List, flat_map}
use mathlib.Core.Path.{◌≡◌, refl, ap}
use native.Mathlib.Nat.{zero-add}
use native.Mathlib.Omega.{arith}
use lib.ListN.{length, length-append}
use Rattle.arith.specs.Lists.{from}
use Rattle.answer.proofs.Longest.{answer_most}
use Rattle.bay_rows.specs.Bay.{row_count, row_of, is_empty}
use Rattle.bay_rows.specs.Refusals.{BayReading, rows_refusal, bay_refusal}
use Rattle.bay_rows.proofs.Numbers.{Most, bay_numbers}
use Rattle.bay_rows.proofs.Readings.{sound, rows_taken_of}
use Rattle.bay_answer.specs.Rows.{row_bytes}
use Rattle.bay_put.proofs.Answers.{lashes}
use Rattle.bay.specs.Reports.{BayOutcome, number, second, row, row_sheet, report_bytes, RowAnswered, ReportedAs, BayReported}
use Rattle.bay.proofs.Named.{row_fits}

-- a row's answer is at most 834 bytes long
module _ {margin : ℕ} (b : List ℕ) (taken : rows_refusal b ≡ Ok tt) (k : ℕ) (h : k < row_count b) {bytes : List ℕ}
    (a : RowAnswered margin b k bytes) where
  answer_short : length bytes ≤ 834
  answer_short = go (is_empty (row_of b k)) refl
    where
      go : (e : Bool) → is_empty (row_of b k) ≡ e → length bytes ≤ 834
      go true q = omega (arith, ap length (a.empty q))
      go false q =
          let t = a.loaded q in
          let f = row_fits b taken k h q in
          omega (arith, ap length t.encoded, answer_most (row_sheet b k) t.figures f.few (lashes f))

-- so many rows
rows_short :
    (answer : ℕ → List ℕ) (i m : ℕ) →
    ((j : ℕ) → j < m → length (answer (i + j)) ≤ 834) →
    length (flat_map (λ k. row_bytes (answer k)) (from i m)) ≤ 836 * m
unfolding flat_map from
rows_short answer i zero h = omega arith
rows_short answer i (suc m) h =
    let e : i + 0 ≡ i = omega arith in
    let first : length (answer i) ≤ 834 = rw e at (h 0 (omega arith)) in
    let rest = rows_short answer (suc i) m (λ j q. later j (h (suc j) (omega (arith, q)))) in
    rw (length-append (row_bytes (answer i)) (flat_map (λ k. row_bytes (answer k)) (from (suc i) m))) (omega (arith, first, rest))
  where
    later : (j : ℕ) → length (answer (i + suc j)) ≤ 834 → length (answer (suc i + j)) ≤ 834
    later j q =
        let e : suc i + j ≡ i + suc j = omega arith in
        rw e q

module _ {margin : ℕ} (b : List ℕ) (taken : rows_refusal b ≡ Ok tt) (answer : ℕ → List ℕ)
    (rows : (k : ℕ) → k < row_count b → RowAnswered margin b k (answer k)) where
  pub report_short : length (report_bytes b answer) ≤ 20073
  unfolding report_bytes
  report_short =
      let each : (j : ℕ) → j < row_count b → length (answer (0 + j)) ≤ 834 =
      λ j h. rw (zero-add j) (answer_short b taken j h (rows j h)) in
      omega (arith, rows_short answer 0 (row_count b) each, (sound b taken).few)

pub bay_most :
    (margin : ℕ) (b before after : List ℕ) (r : BayOutcome) →
    BayReported margin b before after r →
    (number r ≤ 16) × (second r ≤ 20073) × (row r ≤ 24)
bay_most margin b before after r c = go (bay_refusal b (length before)) refl (bay_numbers b (length before)) c.holds
  where
    go :
        (q : BayReading) →
        bay_refusal b (length before) ≡ q →
        Most 16 20073 24 q →
        ReportedAs q margin b before after r →
        (number r ≤ 16) × (second r ≤ 20073) × (row r ≤ 24)
    go (Err why) e small h = rw h.refused small
    go (Ok _) e small h =
        rw h.taken (omega arith, report_short b (rows_taken_of b (length before) e) h.answer h.rows, omega arith)
