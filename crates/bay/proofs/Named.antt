-- What a bay is reported by name is what it must say.
use Rattle.std.specs.Prelude.{Ok, Err}
use Prim.Native.Nat.{ℕ, ◌<◌, ◌≤◌}
use mathlib.Core.Bool.{false}
use mathlib.Core.List.{List, ◌++◌}
use mathlib.Core.Path.{◌≡◌, refl, sym, ap, subst, ◌∙◌}
use borrow.Author.Tests.{eqb-false}
use lib.ListN.{length, drop}
use Rattle.sheet.specs.Fits.{Fits}
use Rattle.sheet.proofs.SheetLimits.{sheet_limits}
use Rattle.statics.specs.Loads.{rule_of}
use Rattle.statics.proofs.EndChain.{rule_stands}
use Rattle.answer.specs.Checked.{AnswerTo, kept}
use Rattle.answer.proofs.Named.{answer_named}
use Rattle.bay_wind.specs.Exposure.{neighbours_of}
use Rattle.bay_rows.specs.Bay.{row_count, row_of, is_empty, outlines}
use Rattle.bay_rows.specs.Refusals.{BayReading, of_row, rows_refusal, bay_refusal}
use Rattle.bay_rows.proofs.Readings.{sound, rows_taken_of, rows_refused, room_short, all_taken}
use Rattle.bay.specs.Reports.{BayOutcome, row_sheet, RowAnswered, ReportedAs, BayReported}
use Rattle.bay_put.specs.Inner.Answered.{answer_in}
use Rattle.bay.specs.Inner.Named.{row_answer, bay_bytes, report_returned_as, report_written_as, bay_returned, bay_written}
use Rattle.bay_put.proofs.Rows.{sheet_fits, loaded_answer}
use Rattle.bay_rows.specs.declared.BayRefusal.{BayRefusal}
use Rattle.sheet.specs.Refusals.{numbers}

-- a loaded row of a bay that has no refusal
module _ (b : List ℕ) (taken : rows_refusal b ≡ Ok tt) (k : ℕ) (h : k < row_count b) (loaded : is_empty (row_of b k) ≡ false) where
  not_empty : length (row_of b k) ≡ 0 → ⊥
  not_empty = eqb-false (length (row_of b k)) 0 loaded

  pub row_fits : Fits (row_sheet b k)
  row_fits = sheet_fits (neighbours_of (outlines b) k) (row_of b k) not_empty ((sound b taken).rows k h)

  row_answered : AnswerTo kept (rule_of (row_sheet b k)) (row_sheet b k) (row_answer b k)
  row_answered =
      subst (AnswerTo kept (rule_of (row_sheet b k)) (row_sheet b k))
      (sym (loaded_answer (neighbours_of (outlines b) k) (row_of b k) not_empty))
      (answer_named (rule_stands (sheet_limits row_fits)) row_fits)

pub rows_answered : (b : List ℕ) → rows_refusal b ≡ Ok tt → (k : ℕ) → k < row_count b → RowAnswered kept b k (row_answer b k)
unfolding answer_in
rows_answered b taken k h = record { empty = λ e. rw e; loaded = λ e. row_answered b taken k h e }

pub bay_named : (b before : List ℕ) → BayReported kept b before (bay_written b before) (bay_returned b (length before))
unfolding bay_written bay_returned
bay_named b before = record { holds = go (bay_refusal b (length before)) refl }
  where
    go :
        (q : BayReading) →
        bay_refusal b (length before) ≡ q →
        ReportedAs q kept b before (report_written_as q (bay_bytes b) before) (report_returned_as q (bay_bytes b))
    go (Err why) e = record { refused = refl; untouched = refl }
    go (Ok _) e =
        record { answer = row_answer b; rows = rows_answered b (rows_taken_of b (length before) e); taken = refl; written = refl }

-- what `report` returns and writes
module _ (b before : List ℕ) where
  abbrev Reports : List ℕ → BayOutcome → Type 0
  Reports after r =
      BayReported kept b before after r × ((r ≡ bay_returned b (length before)) × (after ≡ bay_written b before))

  by_refusal :
      (q : BayReading) {after : List ℕ} {r : BayOutcome} →
      bay_refusal b (length before) ≡ q →
      r ≡ report_returned_as q (bay_bytes b) →
      after ≡ report_written_as q (bay_bytes b) before →
      Reports after r
  unfolding bay_returned bay_written
  by_refusal q e g h =
      let r_is = g ∙ ap (λ (q : BayReading). report_returned_as q (bay_bytes b)) (sym e) in
      let after_is = h ∙ ap (λ (q : BayReading). report_written_as q (bay_bytes b) before) (sym e) in
      (rw (r_is, after_is) (bay_named b before), (r_is, after_is))

  pub refused : {why : BayRefusal} → rows_refusal b ≡ Err why → Reports before (Err why)
  refused {why} e = by_refusal (Err why) (rows_refused b (length before) e) refl refl

  module _ (taken : rows_refusal b ≡ Ok tt) where
    pub too_short : length before < 20073 → Reports before (Err (of_row 0 (numbers 13 20073)))
    too_short h = by_refusal (Err (of_row 0 (numbers 13 20073))) (room_short b (length before) taken h) refl refl

    pub reported :
        {n : ℕ} {after : List ℕ} →
        20073 ≤ length before →
        n ≡ length (bay_bytes b) →
        after ≡ bay_bytes b ++ drop (length (bay_bytes b)) before →
        Reports after (Ok n)
    reported h size stored = by_refusal (Ok tt) (all_taken b (length before) taken h) (ap Ok size) stored
