-- The theorems of reports.
use Rattle.std.specs.Prelude.{Ok, Err}
use Prim.Native.Nat.{ℕ, ◌<◌, ◌≤◌}
use mathlib.Core.Bool.{false}
use mathlib.Core.List.{List, ◌++◌}
use mathlib.Core.Path.{◌≡◌, sym, ap, ap₂, ◌∙◌}
use native.Mathlib.Omega.{arith}
use borrow.Author.Tests.{eqb-false}
use lib.ListN.{length}
use Rattle.sheet.specs.declared.Sheet.{Sheet}
use Rattle.sheet.specs.Layout.{sheet_of}
use Rattle.sheet.specs.Refusals.{first, sheet_rows, longest_answer}
use Rattle.sheet.proofs.CallRefusals.{decoded_by, all_taken}
use Rattle.statics.specs.Loads.{rule_of}
use Rattle.answer.specs.Checked.{kept, demanded}
use Rattle.answer.specs.Theorems.{DemandThree}
use Rattle.answer.specs.Inner.Named.{check_bytes, returned_as, written_as, returned, written}
use Rattle.answer.proofs.Theorems as A
use Rattle.bay_wind.specs.declared.Neighbours.{Neighbours}
use Rattle.bay_wind.specs.Exposure.{neighbours_of}
use Rattle.bay_rows.specs.Bay.{row_count, row_of, is_empty, outlines}
use Rattle.bay_rows.specs.Refusals.{BayReading, rows_refusal, bay_refusal}
use Rattle.bay_rows.proofs.Readings.{sound}
use Rattle.bay_answer.specs.Inner.Totalled.{answer_of}
use Rattle.bay.specs.Reports.{BayOutcome, row_sheet, RowAnswered, ReportWritten, ReportedAs, BayReported}
use Rattle.bay.specs.Theorems.{row_in_bay, WindsPut, CheckedAlone, Theorems}
use Rattle.bay.specs.Inner.Named.{row_answer}
use Rattle.bay.proofs.Copies.{put_size, put_elsewhere, bit_put, bits_kept, copy_taken, copy_holds}
use Rattle.bay.proofs.Named.{bay_named}
use Rattle.bay.proofs.Numbers.{bay_most}
use Rattle.bay_put.proofs.Rows.{row_taken_lem, loaded_answer}

-- a loaded row of a bay that has no refusal
module _ (b : List ℕ) (k : ℕ) (taken : rows_refusal b ≡ Ok tt) (h : k < row_count b) (loaded : is_empty (row_of b k) ≡ false) where
  abbrev near : Neighbours
  near = neighbours_of (outlines b) k

  not_empty : length (row_of b k) ≡ 0 → ⊥
  not_empty = eqb-false (length (row_of b k)) 0 loaded

  own : first (sheet_rows (row_of b k)) ≡ Ok tt
  own = row_taken_lem near (row_of b k) not_empty ((sound b taken).rows k h)

  holds : sheet_of (row_in_bay b k) ≡ row_sheet b k
  unfolding row_in_bay
  holds = copy_holds near (row_of b k) own

  copy_is_taken : first (sheet_rows (row_in_bay b k)) ≡ Ok tt
  unfolding row_in_bay
  copy_is_taken = copy_taken near (row_of b k) own

  winds_put : WindsPut b k
  unfolding row_in_bay
  winds_put =
      record {
        size = put_size _ (row_of b k) _;
        elsewhere = put_elsewhere _ (row_of b k) _;
        bit0 = bit_put near (row_of b k) own;
        others = bits_kept near (row_of b k) own;
        decodes = decoded_by (row_in_bay b k) copy_is_taken ∙ ap Ok holds;
      }

  bytes : check_bytes (row_in_bay b k) ≡ row_answer b k
  bytes = ap (λ (t : Sheet). answer_of t) holds ∙ sym (loaded_answer near (row_of b k) not_empty)

  alone : (before : List ℕ) → longest_answer ≤ length before → CheckedAlone b k before
  unfolding returned written
  alone before room =
      let free = all_taken (row_in_bay b k) (length before) copy_is_taken room in
      record { returns = ap₂ returned_as free bytes; writes = ap₂ (λ q a. written_as q a before) free bytes }

wider :
    (m n : ℕ) → m ≤ n → (b before after : List ℕ) (r : BayOutcome) → BayReported m b before after r → BayReported n b before after r
wider m n h b before after r c = record { holds = go (bay_refusal b (length before)) c.holds }
  where
    each : (k : ℕ) (bytes : List ℕ) → RowAnswered m b k bytes → RowAnswered n b k bytes
    each k bytes a =
        record {
          empty = a.empty;
          loaded = λ q. (A.theorems).answer_wider m n h (rule_of (row_sheet b k)) (row_sheet b k) bytes (a.loaded q);
        }

    go : (q : BayReading) → ReportedAs q m b before after r → ReportedAs q n b before after r
    go (Err why) w = w
    go (Ok _) w =
        record { answer = w.answer; rows = λ k q. each k (w.answer k) (w.rows k q); taken = w.taken; written = w.written }

demand_three :
    (b before after : List ℕ) (r : BayOutcome) (w : ReportWritten kept b before after r) (k : ℕ) (rest : List ℕ) →
    k < row_count b →
    is_empty (row_of b k) ≡ false →
    DemandThree (row_sheet b k) (w.answer k ++ rest)
demand_three b before after r w k rest h loaded =
    let t = row_sheet b k in
    let a = (w.rows k h).loaded loaded in
    record {
      one = a.one;
      says =
          (A.theorems).says demanded (rule_of t) t (w.answer k) rest
          ((A.theorems).answer_wider kept demanded (omega arith) (rule_of t) t (w.answer k) a);
    }

pub theorems : Theorems
theorems =
    record {
      bay_named = bay_named;
      wider = wider;
      numbers = bay_most;
      winds_put = λ b k taken h loaded. winds_put b k taken h loaded;
      alone = λ b k before taken h loaded room. alone b k taken h loaded before room;
      demand_three = demand_three;
    }
