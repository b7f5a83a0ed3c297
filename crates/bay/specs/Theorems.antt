-- What is proved of reports; proofs/Theorems shows that it holds.
use Rattle.std.specs.Prelude.{Ok, ℕ, zero, suc, ◌+◌, ◌/◌, ◌%◌, ◌<◌, ◌≤◌, Bool, false, cond, List, ◌++◌, ◌≢◌, ◌≡◌, drop, length, set}
use Rattle.arith.specs.Bytes.{byte_at}
use Rattle.sheet.specs.Layout.{tier_count, tier_place, sheet_of}
use Rattle.sheet.specs.Fits.{tier_at}
use Rattle.sheet.specs.Refusals.{decoded, longest_answer}
use Rattle.answer.specs.Checked.{kept}
use Rattle.answer.specs.Theorems.{DemandThree}
use Rattle.answer.specs.Inner.Named.{returned, written}
use Rattle.bay_wind.specs.Exposure.{height_of, neighbours_of, exposed_in_bay}
use Rattle.bay_rows.specs.Bay.{row_count, row_of, is_empty, outlines}
use Rattle.bay_rows.specs.Refusals.{rows_refusal}
use Rattle.bay.specs.Reports.{BayOutcome, number, second, row, row_sheet, ReportWritten, BayReported}
use Rattle.bay.specs.Inner.Named.{row_answer, bay_returned, bay_written}

-- a stack sheet's bytes with other wind bytes in its first k tiers
unfoldable pub with_winds : (ℕ → ℕ) → ℕ → List ℕ → List ℕ
with_winds wind zero s = s
with_winds wind (suc k) s = set (with_winds wind k s) (tier_place k + 1) (wind k)

-- the bytes of row k with the wind codes that the rows beside it give it
unfoldable pub row_in_bay : List ℕ → ℕ → List ℕ
row_in_bay b k = with_winds (λ j. (tier_at (row_sheet b k).tiers j).wind) (tier_count (row_of b k)) (row_of b k)

-- whether the box of tier j of row k is exposed
abbrev pub exposed_at : List ℕ → ℕ → ℕ → Bool
exposed_at b k j =
    let tiers = (sheet_of (row_of b k)).tiers in
    exposed_in_bay (neighbours_of (outlines b) k) (tier_at tiers j) (height_of tiers (suc j))

-- only bit 0 of the wind bytes is replaced, by whether the box is exposed; the bytes are taken, and hold the row's sheet
pub record WindsPut (b : List ℕ) (k : ℕ) : Type 0 where
  pub size : length (row_in_bay b k) ≡ length (row_of b k)
  pub elsewhere :
      (i : ℕ) → ((j : ℕ) → j < tier_count (row_of b k) → i ≢ tier_place j + 1) → byte_at (row_in_bay b k) i ≡ byte_at (row_of b k) i
  pub bit0 :
      (j : ℕ) →
      j < tier_count (row_of b k) →
      byte_at (row_in_bay b k) (tier_place j + 1) % 2 ≡ cond (exposed_at b k j) 1 0
  pub others :
      (j : ℕ) →
      j < tier_count (row_of b k) →
      byte_at (row_in_bay b k) (tier_place j + 1) / 2 ≡ byte_at (row_of b k) (tier_place j + 1) / 2
  pub decodes : decoded (row_in_bay b k) ≡ Ok (row_sheet b k)

-- what the plain check returns and writes on these bytes: the row's answer
pub record CheckedAlone (b : List ℕ) (k : ℕ) (before : List ℕ) : Type 0 where
  pub returns : returned (row_in_bay b k) (length before) ≡ Ok (length (row_answer b k))
  pub writes : written (row_in_bay b k) before ≡ row_answer b k ++ drop (length (row_answer b k)) before

pub record Theorems : Type 0 where
  -- what a bay is reported, a function of its bytes by name, is what it must say
  pub bay_named : (b before : List ℕ) → BayReported kept b before (bay_written b before) (bay_returned b (length before))
  -- what holds within a margin holds within any wider one
  pub wider :
      (m n : ℕ) → m ≤ n → (b before after : List ℕ) (r : BayOutcome) → BayReported m b before after r → BayReported n b before after r
  -- a refusal's number is at most 16, a row at most 24; a second number, and a report, at most 20,073
  pub numbers :
      (margin : ℕ) (b before after : List ℕ) (r : BayOutcome) →
      BayReported margin b before after r →
      (number r ≤ 16) × (second r ≤ 20073) × (row r ≤ 24)
  -- of each loaded row of a bay that has no refusal: its bytes with the wind bits put in, the plain check of these, and demand 3
  pub winds_put :
      (b : List ℕ) (k : ℕ) → rows_refusal b ≡ Ok tt → k < row_count b → is_empty (row_of b k) ≡ false → WindsPut b k
  pub alone :
      (b : List ℕ) (k : ℕ) (before : List ℕ) →
      rows_refusal b ≡ Ok tt →
      k < row_count b →
      is_empty (row_of b k) ≡ false →
      longest_answer ≤ length before →
      CheckedAlone b k before
  pub demand_three :
      (b before after : List ℕ) (r : BayOutcome) (w : ReportWritten kept b before after r) (k : ℕ) (rest : List ℕ) →
      k < row_count b →
      is_empty (row_of b k) ≡ false →
      DemandThree (row_sheet b k) (w.answer k ++ rest)
