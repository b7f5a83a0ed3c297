-- `bay_put::put_answer`: the answer to the row with its tiers in the bay, behind its length, read back for the totals (Answers, Rows).
use Rattle.std.specs.Prelude.{Ok}
use Prim.Native.Nat.{ℕ, ◌+◌, ◌-◌, ◌≤◌}
use mathlib.Core.List.{List, ◌++◌}
use mathlib.Core.Path.{◌≡◌, sym, ap, subst, ◌∙◌}
use native.Mathlib.Omega.{arith}
use borrow.Author.Rules.{rules}
use borrow.Rule.Slice.PartMut.{mid_of, put_mid}
use lib.Seq.{sets}
use lib.ListN.{length, take, drop}
use Rattle.arith.specs.Bytes.{byte_at, bytes2}
use Rattle.sheet.specs.declared.Sheet.{Sheet}
use Rattle.sheet.specs.declared.Tier.{Tier}
use Rattle.sheet.specs.Refusals.{first, sheet_rows}
use Rattle.sheet.specs.Layout.{sheet_of}
use Rattle.sheet.specs.Fits.{Fits}
use Rattle.sheet.specs.Inner.Changed.{with_tiers}
use Rattle.sheet.proofs.TakenSheets.{taken_fits}
use Rattle.bay_wind.specs.declared.Neighbours.{Neighbours}
use Rattle.bay_wind.specs.Exposure.{sheet_in_bay}
use Rattle.bay_wind.proofs.Fitting.{in_bay_fits}
use Rattle.bay_answer.specs.Rows.{row_bytes}
use Rattle.bay_answer.specs.Inner.Totalled.{answer_of}
use Rattle.bay_put.specs.Inner.Answered.{RowAnswered}
use Rattle.bay_put.proofs.Answers.{answer_short, row_stored, row_read}
use Rattle.bay_put.proofs.Rows.{tiers_held, counts_fit, totals_are, put}
use Rattle.bay_put.proofs.put_answer.Goals as goal

-- a row that has no refusal
module _ (row : List ℕ) (near : Neighbours) (taken : first (sheet_rows row) ≡ Ok tt) where
  -- its sheet in the bay
  abbrev sheet : Sheet
  sheet = sheet_in_bay near (sheet_of row)

  fits : Fits sheet
  fits = in_bay_fits near (taken_fits row taken)

  -- it is what is answered, of n bytes, in the part of the buffer xs behind the length
  module _ (xs : List ℕ) (enough : 836 ≤ length xs) {tiers : List Tier} {part : List ℕ} {n : ℕ}
      (tiers_are : tiers ≡ (sheet_in_bay near (sheet_of row)).tiers)
      (answer : RowAnswered (with_tiers tiers (sheet_of row)) (mid_of 2 (length xs - 2) xs) part n) where
    answered : RowAnswered sheet (mid_of 2 (length xs - 2) xs) part n
    answered =
        subst (λ (ts : List Tier). RowAnswered (with_tiers ts (sheet_of row)) (mid_of 2 (length xs - 2) xs) part n) tiers_are
        answer

    room : 2 + length (answer_of sheet) ≤ length xs
    room = omega (arith, answer_short fits, enough)

    short : n ≤ 774
    short = omega (arith, answered.0, answer_short fits)

    -- what the buffer holds with the answer and its length, and the answer read from it
    module _ {after : List ℕ} (put_is : after ≡ sets (put_mid 2 (length xs - 2) xs part) 0 (bytes2 n)) where
      stored : let bytes = row_bytes (answer_of sheet) in after ≡ bytes ++ drop (length bytes) xs
      stored = row_stored xs (answer_of sheet) room answered.1 answered.0 put_is

      answer_read : take (2 + n - 2) (drop 2 after) ≡ answer_of sheet
      answer_read = row_read xs (answer_of sheet) room answered.1 answered.0 put_is

pub mass_of-mass-requires : goal.mass_of-mass-requires
mass_of-mass-requires c =
    rw c.byte_at-ntiers.ensures.0 (tiers_held c.args.row.now c.requires.0)

pub tiers_in_bay-tiers-requires : goal.tiers_in_bay-tiers-requires
tiers_in_bay-tiers-requires c =
    (c.requires.0, c.byte_at-ntiers.ensures.0)

pub answer_row-n-requires : goal.answer_row-n-requires
answer_row-n-requires c =
    let row = c.args.row.now in (
      c.requires.0,
      subst (λ (ts : List Tier). Fits (with_tiers ts (sheet_of row))) (sym c.tiers_in_bay-tiers.ensures)
          (fits row c.args.near c.requires.0),
      search rules,
    )

pub overflow_add-end : goal.overflow_add-end
overflow_add-end c =
    let a = c.args in
    omega (arith, short a.row.now a.near c.requires.0 a.report.now c.requires.1 c.tiers_in_bay-tiers.ensures c.answer_row-n.ensures)

pub totals_of-requires : goal.totals_of-requires
totals_of-requires c =
    let a = c.args in
    let row = a.row.now in
    let lashes = c.byte_at-ndoor.ensures.0 ∙ ap (byte_at row) c.door_place.ensures.0 in
    let read = answer_read row a.near c.requires.0 a.report.now c.requires.1 c.tiers_in_bay-tiers.ensures c.answer_row-n.ensures
    c.write2.ensures in
    let fit = counts_fit a.near row c.requires.0 c.byte_at-ntiers.ensures.0 lashes read in
    (fit.0, fit.1, fit.2, fit.3, c.mass_of-mass.ensures.1)

pub returns : goal.returns
returns c =
    let a = c.args in
    let row = a.row.now in
    let near = a.near in
    let lashes = c.byte_at-ndoor.ensures.0 ∙ ap (byte_at row) c.door_place.ensures.0 in
    let read = answer_read row near c.requires.0 a.report.now c.requires.1 c.tiers_in_bay-tiers.ensures c.answer_row-n.ensures
    c.write2.ensures in
    let stored = stored row near c.requires.0 a.report.now c.requires.1 c.tiers_in_bay-tiers.ensures c.answer_row-n.ensures
    c.write2.ensures in
    let totals =
    totals_are near row c.requires.0 c.byte_at-ntiers.ensures.0 lashes read c.mass_of-mass.ensures.0 c.totals_of.ensures.0 in
    put near row c.requires.0 a.report.now totals c.totals_of.ensures.1 stored
