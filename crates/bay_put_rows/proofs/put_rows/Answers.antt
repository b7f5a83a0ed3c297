-- `bay_put_rows::put_rows`: after k turns the buffer holds the first k rows, and the totals are theirs (Steps).
use Rattle.std.specs.Prelude.{Ok}
use Prim.Native.Nat.{ℕ, ◌+◌, ◌<◌, ◌≤◌}
use mathlib.Core.List.{List, ◌++◌}
use mathlib.Core.Path.{◌≡◌, refl, sym, ap, ap₂, subst, ◌∙◌}
use native.Mathlib.Omega.{arith}
use borrow.Author.Rules.{part_to_end}
use borrow.Author.Rules.{rules}
use lib.ListN.{length, drop, length-drop}
use Rattle.sheet.specs.Layout.{sheet_of}
use Rattle.bay_wind.specs.Exposure.{neighbours_of, sheet_in_bay}
use Rattle.bay_rows.specs.Bay.{row_count, row_place}
use Rattle.bay_rows.specs.Refusals.{rows_refusal}
use Rattle.bay_rows.proofs.Places.{place_first, next_is, row_there, row_is}
use Rattle.bay_rows.proofs.Readings.{Sound, sound}
use Rattle.bay_answer.specs.declared.Totals.{Totals}
use Rattle.bay_answer.specs.Rows.{row_bytes}
use Rattle.bay_answer.specs.Inner.Totalled.{row_totals, Bounded}
use Rattle.bay_put.specs.Inner.Answered.{answer_in}
use Rattle.bay_put_rows.specs.Inner.Together.{rows_bytes, totals_of}
use Rattle.bay_put_rows.proofs.Steps.{rows_are, totals_none, totals_more, bounded_none, bounded_more}
use Rattle.bay_put_rows.proofs.Steps.{stored_none, stored_more, same_room}
use Rattle.bay_put_rows.proofs.put_rows.Goals as goal

-- a bay that has no refusal, and its count
module _ (bay : List ℕ) (taken : rows_refusal bay ≡ Ok tt) {n : ℕ} (count : n ≡ row_count bay) where
  bay-sound : Sound bay
  bay-sound = sound bay taken

  few : n ≤ 24
  few = rw count bay-sound.few

  ends : row_place bay n ≤ length bay
  ends = omega (arith, ap (row_place bay) count, bay-sound.ends)

-- room is left for one row more
room :
    (report : List ℕ) {k n start : ℕ} {totals : Totals} →
    n ≤ 24 →
    k < n →
    Bounded k totals →
    length report ≡ start →
    20064 ≤ start →
    totals.length + 836 ≤ length report
room report some more bounded same enough = omega (arith, bounded.length, same, enough, some, more)

pub outlines-rows-requires : goal.outlines-rows-requires
outlines-rows-requires c = (few c.args.bay.now c.requires.0 c.requires.1, c.requires.1, c.requires.0)

pub loop-k-init : goal.loop-k-init
loop-k-init c =
    let bay = c.args.bay.now in
    let none = c.none-totals.ensures in
    record {
      few = few bay c.requires.0 c.requires.1;
      at = sym (place_first bay);
      near = search rules;
      totals = totals_none bay none;
      bounded = bounded_none none;
      stored = stored_none bay c.args.report.now;
      size = refl;
    }

pub row_at-requires : goal.row_at-requires
row_at-requires c =
    let bay = c.args.bay.now in (
      omega arith,
      row_there bay c.loop-k.k c.loop-k.invariant.at c.args.n c.loop-k-test.true (ends bay c.requires.0 c.requires.1),
    )

pub put_row-row-requires : goal.put_row-row-requires
put_row-row-requires c =
    let bay = c.args.bay.now in
    let l = c.loop-k.invariant in
    let row = row_is bay c.loop-k.k l.at c.row_at.ensures in
    let left = room c.loop-k.report l.few c.loop-k-test.true l.bounded l.size c.requires.2 in (
      rw row ((bay-sound bay c.requires.0 c.requires.1).rows c.loop-k.k (rw c.requires.1 at c.loop-k-test.true)),
      rw (part_to_end c.loop-k.report c.loop-k.totals.length, length-drop) (omega (arith, left)),
    )

pub loop-k-preserved : goal.loop-k-preserved
loop-k-preserved c =
    let bay = c.args.bay.now in
    let k = c.loop-k.k in
    let l = c.loop-k.invariant in
    let e = c.next_place-at.ensures in
    let row = c.put_row-row.ensures in
    let row_handed = row_is bay k l.at c.row_at.ensures in
    let near_is = c.neighbours_of-near.ensures
    ∙ ap (λ rows. neighbours_of rows k) (rows_are bay c.args.n c.outlines-rows.ensures c.requires.1) in
    let answered = answer_in c.neighbours_of-near.result c.row_at.result.now in
    let answer_is = ap₂ answer_in near_is row_handed in
    let totals = row.0 ∙ ap₂ (λ near s. row_totals (sheet_in_bay near (sheet_of s)) (answer_in near s)) near_is row_handed in
    let to = ap (λ (t : Totals). t.length) l.totals in
    let size = ap (λ (t : Totals). t.length) row.0 in
    let left = room c.loop-k.report l.few c.loop-k-test.true l.bounded l.size c.requires.2 in
    let space : c.loop-k.totals.length + length (row_bytes answered) ≤ length c.loop-k.report =
    omega (arith, size, row.1.length, left) in
    record {
      few = l.few;
      at = next_is bay k l.at e.0;
      near = omega (arith, l.near, e.1);
      totals = totals_more bay k l.totals totals c.added_up-totals.ensures;
      bounded = bounded_more k l.bounded row.1 c.added_up-totals.ensures;
      stored = stored_more bay k c.args.report.now l.stored to space row.2 answer_is;
      size = same_room (row_bytes answered) c.loop-k.report c.loop-k.totals.length space row.2 ∙ l.size;
    }

pub returns : goal.returns
returns c =
    let bay = c.args.bay.now in
    let l = c.loop-k.invariant in
    let all : c.loop-k.k ≡ c.args.n = omega (arith, c.loop-k-test.false) in (
      l.totals ∙ ap (totals_of bay) all,
      subst (λ m. Bounded m c.loop-k.totals) all l.bounded,
      l.stored ∙ ap (λ m. rows_bytes bay m ++ drop (length (rows_bytes bay m)) c.args.report.now) all,
    )
