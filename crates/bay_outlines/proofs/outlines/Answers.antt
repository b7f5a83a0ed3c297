-- `bay_outlines::outlines`: after k turns the array holds the first k outlines, then empty rows.
use Rattle.std.specs.Prelude.{Ok}
use Prim.Native.Nat.{ℕ, ◌≤◌}
use mathlib.Core.List.{List, map}
use mathlib.Core.Path.{◌≡◌, refl, sym, ap, ◌∙◌}
use native.Mathlib.Omega.{arith}
use borrow.Author.Rules.{rules}
use lib.ListN.{length, length-set}
use Rattle.arith.specs.Lists.{from, below, padded}
use Rattle.arith.proofs.Arrays.{one_more}
use Rattle.bay_wind.specs.declared.Outline.{Outline}
use Rattle.bay_wind.specs.Exposure.{empty_row}
use Rattle.bay_rows.specs.Bay.{row_count, row_place, row_of, outline_of}
use Rattle.bay_rows.specs.Refusals.{rows_refusal}
use Rattle.bay_rows.proofs.Places.{place_first, next_is, row_there, row_is}
use Rattle.bay_rows.proofs.Readings.{sound}
use Rattle.bay_outlines.proofs.outlines.Goals as goal

ends : (bay : List ℕ) (n : ℕ) → n ≡ row_count bay → rows_refusal bay ≡ Ok tt → row_place bay n ≤ length bay
ends bay n e h = omega (arith, ap (row_place bay) e, (sound bay h).ends)

pub loop-k-init : goal.loop-k-init
unfolding from
loop-k-init c = (sym (place_first c.args.bay.now), search rules, rw c.empty_row-outlines.ensures refl)

pub row_at-requires : goal.row_at-requires
row_at-requires c =
    let bay = c.args.bay.now in
    (omega arith, row_there bay c.loop-k.k c.loop-k.invariant.0 c.args.n c.loop-k-test.true (ends bay c.args.n c.requires.1 c.requires.2))

pub outline_of-requires : goal.outline_of-requires
outline_of-requires c =
    let row = row_is c.args.bay.now c.loop-k.k c.loop-k.invariant.0 c.row_at.ensures in
    rw row ((sound c.args.bay.now c.requires.2).rows c.loop-k.k (rw c.requires.1 at c.loop-k-test.true))

pub loop-k-preserved : goal.loop-k-preserved
loop-k-preserved c =
    let bay = c.args.bay.now in
    let k = c.loop-k.k in
    let outline : ℕ → Outline = λ j. outline_of (row_of bay j) in
    let row = row_is bay k c.loop-k.invariant.0 c.row_at.ensures in
    let read = c.outline_of.ensures ∙ ap outline_of row in
    let e = c.next_place-at.ensures in (
      next_is bay k c.loop-k.invariant.0 e.0,
      omega arith,
      rw (c.loop-k.invariant.2, read) (one_more outline empty_row 24 k (omega arith)),
    )

pub returns : goal.returns
returns c =
    let a = c.args in
    c.loop-k.invariant.2 ∙ ap (λ n. padded 24 empty_row (map (λ j. outline_of (row_of a.bay.now j)) (below n))) (omega arith)
