-- `bay_outlines::outline_of`: the counts and lengths that a loaded row needs follow from its being taken (Heights).
use Rattle.std.specs.Prelude.{Ok}
use Prim.Native.Nat.{ℕ}
use mathlib.Core.List.{List}
use mathlib.Core.Path.{◌≡◌, sym, ◌∙◌}
use native.Mathlib.Omega.{arith}
use lib.ListN.{length}
use Rattle.sheet.specs.Refusals.{first, sheet_rows}
use Rattle.bay_rows.specs.Refusals.{row_reading}
use Rattle.bay_outlines.proofs.Heights.{empty_outline, tiers_few, tiers_held, first_held, loaded_outline}
use Rattle.bay_rows.proofs.Readings.{loaded_reading}
use Rattle.bay_outlines.proofs.outline_of.Goals as goal

-- a loaded row is taken
taken : (row : List ℕ) → (length row ≡ 0 → ⊥) → row_reading row ≡ Ok tt → first (sheet_rows row) ≡ Ok tt
taken row some h = sym (loaded_reading row some) ∙ h

pub returns-then-row-eq0 : goal.returns-then-row-eq0
returns-then-row-eq0 c = c.empty_row.ensures ∙ empty_outline c.args.row.now c.if-row-eq0.true

pub height_of-requires : goal.height_of-requires
height_of-requires c =
    let s = c.args.row.now in
    rw c.byte_at-n.ensures.0 (tiers_few s c.if-row-eq0.false (taken c.args.row.now c.if-row-eq0.false c.requires), tiers_held s c.if-row-eq0.false (taken c.args.row.now c.if-row-eq0.false c.requires))

pub field1-requires : goal.field1-requires
field1-requires c =
    omega (arith, first_held c.args.row.now c.if-row-eq0.false (taken c.args.row.now c.if-row-eq0.false c.requires))

pub returns : goal.returns
returns c =
    loaded_outline c.args.row.now c.if-row-eq0.false (taken c.args.row.now c.if-row-eq0.false c.requires) c.byte_at-n.ensures.0 c.height_of.ensures
    c.field1.ensures
