-- A gear section that is taken: what it holds, and what decoding it gives.
use Rattle.std.specs.Prelude.{Ok, Err}
use Prim.Native.Nat.{ℕ, ◌<◌, ◌≤◌}
use mathlib.Core.List.{List, [], ◌∷◌}
use mathlib.Core.Path.{◌≡◌, sym, subst, ◌∙◌}
use borrow.Author.Tests.{lt-ltb, le-ltb}
use lib.ListN.{length}
use Rattle.arith.specs.Lists.{padded}
use Rattle.arith.proofs.Arrays.{length_entries}
use Rattle.sheet.specs.declared.Refusal.{Refusal}
use Rattle.sheet.specs.Layout.{lash_place, lash_in, blank_lash}
use Rattle.sheet.specs.Fits.{EndFits}
use Rattle.sheet.specs.Refusals.{numbers, row2, first, end_rows}
use Rattle.sheet.proofs.CallRefusals.{taken_of, refused_of}
use Rattle.sheet.proofs.Clear.{Clear, clear, clear_append, few_lashes, lashes_there}
use Rattle.sheet.proofs.Rows.{no_rows, row_holds, row_passed, behind_taken}
use Rattle.sheet.proofs.TakenSheets.{end_fits}
use Rattle.gear.specs.declared.Gear.{Gear}
use Rattle.gear.specs.Gear.{gear_count, gear_lashes, gear_rows, gear_of, gear_decoded}

pub as_counted : (g : List ℕ) → length (gear_lashes g) ≡ gear_count g
as_counted g = length_entries (lash_in g 0) blank_lash (gear_count g)

module _ (n : ℕ) (g : List ℕ) (e : first (gear_rows n g) ≡ Ok tt) where
  as_an_end : Clear (end_rows n g 0)
  as_an_end = (clear_append (end_rows n g 0) (row2 g (lash_place 0 (gear_count g)) ∷ []) (clear (gear_rows n g) e)).0

  pub few : gear_count g ≤ 8
  few = few_lashes n g 0 as_an_end

  pub there : lash_place 0 (gear_count g) ≤ length g
  there = lashes_there n g 0 as_an_end

  -- what a sheet asks of an end
  pub section_fits : EndFits n (padded 8 blank_lash (gear_lashes g)) (length (gear_lashes g))
  section_fits = subst (EndFits n (padded 8 blank_lash (gear_lashes g))) (sym (as_counted g)) (end_fits n g 0 as_an_end)

-- behind the lashes: 2, or nothing
module _ (n : ℕ) (g : List ℕ) (e : first (end_rows n g 0) ≡ Ok tt) where
  abbrev spare : ℕ
  spare = lash_place 0 (gear_count g)

  at_spare : first (gear_rows n g) ≡ first (row2 g spare ∷ [])
  at_spare = behind_taken (end_rows n g 0) (row2 g spare ∷ []) e

  pub spare_refused : spare < length g → first (gear_rows n g) ≡ Err (numbers 2 spare)
  spare_refused h = at_spare ∙ row_holds (row2 g spare) [] (lt-ltb spare (length g) h)

  pub section_taken : length g ≤ spare → first (gear_rows n g) ≡ Ok tt
  section_taken h = at_spare ∙ row_passed (row2 g spare) [] (le-ltb spare (length g) h) ∙ no_rows

-- decoding it: by what its rows say
module _ (n : ℕ) (g : List ℕ) where
  pub gear_taken : {d : Gear} → gear_decoded n g ≡ Ok d → (first (gear_rows n g) ≡ Ok tt) × (gear_of (gear_lashes g) ≡ d)
  unfolding gear_decoded
  gear_taken e = taken_of (first (gear_rows n g)) e

  pub gear_refused : {why : Refusal} → gear_decoded n g ≡ Err why → first (gear_rows n g) ≡ Err why
  unfolding gear_decoded
  gear_refused e = refused_of (first (gear_rows n g)) (gear_of (gear_lashes g)) e

  pub gear_not : {why : Refusal} → first (gear_rows n g) ≡ Err why → gear_decoded n g ≡ Err why
  unfolding gear_decoded
  gear_not e = rw e
