-- The refusals of a preview in their order.
use Rattle.std.specs.Prelude.{Ok, Err}
use Prim.Native.Nat.{ℕ, ◌-◌, ◌<◌, ◌≤◌}
use mathlib.Core.Bool.{Bool, true, false, not, ◌||◌}
use mathlib.Core.List.{List, [], ◌∷◌, ◌++◌}
use mathlib.Core.Path.{◌≡◌, refl, sym, ap, subst, ◌∙◌}
use native.Mathlib.Omega.{arith}
use borrow.Author.Tests.{eqb-false, ltb-false}
use lib.Dec.{eqb, ltb}
use Rattle.sheet.specs.Refusals.{Reading}
use Rattle.sheet.specs.Layout.{tier_count, tier_place, within}
use Rattle.sheet.specs.Refusals.{Row, row, row7, row13, first, sheet_rows, longest_answer, refusal_of, refusal}
use Rattle.sheet.proofs.Bools.{or_false}
use Rattle.sheet.proofs.CallRefusals.{sheet_refused, room_last}
use Rattle.sheet.proofs.Rows.{no_rows, row_holds, row_passed, behind_taken, behind_refused}
use Rattle.preview_moves.specs.Previews.{with_mass, row17, move_refusal}
use Rattle.preview_moves.specs.Theorems.{or_copy, RefusedInOrder}
use Rattle.preview_moves.specs.Inner.Moved.{mass_row}
use Rattle.preview_moves.proofs.Copies.{this_fits, copy_taken, copy_refused}
use Rattle.sheet.specs.declared.Refusal.{Refusal}
use Rattle.sheet.specs.Refusals.{numbers}

pub stack_has : (n tier : ℕ) → eqb tier 0 || ltb n tier ≡ false → (1 ≤ tier) × (tier ≤ n)
stack_has n tier e =
    let tests = or_false (eqb tier 0) (ltb n tier) e in
    let ne = eqb-false tier 0 tests.0 in
    (omega arith, ltb-false n tier tests.1)

module _ (s : List ℕ) (tier : ℕ) where
  abbrev pub lacking : Bool
  lacking = eqb tier 0 || ltb (tier_count s) tier

  pub sheet_first : {why : Refusal} → first (sheet_rows s) ≡ Err why → move_refusal s tier ≡ Err why
  unfolding move_refusal
  sheet_first e = behind_refused (sheet_rows s) (row17 s tier ∷ []) e

  module _ (taken : first (sheet_rows s) ≡ Ok tt) where
    past_sheet : move_refusal s tier ≡ first (row17 s tier ∷ [])
    unfolding move_refusal
    past_sheet = behind_taken (sheet_rows s) (row17 s tier ∷ []) taken

    pub lacks_tier : lacking ≡ true → move_refusal s tier ≡ Err (numbers 17 tier)
    lacks_tier e = past_sheet ∙ row_holds _ _ e

    pub has_tier : lacking ≡ false → move_refusal s tier ≡ Ok tt
    has_tier e = past_sheet ∙ row_passed _ _ e ∙ no_rows

-- the check of the copy is turned back for the mass, then for its room
module _ (s : List ℕ) (taken : first (sheet_rows s) ≡ Ok tt) (tier mass : ℕ) (some : 1 ≤ tier) (has : tier ≤ tier_count s)
    (small : mass < 65536) (room : ℕ) where
  abbrev copy : List ℕ
  copy = with_mass tier mass s

  pub copy_refusal : refusal copy room ≡ first (mass_row tier mass ∷ row13 longest_answer room ∷ [])
  copy_refusal = go (within 1 30480 mass) refl
    where
      go :
          (b : Bool) →
          within 1 30480 mass ≡ b →
          refusal copy room ≡ first (row 7 (tier_place (tier - 1)) (not b) ∷ row13 longest_answer room ∷ [])
      go true q =
          room_last copy room (copy_taken s taken tier mass some has small q) ∙ sym (row_passed _ _ refl)
      go false q =
          sheet_refused copy room (copy_refused s taken tier mass some has small q) ∙ sym (row_holds _ _ refl)

  by_the_copy : refusal copy room ≡ first (row7 copy (tier - 1) ∷ row13 longest_answer room ∷ [])
  by_the_copy =
      copy_refusal
      ∙ ap (λ b. first (row 7 (tier_place (tier - 1)) (not b) ∷ row13 longest_answer room ∷ []))
      (sym (this_fits s taken tier mass some has small))

pub refused_in_order : RefusedInOrder
unfolding refusal_of
refused_in_order s tier mass room small = go (first (sheet_rows s)) refl
  where
    behind : List Row
    behind = row17 s tier ∷ row7 (with_mass tier mass s) (tier - 1) ∷ row13 longest_answer room ∷ []

    whole : Reading → Type 0
    whole q = or_copy q (refusal (with_mass tier mass s) room) ≡ first (sheet_rows s ++ behind)

    of_tier : first (sheet_rows s) ≡ Ok tt → (b : Bool) → lacking s tier ≡ b → whole (move_refusal s tier)
    of_tier taken true e =
        subst whole (sym (lacks_tier s tier taken e)) (sym (behind_taken (sheet_rows s) behind taken ∙ row_holds _ _ e))
    of_tier taken false e =
        let (some, has) = stack_has (tier_count s) tier e in
        subst whole (sym (has_tier s tier taken e))
        (by_the_copy s taken tier mass some has small room ∙ sym (behind_taken (sheet_rows s) behind taken ∙ row_passed _ _ e))

    go : (q : Reading) → first (sheet_rows s) ≡ q → whole (move_refusal s tier)
    go (Err why) e = subst whole (sym (sheet_first s tier e)) (sym (behind_refused (sheet_rows s) behind e))
    go (Ok _) e = of_tier e (lacking s tier) refl
