-- One row: empty, or answered as its sheet is.
use Rattle.std.specs.Prelude.{Ok}
use Prim.Native.Nat.{ℕ, ◌+◌, ◌*◌, ◌≤◌}
use mathlib.Core.List.{List, [], ◌∷◌, ◌++◌}
use mathlib.Core.Path.{◌≡◌, refl, sym, ap, ◌∙◌}
use native.Mathlib.Omega.{arith}
use borrow.Author.Tests.{eq-eqb, ne_eqb}
use lib.ListN.{length, drop}
use lib.Seq.{sets, sets-eq}
use Rattle.arith.specs.Bytes.{byte_at, bytes2}
use Rattle.sheet.specs.declared.Sheet.{Sheet}
use Rattle.sheet.specs.declared.Tier.{Tier}
use Rattle.sheet.specs.Layout.{tier_count, tier_place, door_place, tiers_in, sheet_of}
use Rattle.sheet.specs.Fits.{tier_at, Fits}
use Rattle.sheet.specs.Refusals.{first, sheet_rows}
use Rattle.sheet.proofs.Clear.{parts, few_tiers, tiers_there}
use Rattle.sheet.proofs.TakenSheets.{taken_fits, taken_size}
use Rattle.bay_wind.specs.declared.Neighbours.{Neighbours}
use Rattle.bay_wind.specs.Sums.{sum_of, larger, greatest_of}
use Rattle.bay_wind.specs.Exposure.{with_wind, sheet_in_bay}
use Rattle.bay_wind.proofs.Fitting.{held, in_bay_fits}
use Rattle.bay_wind.proofs.Sums.{sum_same}
use Rattle.bay_rows.specs.Refusals.{row_reading}
use Rattle.bay_rows.proofs.Readings.{loaded_reading}
use Rattle.bay_answer.specs.declared.Totals.{Totals}
use Rattle.bay_answer.specs.Rows.{row_bytes, accepted_in, mass_of, racking_in}
use Rattle.bay_answer.specs.Inner.Totalled.{answer_of, row_totals, totals_with, Bounded}
use Rattle.bay_put.specs.Inner.Answered.{answer_in, RowPut}
use Rattle.bay_put.proofs.Answers.{answer_short, answer_long, row_totals_lem}

abbrev nothing : Totals
nothing = record { length = 2; accepted = 0; mass = 0; racking = 0 }

module _ (near : Neighbours) where
  pub empty_answer : (s : List ℕ) → length s ≡ 0 → answer_in near s ≡ []
  unfolding answer_in
  empty_answer s e = rw (eq-eqb (length s) 0 e)

  no_totals : nothing ≡ row_totals (sheet_in_bay near (sheet_of [])) []
  unfolding sheet_of accepted_in mass_of racking_in sum_of larger greatest_of
  no_totals = refl

  pub empty_totals : (s : List ℕ) → length s ≡ 0 → nothing ≡ row_totals (sheet_in_bay near (sheet_of s)) (answer_in near s)
  empty_totals [] e = no_totals ∙ ap (row_totals (sheet_in_bay near (sheet_of []))) (sym (empty_answer [] refl))
  empty_totals (x ∷ xs) e = absurd (omega (arith, e))

  pub empty_stored :
      (s report : List ℕ) {after : List ℕ} →
      length s ≡ 0 →
      2 ≤ length report →
      after ≡ sets report 0 (bytes2 0) →
      after ≡ row_bytes (answer_in near s) ++ drop (length (row_bytes (answer_in near s))) report
  empty_stored s report e room is =
      is
      ∙ sets-eq (bytes2 0) report 0 room
      ∙ ap (λ a. row_bytes a ++ drop (length (row_bytes a)) report) (sym (empty_answer s e))

  -- a loaded row that has no refusal
  module _ (s : List ℕ) (loaded : length s ≡ 0 → ⊥) where
    pub loaded_answer : answer_in near s ≡ answer_of (sheet_in_bay near (sheet_of s))
    unfolding answer_in
    loaded_answer = rw (ne_eqb (length s) 0 loaded)

    pub row_taken_lem : row_reading s ≡ Ok tt → first (sheet_rows s) ≡ Ok tt
    row_taken_lem e = sym (loaded_reading s loaded) ∙ e

    pub sheet_fits : row_reading s ≡ Ok tt → Fits (sheet_in_bay near (sheet_of s))
    sheet_fits e = in_bay_fits near (taken_fits s (row_taken_lem e))

  -- a row whose sheet has no refusal
  module _ (s : List ℕ) (taken : first (sheet_rows s) ≡ Ok tt) where
    abbrev in_bay : Sheet
    in_bay = sheet_in_bay near (sheet_of s)

    fits : Fits in_bay
    fits = in_bay_fits near (taken_fits s taken)

    some_bytes : length s ≡ 0 → ⊥
    some_bytes e = omega (arith, (taken_size s taken).0)

    -- its mass is that of its bytes' tiers: the wind codes have no part in it
    mass_is : mass_of in_bay ≡ sum_of (λ j. (tier_at (tiers_in s (tier_count s)) j).mass) (tier_count s)
    unfolding mass_of sheet_of with_wind
    mass_is =
        sum_same (λ j. (tier_at in_bay.tiers j).mass) (λ j. (tier_at (tiers_in s (tier_count s)) j).mass) (tier_count s)
        (λ j h. ap (λ (t : Tier). t.mass) (held near (taken_fits s taken) j h))

    -- by its counts as they are read, and the bytes of its answer: what `totals_of` asks, and what is said of the row
    module _ {n lashes : ℕ} {bytes : List ℕ} (e : n ≡ tier_count s) (g : lashes ≡ byte_at s (door_place s))
        (read : bytes ≡ answer_of in_bay) where
      pub counts_fit : (n ≤ 10) × (lashes ≤ 8) × (10 + 16 * n + 12 * lashes ≤ length bytes) × (length bytes ≤ 834)
      unfolding sheet_of
      counts_fit = rw (e, g, read) (fits.few, fits.door.few, answer_long fits, omega (arith, answer_short fits))

      pub totals_are :
          {mass : ℕ} {r : Totals} →
          mass ≡ sum_of (λ j. (tier_at (tiers_in s n) j).mass) n →
          r ≡ totals_with bytes n lashes mass →
          r ≡ row_totals in_bay (answer_of in_bay)
      unfolding sheet_of
      totals_are is said = said ∙ rw (is, e, g, read, ← mass_is) (row_totals_lem fits (answer_of in_bay))

    -- what the buffer holds then
    pub put :
        (report : List ℕ) {after : List ℕ} {r : Totals} →
        r ≡ row_totals in_bay (answer_of in_bay) →
        Bounded 1 r →
        after ≡ row_bytes (answer_of in_bay) ++ drop (length (row_bytes (answer_of in_bay))) report →
        RowPut near s report after r
    put report {after} {r} totals bounded stored =
        let is = sym (loaded_answer s some_bytes) in (
          totals ∙ ap (row_totals in_bay) is,
          bounded,
          stored ∙ ap (λ a. row_bytes a ++ drop (length (row_bytes a)) report) is,
        )

-- its tiers are there, ten at most
pub tiers_held : (s : List ℕ) → first (sheet_rows s) ≡ Ok tt → (tier_count s ≤ 10) × (tier_place (tier_count s) ≤ length s)
tiers_held s taken =
    let p = (parts s taken).tiers in
    (few_tiers s p, tiers_there s p)

pub nothing_bounded : Bounded 1 nothing
nothing_bounded = record { length = omega arith; accepted = omega arith; mass = omega arith; racking = omega arith }
