-- What turns a short sheet back, in its order; and one that is taken goes with the stack.
use Rattle.std.specs.Prelude.{Ok, Err}
use Prim.Native.Nat.{ℕ, suc, ◌+◌, ◌-◌, ◌*◌, ◌<◌, ◌≤◌}
use mathlib.Core.Bool.{not}
use mathlib.Core.List.{List, [], ◌∷◌, flat_map}
use mathlib.Core.Path.{◌≡◌, refl, ap, ◌∙◌}
use native.Mathlib.Omega.{arith}
use borrow.Author.Tests.{eq-eqb, ne_eqb, eqb-true, lt-ltb, le-ltb, ltb-false}
use lib.Dec.{eqb}
use lib.ListN.{length}
use Rattle.arith.specs.Lists.{from}
use Rattle.sheet.specs.Refusals.{Row, numbers, first}
use Rattle.sheet.proofs.Bools.{or_false, not_false}
use Rattle.sheet.proofs.Clear.{clear, clear_each}
use Rattle.sheet.proofs.Rows.{no_rows, row_holds, row_passed, entry_taken, entry_refused, no_entry_left}
use Rattle.side_walls.specs.SideWalls.{pitch_count, longitudinal}
use Rattle.side_walls.specs.Inner.Units.{Pitched}
use Rattle.side_parts.specs.ShortSheets.{row15, pitch_rows}

module _ (n : ℕ) (p : List ℕ) where
  abbrev tier_row : ℕ → List Row
  tier_row i = row15 p i ∷ []

  -- 15 for the tiers from number i on
  abbrev pub from_tier : ℕ → List Row
  from_tier i = flat_map tier_row (from i (n - i))

  pub wrong_length : (length p ≡ 1 + 2 * n → ⊥) → first (pitch_rows n p) ≡ Err (numbers 14 0)
  wrong_length h = row_holds _ _ (rw (ne_eqb (length p) (1 + 2 * n) h) refl)

  module _ (long : length p ≡ 1 + 2 * n) where
    pub wrong_count : (pitch_count p ≡ n → ⊥) → first (pitch_rows n p) ≡ Err (numbers 14 0)
    wrong_count h = row_holds _ _ (rw (eq-eqb (length p) (1 + 2 * n) long, ne_eqb (pitch_count p) n h) refl)

    pub past_14 : pitch_count p ≡ n → first (pitch_rows n p) ≡ first (from_tier 0)
    past_14 e =
        let all : n ≡ n - 0 = omega arith in
        row_passed _ _ (rw (eq-eqb (length p) (1 + 2 * n) long, eq-eqb (pitch_count p) n e) refl)
        ∙ ap (λ (left : ℕ). first (flat_map tier_row (from 0 left))) all

  pub tier_passed : (i : ℕ) → i < n → longitudinal p i ≤ 1500 → first (from_tier i) ≡ first (from_tier (i + 1))
  tier_passed i h l = entry_taken tier_row i n h (row_passed _ _ (le-ltb 1500 (longitudinal p i) l) ∙ no_rows)

  pub tier_refused : (i : ℕ) → i < n → 1500 < longitudinal p i → first (from_tier i) ≡ Err (numbers 15 (suc i))
  tier_refused i h l = entry_refused tier_row i n h (row_holds _ _ (lt-ltb 1500 (longitudinal p i) l))

  pub tiers_passed : (i : ℕ) → n ≤ i → first (from_tier i) ≡ Ok tt
  tiers_passed i h = no_entry_left tier_row i n h

  pub pitched : first (pitch_rows n p) ≡ Ok tt → Pitched n p
  pitched e =
      let c = clear (pitch_rows n p) e in
      let w = or_false (not (eqb (length p) (1 + 2 * n))) (not (eqb (pitch_count p) n)) c.0 in
      record {
        long = eqb-true (length p) (1 + 2 * n) (not_false _ w.0);
        small = λ i h. ltb-false 1500 (longitudinal p i) (clear_each tier_row n i c.1 h).0;
      }
