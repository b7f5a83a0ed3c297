-- A row as the rows beside it see it, by its bytes.
use Rattle.std.specs.Prelude.{Ok}
use Prim.Native.Nat.{ℕ, ◌<◌, ◌≤◌}
use mathlib.Core.List.{List}
use mathlib.Core.Path.{◌≡◌, sym, ap, ◌∙◌}
use native.Mathlib.Omega.{arith}
use borrow.Author.Tests.{eq-eqb, ne_eqb}
use lib.ListN.{length}
use Rattle.arith.specs.Bytes.{byte_at}
use Rattle.arith.proofs.Arrays.{entry_at}
use Rattle.sheet.specs.declared.Tier.{Tier}
use Rattle.sheet.specs.Layout.{tier_count, tier_place, tier_in, tiers_in, blank_tier, sheet_of}
use Rattle.sheet.specs.Refusals.{first, sheet_rows}
use Rattle.sheet.proofs.Clear.{parts, some_tier, few_tiers, tiers_there}
use Rattle.sheet.proofs.Items.{tier_size}
use Rattle.bay_wind.specs.declared.Outline.{Outline}
use Rattle.bay_wind.specs.Exposure.{height_of, empty_row}
use Rattle.bay_rows.specs.Bay.{outline_of}

module _ (s : List ℕ) where
  pub empty_outline : length s ≡ 0 → empty_row ≡ outline_of s
  unfolding outline_of
  empty_outline e = rw (eq-eqb (length s) 0 e)

  module _ (loaded : length s ≡ 0 → ⊥) (taken : first (sheet_rows s) ≡ Ok tt) where
    pub tiers_few : tier_count s ≤ 10
    tiers_few = few_tiers s (parts s taken).tiers

    pub tiers_held : tier_place (tier_count s) ≤ length s
    tiers_held = tiers_there s (parts s taken).tiers

    pub first_held : 9 < length s
    first_held = omega (arith, some_tier s (parts s taken).tiers, tiers_held)

    pub loaded_outline :
        {n height size : ℕ} →
        n ≡ tier_count s →
        height ≡ height_of (tiers_in s n) n →
        size ≡ byte_at s 9 →
        ◌≡◌ {A = Outline} (record { height = height; size = size }) (outline_of s)
    unfolding outline_of sheet_of
    loaded_outline {n} e f g =
        let first_tier = entry_at (tier_in s) blank_tier (tier_count s) 10 0 (omega (arith, some_tier s (parts s taken).tiers)) in
        let size_is = g ∙ sym (tier_size s 9) ∙ ap (λ (t : Tier). t.size) (sym first_tier) in
        let height_is = f ∙ ap (λ (m : ℕ). height_of (tiers_in s m) m) e in
        rw (ne_eqb (length s) 0 loaded) (λ i. record { height = height_is i; size = size_is i })
