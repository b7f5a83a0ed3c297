-- The tiers of a row that has no refusal, under the height that covers all of them.
use Rattle.std.specs.Prelude.{Ok}
use Prim.Native.Nat.{ℕ, suc, ◌<◌, ◌≤◌}
use mathlib.Core.List.{List, map}
use mathlib.Core.Path.{◌≡◌, sym, ap, ◌∙◌}
use native.Mathlib.Nat.{zero-add}
use native.Mathlib.Omega.{arith}
use lib.ListN.{length}
use Rattle.arith.specs.Bytes.{byte_at}
use Rattle.arith.specs.Lists.{below, padded}
use Rattle.arith.proofs.Arrays.{length_entries, entry, entries_are, entry_at}
use Rattle.sheet.specs.declared.Tier.{Tier}
use Rattle.sheet.specs.Layout.{tier_count, tier_place, tier_in, tiers_in, blank_tier, sheet_of}
use Rattle.sheet.specs.Fits.{tier_at}
use Rattle.sheet.specs.Refusals.{first, sheet_rows}
use Rattle.sheet.proofs.Clear.{parts, some_tier, few_tiers, tiers_there}
use Rattle.sheet.proofs.Items.{tier_size}
use Rattle.sheet.proofs.Limits.{tier_filled}
use Rattle.sheet.proofs.TakenSheets.{taken_fits}
use Rattle.bay_wind.specs.declared.Neighbours.{Neighbours}
use Rattle.bay_wind.specs.Exposure.{height_of, with_wind, tier_in_bay, sheet_in_bay}
use Rattle.bay_wind.proofs.Sums.{sum_next}
use Rattle.bay_cover.specs.Inner.Covers.{cover_of, shown_above}
use Rattle.bay_cover.proofs.Covers.{in_bay}

abbrev pub tier_under : ℕ → List Tier → ℕ → Tier
tier_under cover tiers k =
    let t = tier_at tiers k in
    with_wind (shown_above cover t.height (height_of tiers (suc k))) t

module _ (s : List ℕ) (taken : first (sheet_rows s) ≡ Ok tt) where
  abbrev n : ℕ
  n = tier_count s

  abbrev tier : ℕ → Tier
  tier k = tier_at (tiers_in s n) k

  pub few : n ≤ 10
  few = few_tiers s (parts s taken).tiers

  pub there : tier_place n ≤ length s
  there = tiers_there s (parts s taken).tiers

  some : 1 ≤ n
  some = some_tier s (parts s taken).tiers

  pub first_there : 9 < length s
  first_there = omega (arith, some, there)

  pub held : (k : ℕ) → k < n → tier_in s k ≡ tier k
  held k h = sym (entry_at (tier_in s) blank_tier n 10 k h)

  tall : (k : ℕ) → k < n → 0 < (tier k).height
  unfolding sheet_of
  tall k h = omega (arith, (tier_filled (tier k) ((taken_fits s taken).tiers k h)).height)

  below_top : (k : ℕ) → (tier k).height ≤ height_of (tiers_in s n) (suc k)
  below_top k = rw (sum_next (λ j. (tier j).height) k) (omega arith)

  one_size : (k : ℕ) → k < n → (tier k).size ≡ byte_at s 9
  unfolding sheet_of
  one_size k h =
      (taken_fits s taken).sizes k h ∙ ap (λ (t : Tier). t.size) (sym (held 0 (omega (arith, h)))) ∙ tier_size s 9

  module _ (near : Neighbours) {cover : ℕ} (e : cover ≡ cover_of (byte_at s 9) near) where
    each : (k : ℕ) → k < n → tier_under cover (tiers_in s n) k ≡ tier_in_bay near (tiers_in s n) k
    each k h =
        let top = height_of (tiers_in s n) (suc k) in
        let covered : cover_of (tier k).size near ≡ cover = ap (λ z. cover_of z near) (one_size k h) ∙ sym e in
        let seen = in_bay (tier k) top (tall k h) (below_top k) near ∙ ap (λ c. shown_above c (tier k).height top) covered in
        ap (λ x. with_wind x (tier k)) (sym seen)

    pub all_under : padded 10 blank_tier (map (tier_under cover (tiers_in s n)) (below n)) ≡ (sheet_in_bay near (sheet_of s)).tiers
    unfolding sheet_of
    all_under =
        let fresh : ℕ → Tier = tier_in_bay near (tiers_in s n) in
        ap (padded 10 blank_tier)
        (entries_are (tier_under cover (tiers_in s n)) blank_tier (map fresh (below n)) n (length_entries fresh blank_tier n)
        (λ k h. each k h ∙ sym (entry fresh blank_tier 0 n k h ∙ ap fresh (zero-add k))))
