-- A taken sheet's bytes with the wind codes of a bay put in: what they hold, and that they are taken.
use Rattle.std.specs.Prelude.{Ok}
use Prim.Native.Nat.{ℕ, zero, suc, ◌+◌, ◌/◌, ◌%◌, ◌<◌, ◌≤◌}
use mathlib.Core.Bool.{Bool, true, false, cond}
use mathlib.Core.List.{List, map}
use mathlib.Core.Logic.{◌≢◌}
use mathlib.Core.Path.{◌≡◌, refl, sym, ap, ◌∙◌}
use native.Mathlib.Nat.{zero-add}
use native.Mathlib.Omega.{arith}
use borrow.Author.Tests.{eqb-true, eqb-false}
use lib.Dec.{eqb}
use lib.ListN.{length, set, length-set}
use lib.Seq.{get_or-set_same, get_or-set_other}
use Rattle.arith.specs.Bytes.{byte_at, le2}
use Rattle.arith.specs.Lists.{below, padded}
use Rattle.arith.proofs.Arrays.{length_entries, entry, entries_are, entry_at}
use Rattle.sheet.specs.declared.Tier.{Tier}
use Rattle.sheet.specs.Layout.{tier_of, tier_count, tier_place, tier_in, blank_tier, tiers_in, wind_code, exposed, turned, tier_fits}
use Rattle.sheet.specs.Layout.{sheet_of}
use Rattle.sheet.specs.Fits.{tier_at, Fits}
use Rattle.sheet.specs.Refusals.{first, sheet_rows}
use Rattle.sheet.specs.Inner.Changed.{with_tiers}
use Rattle.sheet.proofs.Clear.{parts, tiers_there}
use Rattle.sheet.proofs.Limits.{wind_codes}
use Rattle.sheet.proofs.OtherTiers.{OnlyTiersDiffer, other_sheet, tiers_taken}
use Rattle.sheet.proofs.TakenSheets.{taken_fits}
use Rattle.bay_wind.specs.declared.Neighbours.{Neighbours}
use Rattle.bay_wind.specs.Exposure.{height_of, exposed_in_bay, with_wind, tier_in_bay, sheet_in_bay}
use Rattle.bay_wind.proofs.Fitting.{held, in_bay_fits}
use Rattle.bay.specs.Theorems.{with_winds}

-- the bytes: as many, the wind bytes put in, all others as they were
module _ (wind : ℕ → ℕ) (s : List ℕ) where
  pub put_size : (k : ℕ) → length (with_winds wind k s) ≡ length s
  unfolding with_winds
  put_size zero = refl
  put_size (suc k) = length-set (with_winds wind k s) (tier_place k + 1) (wind k) ∙ put_size k

  pub put_elsewhere : (k i : ℕ) → ((j : ℕ) → j < k → i ≢ tier_place j + 1) → byte_at (with_winds wind k s) i ≡ byte_at s i
  unfolding with_winds
  put_elsewhere zero i h = refl
  put_elsewhere (suc k) i h =
      get_or-set_other (with_winds wind k s) (tier_place k + 1) i (wind k) 0 (h k (omega arith))
      ∙ put_elsewhere k i (λ j q. h j (omega (arith, q)))

  pub put_there : (k j : ℕ) → j < k → tier_place k ≤ length s → byte_at (with_winds wind k s) (tier_place j + 1) ≡ wind j
  unfolding with_winds
  put_there zero j h room = absurd (omega (arith, h))
  put_there (suc k) j h room = go (λ q. put_there k j q (omega (arith, room))) (eqb j k) refl
    where
      go :
          (j < k → byte_at (with_winds wind k s) (tier_place j + 1) ≡ wind j) →
          (b : Bool) →
          eqb j k ≡ b →
          byte_at (set (with_winds wind k s) (tier_place k + 1) (wind k)) (tier_place j + 1) ≡ wind j
      go before true e =
          rw (eqb-true j k e)
          (get_or-set_same (with_winds wind k s) (tier_place k + 1) (wind k) 0 (rw (put_size k) (omega (arith, room))))
      go before false e =
          let ne = eqb-false j k e in
          get_or-set_other (with_winds wind k s) (tier_place k + 1) (tier_place j + 1) (wind k) 0 (λ q. omega (arith, ne, q))
          ∙ before (omega (arith, h, ne))

-- a taken sheet between these neighbours
module _ (near : Neighbours) (s : List ℕ) (taken : first (sheet_rows s) ≡ Ok tt) where
  abbrev n : ℕ
  n = tier_count s

  abbrev old : ℕ → Tier
  old j = tier_at (sheet_of s).tiers j

  abbrev seen : ℕ → Bool
  seen j = exposed_in_bay near (old j) (height_of (sheet_of s).tiers (suc j))

  abbrev fresh : ℕ → Tier
  fresh = tier_in_bay near (sheet_of s).tiers

  abbrev codes : ℕ → ℕ
  codes j = (tier_at (sheet_in_bay near (sheet_of s)).tiers j).wind

  abbrev copy : List ℕ
  copy = with_winds codes n s

  fits : Fits (sheet_of s)
  fits = taken_fits s taken

  count_is : (sheet_of s).ntiers ≡ n
  unfolding sheet_of
  count_is = refl

  old_is : (j : ℕ) → j < n → old j ≡ tier_in s j
  unfolding sheet_of
  old_is j h = entry_at (tier_in s) blank_tier n 10 j h

  fresh_is : (j : ℕ) → j < n → tier_at (sheet_in_bay near (sheet_of s)).tiers j ≡ fresh j
  fresh_is j h = held near fits j (rw count_is h)

  code_is : (j : ℕ) → j < n → codes j ≡ wind_code (seen j) (turned (old j))
  unfolding with_wind
  code_is j h = ap (λ (t : Tier). t.wind) (fresh_is j h)

  room : tier_place n ≤ length s
  room = tiers_there s (parts s taken).tiers

  pub wind_there : (j : ℕ) → j < n → byte_at copy (tier_place j + 1) ≡ wind_code (seen j) (turned (old j))
  wind_there j h = put_there codes s n j h room ∙ code_is j h

  same : (i : ℕ) → ((j : ℕ) → j < n → i ≢ tier_place j + 1) → byte_at copy i ≡ byte_at s i
  same = put_elsewhere codes s n

  differ : OnlyTiersDiffer s copy
  differ =
      record {
        size = put_size codes s n;
        front = λ i h. same i (λ j _ e. omega (arith, h, e));
        ends = λ i h. same i (λ j q e. omega (arith, h, q, e));
      }

  -- a byte of a tier that is not its second
  in_tier : (j d : ℕ) → d < 12 → d ≢ 1 → byte_at copy (tier_place j + d) ≡ byte_at s (tier_place j + d)
  in_tier j d h ne = same (tier_place j + d) (λ i _ e. omega (arith, h, ne, e))

  two_in_tier : (j d : ℕ) → d + 1 < 12 → 1 < d → le2 copy (tier_place j + d) ≡ le2 s (tier_place j + d)
  two_in_tier j d h l =
      let e : tier_place j + d + 1 ≡ tier_place j + (d + 1) = omega arith in
      rw (e, in_tier j d (omega arith) (λ q. omega (arith, l, q)), in_tier j (d + 1) h (λ q. omega (arith, l, q)))

  -- tier j of the copy
  pub tier_is : (j : ℕ) → j < n → tier_in copy j ≡ fresh j
  unfolding tier_of with_wind
  tier_is j h =
      let at = tier_place j in
      let was = sym (old_is j h) in
      let size = same at (λ i _ e. omega (arith, e)) ∙ ap (λ (t : Tier). t.size) was in
      let wind = wind_there j h in
      let height = two_in_tier j 2 (omega arith) (omega arith) ∙ ap (λ (t : Tier). t.height) was in
      let mass = two_in_tier j 4 (omega arith) (omega arith) ∙ ap (λ (t : Tier). t.mass) was in
      let aT = two_in_tier j 6 (omega arith) (omega arith) ∙ ap (λ (t : Tier). t.aT) was in
      let aVmax = two_in_tier j 8 (omega arith) (omega arith) ∙ ap (λ (t : Tier). t.aVmax) was in
      let aVmin = two_in_tier j 10 (omega arith) (omega arith) ∙ ap (λ (t : Tier). t.aVmin) was in
      λ i. record {
        size = size i;
        wind = wind i;
        height = height i;
        mass = mass i;
        aT = aT i;
        aVmax = aVmax i;
        aVmin = aVmin i;
      }

  tiers_are : tiers_in copy n ≡ padded 10 blank_tier (map fresh (below n))
  tiers_are =
      ap (padded 10 blank_tier)
      (entries_are (tier_in copy) blank_tier (map fresh (below n)) n (length_entries fresh blank_tier n)
      (λ j h. tier_is j h ∙ sym (entry fresh blank_tier 0 n j h ∙ ap fresh (zero-add j))))

  pub copy_holds : sheet_of copy ≡ sheet_in_bay near (sheet_of s)
  copy_holds =
      other_sheet differ
      ∙ ap (λ tiers. with_tiers tiers (sheet_of s)) tiers_are
      ∙ ap (λ m. with_tiers (padded 10 blank_tier (map fresh (below m))) (sheet_of s)) (sym count_is)

  held_as : (j : ℕ) → j < n → tier_in copy j ≡ tier_at (sheet_in_bay near (sheet_of s)).tiers j
  held_as j h = tier_is j h ∙ sym (fresh_is j h)

  pub copy_taken : first (sheet_rows copy) ≡ Ok tt
  copy_taken =
      let f = in_bay_fits near fits in
      let inside : (j : ℕ) → j < n → j < (sheet_of s).ntiers = λ j h. rw count_is h in
      tiers_taken differ taken
      (λ j h.
      ap (λ (t : Tier). t.size) (held_as j h)
      ∙ f.sizes j (inside j h)
      ∙ sym (ap (λ (t : Tier). t.size) (held_as 0 (omega (arith, h)))))
      (λ j h. ap tier_fits (held_as j h) ∙ f.tiers j (inside j h))

  -- bit 0 of a wind byte, and the bits above it
  low_bit : (e t : Bool) → wind_code e t % 2 ≡ cond e 1 0
  low_bit true true = refl
  low_bit true false = refl
  low_bit false true = refl
  low_bit false false = refl

  high_bit : (e t : Bool) → wind_code e t / 2 ≡ cond t 1 0
  high_bit true true = refl
  high_bit true false = refl
  high_bit false true = refl
  high_bit false false = refl

  pub bit_put : (j : ℕ) → j < n → byte_at copy (tier_place j + 1) % 2 ≡ cond (seen j) 1 0
  bit_put j h = ap (λ w. w % 2) (wind_there j h) ∙ low_bit (seen j) (turned (old j))

  wind_was : (j : ℕ) → j < n → byte_at s (tier_place j + 1) ≡ wind_code (exposed (old j)) (turned (old j))
  unfolding tier_of
  wind_was j h =
      ap (λ (t : Tier). t.wind) (sym (old_is j h)) ∙ wind_codes (old j) (fits.tiers j (rw count_is h))

  pub bits_kept : (j : ℕ) → j < n → byte_at copy (tier_place j + 1) / 2 ≡ byte_at s (tier_place j + 1) / 2
  bits_kept j h =
      ap (λ w. w / 2) (wind_there j h)
      ∙ high_bit (seen j) (turned (old j))
      ∙ sym (ap (λ w. w / 2) (wind_was j h) ∙ high_bit (exposed (old j)) (turned (old j)))
