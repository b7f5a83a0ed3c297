-- Bytes that differ only in masses, none lower in the second, hold sheets that do.
use Prim.Native.Nat.{ℕ, ◌+◌, ◌<◌, ◌≤◌}
use mathlib.Core.List.{List}
use mathlib.Core.Path.{◌≡◌, refl, ap}
use native.Mathlib.Omega.{arith}
use Rattle.arith.specs.Bytes.{byte_at, le2}
use Rattle.arith.proofs.Arrays.{entry_at}
use Rattle.sheet.specs.declared.Sheet.{Sheet}
use Rattle.sheet.specs.Layout.{tier_of, tier_count, tier_place, tier_in, tiers_in, blank_tier, sheet_of}
use Rattle.sheet.specs.Fits.{tier_at}
use Rattle.sheet.proofs.OtherTiers.{OnlyTiersDiffer, other_sheet}
use Rattle.statics.specs.Theorems.{HeavierTier}
use Rattle.heavier.specs.Heavier.{HeavierBytes}
use Rattle.heavier.specs.Theorems.{BytesHold}

module _ {s c : List ℕ} (h : HeavierBytes s c) where
  -- the front and the ends hold no masses
  differ : OnlyTiersDiffer s c
  differ =
      record {
        size = h.size;
        front = λ i l. h.same i (λ k _. ((λ e. omega (arith, l, e)), (λ e. omega (arith, l, e))));
        ends = λ i l. h.same i (λ k b. ((λ e. omega (arith, l, b, e)), (λ e. omega (arith, l, b, e))));
      }

  -- of tier k all but the fifth and sixth byte are the same
  module _ (k : ℕ) where
    abbrev at : ℕ
    at = tier_place k

    before : (i : ℕ) → at ≤ i → i < at + 4 → byte_at c i ≡ byte_at s i
    before i l m = h.same i (λ j _. ((λ e. omega (arith, l, m, e)), (λ e. omega (arith, l, m, e))))

    behind : (i : ℕ) → at + 6 ≤ i → i < at + 12 → byte_at c i ≡ byte_at s i
    behind i l m = h.same i (λ j _. ((λ e. omega (arith, l, m, e)), (λ e. omega (arith, l, m, e))))

    two_behind : (i : ℕ) → at + 6 ≤ i → i + 1 < at + 12 → le2 c i ≡ le2 s i
    two_behind i l m = rw (behind i l (omega arith), behind (i + 1) (omega arith) m)

    tier_heavier : k < tier_count s → HeavierTier (tier_in s k) (tier_in c k)
    unfolding tier_of
    tier_heavier l =
        record {
          same =
              rw (
                before at (omega arith) (omega arith),
                before (at + 1) (omega arith) (omega arith),
                before (at + 2) (omega arith) (omega arith),
                before (at + 2 + 1) (omega arith) (omega arith),
                two_behind (at + 6) (omega arith) (omega arith),
                two_behind (at + 8) (omega arith) (omega arith),
                two_behind (at + 10) (omega arith) (omega arith),
              )
              refl;
          mass = h.masses k l;
        }

  tiers_are : (sheet_of c).tiers ≡ tiers_in c (tier_count s)
  tiers_are = ap (λ (t : Sheet). t.tiers) (other_sheet differ)

  entry : (x : List ℕ) (k : ℕ) → k < tier_count s → tier_at (tiers_in x (tier_count s)) k ≡ tier_in x k
  entry x k l = entry_at (tier_in x) blank_tier (tier_count s) 10 k l

  tier_held : (k : ℕ) → k < tier_count s → HeavierTier (tier_at (sheet_of s).tiers k) (tier_at (sheet_of c).tiers k)
  unfolding sheet_of
  tier_held k l = rw (tiers_are, entry s k l, entry c k l) (tier_heavier k l)

counted : (s : List ℕ) → (sheet_of s).ntiers ≡ tier_count s
unfolding sheet_of
counted s = refl

pub bytes_hold : BytesHold
bytes_hold s c h =
    record { same = rw (other_sheet (differ h)) refl; tiers = λ k l. tier_held h k (omega (arith, l, counted s)) }
