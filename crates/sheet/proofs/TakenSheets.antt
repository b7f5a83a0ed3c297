-- A taken sheet is within its limits.
use Rattle.std.specs.Prelude.{Ok}
use Prim.Native.Nat.{ℕ, suc, ◌-◌, ◌<◌, ◌≤◌}
use mathlib.Core.Bool.{false, not}
use mathlib.Core.List.{List, map}
use mathlib.Core.Path.{◌≡◌, sym, ap, subst}
use native.Mathlib.Omega.{arith}
use borrow.Author.Tests.{ltb-false, eqb-true, not-false}
use lib.Dec.{ltb, eqb}
use lib.ListN.{length, get_or, take, replicate}
use lib.Seq.{take_at}
use Rattle.sheet.specs.declared.Sheet.{Sheet}
use Rattle.sheet.specs.Layout.{head_of, tier_count, tier_in, lash_in, door_place, closed_place, spare_place, rule_fits, breaking_fits}
use Rattle.sheet.specs.Layout.{blank_tier, blank_lash, tiers_in, lashes_in, sheet_of}
use Rattle.arith.specs.Bytes.{byte_at}
use Rattle.arith.specs.Lists.{below, padded}
use Rattle.sheet.specs.Refusals.{not_later, first, end_rows, sheet_rows, decoded}
use Rattle.sheet.specs.Fits.{EndFits, Fits, Padded}
use Rattle.sheet.specs.Theorems.{TakenWithinLimits}
use Rattle.arith.proofs.Arrays.{length_entries, entry_at}
use Rattle.sheet.proofs.Bools.{or_false}
use Rattle.sheet.proofs.Clear.{Clear, Parts, parts, tier_clear, some_tier, few_tiers, lash_clear, few_lashes}
use Rattle.sheet.proofs.Clear.{lashes_there}
use Rattle.sheet.proofs.CallRefusals.{decoded_taken}

module _ (n : ℕ) (s : List ℕ) (at : ℕ) (h : Clear (end_rows n s at)) where
  lash_held : (k : ℕ) → k < byte_at s at → get_or (lashes_in s at (byte_at s at)) k blank_lash ≡ lash_in s at k
  lash_held k q = entry_at (lash_in s at) blank_lash (byte_at s at) 8 k q

  pub end_fits : EndFits n (lashes_in s at (byte_at s at)) (byte_at s at)
  unfolding not_later
  end_fits =
      record {
        few = few_lashes n s at h;
        fits = λ k q. rw (lash_held k q) (not-false _ (lash_clear n s at h k q).1.0);
        placed = λ k q. rw (lash_held k q) (lash_clear n s at h k q).1.1.0;
        ordered =
            λ k q. rw (lash_held k (omega (arith, q)), lash_held (suc k) q) (not-false _ (lash_clear n s at h (suc k) q).1.1.1.0);
      }

pub taken_fits : (s : List ℕ) → first (sheet_rows s) ≡ Ok tt → Fits (sheet_of s)
unfolding sheet_of
taken_fits s e =
    record {
      rule = not-false _ three.0;
      zero = eqb-true _ _ (not-false _ three.1);
      route = ltb-false _ _ p.head.1.1.0;
      lock = ltb-false _ _ five.0;
      breaking = not-false _ five.1;
      some = some_tier s p.tiers;
      few = few_tiers s p.tiers;
      tiers = λ k q. rw (tier_held k q) (not-false _ (tier_clear s p.tiers k q).1.0);
      sizes =
          λ k q. rw (tier_held k q, tier_held 0 (omega (arith, q))) (eqb-true _ _ (not-false _ (tier_clear s p.tiers k q).1.1.0));
      door = end_fits (tier_count s) s (door_place s) p.door;
      closed = end_fits (tier_count s) s (closed_place s) p.closed;
    }
  where
    p : Parts s
    p = parts s e

    three : (not (rule_fits (head_of s).rule) ≡ false) × (not (eqb (head_of s).zero 0) ≡ false)
    three = or_false (not (rule_fits (head_of s).rule)) (not (eqb (head_of s).zero 0)) p.head.1.0

    five : (ltb 2 (head_of s).lockMaterial ≡ false) × (not (breaking_fits (head_of s).lockBreakingLoad) ≡ false)
    five = or_false (ltb 2 (head_of s).lockMaterial) (not (breaking_fits (head_of s).lockBreakingLoad)) p.head.1.1.1.0

    tier_held : (k : ℕ) → k < tier_count s → get_or (tiers_in s (tier_count s)) k blank_tier ≡ tier_in s k
    tier_held k q = entry_at (tier_in s) blank_tier (tier_count s) 10 k q

-- the arrays are blank behind their counts, whatever the bytes
pub sheet_padded : (s : List ℕ) → Padded (sheet_of s)
unfolding sheet_of
sheet_padded s =
    record {
      tiers = entries (tier_in s) blank_tier 10 (tier_count s);
      door = entries (lash_in s (door_place s)) blank_lash 8 (byte_at s (door_place s));
      closed = entries (lash_in s (closed_place s)) blank_lash 8 (byte_at s (closed_place s));
    }
  where
    entries :
        {A : Type 0} (f : ℕ → A) (b : A) (size n : ℕ) →
        padded size b (map f (below n)) ≡ padded size b (take n (padded size b (map f (below n))))
    entries {A} f b size n =
        ap {B = List A} (padded size b)
        (sym (take_at (map f (below n)) (replicate (size - length (map f (below n))) b) n (length_entries f b n)))

-- a taken sheet ends with its last entry, and has 23 to 451 bytes
module _ (s : List ℕ) (e : first (sheet_rows s) ≡ Ok tt) where
  pub taken_length : length s ≡ spare_place s
  taken_length =
      let p = parts s e in
      omega (arith, lashes_there (tier_count s) s (closed_place s) p.closed, ltb-false (spare_place s) (length s) p.spare.0)

  pub taken_size : (23 ≤ length s) × (length s ≤ 451)
  taken_size =
      let p = parts s e in
      let some = some_tier s p.tiers in
      let few = few_tiers s p.tiers in
      let door = few_lashes (tier_count s) s (door_place s) p.door in
      let closed = few_lashes (tier_count s) s (closed_place s) p.closed in
      (omega (arith, taken_length), omega (arith, taken_length))

-- what a caller of `decode` has where the sheet is taken
pub decoded_fits : (s : List ℕ) {t : Sheet} → decoded s ≡ Ok t → Fits t
decoded_fits s e = let d = decoded_taken s e in subst Fits d.1 (taken_fits s d.0)

pub taken_within_limits : TakenWithinLimits
taken_within_limits s t e = (decoded_fits s e, subst Padded (decoded_taken s e).1 (sheet_padded s))
