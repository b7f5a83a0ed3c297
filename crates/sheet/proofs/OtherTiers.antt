-- A copy of a taken sheet in which nothing but tiers is other: what it holds, and that its tiers alone can turn it back.
use Rattle.std.specs.Prelude.{Ok, Err}
use Prim.Native.Nat.{ℕ, zero, suc, ◌+◌, ◌<◌, ◌≤◌}
use mathlib.Core.Bool.{true, false}
use mathlib.Core.List.{List, [], ◌∷◌, ◌++◌, flat_map}
use mathlib.Core.Path.{◌≡◌, refl, ap, ap₂, ◌∙◌}
use native.Mathlib.Omega.{arith}
use borrow.Author.Tests.{eq-eqb, le-ltb}
use lib.ListN.{length}
use Rattle.arith.specs.Bytes.{byte_at}
use Rattle.arith.specs.Lists.{below}
use Rattle.sheet.specs.declared.Tier.{Tier}
use Rattle.sheet.specs.declared.Sheet.{Sheet}
use Rattle.sheet.specs.Refusals.{Reading}
use Rattle.sheet.specs.Layout.{head_of, tier_count, tier_place, tier_in, lash_place, lash_in, door_place, closed_place, spare_place}
use Rattle.sheet.specs.Layout.{tier_fits, lashes_in, tiers_in, sheet_of}
use Rattle.sheet.specs.Fits.{tier_at, Fits}
use Rattle.sheet.specs.Refusals.{Row, row2, not_later, first, head_rows, tier_count_rows, tier_rows, tiers_rows, lash_rows}
use Rattle.sheet.specs.Refusals.{end_rows, door_rows, closed_rows, ends_rows, sheet_rows}
use Rattle.sheet.specs.Inner.Changed.{with_tiers}
use Rattle.sheet.proofs.Clear.{Clear, Parts, parts, clear_taken, clear_join, clear_all, tiers_parts, tiers_there}
use Rattle.sheet.proofs.Rows.{row_holds, row_passed, or_else, first_append, behind_taken, first_refused}
use Rattle.sheet.proofs.SameBytes.{head_same, lash_same}
use Rattle.sheet.specs.Refusals.{numbers}

-- c is a copy of s: as many bytes, the same up to the tier count and from the door end's count on
pub record OnlyTiersDiffer (s c : List ℕ) : Type 0 where
  pub size : length c ≡ length s
  pub front : (i : ℕ) → i < 9 → byte_at c i ≡ byte_at s i
  pub ends : (i : ℕ) → door_place s ≤ i → byte_at c i ≡ byte_at s i

module _ {s c : List ℕ} (o : OnlyTiersDiffer s c) where
  count : tier_count c ≡ tier_count s
  count = o.front 8 (omega arith)

  head_is : head_of c ≡ head_of s
  head_is = head_same c s (λ i _ h. o.front i (omega (arith, h)))

  lash_is : (at k : ℕ) → door_place s ≤ at → lash_in c at k ≡ lash_in s at k
  lash_is at k h = lash_same c s (lash_place at k) (λ i l _. o.ends i (omega (arith, h, l)))

  later_is : (at k : ℕ) → door_place s ≤ at → not_later c at k ≡ not_later s at k
  unfolding not_later
  later_is at zero h = refl
  later_is at (suc k) h = rw (lash_is at k h, lash_is at (suc k) h)

  -- an end whose count stands at `at`
  module _ (at : ℕ) (h : door_place s ≤ at) where
    lashes_are : lash_in c at ≡ lash_in s at
    lashes_are = λ i k. lash_is at k h i

    rows_are : (n k : ℕ) → lash_rows n c at k ≡ lash_rows n s at k
    rows_are n k = rw (o.size, lash_is at k h, later_is at k h)

    end_is : (n : ℕ) → end_rows n c at ≡ end_rows n s at
    end_is n =
        let each : lash_rows n c at ≡ lash_rows n s at = λ i k. rows_are n k i in
        rw (o.size, o.ends at h, each)

    entries_are : lashes_in c at (byte_at c at) ≡ lashes_in s at (byte_at s at)
    entries_are = rw (o.ends at h, lashes_are)

  door_place_lem : door_place c ≡ door_place s
  door_place_lem = ap tier_place count

  door_first : door_place s ≤ door_place s
  door_first = omega arith

  closed_behind : door_place s ≤ closed_place s
  closed_behind = omega arith

  door_count : byte_at c (door_place c) ≡ byte_at s (door_place s)
  door_count = ap (byte_at c) door_place_lem ∙ o.ends (door_place s) door_first

  closed_place_lem : closed_place c ≡ closed_place s
  closed_place_lem = ap₂ lash_place door_place_lem door_count

  closed_count : byte_at c (closed_place c) ≡ byte_at s (closed_place s)
  closed_count = ap (byte_at c) closed_place_lem ∙ o.ends (closed_place s) closed_behind

  spare_place_lem : spare_place c ≡ spare_place s
  spare_place_lem = ap₂ lash_place closed_place_lem closed_count

  -- what the copy holds
  pub other_sheet : sheet_of c ≡ with_tiers (tiers_in c (tier_count s)) (sheet_of s)
  unfolding sheet_of
  other_sheet = λ i. record {
    head = head_is i;
    tiers = tiers_in c (count i);
    ntiers = count i;
    door = door_is i;
    ndoor = door_count i;
    closed = closed_is i;
    nclosed = closed_count i;
  }
    where
      door_is : lashes_in c (door_place c) (byte_at c (door_place c)) ≡ lashes_in s (door_place s) (byte_at s (door_place s))
      door_is = ap (λ at. lashes_in c at (byte_at c at)) door_place_lem ∙ entries_are (door_place s) door_first

      closed_is : lashes_in c (closed_place c) (byte_at c (closed_place c)) ≡ lashes_in s (closed_place s) (byte_at s (closed_place s))
      closed_is = ap (λ at. lashes_in c at (byte_at c at)) closed_place_lem ∙ entries_are (closed_place s) closed_behind

  head_rows_lem : head_rows c ≡ head_rows s
  head_rows_lem = rw (o.size, head_is)

  count_rows : tier_count_rows c ≡ tier_count_rows s
  count_rows = rw (o.size, count)

  end_rows_lem : (at bt : ℕ) → at ≡ bt → door_place s ≤ bt → end_rows (tier_count c) c at ≡ end_rows (tier_count s) s bt
  end_rows_lem at bt e h = ap₂ (λ n x. end_rows n c x) count e ∙ end_is bt h (tier_count s)

  ends_rows_lem : ends_rows c ≡ ends_rows s
  ends_rows_lem =
      ap₂ (λ (a b : List Row). a ++ b) (end_rows_lem (door_place c) (door_place s) door_place_lem door_first)
      (ap₂ (λ (a b : List Row). a ++ b) (end_rows_lem (closed_place c) (closed_place s) closed_place_lem closed_behind)
      (rw (o.size, spare_place_lem)))

  -- where s is taken, only the tiers can turn the copy back
  module _ (taken : first (sheet_rows s) ≡ Ok tt) where
    p : Parts s
    p = parts s taken

    abbrev each_tier : List Row
    each_tier = flat_map (tier_rows c) (below (tier_count s))

    no_more : (r q : Reading) → q ≡ Ok tt → or_else r q ≡ r
    no_more (Ok _) q e = e
    no_more (Err why) q e = refl

    ends_taken : first (ends_rows s) ≡ Ok tt
    ends_taken =
        clear_taken (ends_rows s)
        (clear_join (door_rows s) (closed_rows s ++ (row2 s (spare_place s) ∷ [])) p.door
        (clear_join (closed_rows s) (row2 s (spare_place s) ∷ []) p.closed p.spare))

    pub by_tiers : first (sheet_rows c) ≡ first each_tier
    by_tiers =
        behind_taken (head_rows c) (tiers_rows c ++ ends_rows c) (ap first head_rows_lem ∙ clear_taken (head_rows s) p.head)
        ∙ first_append (tiers_rows c) (ends_rows c)
        ∙ no_more (first (tiers_rows c)) (first (ends_rows c)) (ap first ends_rows_lem ∙ ends_taken)
        ∙ behind_taken (tier_count_rows c) (flat_map (tier_rows c) (below (tier_count c)))
        (ap first count_rows ∙ clear_taken (tier_count_rows s) (tiers_parts s p.tiers).0)
        ∙ ap (λ n. first (flat_map (tier_rows c) (below n))) count

    -- the copy's tiers have one size
    module _ (sizes : (k : ℕ) → k < tier_count s → (tier_in c k).size ≡ (tier_in c 0).size) where
      there : (k : ℕ) → k < tier_count s → tier_place k + 12 ≤ length c
      there k h = rw o.size (omega (arith, h, tiers_there s p.tiers))

      tier_passes : (k : ℕ) → k < tier_count s → tier_fits (tier_in c k) ≡ true → Clear (tier_rows c k)
      tier_passes k h f =
          (le-ltb (length c) (tier_place k + 12) (there k h), (rw f refl, (rw (eq-eqb _ _ (sizes k h)) refl, tt)))

      -- each is within its limits
      pub tiers_taken : ((k : ℕ) → k < tier_count s → tier_fits (tier_in c k) ≡ true) → first (sheet_rows c) ≡ Ok tt
      tiers_taken fit = by_tiers ∙ clear_taken each_tier (clear_all (tier_rows c) (tier_count s) (λ k h. tier_passes k h (fit k h)))

      -- tier k is the first that is not
      pub tier_refused :
          (k : ℕ) →
          k < tier_count s →
          ((j : ℕ) → j < k → tier_fits (tier_in c j) ≡ true) →
          tier_fits (tier_in c k) ≡ false →
          first (sheet_rows c) ≡ Err (numbers 7 (tier_place k))
      tier_refused k h fit bad =
          by_tiers
          ∙ first_refused (tier_rows c) (tier_count s) k h
          (λ j q. clear_taken (tier_rows c j) (tier_passes j (omega (arith, h, q)) (fit j q)))
          (row_passed _ _ (le-ltb (length c) (tier_place k + 12) (there k h)) ∙ row_holds _ _ (rw bad refl))

-- a decoded sheet within its limits is so with other tiers that are, and have one size
pub with_tiers_fit :
    {t : Sheet} →
    Fits t →
    (tiers : List Tier) →
    ((k : ℕ) → k < t.ntiers → tier_fits (tier_at tiers k) ≡ true) →
    ((k : ℕ) → k < t.ntiers → (tier_at tiers k).size ≡ (tier_at tiers 0).size) →
    Fits (with_tiers tiers t)
with_tiers_fit f tiers fit sizes =
    record {
      rule = f.rule;
      zero = f.zero;
      route = f.route;
      lock = f.lock;
      breaking = f.breaking;
      some = f.some;
      few = f.few;
      tiers = fit;
      sizes = sizes;
      door = f.door;
      closed = f.closed;
    }
