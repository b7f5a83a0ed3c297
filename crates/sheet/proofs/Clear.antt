-- Where a sheet is taken, no row of the table holds: so every entry is there and every count is within its limit.
use Rattle.std.specs.Prelude.{Ok, Err}
use Prim.Native.Nat.{ℕ, zero, suc, ◌+◌, ◌<◌, ◌≤◌}
use mathlib.Core.Bool.{Bool, true, false, cond}
use mathlib.Core.List.{List, [], ◌∷◌, ◌++◌, flat_map}
use mathlib.Core.Path.{◌≡◌, refl}
use native.Mathlib.Nat.{add-zero, suc-add, add-suc, zero-add}
use native.Mathlib.Omega.{arith}
use borrow.Author.Tests.{ltb-false}
use lib.ListN.{length}
use Rattle.sheet.specs.Layout.{tier_count, tier_place, lash_place, door_place, spare_place}
use Rattle.arith.specs.Bytes.{byte_at}
use Rattle.arith.specs.Lists.{from, below}
use Rattle.sheet.specs.Refusals.{Row, row2, first, head_rows, tier_count_rows, tier_rows, tiers_rows, lash_count_rows, lash_rows, end_rows}
use Rattle.sheet.specs.Refusals.{door_rows, closed_rows, ends_rows, sheet_rows}
use Rattle.sheet.proofs.Items.{count_fits}
use Rattle.sheet.proofs.Results.{err_not_ok}
use Rattle.sheet.specs.Refusals.{numbers}

-- no row of the list holds
abbrev pub Clear : List Row → Type 0
Clear [] = Unit {0}
Clear (r ∷ rs) = (r.holds ≡ false) × Clear rs

pub clear : (rs : List Row) → first rs ≡ Ok tt → Clear rs
unfolding first
clear [] e = tt
clear (r ∷ rs) e = go (λ h. clear rs h) r.holds refl e
  where
    go :
        (first rs ≡ Ok tt → Clear rs) →
        (b : Bool) →
        r.holds ≡ b →
        cond b (Err (numbers r.number r.second)) (first rs) ≡ Ok tt →
        (r.holds ≡ false) × Clear rs
    go k true q h = err_not_ok h
    go k false q h = (q, k h)

pub clear_append : (a b : List Row) → Clear (a ++ b) → (Clear a × Clear b)
clear_append [] b h = (tt, h)
clear_append (r ∷ rs) b h = let k = clear_append rs b h.1 in ((h.0, k.0), k.1)

clear_from : (f : ℕ → List Row) (i left k : ℕ) → Clear (flat_map f (from i left)) → k < left → Clear (f (i + k))
unfolding flat_map from
clear_from f i zero k h q = absurd (omega (arith, q))
clear_from f i (suc left) zero h q = rw (add-zero i) (clear_append (f i) (flat_map f (from (suc i) left)) h).0
clear_from f i (suc left) (suc k) h q =
    rw (add-suc i k, ← suc-add i k)
    (clear_from f (suc i) left k (clear_append (f i) (flat_map f (from (suc i) left)) h).1 (omega (arith, q)))

pub clear_each : (f : ℕ → List Row) (n k : ℕ) → Clear (flat_map f (below n)) → k < n → Clear (f k)
clear_each f n k h q = rw zero-add at (clear_from f 0 n k h q)

-- and the other way round

pub clear_taken : (rs : List Row) → Clear rs → first rs ≡ Ok tt
unfolding first
clear_taken [] h = refl
clear_taken (r ∷ rs) h = rw h.0 (clear_taken rs h.1)

pub clear_join : (a b : List Row) → Clear a → Clear b → Clear (a ++ b)
clear_join [] b h k = k
clear_join (r ∷ rs) b h k = (h.0, clear_join rs b h.1 k)

clear_all_from : (f : ℕ → List Row) (i left : ℕ) → ((k : ℕ) → k < i + left → Clear (f k)) → Clear (flat_map f (from i left))
unfolding flat_map from
clear_all_from f i zero h = tt
clear_all_from f i (suc left) h =
    clear_join (f i) (flat_map f (from (suc i) left)) (h i (omega arith))
    (clear_all_from f (suc i) left (λ k q. h k (omega (arith, q))))

pub clear_all : (f : ℕ → List Row) (n : ℕ) → ((k : ℕ) → k < n → Clear (f k)) → Clear (flat_map f (below n))
clear_all f n h = clear_all_from f 0 n (λ k q. h k (rw zero-add at q))

-- the parts of the table

pub head_there : (s : List ℕ) → Clear (head_rows s) → 8 ≤ length s
head_there s h = ltb-false (length s) 8 h.0

module _ (s : List ℕ) (h : Clear (tiers_rows s)) where
  pub tiers_parts : (Clear (tier_count_rows s)) × (Clear (flat_map (tier_rows s) (below (tier_count s))))
  tiers_parts = clear_append (tier_count_rows s) (flat_map (tier_rows s) (below (tier_count s))) h

  pub tier_clear : (k : ℕ) → k < tier_count s → Clear (tier_rows s k)
  tier_clear k q = clear_each (tier_rows s) (tier_count s) k tiers_parts.1 q

  pub some_tier : 1 ≤ tier_count s
  some_tier = (count_fits (tier_count s) tiers_parts.0.1.0).0

  pub few_tiers : tier_count s ≤ 10
  few_tiers = (count_fits (tier_count s) tiers_parts.0.1.0).1

  pub tiers_there : door_place s ≤ length s
  tiers_there = go (tier_count s) refl some_tier
    where
      go : (n : ℕ) → tier_count s ≡ n → 1 ≤ n → tier_place n ≤ length s
      go zero q l = absurd (omega (arith, l))
      go (suc k) q l = omega (arith, ltb-false (length s) (tier_place k + 12) (tier_clear k (omega (arith, q))).0)

module _ (n : ℕ) (s : List ℕ) (at : ℕ) (h : Clear (end_rows n s at)) where
  pub end_parts : (Clear (lash_count_rows s at)) × (Clear (flat_map (lash_rows n s at) (below (byte_at s at))))
  end_parts = clear_append (lash_count_rows s at) (flat_map (lash_rows n s at) (below (byte_at s at))) h

  pub lash_clear : (k : ℕ) → k < byte_at s at → Clear (lash_rows n s at k)
  lash_clear k q = clear_each (lash_rows n s at) (byte_at s at) k end_parts.1 q

  pub few_lashes : byte_at s at ≤ 8
  few_lashes = ltb-false 8 (byte_at s at) end_parts.0.1.0

  pub lashes_there : lash_place at (byte_at s at) ≤ length s
  lashes_there = go (byte_at s at) refl
    where
      go : (m : ℕ) → byte_at s at ≡ m → lash_place at m ≤ length s
      go zero q = omega (arith, ltb-false (length s) (at + 1) end_parts.0.0)
      go (suc k) q = omega (arith, ltb-false (length s) (lash_place at k + 20) (lash_clear k (omega (arith, q))).0)

-- no row holds in any part of a taken sheet
pub record Parts (s : List ℕ) : Type 0 where
  pub head : Clear (head_rows s)
  pub tiers : Clear (tiers_rows s)
  pub door : Clear (door_rows s)
  pub closed : Clear (closed_rows s)
  pub spare : Clear (row2 s (spare_place s) ∷ [])

pub parts : (s : List ℕ) → first (sheet_rows s) ≡ Ok tt → Parts s
parts s e =
    let c1 = clear_append (head_rows s) (tiers_rows s ++ ends_rows s) (clear (sheet_rows s) e) in
    let c2 = clear_append (tiers_rows s) (ends_rows s) c1.1 in
    let c3 = clear_append (door_rows s) (closed_rows s ++ (row2 s (spare_place s) ∷ [])) c2.1 in
    let c4 = clear_append (closed_rows s) (row2 s (spare_place s) ∷ []) c3.1 in
    record { head = c1.0; tiers = c2.0; door = c3.0; closed = c4.0; spare = c4.1 }
