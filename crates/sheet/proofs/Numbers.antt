-- The two numbers of a refusal: of a sheet, 1 to 12 and at most 451; of a check, 13 with 834 too; of any call, its own rows' besides.
use Rattle.std.specs.Prelude.{Ok, Err}
use Prim.Native.Nat.{ℕ, zero, suc, ◌+◌, ◌<◌, ◌≤◌}
use mathlib.Core.Bool.{Bool, true, false, cond}
use mathlib.Core.List.{List, [], ◌∷◌, ◌++◌, flat_map}
use mathlib.Core.Path.{◌≡◌, refl, sym, subst}
use native.Mathlib.Omega.{arith}
use borrow.Author.Tests.{ltb-true, ltb-false}
use lib.ListN.{length}
use Rattle.sheet.specs.Refusals.{Reading}
use Rattle.sheet.specs.Layout.{tier_count, tier_place, lash_place, door_place, closed_place}
use Rattle.arith.specs.Bytes.{byte_at}
use Rattle.arith.specs.Lists.{from, below}
use Rattle.sheet.specs.Refusals.{Row, row1, row13, first, head_rows, tier_count_rows, tier_rows, tiers_rows, lash_count_rows, lash_rows}
use Rattle.sheet.specs.Refusals.{end_rows, door_rows, closed_rows, sheet_rows, refusal_of, longest_answer, refusal}
use Rattle.sheet.proofs.Rows.{or_else, first_append}
use Rattle.sheet.proofs.Clear.{clear, few_tiers, few_lashes}
use Rattle.sheet.proofs.Results.{err_not_ok}
use Rattle.sheet.proofs.Items.{count_fits}
use Rattle.sheet.specs.declared.Refusal.{Refusal}
use Rattle.sheet.specs.Refusals.{numbers}

-- a refusal with a number from 1 to c and a second number of at most p
abbrev Within : ℕ → ℕ → Reading → Type 0
Within c p (Ok _) = Unit {0}
Within c p (Err why) = (1 ≤ why.number) × (why.number ≤ c) × (why.second ≤ p)

module _ (c p : ℕ) where
  row_within :
      (r : Row) (rs : List Row) →
      (r.holds ≡ true → Within c p (Err (numbers r.number r.second))) →
      Within c p (first rs) →
      Within c p (first (r ∷ rs))
  unfolding first
  row_within r rs h k = go r.holds refl
    where
      go : (b : Bool) → r.holds ≡ b → Within c p (cond b (Err (numbers r.number r.second)) (first rs))
      go true e = h e
      go false e = k

  parts_within : (a b : List Row) → Within c p (first a) → (first a ≡ Ok tt → Within c p (first b)) → Within c p (first (a ++ b))
  parts_within a b h k = rw (first_append a b) (go (first a) refl h)
    where
      go : (q : Reading) → first a ≡ q → Within c p q → Within c p (or_else q (first b))
      go (Ok _) e w = k e
      go (Err why) e w = w

  each_within :
      (f : ℕ → List Row) (i left n : ℕ) →
      i + left ≤ n →
      ((k : ℕ) → k < n → Within c p (first (f k))) →
      Within c p (first (flat_map f (from i left)))
  unfolding first flat_map from
  each_within f i zero n b h = tt
  each_within f i (suc left) n b h =
      parts_within (f i) (flat_map f (from (suc i) left)) (h i (omega (arith, b)))
      (λ _. each_within f (suc i) left n (omega (arith, b)) h)

module _ (s : List ℕ) where
  abbrev Bounded : List Row → Type 0
  Bounded rs = Within 12 451 (first rs)

  none : Bounded []
  unfolding first
  none = tt

  -- a row whose number is n and whose second number is at most 451
  plain : (r : Row) (rs : List Row) → 1 ≤ r.number → r.number ≤ 12 → r.second ≤ 451 → Bounded rs → Bounded (r ∷ rs)
  plain r rs a b d k = row_within 12 451 r rs (λ _. (a, b, d)) k

  -- 1 is told of a sheet of fewer bytes than the item's end
  short : (at size : ℕ) (rs : List Row) → at + size ≤ 452 → Bounded rs → Bounded (row1 s at size ∷ rs)
  short at size rs h k =
      row_within 12 451 (row1 s at size) rs (λ e. (omega arith, omega arith, omega (arith, ltb-true (length s) (at + size) e))) k

  head_bounded : Bounded (head_rows s)
  head_bounded =
      short 0 8 _ (omega arith)
      (plain _ _ (omega arith) (omega arith) (omega arith)
      (plain _ _ (omega arith) (omega arith) (omega arith) (plain _ [] (omega arith) (omega arith) (omega arith) none)))

  tier_bounded : (k : ℕ) → k < 10 → Bounded (tier_rows s k)
  tier_bounded k h =
      short (tier_place k) 12 _ (omega arith)
      (plain _ _ (omega arith) (omega arith) (omega arith) (plain _ [] (omega arith) (omega arith) (omega arith) none))

  tiers_bounded : Bounded (tiers_rows s)
  tiers_bounded =
      parts_within 12 451 (tier_count_rows s) (flat_map (tier_rows s) (below (tier_count s)))
      (short 8 1 _ (omega arith) (plain _ [] (omega arith) (omega arith) (omega arith) none))
      (λ e.
      let few : tier_count s ≤ 10 = (count_fits (tier_count s) (clear (tier_count_rows s) e).1.0).1 in
      each_within 12 451 (tier_rows s) 0 (tier_count s) 10 (omega arith) tier_bounded)

  -- an end whose count stands at 290 or before, as the closed end's does at the latest
  module _ (n at : ℕ) (place : at ≤ 290) where
    lash_bounded : (k : ℕ) → k < 8 → Bounded (lash_rows n s at k)
    lash_bounded k h =
        short (lash_place at k) 20 _ (omega arith)
        (plain _ _ (omega arith) (omega arith) (omega arith)
        (plain _ _ (omega arith) (omega arith) (omega arith) (plain _ [] (omega arith) (omega arith) (omega arith) none)))

    end_bounded : Bounded (end_rows n s at)
    end_bounded =
        parts_within 12 451 (lash_count_rows s at) (flat_map (lash_rows n s at) (below (byte_at s at)))
        (short at 1 _ (omega arith) (plain _ [] (omega arith) (omega arith) (omega arith) none))
        (λ e.
        let few : byte_at s at ≤ 8 = ltb-false 8 (byte_at s at) (clear (lash_count_rows s at) e).1.0 in
        each_within 12 451 (lash_rows n s at) 0 (byte_at s at) 8 (omega arith) lash_bounded)

  sheet_bounded : Bounded (sheet_rows s)
  sheet_bounded =
      parts_within 12 451 (head_rows s) _ head_bounded
      (λ _.
      parts_within 12 451 (tiers_rows s) _ tiers_bounded
      (λ t.
      let tiers : tier_count s ≤ 10 = few_tiers s (clear (tiers_rows s) t) in
      parts_within 12 451 (door_rows s) _ (end_bounded (tier_count s) (door_place s) (omega arith))
      (λ d.
      let door : byte_at s (door_place s) ≤ 8 = few_lashes (tier_count s) s (door_place s) (clear (door_rows s) d) in
      parts_within 12 451 (closed_rows s) _ (end_bounded (tier_count s) (closed_place s) (omega arith))
      (λ c.
      let closed : byte_at s (closed_place s) ≤ 8 = few_lashes (tier_count s) s (closed_place s) (clear (closed_rows s) c) in
      plain _ [] (omega arith) (omega arith) (omega arith) none))))

-- of a sheet
pub sheet_numbers :
    (s : List ℕ) {why : Refusal} →
    first (sheet_rows s) ≡ Err why →
    (1 ≤ why.number) × (why.number ≤ 12) × (why.second ≤ 451)
sheet_numbers s e = subst (Within 12 451) e (sheet_bounded s)

-- of an end whose count stands at 290 or before
pub end_numbers :
    (n : ℕ) (s : List ℕ) (at : ℕ) →
    at ≤ 290 →
    {why : Refusal} →
    first (end_rows n s at) ≡ Err why →
    (1 ≤ why.number) × (why.number ≤ 12) × (why.second ≤ 451)
end_numbers n s at h e = subst (Within 12 451) e (end_bounded s n at h)

wider : {c p : ℕ} → 12 ≤ c → 451 ≤ p → (q : Reading) → Within 12 451 q → Within c p q
wider a b (Ok _) w = tt
wider a b (Err why) w = (w.0, omega (arith, w.1), omega (arith, w.2))

within_by :
    (c p : ℕ) (q : Reading) →
    ((why : Refusal) → q ≡ Err why → (1 ≤ why.number) × (why.number ≤ c) × (why.second ≤ p)) →
    Within c p q
within_by c p (Ok _) h = tt
within_by c p (Err why) h = h why refl

-- of a call with rows of its own, whose numbers are at most c and second numbers at most p, and which needs so many bytes of `room`
module _ (c p : ℕ) (table : 13 ≤ c) (places : 451 ≤ p) (s : List ℕ) (own : List Row) (needed room : ℕ) (enough : needed ≤ p)
    (owns : (why : Refusal) → first own ≡ Err why → (1 ≤ why.number) × (why.number ≤ c) × (why.second ≤ p)) where
  pub call_numbers :
      {why : Refusal} → refusal_of s own needed room ≡ Err why → (1 ≤ why.number) × (why.number ≤ c) × (why.second ≤ p)
  unfolding refusal_of first
  call_numbers e =
      subst (Within c p) e
      (parts_within c p (sheet_rows s) (own ++ (row13 needed room ∷ [])) (wider (omega arith) places (first (sheet_rows s)) (sheet_bounded s))
      (λ _.
      parts_within c p own (row13 needed room ∷ []) (within_by c p (first own) owns)
      (λ _. row_within c p (row13 needed room) [] (λ _. (omega arith, table, enough)) tt)))

-- of a check with an answer buffer of `room` bytes
pub check_numbers :
    (s : List ℕ) (room : ℕ) {why : Refusal} →
    refusal s room ≡ Err why →
    (1 ≤ why.number) × (why.number ≤ 13) × (why.second ≤ longest_answer)
unfolding refusal first
check_numbers s room e =
    call_numbers 13 longest_answer (omega arith) (omega arith) s [] longest_answer room (omega arith) none e
  where
    none : (why : Refusal) → first [] ≡ Err why → (1 ≤ why.number) × (why.number ≤ 13) × (why.second ≤ longest_answer)
    none why q = err_not_ok (sym q)
