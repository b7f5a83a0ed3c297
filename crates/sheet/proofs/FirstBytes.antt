-- Only the first 452 bytes of an input count: a taken sheet has 451 at most, and of a longer input 2 tells the first spare byte, which is
-- one of the 452.
use Rattle.std.specs.Prelude.{Ok, Err}
use Prim.Native.Nat.{ℕ, zero, suc, ◌+◌, ◌<◌, ◌≤◌}
use mathlib.Core.Bool.{Bool, true, false}
use mathlib.Core.List.{List, [], ◌∷◌, ◌++◌, flat_map}
use mathlib.Core.Path.{◌≡◌, refl, sym, ap, ◌∙◌}
use native.Mathlib.Nat.{zero-add}
use native.Mathlib.Omega.{arith}
use borrow.Author.Tests.{ltb-true, ltb-false, le-ltb, lt-ltb}
use lib.Dec.{ltb}
use lib.ListN.{length, get_or, take, length-take}
use lib.Seq.{take_all, get_or-take}
use Rattle.arith.specs.Bytes.{byte_at}
use Rattle.sheet.specs.Refusals.{Reading}
use Rattle.sheet.specs.declared.Refusal.{Refusal}
use Rattle.sheet.specs.declared.Sheet.{Sheet}
use Rattle.sheet.specs.Layout.{tier_of, lash_of, tier_count, tier_place, lash_place, door_place, closed_place, spare_place, sheet_of}
use Rattle.arith.specs.Lists.{from, below}
use Rattle.sheet.specs.Refusals.{Row, row1, row2, row3, row4, row5, row6, row7, row8, row9, row10, row11, row12, row13, not_later}
use Rattle.sheet.specs.Refusals.{first, head_rows, tier_count_rows, tier_rows, tiers_rows, lash_count_rows, lash_rows, end_rows, door_rows}
use Rattle.sheet.specs.Refusals.{closed_rows, sheet_rows, unless_refused, decoded, refusal_of, longest_answer, refusal}
use Rattle.sheet.specs.Theorems.{FirstBytesDecide}
use Rattle.sheet.proofs.Items.{count_fits}
use Rattle.sheet.proofs.Rows.{row_holds, row_passed, or_else, first_append}
use Rattle.sheet.proofs.Clear.{clear, few_tiers, few_lashes}
use Rattle.sheet.proofs.CallRefusals.{decoded_taken, decoded_refused, decoded_by, decoded_not, refusal_of_lem}
use Rattle.sheet.proofs.SameBytes.{Agree, head_same, tier_same, lash_same}
use Rattle.sheet.specs.Refusals.{numbers}

-- two readings are one refusal
record Alike (r q : Reading) : Type 0 where
  why : Refusal
  left : r ≡ Err why
  right : q ≡ Err why

-- what follows a part counts only where no row of the part holds
module _ (a a' b b' : List Row) (e : first a ≡ first a') where
  followed : (first a ≡ Ok tt → first b ≡ first b') → first (a ++ b) ≡ first (a' ++ b')
  followed h = rw (first_append a b, first_append a' b', ← e) (go (first a) h)
    where
      go : (r : Reading) → (r ≡ Ok tt → first b ≡ first b') → or_else r (first b) ≡ or_else r (first b')
      go (Ok _) k = k refl
      go (Err why) k = refl

  followed_alike : (first a ≡ Ok tt → Alike (first b) (first b')) → Alike (first (a ++ b)) (first (a' ++ b'))
  followed_alike h = rw (first_append a b, first_append a' b', ← e) (go (first a) h)
    where
      go : (r : Reading) → (r ≡ Ok tt → Alike (first b) (first b')) → Alike (or_else r (first b)) (or_else r (first b'))
      go (Ok _) k = k refl
      go (Err why) k = record { why = why; left = refl; right = refl }

each :
    (f g : ℕ → List Row) (i left m : ℕ) →
    i + left ≤ m →
    ((k : ℕ) → k < m → first (f k) ≡ first (g k)) →
    first (flat_map f (from i left)) ≡ first (flat_map g (from i left))
unfolding flat_map from
each f g i zero m b h = refl
each f g i (suc left) m b h =
    followed (f i) (g i) (flat_map f (from (suc i) left)) (flat_map g (from (suc i) left)) (h i (omega (arith, b)))
    (λ _. each f g (suc i) left m (omega (arith, b)) h)

-- 1 does not hold where 452 bytes are there
enough : (s : List ℕ) → 452 ≤ length s → (at size : ℕ) → at + size ≤ 452 → (rs : List Row) → first (row1 s at size ∷ rs) ≡ first rs
enough s l at size h rs = row_passed _ rs (le-ltb (length s) (at + size) (omega arith))

spare : (s : List ℕ) → spare_place s < length s → first (row2 s (spare_place s) ∷ []) ≡ Err (numbers 2 (spare_place s))
spare s h = row_holds _ [] (lt-ltb (spare_place s) (length s) h)

same_decoded : (r q : Reading) (t u : Sheet) → Alike r q → unless_refused r t ≡ unless_refused q u
same_decoded r q t u a = rw (a.left, a.right)

-- two inputs of 452 bytes or more that agree on the first 452
module _ (s t : List ℕ) (ls : 452 ≤ length s) (lt : 452 ≤ length t) (same : (i : ℕ) → i < 452 → get_or s i 0 ≡ get_or t i 0) where
  agree : (at size : ℕ) → at + size ≤ 452 → Agree s t at size
  agree at size h i _ q = same i (omega arith)

  tier_alike : (at : ℕ) → at + 12 ≤ 452 → tier_of s at ≡ tier_of t at
  tier_alike at h = tier_same s t at (agree at 12 h)

  lash_alike : (at : ℕ) → at + 20 ≤ 452 → lash_of s at ≡ lash_of t at
  lash_alike at h = lash_same s t at (agree at 20 h)

  count_same : tier_count s ≡ tier_count t
  count_same = same 8 (omega arith)

  head_rows_lem : first (head_rows s) ≡ first (head_rows t)
  head_rows_lem =
      enough s ls 0 8 (omega arith) (row3 s ∷ row4 s ∷ row5 s ∷ [])
      ∙ rw (head_same s t (agree 0 8 (omega arith))) (sym (enough t lt 0 8 (omega arith) (row3 t ∷ row4 t ∷ row5 t ∷ [])))

  count_rows : first (tier_count_rows s) ≡ first (tier_count_rows t)
  count_rows =
      enough s ls 8 1 (omega arith) (row6 s ∷ []) ∙ rw count_same (sym (enough t lt 8 1 (omega arith) (row6 t ∷ [])))

  tier_rows_lem : (k : ℕ) → k < 10 → first (tier_rows s k) ≡ first (tier_rows t k)
  tier_rows_lem k h =
      enough s ls (tier_place k) 12 (omega arith) (row7 s k ∷ row8 s k ∷ [])
      ∙ rw (tier_alike (tier_place k) (omega arith), tier_alike 9 (omega arith))
      (sym (enough t lt (tier_place k) 12 (omega arith) (row7 t k ∷ row8 t k ∷ [])))

  few : first (tier_count_rows s) ≡ Ok tt → tier_count s ≤ 10
  few e = (count_fits (tier_count s) (clear (tier_count_rows s) e).1.0).1

  tiers_rows_lem : first (tiers_rows s) ≡ first (tiers_rows t)
  tiers_rows_lem =
      followed (tier_count_rows s) (tier_count_rows t) _ _ count_rows
      (λ e.
      each (tier_rows s) (tier_rows t) 0 (tier_count s) 10 (rw zero-add (few e)) tier_rows_lem
      ∙ ap (λ n. first (flat_map (tier_rows t) (below n))) count_same)

  later_same : (at k : ℕ) → lash_place at k + 20 ≤ 452 → not_later s at k ≡ not_later t at k
  unfolding not_later
  later_same at zero h = refl
  later_same at (suc k) h =
      rw (lash_alike (lash_place at k) (omega (arith, h)), lash_alike (lash_place at (suc k)) (omega (arith, h)))

  lash_rows_lem : (n at k : ℕ) → at ≤ 290 → k < 8 → first (lash_rows n s at k) ≡ first (lash_rows n t at k)
  lash_rows_lem n at k b h =
      enough s ls (lash_place at k) 20 fit (row10 s at k ∷ row11 n s at k ∷ row12 s at k ∷ [])
      ∙ rw (lash_alike (lash_place at k) fit, later_same at k fit)
      (sym (enough t lt (lash_place at k) 20 fit (row10 t at k ∷ row11 n t at k ∷ row12 t at k ∷ [])))
    where
      fit : lash_place at k + 20 ≤ 452
      fit = omega arith

  lash_count_rows_lem : (at : ℕ) → at ≤ 290 → first (lash_count_rows s at) ≡ first (lash_count_rows t at)
  lash_count_rows_lem at b =
      enough s ls at 1 (omega arith) (row9 s at ∷ [])
      ∙ rw (same at (omega arith)) (sym (enough t lt at 1 (omega arith) (row9 t at ∷ [])))

  few_at : (at : ℕ) → first (lash_count_rows s at) ≡ Ok tt → byte_at s at ≤ 8
  few_at at e = ltb-false 8 (byte_at s at) (clear (lash_count_rows s at) e).1.0

  end_rows_lem : (n at : ℕ) → at ≤ 290 → first (end_rows n s at) ≡ first (end_rows n t at)
  end_rows_lem n at b =
      followed (lash_count_rows s at) (lash_count_rows t at) _ _ (lash_count_rows_lem at b)
      (λ e.
      each (lash_rows n s at) (lash_rows n t at) 0 (byte_at s at) 8 (rw zero-add (few_at at e)) (λ k h. lash_rows_lem n at k b h)
      ∙ ap (λ c. first (flat_map (lash_rows n t at) (below c))) (same at (omega arith)))

  end_at : (at bt : ℕ) → at ≡ bt → at ≤ 290 → first (end_rows (tier_count s) s at) ≡ first (end_rows (tier_count t) t bt)
  end_at at bt e b = end_rows_lem (tier_count s) at b ∙ rw (e, count_same)

  -- where an end's place is the same, so is the place behind its lashes
  behind : (at bt : ℕ) → at ≡ bt → at ≤ 290 → lash_place at (byte_at s at) ≡ lash_place bt (byte_at t bt)
  behind at bt e b = rw (same at (omega arith)) (ap (λ x. lash_place x (byte_at t x)) e)

  spare_alike :
      closed_place s ≤ 290 →
      byte_at s (closed_place s) ≤ 8 →
      spare_place s ≡ spare_place t →
      Alike (first (row2 s (spare_place s) ∷ [])) (first (row2 t (spare_place t) ∷ []))
  spare_alike h b e =
      record {
        why = numbers 2 (spare_place t);
        left = spare s (omega arith) ∙ ap (λ p. Err (numbers 2 p)) e;
        right = spare t (omega (arith, e));
      }

  sheets_alike : Alike (first (sheet_rows s)) (first (sheet_rows t))
  sheets_alike =
      followed_alike (head_rows s) (head_rows t) _ _ head_rows_lem
      (λ _.
      followed_alike (tiers_rows s) (tiers_rows t) _ _ tiers_rows_lem
      (λ n.
      let tiers : tier_count s ≤ 10 = few_tiers s (clear (tiers_rows s) n) in
      let dp : door_place s ≤ 290 = omega arith in
      let de : door_place s ≡ door_place t = ap tier_place count_same in
      followed_alike (door_rows s) (door_rows t) _ _ (end_at (door_place s) (door_place t) de dp)
      (λ d.
      let door : byte_at s (door_place s) ≤ 8 = few_lashes (tier_count s) s (door_place s) (clear (door_rows s) d) in
      let ce : closed_place s ≡ closed_place t = behind (door_place s) (door_place t) de dp in
      let cp : closed_place s ≤ 290 = omega arith in
      followed_alike (closed_rows s) (closed_rows t) _ _ (end_at (closed_place s) (closed_place t) ce cp)
      (λ c.
      spare_alike cp (few_lashes (tier_count s) s (closed_place s) (clear (closed_rows s) c))
      (behind (closed_place s) (closed_place t) ce cp)))))

  long_alike : decoded s ≡ decoded t
  unfolding decoded
  long_alike = same_decoded (first (sheet_rows s)) (first (sheet_rows t)) (sheet_of s) (sheet_of t) sheets_alike

pub first_452 : FirstBytesDecide
first_452 s = go (ltb (length s) 452) refl
  where
    go : (b : Bool) → ltb (length s) 452 ≡ b → decoded (take 452 s) ≡ decoded s
    go true e = ap decoded (take_all 452 s (omega (arith, ltb-true (length s) 452 e)))
    go false e =
        let long : 452 ≤ length s = ltb-false (length s) 452 e in
        long_alike (take 452 s) s (rw length-take (omega arith)) long (λ i h. get_or-take 452 s i 0 h)

pub reading_452 : (s : List ℕ) → first (sheet_rows (take 452 s)) ≡ first (sheet_rows s)
reading_452 s = go (first (sheet_rows s)) refl
  where
    go : (r : Reading) → first (sheet_rows s) ≡ r → first (sheet_rows (take 452 s)) ≡ r
    go (Ok _) e = (decoded_taken (take 452 s) (first_452 s ∙ decoded_by s e)).0
    go (Err why) e = decoded_refused (take 452 s) (first_452 s ∙ decoded_not s e)

pub refusal_of_452 : (s : List ℕ) (own : List Row) (needed room : ℕ) → refusal_of (take 452 s) own needed room ≡ refusal_of s own needed room
refusal_of_452 s own needed room =
    refusal_of_lem (take 452 s) own needed room
    ∙ ap (λ r. or_else r (first (own ++ (row13 needed room ∷ [])))) (reading_452 s)
    ∙ sym (refusal_of_lem s own needed room)

pub refusal_452 : (s : List ℕ) (room : ℕ) → refusal (take 452 s) room ≡ refusal s room
unfolding refusal
refusal_452 s room = refusal_of_452 s [] longest_answer room
