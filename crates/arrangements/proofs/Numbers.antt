-- The two numbers that the call returns: 0 to 24, and at most 834.
use Rattle.std.specs.Prelude.{Ok, Err}
use Prim.Native.Nat.{ℕ, suc, ◌^◌, ◌≤◌}
use mathlib.Core.Bool.{Bool, true, false, cond}
use mathlib.Core.List.{List, [], ◌∷◌}
use mathlib.Core.Path.{◌≡◌, refl, sym, subst}
use native.Mathlib.Nat.{pow-le-pow_right}
use native.Mathlib.Omega.{arith}
use lib.Dec.{lit≤}
use lib.ListN.{length}
use Rattle.arith.specs.Bytes.{byte_at}
use Rattle.sheet.specs.Refusals.{Reading}
use Rattle.sheet.specs.declared.Sheet.{Sheet}
use Rattle.sheet.specs.Layout.{lash_place, sheet_of, ◌is◌}
use Rattle.sheet.specs.Refusals.{Row, row2, end_rows, first}
use Rattle.sheet.proofs.Clear.{clear, few_lashes}
use Rattle.sheet.proofs.Numbers.{end_numbers, call_numbers}
use Rattle.sheet.proofs.Rows.{or_else, first_append}
use Rattle.answer.specs.Outcomes.{Outcome}
use Rattle.answer.proofs.Numbers.{Numbers, Small, first_small}
use Rattle.choices.specs.Choices.{choices, those}
use Rattle.choices.proofs.Once.{all_once}
use Rattle.gear.specs.Gear.{gear_count, row24, gear_rows}
use Rattle.gear.proofs.Section.{few}
use Rattle.arrangements.specs.Arrangements.{own_rows, longest_list, list_refusal, list_bytes, ListedAs, Listed}
use Rattle.arrangements.proofs.Named.{gear_is_taken}
use Rattle.sheet.specs.declared.Refusal.{Refusal}
use Rattle.sheet.specs.Refusals.{numbers}

-- what turns a gear section back
module _ (n : ℕ) (g : List ℕ) where
  spare_small : first (end_rows n g 0) ≡ Ok tt → Small 24 (first (row2 g (lash_place 0 (gear_count g)) ∷ []))
  spare_small e =
      first_small 24 (row2 g (lash_place 0 (gear_count g)) ∷ [])
      ((lit≤ tt, lit≤ tt, omega (arith, few_lashes n g 0 (clear (end_rows n g 0) e))), tt)

  gear_small : Small 24 (first (gear_rows n g))
  gear_small = subst (Small 24) (sym (first_append (end_rows n g 0) _)) (go (first (end_rows n g 0)) refl)
    where
      go : (q : Reading) → first (end_rows n g 0) ≡ q → Small 24 (or_else q (first (row2 g (lash_place 0 (gear_count g)) ∷ [])))
      go (Ok _) e = spare_small e
      go (Err why) e =
          let w = end_numbers n g 0 (omega arith) e in
          (w.0, omega (arith, w.1), omega (arith, w.2))

-- 24 before it
one_before : (r : Row) (rs : List Row) → Small 24 (Err (numbers r.number r.second)) → Small 24 (first rs) → Small 24 (first (r ∷ rs))
unfolding first
one_before r rs h k = go r.holds
  where
    go : (b : Bool) → Small 24 (cond b (Err (numbers r.number r.second)) (first rs))
    go true = h
    go false = k

own_small :
    (t : Sheet) (g : List ℕ) (why : Refusal) → first (own_rows t g) ≡ Err why → (1 ≤ why.number) × (why.number ≤ 24) × (why.second ≤ 834)
own_small t g why e =
    subst (Small 24) e (one_before (row24 t) (gear_rows t.ntiers g) (lit≤ tt, lit≤ tt, lit≤ tt) (gear_small t.ntiers g))

-- the list's length
those_few : (p : ℕ → Bool) (l : List ℕ) → length (those p l) ≤ length l
unfolding those
those_few p [] = omega arith
those_few p (x ∷ l) = go (p x) (those_few p l)
  where
    go : (b : Bool) → length (those p l) ≤ length l → length (cond b (x ∷ those p l) (those p l)) ≤ suc (length l)
    go true h = omega arith
    go false h = omega arith

pub list_short : (answer : ℕ → List ℕ) (m : ℕ) → m ≤ 8 → length (list_bytes answer m) ≤ longest_list
unfolding list_bytes
list_short answer m h =
    let most : 2 ^ m ≤ 2 ^ 8 = pow-le-pow_right (omega arith) h in
    omega (arith, most, those_few (λ c. byte_at (answer c) 0 is 0) (choices m), (all_once m).many)

pub list_numbers : {margin : ℕ} {s g before after : List ℕ} {r : Outcome} → Listed margin s g before after r → Numbers 24 r
list_numbers {margin} {s} {g} {before} {after} {r} c = go (list_refusal s g (length before)) refl c.holds
  where
    go : (q : Reading) → list_refusal s g (length before) ≡ q → ListedAs q margin s g before after r → Numbers 24 r
    go (Err why) e h =
        let w =
        call_numbers 24 834 (omega arith) (omega arith) s (own_rows (sheet_of s) g) longest_list (length before)
        (omega arith) (own_small (sheet_of s) g) e in
        rw h.refused (record { first = w.1; next = w.2 })
    go (Ok _) e h =
        let few_aboard = few (sheet_of s).ntiers g (gear_is_taken s g (length before) e) in
        rw h.taken (record { first = omega arith; next = omega (arith, list_short h.answer (gear_count g) few_aboard) })
