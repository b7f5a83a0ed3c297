-- How great the three numbers of a bay's refusal are.
use Rattle.std.specs.Prelude.{Ok, Err}
use Prim.Native.Nat.{ℕ, zero, suc, ◌+◌, ◌≤◌}
use mathlib.Core.Bool.{Bool, true, false, cond}
use mathlib.Core.List.{List, [], ◌∷◌}
use mathlib.Core.Path.{◌≡◌, refl, sym, subst, ◌∙◌}
use native.Mathlib.Omega.{arith}
use lib.Dec.{ltb}
use Rattle.arith.specs.Lists.{from, below}
use Rattle.sheet.specs.declared.Refusal.{Refusal}
use Rattle.sheet.specs.Refusals.{Reading, numbers, row13, first, sheet_rows}
use Rattle.sheet.proofs.Numbers.{sheet_numbers}
use Rattle.sheet.proofs.Rows.{no_rows, row_holds, row_passed}
use Rattle.bay_rows.specs.Bay.{row_count, row_of, is_empty}
use Rattle.bay_rows.specs.Refusals.{BayReading, about, ◌else◌, row16, row_reading, first_of, rows_refusal, longest_report, bay_refusal}
use Rattle.bay_rows.proofs.Readings.{count_good, laid_badly, laid_well}
use Rattle.sheet.proofs.Results.{err_is, err_not_ok}

-- a refusal's numbers are at most c, p and k
abbrev pub Most : ℕ → ℕ → ℕ → BayReading → Type 0
Most c p k (Ok _) = Unit {0}
Most c p k (Err why) = (why.number ≤ c) × (why.second ≤ p) × (why.row ≤ k)

wider : {c d p q k m : ℕ} → c ≤ d → p ≤ q → k ≤ m → (r : BayReading) → Most c p k r → Most d q m r
wider x y z (Ok _) h = tt
wider x y z (Err why) h = (omega (arith, x, h.0), omega (arith, y, h.1), omega (arith, z, h.2))

either : (c p k : ℕ) (r q : BayReading) → Most c p k r → Most c p k q → Most c p k (r else q)
either c p k (Ok _) q h g = g
either c p k (Err why) q h g = h

-- of a refusal's two
abbrev Two : ℕ → ℕ → Reading → Type 0
Two c p r = (why : Refusal) → r ≡ Err why → (why.number ≤ c) × (why.second ≤ p)

about_most : (c p k m : ℕ) → k ≤ m → (r : Reading) → Two c p r → Most c p m (about k r)
about_most c p k m h (Ok _) f = tt
about_most c p k m h (Err why) f = let two = f why refl in (two.0, two.1, h)

row_numbers : (s : List ℕ) → Two 12 451 (row_reading s)
row_numbers s why = go (is_empty s)
  where
    go : (e : Bool) → cond e (Ok tt) (first (sheet_rows s)) ≡ Err why → (why.number ≤ 12) × (why.second ≤ 451)
    go true q = err_not_ok (sym q)
    go false q = let n = sheet_numbers s q in (n.1, n.2)

rows_most : (b : List ℕ) (i m : ℕ) → Most 12 451 (i + m) (first_of b (from i m))
unfolding first_of from
rows_most b i zero = tt
rows_most b i (suc m) =
    let e : suc i + m ≡ i + suc m = omega arith in
    either 12 451 (i + suc m) (about (suc i) (row_reading (row_of b i))) (first_of b (from (suc i) m))
    (about_most 12 451 (suc i) (i + suc m) (omega arith) (row_reading (row_of b i)) (row_numbers (row_of b i)))
    (subst (λ n. Most 12 451 n (first_of b (from (suc i) m))) e (rows_most b (suc i) m))

of_rows : (b : List ℕ) → Most 16 451 24 (rows_refusal b)
of_rows b = go (row16 b).holds refl
  where
    go : (h : Bool) → (row16 b).holds ≡ h → Most 16 451 24 (rows_refusal b)
    go true e = subst (Most 16 451 24) (sym (laid_badly b e)) (omega arith, omega arith, omega arith)
    go false e =
        subst (Most 16 451 24) (sym (laid_well b e))
        (wider (omega arith) (omega arith) (omega (arith, (count_good b e).1)) (first_of b (below (row_count b))) (rows_most b 0 (row_count b)))

of_room : (room : ℕ) → Two 16 20073 (first (row13 longest_report room ∷ []))
of_room room why e = go (ltb room 20073) refl
  where
    go : (h : Bool) → ltb room 20073 ≡ h → (why.number ≤ 16) × (why.second ≤ 20073)
    go true q =
        let is : numbers 13 20073 ≡ why = err_is (sym (row_holds (row13 longest_report room) [] q) ∙ e) in
        rw (← is) (omega arith, omega arith)
    go false q = err_not_ok (sym e ∙ row_passed (row13 longest_report room) [] q ∙ no_rows)

pub bay_numbers : (b : List ℕ) (room : ℕ) → Most 16 20073 24 (bay_refusal b room)
unfolding bay_refusal
bay_numbers b room =
    either 16 20073 24 (rows_refusal b) (about 0 (first (row13 longest_report room ∷ [])))
    (wider (omega arith) (omega arith) (omega arith) (rows_refusal b) (of_rows b))
    (about_most 16 20073 0 24 (omega arith) (first (row13 longest_report room ∷ [])) (of_room room))
