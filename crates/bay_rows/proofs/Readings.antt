-- Which row of a bay is refused first, and what holds of a bay that is not.
use Rattle.std.specs.Prelude.{Ok, Err}
use Prim.Native.Nat.{ℕ, zero, suc, ◌+◌, ◌-◌, ◌<◌, ◌≤◌}
use mathlib.Core.Bool.{Bool, true, false, not}
use mathlib.Core.List.{List, [], ◌∷◌}
use mathlib.Core.Path.{◌≡◌, refl, sym, ap, ◌∙◌}
use native.Mathlib.Nat.{add-zero, add-suc, suc-add, zero-add}
use native.Mathlib.Numerals.{add-one}
use native.Mathlib.Omega.{arith}
use borrow.Author.Tests.{eqb-true, leb-true, not-false, eq-eqb, ne_eqb, lt-ltb, le-ltb}
use lib.Dec.{eqb, leb}
use lib.ListN.{length}
use Rattle.arith.specs.Lists.{from, below}
use Rattle.sheet.specs.Layout.{within}
use Rattle.sheet.specs.Refusals.{Reading, numbers, row13, first, sheet_rows}
use Rattle.sheet.proofs.Bools.{or_false, and_true}
use Rattle.sheet.proofs.Rows.{no_rows, row_holds, row_passed}
use Rattle.bay_rows.specs.Bay.{row_count, row_place, row_of}
use Rattle.bay_rows.specs.Refusals.{BayReading, of_row, about, ◌else◌, row16, row_reading, first_of, rows_refusal, longest_report, bay_refusal}
use Rattle.sheet.specs.declared.Refusal.{Refusal}
use Rattle.bay_rows.specs.declared.BayRefusal.{BayRefusal}
use Rattle.sheet.proofs.Results.{err_not_ok}

-- a row of its own
module _ (s : List ℕ) where
  pub empty_reading : length s ≡ 0 → row_reading s ≡ Ok tt
  empty_reading e = rw (eq-eqb (length s) 0 e)

  pub loaded_reading : (length s ≡ 0 → ⊥) → row_reading s ≡ first (sheet_rows s)
  loaded_reading h = rw (ne_eqb (length s) 0 h)

-- the rows k, k + 1, .. n - 1, at a count that falls
module _ (b : List ℕ) (k n : ℕ) where
  abbrev rest : ℕ → BayReading
  rest i = first_of b (from i (n - i))

  split : k < n → rest k ≡ about (suc k) (row_reading (row_of b k)) else rest (k + 1)
  unfolding first_of from
  split h =
      let e : n - k ≡ suc (n - (k + 1)) = omega arith in
      rw (e, add-one k)

  pub next_taken : k < n → row_reading (row_of b k) ≡ Ok tt → rest k ≡ rest (k + 1)
  next_taken h e = split h ∙ ap (λ r. about (suc k) r else rest (k + 1)) e

  pub next_refused : {why : Refusal} → k < n → row_reading (row_of b k) ≡ Err why → rest k ≡ Err (of_row (k + 1) why)
  next_refused {why} h e =
      split h ∙ ap (λ r. about (suc k) r else rest (k + 1)) e ∙ ap (λ i. Err (of_row i why)) (sym (add-one k))

  pub none_left : n ≤ k → rest k ≡ Ok tt
  unfolding first_of from
  none_left h =
      let e : n - k ≡ 0 = omega arith in
      rw e

pub few_rows : (n : ℕ) → not (within 1 24 n) ≡ false → (1 ≤ n) × (n ≤ 24)
few_rows n h =
    let (some, few) = and_true (leb 1 n) (leb n 24) (not-false _ h) in
    (leb-true 1 n some, leb-true n 24 few)

-- 16, then the rows
module _ (b : List ℕ) where
  pub bad_count : {n : ℕ} → n ≡ row_count b → not (within 1 24 n) ≡ true → true ≡ (row16 b).holds
  bad_count {n} e h =
      let f : not (within 1 24 (row_count b)) ≡ true = rw e at h in
      rw f

  pub good_count :
      {n place : ℕ} →
      n ≡ row_count b →
      not (within 1 24 n) ≡ false →
      place ≡ row_place b n →
      not (eqb place (length b)) ≡ (row16 b).holds
  good_count {n} {place} e h p =
      let f : not (within 1 24 (row_count b)) ≡ false = rw e at h in
      let q : place ≡ row_place b (row_count b) = p ∙ ap (row_place b) e in
      rw (f, q)

  module _ (laid : (row16 b).holds ≡ false) where
    parts : (not (within 1 24 (row_count b)) ≡ false) × (not (eqb (row_place b (row_count b)) (length b)) ≡ false)
    parts = or_false (not (within 1 24 (row_count b))) (not (eqb (row_place b (row_count b)) (length b))) laid

    pub count_good : (1 ≤ row_count b) × (row_count b ≤ 24)
    count_good = few_rows (row_count b) parts.0

    pub ends_there : row_place b (row_count b) ≡ length b
    ends_there = eqb-true _ _ (not-false _ parts.1)

  pub laid_badly : (row16 b).holds ≡ true → rows_refusal b ≡ Err (of_row 0 (numbers 16 0))
  unfolding rows_refusal
  laid_badly e = rw (row_holds (row16 b) [] e)

  pub laid_well : (row16 b).holds ≡ false → rows_refusal b ≡ first_of b (below (row_count b))
  unfolding rows_refusal
  laid_well e = rw (row_passed (row16 b) [] e, no_rows)

-- a bay that has no refusal
pub record Sound (b : List ℕ) : Type 0 where
  pub some : 1 ≤ row_count b
  pub few : row_count b ≤ 24
  pub ends : row_place b (row_count b) ≡ length b
  pub rows : (k : ℕ) → k < row_count b → row_reading (row_of b k) ≡ Ok tt

first_taken : (k : ℕ) (r : Reading) (q : BayReading) → about k r else q ≡ Ok tt → (r ≡ Ok tt) × (q ≡ Ok tt)
first_taken k (Ok _) q e = (refl, e)
first_taken k (Err why) q e = err_not_ok e

each_taken : (b : List ℕ) (i m : ℕ) → first_of b (from i m) ≡ Ok tt → (j : ℕ) → j < m → row_reading (row_of b (i + j)) ≡ Ok tt
unfolding first_of from
each_taken b i zero e j h = absurd (omega (arith, h))
each_taken b i (suc m) e zero h = rw (add-zero i) (first_taken (suc i) (row_reading (row_of b i)) _ e).0
each_taken b i (suc m) e (suc j) h =
    rw (add-suc i j, ← suc-add i j)
    (each_taken b (suc i) m (first_taken (suc i) (row_reading (row_of b i)) _ e).1 j (omega (arith, h)))

module _ (b : List ℕ) (e : rows_refusal b ≡ Ok tt) where
  by_parts : ((row16 b).holds ≡ false) × (first_of b (below (row_count b)) ≡ Ok tt)
  by_parts = go (row16 b).holds refl
    where
      go : (h : Bool) → (row16 b).holds ≡ h → ((row16 b).holds ≡ false) × (first_of b (below (row_count b)) ≡ Ok tt)
      go true q = err_not_ok (sym (laid_badly b q) ∙ e)
      go false q = (q, sym (laid_well b q) ∙ e)

  pub sound : Sound b
  sound =
      let (laid, rows) = by_parts in
      record {
        some = (count_good b laid).0;
        few = (count_good b laid).1;
        ends = ends_there b laid;
        rows = λ k h. rw (zero-add k) at (each_taken b 0 (row_count b) rows k h);
      }

-- 13 comes last
module _ (b : List ℕ) (room : ℕ) where
  abbrev short : Reading
  short = first (row13 longest_report room ∷ [])

  pub rows_refused : {why : BayRefusal} → rows_refusal b ≡ Err why → bay_refusal b room ≡ Err why
  unfolding bay_refusal
  rows_refused e = ap (λ r. r else about 0 short) e

  pub rows_taken_of : bay_refusal b room ≡ Ok tt → rows_refusal b ≡ Ok tt
  unfolding bay_refusal
  rows_taken_of e = go (rows_refusal b) e
    where
      go : (r : BayReading) → r else about 0 short ≡ Ok tt → r ≡ Ok tt
      go (Ok _) q = refl
      go (Err why) q = err_not_ok q

  module _ (taken : rows_refusal b ≡ Ok tt) where
    pub room_short : room < 20073 → bay_refusal b room ≡ Err (of_row 0 (numbers 13 20073))
    unfolding bay_refusal
    room_short h =
        ap (λ r. r else about 0 short) taken ∙ ap (about 0) (row_holds (row13 longest_report room) [] (lt-ltb room 20073 h))

    pub all_taken : 20073 ≤ room → bay_refusal b room ≡ Ok tt
    unfolding bay_refusal
    all_taken h =
        ap (λ r. r else about 0 short) taken
        ∙ ap (about 0) (row_passed (row13 longest_report room) [] (le-ltb room 20073 h) ∙ no_rows)
