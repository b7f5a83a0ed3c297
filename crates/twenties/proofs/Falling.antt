-- No entry of either table rises: one test, computed over each whole table, and one law that turns it into the rule at every entry.
use Prim.Native.Nat.{ℕ, zero, suc, ◌+◌, ◌-◌, ◌≤◌}
use mathlib.Core.Bool.{Bool, true, false, cond, ◌&&◌}
use mathlib.Core.List.{List, [], ◌∷◌}
use mathlib.Core.Path.{◌≡◌, refl}
use native.Mathlib.Nat.{le_refl, le_trans, zero-add, suc-add}
use native.Mathlib.Omega.{arith}
use borrow.Author.Tests.{leb-true}
use lib.Dec.{leb, eqb}
use lib.ListN.{get_or}
use Rattle.sheet.proofs.Bools.{and_true}
use Rattle.twenties.specs.Tables.{table52, table53}
use Rattle.twenties.specs.Judgements.{entry}
use Rattle.twenties.specs.Theorems.{Falling}

-- each entry of a row is at most the one before it
abbrev falls : List ℕ → Bool
falls [] = true
falls (x ∷ xs) = leb (get_or xs 0 0) x && falls xs

-- each entry of the first row is at most the one at its place in the second
abbrev under : List ℕ → List ℕ → Bool
under [] xs = true
under (y ∷ ys) [] = leb y 0 && under ys []
under (y ∷ ys) (x ∷ xs) = leb y x && under ys xs

-- of every row both
abbrev none_rises : List (List ℕ) → Bool
none_rises [] = true
none_rises (r ∷ rs) = falls r && (under (get_or rs 0 []) r && none_rises rs)

in_row : (xs : List ℕ) → falls xs ≡ true → (j : ℕ) → get_or xs (suc j) 0 ≤ get_or xs j 0
in_row [] e j = le_refl 0
in_row (x ∷ xs) e zero = leb-true _ _ (and_true _ (falls xs) e).0
in_row (x ∷ xs) e (suc j) = in_row xs (and_true (leb (get_or xs 0 0) x) (falls xs) e).1 j

in_column : (ys xs : List ℕ) → under ys xs ≡ true → (j : ℕ) → get_or ys j 0 ≤ get_or xs j 0
in_column [] xs e j = omega arith
in_column (y ∷ ys) [] e zero = leb-true y 0 (and_true (leb y 0) (under ys []) e).0
in_column (y ∷ ys) [] e (suc j) = in_column ys [] (and_true (leb y 0) (under ys []) e).1 j
in_column (y ∷ ys) (x ∷ xs) e zero = leb-true y x (and_true (leb y x) (under ys xs) e).0
in_column (y ∷ ys) (x ∷ xs) e (suc j) = in_column ys xs (and_true (leb y x) (under ys xs) e).1 j

abbrev at : List (List ℕ) → ℕ → ℕ → ℕ
at t i j = get_or (get_or t i []) j 0

-- the entries beside and under an entry are at most as great
beside : (t : List (List ℕ)) → none_rises t ≡ true → (i j : ℕ) → at t i (suc j) ≤ at t i j
beside [] e i j = le_refl 0
beside (r ∷ rs) e zero j = in_row r (and_true (falls r) _ e).0 j
beside (r ∷ rs) e (suc i) j = beside rs (and_true (under (get_or rs 0 []) r) _ (and_true (falls r) _ e).1).1 i j

beneath : (t : List (List ℕ)) → none_rises t ≡ true → (i j : ℕ) → at t (suc i) j ≤ at t i j
beneath [] e i j = le_refl 0
beneath (r ∷ rs) e zero j = in_column (get_or rs 0 []) r (and_true (under (get_or rs 0 []) r) _ (and_true (falls r) _ e).1).0 j
beneath (r ∷ rs) e (suc i) j = beneath rs (and_true (under (get_or rs 0 []) r) _ (and_true (falls r) _ e).1).1 i j

-- what no step raises, no number of steps raises
steps : (f : ℕ → ℕ) → ((k : ℕ) → f (suc k) ≤ f k) → (k d : ℕ) → f (d + k) ≤ f k
steps f one k zero = rw (zero-add k) (le_refl (f k))
steps f one k (suc d) = rw (suc-add d k) (le_trans (one (d + k)) (steps f one k d))

not_raised : (f : ℕ → ℕ) → ((k : ℕ) → f (suc k) ≤ f k) → (k m : ℕ) → k ≤ m → f m ≤ f k
not_raised f one k m h = let e : m - k + k ≡ m = omega arith in rw e at (steps f one k (m - k))

-- the rule at every entry, from the test
by_test : (t : List (List ℕ)) → none_rises t ≡ true → (i m j n : ℕ) → i ≤ m → j ≤ n → at t m n ≤ at t i j
by_test t e i m j n g h =
    le_trans
    (not_raised (λ k. at t m k) (beside t e m) j n h)
    (not_raised (λ k. at t k j) (λ k. beneath t e k j) i m g)

-- the test, computed
tested : (first : Bool) → none_rises (cond first table52 table53) ≡ true
unfolding table52 table53
tested true = refl
tested false = refl

pub falling : Falling
unfolding entry
falling table row later tiers more g h =
    by_test (cond (eqb table 0) table52 table53) (tested (eqb table 0))
    row later (tiers - 3) (more - 3) g (omega arith)

-- so none is above the greatest of the first entries
greatest : (first : Bool) → at (cond first table52 table53) 0 0 ≤ 422
unfolding table52 table53
greatest true = leb-true 403 422 refl
greatest false = leb-true 422 422 refl

pub most : (table row tiers : ℕ) → entry table row tiers ≤ 422
unfolding entry
most table row tiers = le_trans (falling table 0 row 0 tiers (omega arith) (omega arith)) (greatest (eqb table 0))
