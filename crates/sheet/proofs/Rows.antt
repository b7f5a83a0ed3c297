-- Laws of `first`: which part of a list of rows decides.
use Rattle.std.specs.Prelude.{Ok, Err}
use Prim.Native.Nat.{ℕ, zero, suc, ◌+◌, ◌-◌, ◌<◌, ◌≤◌}
use mathlib.Core.Bool.{Bool, true, false, cond}
use mathlib.Core.List.{List, [], ◌∷◌, ◌++◌, flat_map}
use mathlib.Core.Path.{◌≡◌, refl, ap, ◌∙◌}
use native.Mathlib.Nat.{add-zero, suc-add, add-suc, zero-add}
use native.Mathlib.Numerals.{add-one}
use native.Mathlib.Omega.{arith}
use Rattle.sheet.specs.Refusals.{Reading}
use Rattle.sheet.specs.Layout.{spare_place}
use Rattle.arith.specs.Lists.{from, below}
use Rattle.sheet.specs.Refusals.{Row, first, row2, head_rows, tiers_rows, door_rows, closed_rows, ends_rows, sheet_rows}
use Rattle.sheet.specs.declared.Refusal.{Refusal}
use Rattle.sheet.specs.Refusals.{numbers}

pub no_rows : first [] ≡ Ok tt
unfolding first
no_rows = refl

module _ (r : Row) (rs : List Row) where
  pub row_holds : r.holds ≡ true → first (r ∷ rs) ≡ Err (numbers r.number r.second)
  unfolding first
  row_holds e = rw e

  pub row_passed : r.holds ≡ false → first (r ∷ rs) ≡ first rs
  unfolding first
  row_passed e = rw e

-- the first reading, unless it turns nothing back: then the second
abbrev pub or_else : Reading → Reading → Reading
or_else (Ok _) r = r
or_else (Err why) r = Err why

pub first_append : (a b : List Row) → first (a ++ b) ≡ or_else (first a) (first b)
unfolding first
first_append [] b = refl
first_append (r ∷ rs) b = rw (first_append rs b) (go r.holds)
  where
    go :
        (h : Bool) →
        cond h (Err (numbers r.number r.second)) (or_else (first rs) (first b)) ≡
        or_else (cond h (Err (numbers r.number r.second)) (first rs)) (first b)
    go true = refl
    go false = refl

module _ (a b : List Row) where
  pub behind_taken : first a ≡ Ok tt → first (a ++ b) ≡ first b
  behind_taken e = first_append a b ∙ ap (λ r. or_else r (first b)) e

  pub behind_refused : {why : Refusal} → first a ≡ Err why → first (a ++ b) ≡ Err why
  behind_refused e = first_append a b ∙ ap (λ r. or_else r (first b)) e

-- rows of entries k, k + 1, .. n - 1, at a count that falls
one_less : (k n : ℕ) → k < n → n - k ≡ suc (n - (k + 1))
one_less k n h = omega arith

none_left : (k n : ℕ) → n ≤ k → n - k ≡ zero
none_left k n h = omega arith

module _ (f : ℕ → List Row) (k n : ℕ) where
  abbrev rest : ℕ → List Row
  rest i = flat_map f (from i (n - i))

  split : k < n → rest k ≡ f k ++ rest (k + 1)
  unfolding flat_map from
  split h = rw (one_less k n h, add-one k)

  pub entry_taken : k < n → first (f k) ≡ Ok tt → first (rest k) ≡ first (rest (k + 1))
  entry_taken h e = ap first (split h) ∙ behind_taken (f k) (rest (k + 1)) e

  pub entry_refused : {why : Refusal} → k < n → first (f k) ≡ Err why → first (rest k) ≡ Err why
  entry_refused h e = ap first (split h) ∙ behind_refused (f k) (rest (k + 1)) e

  pub no_entry_left : n ≤ k → first (rest k) ≡ Ok tt
  unfolding first flat_map from
  no_entry_left h = rw (none_left k n h)

-- of rows of entries i, i + 1, .. the first that turn back are those of entry i + k
first_refused_from :
    (f : ℕ → List Row) (i left k : ℕ) {why : Refusal} →
    k < left →
    ((j : ℕ) → j < k → first (f (i + j)) ≡ Ok tt) →
    first (f (i + k)) ≡ Err why →
    first (flat_map f (from i left)) ≡ Err why
unfolding flat_map from
first_refused_from f i zero k h before e = absurd (omega (arith, h))
first_refused_from f i (suc left) zero h before e = behind_refused (f i) (flat_map f (from (suc i) left)) (rw (add-zero i) at e)
first_refused_from f i (suc left) (suc k) h before e =
    behind_taken (f i) (flat_map f (from (suc i) left)) (rw (add-zero i) at (before 0 (omega arith)))
    ∙ first_refused_from f (suc i) left k (omega (arith, h))
    (λ j q. rw (suc-add i j, ← add-suc i j) (before (suc j) (omega (arith, q))))
    (rw (suc-add i k, ← add-suc i k) e)

pub first_refused :
    (f : ℕ → List Row) (count k : ℕ) {why : Refusal} →
    k < count →
    ((j : ℕ) → j < k → first (f j) ≡ Ok tt) →
    first (f k) ≡ Err why →
    first (flat_map f (below count)) ≡ Err why
first_refused f count k h before e =
    first_refused_from f 0 count k h (λ j q. rw (zero-add j) (before j q)) (rw (zero-add k) e)

-- the parts of a sheet
module _ (s : List ℕ) where
  pub door_refused : {why : Refusal} → first (door_rows s) ≡ Err why → first (ends_rows s) ≡ Err why
  door_refused e = behind_refused (door_rows s) _ e

  module _ (d : first (door_rows s) ≡ Ok tt) where
    pub closed_refused : {why : Refusal} → first (closed_rows s) ≡ Err why → first (ends_rows s) ≡ Err why
    closed_refused e = behind_taken (door_rows s) _ d ∙ behind_refused (closed_rows s) _ e

    pub ends_taken : first (closed_rows s) ≡ Ok tt → first (ends_rows s) ≡ first (row2 s (spare_place s) ∷ [])
    ends_taken e = behind_taken (door_rows s) _ d ∙ behind_taken (closed_rows s) _ e

  pub head_refused : {why : Refusal} → first (head_rows s) ≡ Err why → first (sheet_rows s) ≡ Err why
  head_refused e = behind_refused (head_rows s) _ e

  module _ (h : first (head_rows s) ≡ Ok tt) where
    pub tiers_refused : {why : Refusal} → first (tiers_rows s) ≡ Err why → first (sheet_rows s) ≡ Err why
    tiers_refused e = behind_taken (head_rows s) _ h ∙ behind_refused (tiers_rows s) _ e

    pub tiers_taken : first (tiers_rows s) ≡ Ok tt → first (sheet_rows s) ≡ first (ends_rows s)
    tiers_taken e = behind_taken (head_rows s) _ h ∙ behind_taken (tiers_rows s) _ e
