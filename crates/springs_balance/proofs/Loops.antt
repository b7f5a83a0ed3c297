-- The test's loop, from the top level down: whether all levels are in balance is whether those up to i are.
use mathlib.Core.Path.{◌≡◌, refl, sym, ap, ap₂, ◌∙◌}
use mathlib.Core.Bool.{Bool, true, false, not, ◌&&◌}
use mathlib.Core.List.{List}
use Prim.Native.Nat.{ℕ, suc, ◌+◌, ◌*◌, ◌/◌, ◌^◌, ◌≤◌, ◌<◌}
use native.Mathlib.Nat.{zero-mul}
use native.Mathlib.Omega.{arith}
use lib.Dec.{leb}
use lib.IntN.{ℤ, pos, nat_abs, ◌+ℤ◌, ◌-ℤ◌}
use lib.ListN.{get_or}
use Rattle.arith.specs.Inner.Rounding.{scaled_down}
use Rattle.arith.specs.Inner.Sizes.{Small}
use Rattle.springs.specs.Inner.Promise.{stiffness_scale, farthest, Solvable}
use Rattle.springs.specs.Inner.Balance.{spring_at, pulled, pushed, allowed, slack_at, alike, level_in_balance, in_balance_to, in_balance, most_force}
use Rattle.springs.proofs.Balance.{spring_in, spring_top, not_true, not_false}
use Rattle.springs.proofs.Ranges.{force_small}
use Rattle.springs_balance.proofs.Forces.{tested_left}

-- levels over i are in balance; over is the force of the spring over level i
pub record Sofar (n : ℕ) (k κ ω d : List ℕ) (over : ℤ) (i : ℕ) : Type 0 where
  pub within : i ≤ n
  pub small : Small (2 * most_force) over
  pub over_is :
      (j : ℕ) → i ≡ suc j → over ≡ pos (spring_at n k (suc j) * get_or d (suc (suc j)) 0) -ℤ pos (spring_at n k (suc j) * get_or d (suc j) 0)
  pub same : in_balance_to n k κ ω d i ≡ in_balance n k κ ω d

pub sofar_start : {n : ℕ} {k κ ω d : List ℕ} → Sofar n k κ ω d (pos 0) n
sofar_start {n} {k} {κ} {ω} {d} = record {
  within = omega arith;
  small = record { size = omega arith };
  over_is = λ j e. ap₂ (λ (x y : ℕ). pos x -ℤ pos y) (none j e (get_or d (suc (suc j)) 0)) (none j e (get_or d (suc j) 0));
  same = refl;
}
  where
    none : (j : ℕ) → n ≡ suc j → (x : ℕ) → 0 ≡ spring_at n k (suc j) * x
    none j e x = sym (ap (λ (z : ℕ). z * x) (spring_top n k (suc j) (omega arith)) ∙ zero-mul x)

-- the force of the spring under level i, and what a turn tests, over the tier of entry j
abbrev pub under : List ℕ → List ℕ → ℕ → ℕ → ℤ
under k d i j = pos (get_or k j 0 * get_or d i 0) -ℤ pos (get_or k j 0 * get_or d j 0)

abbrev pub test : List ℕ → List ℕ → List ℕ → List ℕ → ℤ → ℕ → ℕ → Bool
test k κ ω d over i j =
    leb (nat_abs (under k d i j -ℤ over +ℤ pos (scaled_down (get_or κ j 0) (get_or d i 0) stiffness_scale) -ℤ pos (get_or ω j 0)) + get_or d i 0 / 2 ^ 20)
    allowed

-- a turn
module _
    {n : ℕ}
    {k κ ω d : List ℕ}
    {over : ℤ}
    {i j : ℕ}
    (next : i ≡ suc j)
    (s : Solvable n k κ ω)
    (far : (m : ℕ) → get_or d m 0 ≤ farthest)
    (t : Sofar n k κ ω d over i)
  where
    inside : j < n
    inside = omega (arith, t.within)

    under_small : Small (2 * most_force) (under k d i j)
    under_small = force_small (s.springs j inside).1 (far i) (far j)

    tested : test k κ ω d over i j ≡ level_in_balance n k κ ω d j
    unfolding pulled pushed
    tested =
        rw (t.over_is j next)
        (tested_left (get_or k j 0 * get_or d i 0) (get_or k j 0 * get_or d j 0) (spring_at n k (suc j) * get_or d (suc (suc j)) 0)
        (spring_at n k (suc j) * get_or d (suc j) 0) (scaled_down (get_or κ j 0) (get_or d i 0) stiffness_scale) (get_or ω j 0) (get_or d i 0) (far i)
        ∙ ap
        (λ (z : ℕ).
        alike (get_or k j 0 * get_or d z 0 + spring_at n k (suc j) * get_or d (suc j) 0 + scaled_down (get_or κ j 0) (get_or d z 0) stiffness_scale)
        (get_or k j 0 * get_or d j 0 + spring_at n k (suc j) * get_or d (suc (suc j)) 0 + get_or ω j 0)
        (slack_at (get_or d z 0)))
        next)

    split : in_balance_to n k κ ω d (suc j) ≡ (level_in_balance n k κ ω d j && in_balance_to n k κ ω d j)
    unfolding in_balance_to
    split = refl

    whole : in_balance n k κ ω d ≡ (level_in_balance n k κ ω d j && in_balance_to n k κ ω d j)
    whole = sym t.same ∙ ap (in_balance_to n k κ ω d) next ∙ split

    -- a level out of balance decides
    pub failed : {r : Bool} → r ≡ test k κ ω d over i j → not r ≡ true → false ≡ in_balance n k κ ω d
    failed {r} e f = sym (whole ∙ ap (λ (b : Bool). b && in_balance_to n k κ ω d j) (sym (e ∙ tested) ∙ not_true r f))

    -- a level in balance leaves it to those under it
    pub sofar_next : {r : Bool} → r ≡ test k κ ω d over i j → not r ≡ false → Sofar n k κ ω d (under k d i j) j
    sofar_next {r} e f = record {
      within = omega (arith, t.within);
      small = under_small;
      over_is = down;
      same = sym (whole ∙ ap (λ (b : Bool). b && in_balance_to n k κ ω d j) (sym (e ∙ tested) ∙ not_false r f));
    }
      where
        is_k : (m : ℕ) → j ≡ suc m → spring_at n k (suc m) ≡ get_or k j 0
        is_k m z = ap (spring_at n k) (sym z) ∙ spring_in n k j inside

        at : (m x y : ℕ) → j ≡ suc m → x ≡ y → spring_at n k (suc m) * get_or d x 0 ≡ get_or k j 0 * get_or d y 0
        at m x y z e = ap₂ (λ (a b : ℕ). a * get_or d b 0) (is_k m z) e

        down :
            (m : ℕ) →
            j ≡ suc m →
            under k d i j ≡ pos (spring_at n k (suc m) * get_or d (suc (suc m)) 0) -ℤ pos (spring_at n k (suc m) * get_or d (suc m) 0)
        down m z =
            let two : suc (suc m) ≡ i = omega arith in
            sym (ap₂ (λ (x y : ℕ). pos x -ℤ pos y) (at m (suc (suc m)) i z two) (at m (suc m) j z (sym z)))

-- after the last turn
pub sofar_end : {n : ℕ} {k κ ω d : List ℕ} {over : ℤ} {i : ℕ} → i ≤ 0 → Sofar n k κ ω d over i → true ≡ in_balance n k κ ω d
unfolding in_balance_to
sofar_end {n} {k} {κ} {ω} {d} {i = i} h t = ap (in_balance_to n k κ ω d) {x = 0} {y = i} (omega arith) ∙ t.same
