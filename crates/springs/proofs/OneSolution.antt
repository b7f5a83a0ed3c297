-- One solution: for any tiers and lashes stiffer than zero the equations of an end have a solution, and any two agree at every level.
use mathlib.Core.Path.{◌≡◌, refl, sym, ap, ap₂, ◌∙◌}
use mathlib.Core.List.{List, map}
use Prim.Native.Nat.{ℕ, zero, suc, ◌-◌, ◌≤◌}
use native.Mathlib.Nat.{zero-add}
use native.Mathlib.Omega.{arith}
use lib.IntN.{pos}
use lib.ListN.{length}
use Rattle.arith.specs.Fractions.{Frac, nat, ◌+q◌, ◌*q◌, ◌/q◌, ◌≈◌}
use Rattle.arith.specs.Lists.{below}
use Rattle.arith.proofs.Arrays.{length_entries, entry}
use Rattle.arith.proofs.Rationals.{ℚ, mk, ◌+ℚ◌, ◌-ℚ◌, ◌*ℚ◌, ◌/ℚ◌}
use Rattle.arith.proofs.FractionLaws.{≈-refl, ⊑_refl, ⊑-antisym, *q-cong-r}
use Rattle.arith.proofs.FractionsInRationals.{mk_int, mk_add, mk_mul, mk_div, of-≈, to-≈}
use Rattle.springs.specs.Equations.{Tier, Lash, tier_at, shift, athwart, stiffness_at, load_at, racking, Solves, Stiff}
use Rattle.springs.specs.Theorems.{Agree, OneSolution, Heavier}
use Rattle.springs.proofs.Chain.{load_same}
use Rattle.springs.proofs.Elimination as E
use Rattle.springs.proofs.Levels.{springs, lashes, loads, shifts, mk_stiffness, mk_load, mk_racking}
use Rattle.springs.proofs.Levels.{no_spring, spring_pos, spring_nn, lashes_nn, solves}
use Rattle.springs.proofs.Growth.{growth}

-- elimination from the top down: what m tiers from tier i + 1 on, with the lashes over them, hand down to level i, stiffness and load
unfoldable pub handed_stiffness : List Tier → List Lash → ℕ → ℕ → Frac
handed_stiffness ts ls i zero = nat 0
handed_stiffness ts ls i (suc m) =
    (tier_at ts i).K
    *q (stiffness_at ls (suc i) +q handed_stiffness ts ls (suc i) m) /q
    ((tier_at ts i).K +q (stiffness_at ls (suc i) +q handed_stiffness ts ls (suc i) m))

unfoldable pub handed_load : List Tier → List Lash → ℕ → ℕ → Frac
handed_load ts ls i zero = nat 0
handed_load ts ls i (suc m) =
    (tier_at ts i).K
    *q (load_at ts i +q handed_load ts ls (suc i) m) /q ((tier_at ts i).K +q (stiffness_at ls (suc i) +q handed_stiffness ts ls (suc i) m))

-- then from the deck up: the shift of level i, of n
unfoldable pub shift_of : List Tier → List Lash → ℕ → ℕ → Frac
shift_of ts ls n zero = nat 0
shift_of ts ls n (suc i) =
    (load_at ts i +q handed_load ts ls (suc i) (n - suc i) +q (tier_at ts i).K *q shift_of ts ls n i) /q
    ((tier_at ts i).K +q (stiffness_at ls (suc i) +q handed_stiffness ts ls (suc i) (n - suc i)))

-- the shifts of levels 1 to n
unfoldable pub solution : List Tier → List Lash → List Frac
solution ts ls = map (λ i. shift_of ts ls (length ts) (suc i)) (below (length ts))

-- the same over ℚ
module _ (ts : List Tier) (ls : List Lash) where
  abbrev stiffnessℚ : ℕ → ℕ → ℚ
  stiffnessℚ i m = E.handed_stiffness_lem (springs ts) (lashes ls) (loads ts) i m

  abbrev loadℚ : ℕ → ℕ → ℚ
  loadℚ i m = E.handed_load_lem (springs ts) (lashes ls) (loads ts) i m

  abbrev eliminatedℚ : ℕ → ℕ → ℚ
  eliminatedℚ n i = E.eliminated (springs ts) (lashes ls) (loads ts) n i

  mk_handed : (i m : ℕ) → mk (handed_stiffness ts ls i m) ≡ stiffnessℚ i m
  unfolding handed_stiffness
  mk_handed i zero = mk_int (pos 0)
  mk_handed i (suc m) =
      let b = stiffness_at ls (suc i) +q handed_stiffness ts ls (suc i) m in
      mk_div ((tier_at ts i).K *q b) ((tier_at ts i).K +q b)
      ∙ ap₂ ◌/ℚ◌ (mk_mul (tier_at ts i).K b) (mk_add (tier_at ts i).K b)
      ∙ ap (λ z. springs ts i *ℚ z /ℚ (springs ts i +ℚ z))
      (mk_add (stiffness_at ls (suc i)) (handed_stiffness ts ls (suc i) m) ∙ ap₂ ◌+ℚ◌ (mk_stiffness ls (suc i)) (mk_handed (suc i) m))

  -- what level i + 1's shift is divided by
  mk_divisor :
      (i m : ℕ) →
      mk ((tier_at ts i).K +q (stiffness_at ls (suc i) +q handed_stiffness ts ls (suc i) m))
      ≡ springs ts i +ℚ (lashes ls i +ℚ stiffnessℚ (suc i) m)
  mk_divisor i m =
      mk_add (tier_at ts i).K (stiffness_at ls (suc i) +q handed_stiffness ts ls (suc i) m)
      ∙ ap (λ z. springs ts i +ℚ z)
      (mk_add (stiffness_at ls (suc i)) (handed_stiffness ts ls (suc i) m) ∙ ap₂ ◌+ℚ◌ (mk_stiffness ls (suc i)) (mk_handed (suc i) m))

  mk_loaded : (i m : ℕ) → mk (handed_load ts ls i m) ≡ loadℚ i m
  unfolding handed_load
  mk_loaded i zero = mk_int (pos 0)
  mk_loaded i (suc m) =
      let a = load_at ts i +q handed_load ts ls (suc i) m in
      let c = (tier_at ts i).K +q (stiffness_at ls (suc i) +q handed_stiffness ts ls (suc i) m) in
      mk_div ((tier_at ts i).K *q a) c
      ∙ ap₂ ◌/ℚ◌
      (mk_mul (tier_at ts i).K a
      ∙ ap (λ z. springs ts i *ℚ z) (mk_add (load_at ts i) (handed_load ts ls (suc i) m) ∙ ap₂ ◌+ℚ◌ (mk_load ts i) (mk_loaded (suc i) m)))
      (mk_divisor i m)

  mk_shift : (n i : ℕ) → mk (shift_of ts ls n i) ≡ eliminatedℚ n i
  unfolding shift_of
  mk_shift n zero = mk_int (pos 0)
  mk_shift n (suc i) =
      let m = n - suc i in
      let a = load_at ts i +q handed_load ts ls (suc i) m in
      let c = (tier_at ts i).K +q (stiffness_at ls (suc i) +q handed_stiffness ts ls (suc i) m) in
      mk_div (a +q (tier_at ts i).K *q shift_of ts ls n i) c
      ∙ ap₂ ◌/ℚ◌
      (mk_add a ((tier_at ts i).K *q shift_of ts ls n i)
      ∙ ap₂ ◌+ℚ◌ (mk_add (load_at ts i) (handed_load ts ls (suc i) m) ∙ ap₂ ◌+ℚ◌ (mk_load ts i) (mk_loaded (suc i) m))
      (mk_mul (tier_at ts i).K (shift_of ts ls n i) ∙ ap (λ z. springs ts i *ℚ z) (mk_shift n i))) (mk_divisor i m)

  -- the list
  length_solution : length (solution ts ls) ≡ length ts
  unfolding solution
  length_solution = length_entries (λ i. shift_of ts ls (length ts) (suc i)) (nat 0) (length ts)

  shift_solution : (i : ℕ) → i ≤ length ts → shifts (solution ts ls) i ≡ eliminatedℚ (length ts) i
  unfolding solution shift
  shift_solution zero h = mk_int (pos 0)
  shift_solution (suc i) h =
      ap mk
      (entry (λ j. shift_of ts ls (length ts) (suc j)) (nat 0) 0 (length ts) i h
      ∙ ap (λ (j : ℕ). shift_of ts ls (length ts) (suc j)) (zero-add i))
      ∙ mk_shift (length ts) (suc i)

pub exists : (ts : List Tier) (ls : List Lash) → Stiff ts ls → Solves ts ls (solution ts ls)
exists ts ls s =
    let n = length ts in
    let top = no_spring ts n (omega arith) in
    solves ts ls (solution ts ls) (length_solution ts ls)
    (λ i h.
    load_same (springs ts) (lashes ls) (shifts (solution ts ls)) (eliminatedℚ ts ls n) n top (shift_solution ts ls) i h
    ∙ E.eliminated_balance (springs ts) (lashes ls) (loads ts) n (spring_pos ts ls s) (spring_nn ts ls s) (lashes_nn ts ls s) top i
    (n - suc i) (omega arith))

pub unique : (ts : List Tier) (ls : List Lash) (Ds Es : List Frac) → Stiff ts ls → Solves ts ls Ds → Solves ts ls Es → Agree Ds Es
unique ts ls Ds Es s d e = record {
  levels = d.levels ∙ sym e.levels;
  same = λ i. ⊑-antisym (shift Ds i) (shift Es i) (growth ts ts ls Ds Es s self d e i) (growth ts ts ls Es Ds s self e d i);
}
  where
    self : Heavier ts ts
    self = record { tiers = refl; springs = λ i h. ≈-refl (tier_at ts i).K; loads = λ i h. ⊑_refl (load_at ts i) }

pub one_solution : OneSolution
one_solution ts ls s = record {
  shifts = solution ts ls;
  exists = exists ts ls s;
  unique = λ Ds d. unique ts ls Ds (solution ts ls) s d (exists ts ls s);
}

-- where two lists of shifts agree, so do the rackings and the athwart parts
pub same_racking : (ts : List Tier) (Ds Es : List Frac) → Agree Ds Es → (i : ℕ) → racking ts Ds i ≈ racking ts Es i
same_racking ts Ds Es a i =
    to-≈ (racking ts Ds i) (racking ts Es i)
    (mk_racking ts Ds i
    ∙ ap₂ (λ x y. springs ts i *ℚ (x -ℚ y)) (of-≈ (shift Ds (suc i)) (shift Es (suc i)) (a.same (suc i)))
    (of-≈ (shift Ds i) (shift Es i) (a.same i))
    ∙ sym (mk_racking ts Es i))

pub same_athwart : (Ds Es : List Frac) → Agree Ds Es → (l : Lash) → athwart Ds l ≈ athwart Es l
same_athwart Ds Es a l = *q-cong-r (shift Ds l.level) (shift Es l.level) l.stiffness (a.same l.level)
