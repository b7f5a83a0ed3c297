-- The three numbers of a bay's outcome, told apart again from the one that they make.
use Prim.Native.Nat.{ℕ, ◌+◌, ◌*◌, ◌/◌, ◌%◌, ◌≤◌}
use mathlib.Core.Path.{◌≡◌, sym, subst}
use native.Mathlib.Omega.{arith}
use Rattle.bay.specs.Reports.{BayOutcome, number, second, row}
use Rattle.lash.specs.BayCalled.{BayCalled}

abbrev pub Small : BayOutcome → Type 0
Small o = (number o ≤ 16) × (second o ≤ 20073) × (row o ≤ 24)

abbrev pub Packed : ℕ → BayOutcome → Type 0
Packed r o = r ≡ number o + 256 * second o + 4294967296 * row o

-- q is the case that the outcome o is
pub bay_case_small : {o q : BayOutcome} → o ≡ q → Small o → Small q
bay_case_small is f = subst Small is f

pub bay_case_packed : {o q : BayOutcome} → o ≡ q → (r : ℕ) → Packed r q → Packed r o
bay_case_packed is r e = subst (Packed r) (sym is) e

middle_of : (n s k r : ℕ) → n ≤ 16 → s ≤ 20073 → r ≡ n + 256 * s + 4294967296 * k → s ≡ r / 256 % 16777216
middle_of n s k r h l e =
    let q : r / 256 ≡ s + 16777216 * k = omega arith in
    rw q (omega arith)

bay_called : {Said : BayOutcome → Type 0} (o : BayOutcome) → Said o → Small o → (r : ℕ) → Packed r o → BayCalled Said r
bay_called o said (n, s, k) r e =
    record {
      outcome = o;
      low = omega arith;
      middle = middle_of (number o) (second o) (row o) r n s e;
      high = omega arith;
      few = omega arith;
      said = said;
    }

-- two things said of one outcome
pub bay_called_both :
    {A B : BayOutcome → Type 0} (o : BayOutcome) → A o × B o → Small o → (r : ℕ) → Packed r o → BayCalled A r × BayCalled B r
bay_called_both o (a, b) small r e = (bay_called o a small r e, bay_called o b small r e)
