-- The two numbers of an outcome, told apart again from the one that they make.
use Prim.Native.Nat.{ℕ, ◌+◌, ◌*◌, ◌<◌, ◌^◌}
use mathlib.Core.Path.{◌≡◌, subst, sym}
use native.Mathlib.Omega.{arith}
use Rattle.answer.specs.Outcomes.{Outcome}
use Rattle.answer.specs.Checked.{number, second}
use Rattle.packing.specs.Called.{Called}

-- both fit the one number
abbrev pub Fitting : Outcome → Type 0
Fitting o = (number o < 256) × (second o < 2 ^ 56)

abbrev pub Joined : ℕ → Outcome → Type 0
Joined r o = r ≡ number o + 256 * second o

-- q is the case that the outcome o is
pub case_fits : {o q : Outcome} → o ≡ q → Fitting o → Fitting q
case_fits is f = subst Fitting is f

pub case_joined : {o q : Outcome} → o ≡ q → (r : ℕ) → Joined r q → Joined r o
case_joined is r e = subst (Joined r) (sym is) e

pub called : {Said : Outcome → Type 0} (o : Outcome) → Said o → Fitting o → (r : ℕ) → Joined r o → Called Said r
called o said fits r e = record { outcome = o; low = omega (arith, fits.0); above = omega (arith, fits.0); said = said }

-- two things said of one outcome: what it must be, and what it is by name
pub called_both :
    {A B : Outcome → Type 0} (o : Outcome) → A o × B o → Fitting o → (r : ℕ) → Joined r o → Called A r × Called B r
called_both o (a, b) fits r e = (called o a fits r e, called o b fits r e)
