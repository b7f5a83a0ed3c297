-- A candidate as it is handed to the test and to elimination, and what comes of the test; what is named keeps the promise.
use mathlib.Core.Path.{◌≡◌, sym, ap, subst, ◌∙◌}
use mathlib.Core.Bool.{Bool, true, false, not}
use mathlib.Core.List.{List}
use Prim.Native.Nat.{ℕ, ◌≤◌, ◌<◌}
use native.Mathlib.Omega.{arith}
use lib.ListN.{get_or, length}
use Rattle.springs.specs.Inner.Promise.{farthest, Solvable, Promised}
use Rattle.springs.specs.Inner.Candidate.{candidate}
use Rattle.springs.specs.Inner.Balance.{in_balance}
use Rattle.springs.specs.Inner.Elimination.{eliminated, solved}
use Rattle.springs.proofs.Candidates.{length_candidate, guess_candidate, guess_deck, guess_behind, candidate_far}
use Rattle.springs.proofs.Balance.{not_true, not_false}
use Rattle.springs.proofs.Solved.{solved_promised, solved_candidate, solved_eliminated}

pub promised : (n : ℕ) (k κ ω r : List ℕ) → Solvable n k κ ω → r ≡ solved n k κ ω → Promised n k κ ω r
promised n k κ ω r s e = subst (Promised n k κ ω) (sym e) (solved_promised n k κ ω s)

module _ (n : ℕ) (k κ ω d : List ℕ) (s : Solvable n k κ ω) (e : d ≡ candidate n k κ ω) where
  pub testable : ((i : ℕ) → get_or d i 0 ≤ farthest) × (n < length d)
  testable = rw e (candidate_far n k κ ω s.few, omega (arith, length_candidate n k κ ω, s.few))

  pub replaceable : (get_or d 0 0 ≡ 0) × ((j : ℕ) → n < j → get_or d j 0 ≡ 0)
  replaceable =
      rw e (
        guess_candidate n k κ ω s.few 0 ∙ guess_deck n k κ ω,
        λ j h. guess_candidate n k κ ω s.few j ∙ guess_behind n k κ ω j h,
      )

  -- r is what the test says
  pub passed : (r : Bool) → r ≡ in_balance n k κ ω d → not r ≡ false → d ≡ solved n k κ ω
  passed r t f = e ∙ sym (solved_candidate n k κ ω s (ap (in_balance n k κ ω) (sym e) ∙ sym t ∙ not_false r f))

  pub replaced : (r : Bool) → r ≡ in_balance n k κ ω d → not r ≡ true → (l : List ℕ) → l ≡ eliminated n k κ ω → l ≡ solved n k κ ω
  replaced r t f l z = z ∙ sym (solved_eliminated n k κ ω s (ap (in_balance n k κ ω) (sym e) ∙ sym t ∙ not_true r f))
