-- What elimination gives, by its name `eliminated`, is as near to the exact shifts as specs/Promise says; so is what the solver returns,
-- `solved`.
use mathlib.Core.Path.{◌≡◌, refl, sym, ap, subst, fun_ext, ◌∙◌}
use mathlib.Core.Bool.{Bool, true, false, cond}
use mathlib.Core.List.{List}
use Prim.Native.Nat.{ℕ, zero, suc, ◌+◌, ◌*◌, ◌-◌, ◌≤◌, ◌<◌}
use native.Mathlib.Nat.{max-le}
use native.Mathlib.Numerals.{add-one}
use native.Mathlib.Omega.{arith}
use native.Mathlib.Decide.{dec_le}
use lib.Dec.{lit<}
use lib.IntN.{pos}
use borrow.Author.Tests.{lt-ltb, le-ltb}
use Rattle.arith.specs.Fractions.{Frac, nat, ◌-q◌, ◌*q◌, ◌/q◌, absq, ◌⊑◌, sumq}
use Rattle.arith.specs.Lists.{from, below}
use Rattle.arith.proofs.Polynomials.{kp, ⊖◌}
use Rattle.arith.proofs.Rings.{∀₁, ∀₃, ∀₄, by_cert, part, to, times, num, ◌⊞◌, ◌⊠◌}
use Rattle.arith.proofs.Rationals.{ℚR, ℚ, mk, ◌+ℚ◌, ◌*ℚ◌, recipℚ, ◌≤ℚ◌, int_plus, recip_times, recip_nn, to-⊑}
use Rattle.arith.proofs.RationalTerms.{qq}
use Rattle.arith.proofs.RationalOrder.{nat_q, above_0}
use Rattle.arith.proofs.FractionsInRationals.{sumℚ, toℚ}
use Rattle.arith.proofs.FractionLaws.{⊑_trans}
use Rattle.springs.specs.Equations.{closed_spring, Tier, Lash, tier_at, shift, racking, Solves}
use Rattle.springs.specs.Inner.Promise.{stiffness_scale, farthest, shift_scale, found, Near}
use Rattle.springs.specs.Inner.Promise.{Solvable, error_hundredths, lash_error, racking_error, Promised}
use Rattle.springs.specs.Inner.Elimination.{eliminated, solved}
use Rattle.springs.specs.Inner.Candidate.{candidate}
use Rattle.springs.specs.Inner.Balance.{spring_at, in_balance}
use Rattle.springs.specs.Inner.Bound.{level_error, summed_error, shift_by}
use Rattle.springs.proofs.Chain.{natℚ}
use Rattle.springs.proofs.Recursion as R
use Rattle.springs.proofs.Ranges.{in_range, far_at}
use Rattle.springs.proofs.Candidates as C
use Rattle.springs.proofs.Balance.{all_levels}
use Rattle.springs.proofs.Certified.{certified}
use Rattle.springs.proofs.OutOfBalance.{unit}
use Rattle.springs.proofs.Bound.{errors, mk_summed, summed_bound}

-- the most that a level may be out of balance by under document 01's limits, in 2^-50 N: less than 0.00495 N
abbrev most_level_error : ℕ
most_level_error = 5 * farthest + closed_spring * stiffness_scale

-- the errors of shifts g against a solution Ds: of all lashes together, and of a tier's racking
abbrev lash_errors : (ℕ → Frac) → List Lash → List Frac → Frac
lash_errors g ls Ds = sumq (λ l. l.stiffness *q absq (g l.level -q shift Ds l.level)) ls

abbrev racking_error_at : (ℕ → Frac) → List Tier → List Frac → ℕ → Frac
racking_error_at g ts Ds i = absq ((tier_at ts i).K *q (g (suc i) -q g i) -q racking ts Ds i)

module _ (n : ℕ) (k κ ω : List ℕ) (s : Solvable n k κ ω) where
  spring_most : (j : ℕ) → spring_at n k j ≤ closed_spring
  spring_most j = go (dec_le (suc j) n)
    where
      go : Dec (suc j ≤ n) → spring_at n k j ≤ closed_spring
      go (yes l) = rw (lt-ltb j n l) (s.springs j l).1
      go (no l) = rw (le-ltb j n (omega arith)) (omega arith)

  level_most : (i : ℕ) → i < n → level_error n k κ ω i ≤ most_level_error
  level_most i l =
      let range = in_range n k κ ω s i l in
      max-le
      (omega (arith, far_at n k κ ω s (suc i), spring_most (suc i)))
      (omega (arith, range.high, range.held, range.above))

  -- all levels together, ten at most
  abbrev errorsℚ : ℕ → ℚ
  errorsℚ = errors n k κ ω

  errors_most : (i m : ℕ) → i + m ≤ n → sumℚ errorsℚ (from i m) ≤ℚ natℚ m *ℚ natℚ most_level_error
  unfolding sumℚ from
  errors_most i zero b = none (natℚ 0) refl
    where
      none : (z : ℚ) → z ≡ natℚ 0 → natℚ 0 ≤ℚ z *ℚ natℚ most_level_error
      none = ∀₁ ℚR _ λ ρ. simp qq λ e. by_cert (times (kp most_level_error) e) tt
  errors_most i (suc m) b =
      subst (λ z. sumℚ errorsℚ (from i (suc m)) ≤ℚ z *ℚ natℚ most_level_error) (sym (int_plus (pos m) (pos 1)) ∙ ap natℚ (add-one m))
      (more (errorsℚ i) (sumℚ errorsℚ (from (suc i) m)) (natℚ m)
      (nat_q (level_error n k κ ω i) most_level_error (level_most i (omega arith)))
      (errors_most (suc i) m (omega arith)))
    where
      more :
          (a t m : ℚ) →
          a ≤ℚ natℚ most_level_error →
          t ≤ℚ m *ℚ natℚ most_level_error →
          a +ℚ t ≤ℚ (m +ℚ natℚ 1) *ℚ natℚ most_level_error
      more = ∀₃ ℚR _ λ ρ. simp qq λ h l. by_cert (to h ⊞ to l) tt

  summed_most : summed_error n k κ ω ⊑ lash_error
  summed_most =
      to-⊑ (summed_error n k κ ω) lash_error
      (rw (mk_summed n k κ ω, error_is)
      (go (sumℚ errorsℚ (below n)) (natℚ n) (recipℚ (natℚ unit)) (recipℚ (natℚ 100))
      (errors_most 0 n (omega arith))
      (nat_q n 10 s.few)
      (recip_nn (natℚ unit))
      (recip_times (natℚ unit) (above_0 unit (lit< tt)))
      (recip_times (natℚ 100) (above_0 100 (lit< tt)))))
    where
      error_is : mk lash_error ≡ natℚ error_hundredths *ℚ recipℚ (natℚ 100)
      error_is = simp toℚ

      go :
          (a m r h : ℚ) →
          a ≤ℚ m *ℚ natℚ most_level_error →
          m ≤ℚ natℚ 10 →
          natℚ 0 ≤ℚ r →
          natℚ unit *ℚ r ≡ natℚ 1 →
          natℚ 100 *ℚ h ≡ natℚ 1 →
          a *ℚ r ≤ℚ natℚ error_hundredths *ℚ h
      go =
          ∀₄ ℚR _ λ ρ.
          simp qq λ b l p e f.
          part (100 * unit - 1)
          (num (100 * unit) ⊠ to b ⊠ to p
          ⊞ num (100 * unit * most_level_error) ⊠ to l ⊠ to p
          ⊞ times (⊖ kp (1000 * most_level_error)) e
          ⊞ times (kp (error_hundredths * unit)) f)
          tt

  -- the shift found of each level, in mm
  found_is : found (eliminated n k κ ω) ≡ shift_by n k κ ω
  found_is = fun_ext (λ i. ap (λ (a : ℕ). nat a /q nat shift_scale) (R.shift_eliminated n k κ ω s.few i))

  pub eliminated_promised : Promised n k κ ω (eliminated n k κ ω)
  eliminated_promised = record {
    deck = R.shift_eliminated n k κ ω s.few 0 ∙ R.shift_deck n k κ ω;
    far = λ i. rw (R.shift_eliminated n k κ ω s.few i) (far_at n k κ ω s i);
    lashes = lashes;
    rackings = rackings;
  }
    where
      lashes :
          (ts : List Tier) (ls : List Lash) (Ds : List Frac) →
          Near n k κ ω ts ls →
          Solves ts ls Ds →
          lash_errors (found (eliminated n k κ ω)) ls Ds ⊑ lash_error
      lashes ts ls Ds near sol =
          subst (λ g. lash_errors g ls Ds ⊑ lash_error) (sym found_is)
          (⊑_trans (lash_errors (shift_by n k κ ω) ls Ds) (summed_error n k κ ω) lash_error
          (summed_bound n k κ ω ts ls Ds near sol).lashes
          summed_most)

      rackings :
          (ts : List Tier) (ls : List Lash) (Ds : List Frac) →
          Near n k κ ω ts ls →
          Solves ts ls Ds →
          (i : ℕ) →
          i < n →
          racking_error_at (found (eliminated n k κ ω)) ts Ds i ⊑ racking_error
      rackings ts ls Ds near sol i h =
          subst (λ g. racking_error_at g ts Ds i ⊑ racking_error) (sym found_is)
          (⊑_trans (racking_error_at (shift_by n k κ ω) ts Ds i) (summed_error n k κ ω) racking_error
          ((summed_bound n k κ ω ts ls Ds near sol).rackings i h)
          summed_most)

  -- the candidate keeps the promise where each level is in balance under it
  candidate_promised : in_balance n k κ ω (candidate n k κ ω) ≡ true → Promised n k κ ω (candidate n k κ ω)
  candidate_promised e =
      certified n k κ ω (candidate n k κ ω) s.few
      (record {
        deck = C.guess_candidate n k κ ω s.few 0 ∙ C.guess_deck n k κ ω;
        over = λ j h. C.guess_candidate n k κ ω s.few j ∙ C.guess_behind n k κ ω j h;
        far = C.candidate_far n k κ ω s.few;
      })
      (all_levels n k κ ω (candidate n k κ ω) e)

  pub solved_promised : Promised n k κ ω (solved n k κ ω)
  unfolding solved
  solved_promised = go (in_balance n k κ ω (candidate n k κ ω)) refl
    where
      go : (b : Bool) → in_balance n k κ ω (candidate n k κ ω) ≡ b → Promised n k κ ω (cond b (candidate n k κ ω) (eliminated n k κ ω))
      go true e = candidate_promised e
      go false e = eliminated_promised

  -- either way
  pub solved_candidate : in_balance n k κ ω (candidate n k κ ω) ≡ true → solved n k κ ω ≡ candidate n k κ ω
  unfolding solved
  solved_candidate e = ap (λ b. cond b (candidate n k κ ω) (eliminated n k κ ω)) e

  pub solved_eliminated : in_balance n k κ ω (candidate n k κ ω) ≡ false → solved n k κ ω ≡ eliminated n k κ ω
  unfolding solved
  solved_eliminated e = ap (λ b. cond b (candidate n k κ ω) (eliminated n k κ ω)) e
