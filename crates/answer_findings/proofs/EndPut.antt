-- The findings of an end put kind by kind, from the sections of the arrays that hold its figures.
use mathlib.Core.List.{List, ◌++◌}
use mathlib.Core.Path.{◌≡◌}
use Prim.Native.Nat.{ℕ, ◌-◌}
use lib.IntN.{nat_abs, pos}
use lib.ListN.{drop, get_or, length, take}
use Rattle.sheet.specs.declared.Lash.{Lash}
use Rattle.statics.specs.declared.EndArrays.{EndArrays}
use Rattle.statics.specs.Inner.InArrays.{end_in}
use Rattle.statics.proofs.Sections.{rest}
use Rattle.answer.specs.Limits.{racking_limit, compression_limit, lash_vertical_limit, lash_athwart_limit}
use Rattle.limits.specs.declared.PullLimit.{PullLimit}
use Rattle.answer_put.specs.Inner.Puts.{Put, lash_limit, findings_over}
use Rattle.answer_put.proofs.Puts.{then}
use Rattle.answer_findings.specs.Inner.Findings.{tier_findings, lash_findings}

-- what stands from k on, in an array of n
last_of : {n : ℕ} (k : ℕ) (l : List ℕ) → length l ≡ n → take (n - k) (drop k l) ≡ drop k l
last_of k l h = rw h at (rest k l)

module _ (end n m : ℕ) (pull : PullLimit) (lashes : List Lash) (of : EndArrays)
    (levels_long : length of.levels ≡ 21) (forces_long : length of.forces ≡ 24) where
  -- the findings of k sizes with one limit
  abbrev over : ℕ → ℕ → List ℕ → ℕ → ℕ → List ℕ
  over kind first xs limit k = findings_over end kind first (λ i. get_or xs i 0) (λ i. limit) k

  pub end_put :
      {a b c d e f g : List ℕ} {at p q r s u v : ℕ} →
      Put a at (findings_over end 1 1 (λ i. nat_abs (get_or of.racking (i - 1) (pos 0))) (λ i. racking_limit) n) b p →
      Put b p (over 2 1 (take 11 of.levels) compression_limit n) c q →
      Put c q (over pull.kind 0 (take 10 (drop 11 of.levels)) pull.limit n) d r →
      Put d r (findings_over end 5 0 (λ j. get_or (take 8 of.forces) j 0) (lash_limit lashes) m) e s →
      Put e s (over 6 0 (take 8 (drop 16 of.forces)) lash_vertical_limit m) f u →
      Put f u (over 7 0 (take 8 (drop 8 of.forces)) lash_athwart_limit m) g v →
      Put a at (tier_findings end n pull (end_in of) ++ lash_findings end lashes m (end_in of)) g v
  unfolding tier_findings lash_findings
  end_put rackings compressions tensions pulls verticals athwarts =
      let tiers = then (then rackings compressions) (rw (last_of 11 of.levels levels_long) at tensions) in
      then tiers (then (then pulls (rw (last_of 16 of.forces forces_long) at verticals)) athwarts)
