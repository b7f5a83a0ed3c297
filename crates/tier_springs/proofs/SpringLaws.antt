-- The springs of an end's tiers: the loop over the tiers.
use Prim.Native.Nat.{ℕ, zero-le, ◌≤◌}
use mathlib.Core.Bool.{cond}
use mathlib.Core.List.{List, map}
use mathlib.Core.Path.{◌≡◌, refl, sym, ◌∙◌}
use native.Mathlib.Decide.{dec_lt}
use native.Mathlib.Omega.{arith}
use lib.ListN.{length, get_or, get_or-eq_default}
use lib.Seq.{ext_get_or}
use Rattle.arith.specs.Lists.{below}
use Rattle.arith.proofs.Arrays.{length_entries}
use Rattle.sheet.specs.declared.Tier.{Tier}
use Rattle.sheet.specs.Layout.{turned, blank_tier}
use Rattle.statics.proofs.Arrays.{Between, entry_at}

module _ (own other : ℕ) (ts : List Tier) where
  abbrev pub spring : ℕ → ℕ
  spring j = cond (turned (get_or ts j blank_tier)) other own

  -- the springs of the first i tiers, and the end's own behind them
  abbrev pub Springs : ℕ → List ℕ → Type 0
  Springs i k = Between own (λ j x. x ≡ spring j) 10 0 i k

  pub springs_all : {i : ℕ} {k : List ℕ} → length ts ≤ i → Springs i k → k ≡ map spring (below 10)
  springs_all {i} {k} all b =
      ext_get_or own k (map spring (below 10)) (b.long ∙ sym (length_entries spring own 10))
      (λ j h. elim (dec_lt j i) [
        | yes l ↦ b.each j zero-le l ∙ sym (entry_at spring own 10 j (omega (arith, b.long)))
        | no l ↦ b.rest j (omega arith) ∙ sym (entry_at spring own 10 j (omega (arith, b.long)) ∙ behind j (omega arith))
      ])
    where
      behind : (j : ℕ) → length ts ≤ j → spring j ≡ own
      behind j h = rw (get_or-eq_default ts blank_tier h) refl
