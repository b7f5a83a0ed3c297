-- `bay_answer::greatest_at`: after i turns the greatest of the first i sizes of both ends.
use Prim.Native.Nat.{ℕ, ◌^◌}
use mathlib.Core.Path.{sym, ap₂, ◌∙◌}
use borrow.Author.Rules.{rules}
use lib.IntN.{nat_abs}
use Rattle.arith.specs.Bytes.{signed4}
use Rattle.answer.specs.Places.{entry_place}
use Rattle.bay_wind.specs.Sums.{larger}
use Rattle.bay_wind.proofs.Sums.{greatest_none, greatest_more}
use Rattle.bay_answer.specs.Inner.Totalled.{greatest_at}
use Rattle.bay_answer.proofs.Sizes.{larger_max, larger_most, larger_crossed}
use Rattle.bay_answer.proofs.greatest_at.Goals as goal

pub loop-i-init : goal.loop-i-init
loop-i-init c = (rw (greatest_none _, greatest_none _) (sym (larger_max 0 0)), search rules)

pub loop-i-preserved : goal.loop-i-preserved
loop-i-preserved c =
    let a = c.args in
    let i = c.loop-i.i in
    let x = c.size_at-at_door in
    let y = c.size_at-at_closed in
    let sizes : ℕ → ℕ → ℕ = λ at j. nat_abs (signed4 a.answer.now (entry_place at 4 j)) in
    let both = c.larger_of.ensures ∙ ap₂ larger x.ensures.0 y.ensures.0 in
    let most = larger_most x.result y.result (2 ^ 31) x.ensures.1 y.ensures.1 in (
      c.larger_of-greatest.ensures
          ∙ ap₂ larger c.loop-i.invariant.0 both
          ∙ larger_crossed (greatest_at a.answer.now a.door i) (greatest_at a.answer.now a.closed i)
          (sizes a.door i) (sizes a.closed i)
          ∙ sym (ap₂ larger (greatest_more (sizes a.door) i) (greatest_more (sizes a.closed) i)),
      rw c.larger_of-greatest.ensures
          (larger_most c.loop-i.greatest c.larger_of.result (2 ^ 31) c.loop-i.invariant.1 (rw c.larger_of.ensures most)),
    )
