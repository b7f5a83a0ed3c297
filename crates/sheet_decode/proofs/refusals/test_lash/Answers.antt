-- `sheet_decode::refusals::test_lash`: a lash: 1, 10, 11, 12. Each return follows from the rows that passed before it.
use Prim.Native.Nat.{ℕ, ◌<◌}
use mathlib.Core.Path.{◌≡◌, sym, ap₂, ◌∙◌}
use lib.Dec.{ltb}
use Rattle.arith.specs.Bytes.{byte_at}
use lib.ListN.{drop}
use borrow.Author.Rules.{rules}
use borrow.Author.Tests.{lt-ltb, le-ltb}
use Rattle.sheet.specs.Refusals.{first, lash_rows, not_later}
use Rattle.sheet.proofs.Rows.{no_rows, row_holds, row_passed, behind_taken, behind_refused}
use Rattle.sheet_limits.proofs.Ranks.{not_later_rank}
use Rattle.sheet_decode.proofs.refusals.test_lash.Goals.{Else-not-lash_fits, Else-off_tiers, After-rank}
use Rattle.sheet_decode.proofs.refusals.test_lash.Goals as goal

-- the rows of the lash, of which the first two, and the first three, have passed
fits : (c : Else-not-lash_fits) → let a = c.args in let rows = lash_rows a.n a.s.now a.at a.k in first rows ≡ first (drop 2 rows)
fits c =
    behind_taken _ _ (sym c.test_there.ensures.0 ∙ c.in_ok-test_there.was)
    ∙ row_passed _ _ (simp (← c.lash_of-l.ensures, ← c.lash_fits.ensures, c.if-not-lash_fits.false))

on : (c : Else-off_tiers) → let a = c.args in let rows = lash_rows a.n a.s.now a.at a.k in first rows ≡ first (drop 3 rows)
on c =
    behind_taken _ _ (sym c.test_there.ensures.0 ∙ c.in_ok-test_there.was)
    ∙ row_passed _ _ (simp (← c.lash_of-l.ensures, ← c.lash_fits.ensures, c.if-not-lash_fits.false))
    ∙ row_passed _ _ (simp (← c.lash_of-l.ensures, ← c.off_tiers.ensures, c.if-off_tiers.false))

-- the last row's test
ranked :
    (c : After-rank) →
    let a = c.args in
    not_later a.s.now a.at a.k ≡ ltb c.rank.result a.least
ranked c =
    let a = c.args in
    let r = rw c.lash_of-l.ensures at c.rank.ensures.0 in
    let bytes : (i : ℕ) → byte_at a.s.now i < 256 = λ i. (c.type_inv.s i).fits in
    not_later_rank a.s.now bytes a.at a.k ∙ ap₂ ltb (sym r) (sym c.requires.2)

pub returns-in_err-test_there : goal.returns-in_err-test_there
returns-in_err-test_there c = search rules ∙ sym (behind_refused _ _ (sym c.test_there.ensures.0 ∙ c.in_err-test_there.was))

pub returns-then-not-lash_fits : goal.returns-then-not-lash_fits
returns-then-not-lash_fits c =
    sym (
    behind_taken _ _ (sym c.test_there.ensures.0 ∙ c.in_ok-test_there.was)
    ∙ row_holds _ _ (simp (← c.lash_of-l.ensures, ← c.lash_fits.ensures, c.if-not-lash_fits.true)))

pub returns-then-off_tiers : goal.returns-then-off_tiers
returns-then-off_tiers c =
    sym (
    fits (goal.at.returns-then-off_tiers c).Else-not-lash_fits
    ∙ row_holds _ _ (simp (← c.lash_of-l.ensures, ← c.off_tiers.ensures, c.if-off_tiers.true)))

pub returns-then-rank-least : goal.returns-then-rank-least
returns-then-rank-least c =
    let p = goal.at.returns-then-rank-least c in
    sym (on p.Else-off_tiers ∙ row_holds _ _ (ranked p.After-rank ∙ lt-ltb _ _ c.if-rank-least.true))

pub returns : goal.returns
returns c =
    let p = goal.at.returns c in
    sym (on p.Else-off_tiers ∙ row_passed _ _ (ranked p.After-rank ∙ le-ltb _ _ c.if-rank-least.false) ∙ no_rows)
