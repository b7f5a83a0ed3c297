-- `side_parts::test_pitch`: 14, then 15 tier by tier (ShortSheets).
use Rattle.std.specs.Prelude.{Err}
use Prim.Native.Nat.{ℕ}
use mathlib.Core.Path.{sym, ap, ◌∙◌}
use native.Mathlib.Omega.{arith}
use native.Mathlib.Numerals.{add-one}
use Rattle.sheet.specs.Refusals.{numbers}
use Rattle.side_parts.proofs.ShortSheets.{wrong_length, wrong_count, past_14, tier_passed, tier_refused, tiers_passed}
use Rattle.side_parts.proofs.test_pitch.Goals.{then-pitch-n-via-then-pitch-n, then-pitch-n-via-else-pitch-n+then-read1-n}
use Rattle.side_parts.proofs.test_pitch.Goals as goal

pub returns-then-pitch-n : goal.returns-then-pitch-n
returns-then-pitch-n c =
    let a = c.args in
    elim c.then-pitch-n.branch [
      | then-pitch-n-via-then-pitch-n w ↦ sym (wrong_length a.n a.pitch.now (λ q. omega (arith, q, w.if-pitch-n.true)))
      | then-pitch-n-via-else-pitch-n+then-read1-n w ↦
          sym (wrong_count a.n a.pitch.now w.if-pitch-n.false (λ q. omega (arith, q, w.if-read1-n.true, w.read1.ensures.0)))
    ]

pub loop-i-init : goal.loop-i-init
loop-i-init c =
    let a = c.args in
    (c.if-pitch-n.false, sym (past_14 a.n a.pitch.now c.if-pitch-n.false (sym c.read1.ensures.0 ∙ c.if-read1-n.false)))

pub returns-then-read2-gt1500 : goal.returns-then-read2-gt1500
returns-then-read2-gt1500 c =
    let l = c.loop-i in
    let a = c.args in
    ap (λ (k : ℕ). Err (numbers 15 k)) (add-one l.i)
    ∙ (sym (tier_refused a.n a.pitch.now l.i c.loop-i-test.true (omega (arith, c.if-read2-gt1500.true, c.read2.ensures.0)))
    ∙ l.invariant.1)

pub loop-i-preserved : goal.loop-i-preserved
loop-i-preserved c =
    let l = c.loop-i in
    let a = c.args in (
      l.invariant.0,
      sym (tier_passed a.n a.pitch.now l.i c.loop-i-test.true (omega (arith, c.if-read2-gt1500.false, c.read2.ensures.0)))
          ∙ l.invariant.1,
    )

pub returns : goal.returns
returns c =
    let l = c.loop-i in
    let a = c.args in
    sym (tiers_passed a.n a.pitch.now l.i c.loop-i-test.false) ∙ l.invariant.1
