-- `cases::fields::within`, by the size that the field asks for.
use mathlib.Core.Path.{◌≡◌}
use native.Mathlib.Omega.{arith}
use borrow.Author.Rules.{rules}
use borrow.Author.Tests.{lt-ltb, le-ltb, eq-eqb, ne_eqb}
use Rattle.cases.specs.Inner.Fields.{size_within}
use Rattle.cases.proofs.fields.within.Goals as goal

pub returns-then-buffer-place-clause-value : goal.returns-then-buffer-place-clause-value
unfolding size_within
returns-then-buffer-place-clause-value c =
    simp (← c.read1-size.ensures.0, lt-ltb _ _ c.if-buffer-place.true)

pub returns-in-1-clause-value : goal.returns-in-1-clause-value
unfolding size_within
returns-in-1-clause-value c = simp (
  ← c.read1-size.ensures.0,
  ← c.read4-least.ensures.0,
  ← c.read4-most.ensures.0,
  ← c.read1.ensures.0,
  le-ltb _ _ c.if-buffer-place.false,
  eq-eqb _ _ c.in-1.is,
  c.size_if.ensures.value,
)

pub returns-in-4-clause-value : goal.returns-in-4-clause-value
unfolding size_within
returns-in-4-clause-value c = simp (
  ← c.read1-size.ensures.0,
  ← c.read4-least.ensures.0,
  ← c.read4-most.ensures.0,
  ← c.read4.ensures.0,
  le-ltb _ _ c.if-buffer-place.false,
  ne_eqb c.read1-size.result 1 (λ e. omega (arith, e, c.in-4.is)),
  eq-eqb _ _ c.in-4.is,
  c.size_if-in-4.ensures.value,
)

pub returns-in_default-clause-value : goal.returns-in_default-clause-value
unfolding size_within
returns-in_default-clause-value c =
    let no_byte : c.read1-size.result ≡ 1 → ⊥ = search rules in
    let no_four : c.read1-size.result ≡ 4 → ⊥ = search rules in
    simp (
      ← c.read1-size.ensures.0,
      le-ltb _ _ c.if-buffer-place.false,
      ne_eqb _ _ no_byte,
      ne_eqb _ _ no_four,
    )
