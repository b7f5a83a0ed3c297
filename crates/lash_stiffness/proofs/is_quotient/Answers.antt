-- `lash_stiffness::is_quotient`: the products fit 64 bits, and a remainder from 0 to the cube certifies the quotient (Remainders).
use mathlib.Core.Path.{refl, sym, subst}
use native.Mathlib.Omega.{arith}
use lib.Dec.{T}
use Rattle.lash_stiffness.proofs.Remainders.{p_le, taken_le, more_le, certified}
use Rattle.lash_stiffness.proofs.is_quotient.Goals as goal

pub overflow_mul-p : goal.overflow_mul-p
overflow_mul-p c = omega (arith, p_le c.requires.0 c.requires.1 c.requires.2)

pub overflow_mul-taken : goal.overflow_mul-taken
overflow_mul-taken c = omega (arith, taken_le c.requires.0 c.requires.1 c.requires.2)

pub returns-then-force-taken : goal.returns-then-force-taken
returns-then-force-taken c = λ e. absurd (subst T (sym e) tt)

pub returns-then-left-ge1099511627776 : goal.returns-then-left-ge1099511627776
returns-then-left-ge1099511627776 c = λ e. absurd (subst T (sym e) tt)

pub overflow_mul-over : goal.overflow_mul-over
overflow_mul-over c = omega arith

pub overflow_mul-more : goal.overflow_mul-more
overflow_mul-more c =
    let p = c.requires in
    omega (arith, more_le p.0 p.1 p.2)

pub returns-then-over-more : goal.returns-then-over-more
returns-then-over-more c = λ e. absurd (subst T (sym e) tt)

pub returns-then-cube-over : goal.returns-then-cube-over
returns-then-cube-over c = λ e. absurd (subst T (sym e) tt)

pub returns : goal.returns
returns c = λ e.
    let g = c.args in
    certified g.force g.q g.long g.square g.cube _ _ c.requires.3 refl refl (omega arith) (omega arith) (omega arith)
