-- `cases::fields::hold` holds one field after another. The invariant: what is left gives what all the fields give.
use mathlib.Core.Path.{sym, ◌∙◌}
use native.Mathlib.Omega.{arith}
use Rattle.std.specs.Slice.Iter.{chunks_exact_rest}
use Rattle.cases.proofs.FieldLaws.{held_not, held_more, held_all, held_other}
use Rattle.cases.proofs.fields.hold.Goals as goal

pub returns-in_default : goal.returns-in_default
returns-in_default c =
    let a = c.args in
    let v = c.loop-field.invariant in
    let s = c.in-Some.ensures.steps in
    let differs =
    held_not a.buffer.now a.n (chunks_exact_rest c.loop-field.field-iterator) c.loop-field.place c.in-Some.field.now
    (chunks_exact_rest c.next.new.self) s.1.0 (s.1.1 ∙ v.2) (sym c.in_default.is ∙ c.within.ensures.value) in
    sym differs ∙ v.4

pub loop-field-preserved : goal.loop-field-preserved
loop-field-preserved c =
    let a = c.args in
    let v = c.loop-field.invariant in
    let s = c.in-Some.ensures.steps in
    let more =
    held_more a.buffer.now a.n (chunks_exact_rest c.loop-field.field-iterator) c.loop-field.place c.in-Some.field.now
    (chunks_exact_rest c.next.new.self) s.1.0 (s.1.1 ∙ v.2) c.in-Some-within.ensures.value in
    (omega (arith, s.0, v.2), tt, s.0 ∙ v.2, c.in-Some-within.ensures.there, sym more ∙ v.4)

pub returns-then-place-n : goal.returns-then-place-n
returns-then-place-n c =
    let a = c.args in
    let v = c.loop-field.invariant in
    sym (held_other a.buffer.now a.n (chunks_exact_rest c.loop-field.field-iterator) c.loop-field.place
    (omega (arith, c.in-None.ensures.steps.1.0, v.2)) c.if-place-n.true)
    ∙ v.4

pub returns : goal.returns
returns c =
    let a = c.args in
    let v = c.loop-field.invariant in
    sym (held_all a.buffer.now a.n (chunks_exact_rest c.loop-field.field-iterator) c.loop-field.place
    (omega (arith, c.in-None.ensures.steps.1.0, v.2)) c.if-place-n.false)
    ∙ v.4
