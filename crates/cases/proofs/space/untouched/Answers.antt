-- `cases::space::untouched`: std's `all` of the test of one byte.
use mathlib.Core.Path.{refl, ◌∙◌}
use Prim.Native.Nat.{◌-◌}
use Rattle.std.specs.Prelude.{eqb, get_or, length}
use Rattle.std.proofs.Common.{rules, tests}
use Rattle.std.proofs.lemmas.Iterator.{YieldsList-from_range}
use Rattle.std.proofs.lemmas.Iterator.Search.{all_from_yields_List}
use Rattle.cases.specs.Inner.Marks.{mark_of}
use Rattle.cases.proofs.MarkLaws.{marked}
use Rattle.cases.proofs.space.untouched.Goals as goal

pub returns : goal.returns
returns c =
    let b = c.args.buffer.now in
    let i = c.args.from in
    all_from_yields_List (λ k. eqb (get_or b k 0) (mark_of k)) _ _ _ c.all.ensures.ran
    (YieldsList-from_range i (length b) (length b - i) refl refl) (λ x r q k. search (rules, tests))
    ∙ marked b (length b - i) i refl
