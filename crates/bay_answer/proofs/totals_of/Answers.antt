-- `bay_answer::totals_of`: each number by its function.
use Prim.Native.Nat.{◌+◌}
use mathlib.Core.Path.{◌∙◌}
use native.Mathlib.Omega.{arith}
use lib.ListN.{length}
use Rattle.bay_answer.proofs.Sizes.{accepted_is}
use Rattle.bay_answer.proofs.totals_of.Goals as goal

pub returns : goal.returns
returns c =
    let k = c.accepted_by in
    let r = c.racking_in in
    let accepted = k.ensures.0 ∙ accepted_is c.args.answer.now (omega (arith, c.requires.2)) in (
      λ i. record {
        length = 2 + length c.args.answer.now;
        accepted = accepted i;
        mass = c.args.mass;
        racking = r.ensures.0 i;
      },
      record {
        length = omega (arith, c.requires.3);
        accepted = k.ensures.1;
        mass = omega (arith, c.requires.4);
        racking = r.ensures.1;
      },
    )
