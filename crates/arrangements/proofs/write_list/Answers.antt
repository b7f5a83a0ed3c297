-- `arrangements::write_list`: loads, springs, lengths and stiffnesses once, then the accepted choices, then their count (Bytes).
use mathlib.Core.Path.{sym, ap, ◌∙◌}
use native.Mathlib.Omega.{arith}
use lib.ListN.{take}
use Rattle.sheet.proofs.SheetLimits.{sheet_limits}
use Rattle.limits.specs.Inner.LowerOf.{lower_of}
use Rattle.arrangements.proofs.Bytes.{whole}
use Rattle.arrangements.proofs.write_list.Goals as goal

pub loads_of-requires-clause-by_index : goal.loads_of-requires-clause-by_index
loads_of-requires-clause-by_index c = (sheet_limits c.requires.0).each

pub put_choices-next-requires : goal.put_choices-next-requires
put_choices-next-requires c =
    let t = c.args.t in
    let rule = c.rule_of-rule.ensures.0 in
    let p = c.requires.1 in
    record {
      stack_given = record {
        lower = c.lower_of-pull.ensures ∙ ap lower_of c.safe_load.ensures;
        door_springs = c.springs_of.ensures.0;
        closed_springs = c.springs_of.ensures.1;
        loaded = rw (sym rule) c.loads_of.ensures.0;
        measured = c.loads_of.ensures.1;
      };
      gear_given = (
        record {
          few = p.few;
          counted = p.counted;
          each = p.each;
          measured = c.lash_stiffnesses.ensures.lashes_measured;
          fits = p.fits;
        },
        c.requires.2,
      );
    }

pub put_count-requires : goal.put_count-requires
put_count-requires c =
    omega (arith, c.put_choices-next.ensures.0.room, c.requires.2)

pub returns : goal.returns
returns c =
    let e = c.put_choices-next.ensures in
    (whole c.args.t (take c.args.m c.args.lashes) c.requires.1.counted (omega arith) e.0 c.put_count.ensures, e.1)
