-- `chosen_lashes::gather`: one turn passes a lash, or puts it behind those that are used (Picked).
use mathlib.Core.Path.{◌≡◌, ap, ◌∙◌}
use borrow.Author.Tests.{eq-eqb, ne_eqb}
use native.Mathlib.Numerals.{add-one}
use native.Mathlib.Omega.{arith}
use lib.ListN.{length, get_or, take, length-set}
use lib.Seq.{get_or-take, length-take-le}
use Rattle.sheet.specs.Layout.{blank_lash}
use Rattle.statics.specs.Lashes.{lash_length}
use Rattle.statics.specs.Inner.WholeNumbers.{stiffness_of}
use Rattle.chosen_lashes.proofs.Picked.{gathered_none, gathered_skip, gathered_use, gathered_all, level_fits}
use Rattle.chosen_lashes.proofs.gather.Goals as goal
use Rattle.chosen_lashes.proofs.gather.Goals.{then-rest-eq1, else-rest-eq1}

pub loop-j-init : goal.loop-j-init
loop-j-init c =
    let z = c.requires.zeros in
    let counted = length-take-le c.args.m c.args.lashes (omega (arith, c.requires.m_bound.0)) in
    (ap length z.0, ap length z.1, ap length z.2, rw (c.blank_lash-held.ensures, z.0, z.1, z.2) (gathered_none _ _ _ counted))

pub hook_level-at-requires : goal.hook_level-at-requires
hook_level-at-requires c =
    rw (get_or-take c.args.m c.args.lashes c.loop-j.j blank_lash (omega arith)) at (c.requires.m_bound.1 c.loop-j.j (omega arith))

pub overflow_add-out : goal.overflow_add-out
overflow_add-out c =
    let m = c.requires.m_bound in
    let h = c.hook_level-at.ensures in
    let found = c.requires.lashes_measured.stiff.each c.loop-j.j (omega arith) in
    record { fits = level_fits m.0 m.1 c.loop-j.invariant.3 (omega arith) (omega (arith, h.1, h.2)) found }

pub loop-j-preserved : goal.loop-j-preserved
loop-j-preserved c =
    let own : get_or (take c.args.m c.args.lashes) c.loop-j.j blank_lash ≡ get_or c.args.lashes c.loop-j.j blank_lash =
    get_or-take c.args.m c.args.lashes c.loop-j.j blank_lash (omega arith) in
    let m = c.requires.m_bound in
    let l = c.loop-j in
    let found = c.requires.lashes_measured in
    let v = l.invariant in
    elim c.if-rest-eq1.branch [
      | then-rest-eq1 w ↦
          let h = w.hook_level-at.ensures in
          rw (w.held-is, w.count-is, w.out-is, add-one l.count, add-one l.j) (
            length-set l.out.lengths _ _ ∙ v.0,
            length-set l.out.stiffnesses _ _ ∙ v.1,
            length-set l.out.levels _ _ ∙ v.2,
            gathered_use m.0 m.1 v.3 (omega arith) own (eq-eqb _ 1 w.if-rest-eq1.true)
                (found.long.each l.j (omega arith) ∙ ap lash_length own)
                (found.stiff.each l.j (omega arith) ∙ ap stiffness_of own)
                (omega (arith, h.0, h.1)) (omega (arith, h.1, h.2)),
          )
      | else-rest-eq1 w ↦
          rw (w.held-is, w.count-is, w.out-is, add-one l.j)
          (v.0, v.1, v.2, gathered_skip m.0 m.1 v.3 (omega arith) (ne_eqb _ 1 w.if-rest-eq1.false))
    ]

pub returns : goal.returns
returns c = gathered_all (omega arith) c.loop-j.invariant.3
