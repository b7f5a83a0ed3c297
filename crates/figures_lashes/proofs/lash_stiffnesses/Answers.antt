-- `figures_lashes::lash_stiffnesses`: one turn finds length and stiffness of a lash and adds the stiffness at its level (LashLoops).
use lib.Seq.{get_or-take}
use Rattle.sheet.specs.Layout.{blank_lash}
use Rattle.figures_lashes.proofs.LashLoops.{listed, level_fits, measured_more, levels_all}
use native.Mathlib.Numerals.{add-one}
use native.Mathlib.Omega.{arith}
use Rattle.figures_lashes.proofs.lash_stiffnesses.Goals as goal

pub overflow_add-measures : goal.overflow_add-measures
overflow_add-measures c =
    let h = c.hook_level-at.ensures in
    let g = listed c.args.lashes (omega arith) c.requires.m_bound in
    let own = get_or-take c.args.m c.args.lashes c.loop-j.j blank_lash c.loop-j-test.true in
    let stiff = c.stiffness_of-stiff.ensures in
    record { fits = level_fits g c.loop-j.invariant c.loop-j-test.true own stiff (omega (arith, h.0, h.1)) }

pub loop-j-preserved : goal.loop-j-preserved
loop-j-preserved c =
    let l = c.loop-j in
    let h = c.hook_level-at.ensures in
    let g = listed c.args.lashes (omega arith) c.requires.m_bound in
    let own = get_or-take c.args.m c.args.lashes c.loop-j.j blank_lash c.loop-j-test.true in
    let stiff = c.stiffness_of-stiff.ensures in
    let long = c.search-long.ensures.length_value_2 in
    rw (add-one l.j)
    (measured_more g l.invariant c.loop-j-test.true own stiff (omega (arith, h.0, h.1)) long (omega (arith, h.1, h.2)))

pub returns-clause-level_stiffnesses : goal.returns-clause-level_stiffnesses
returns-clause-level_stiffnesses c =
    levels_all (listed c.args.lashes (omega arith) c.requires.m_bound) (omega arith) c.loop-j.invariant.levels_are
