-- `arrangements_list::judge`: a choice of lashes that are not there, or what the check says with the lashes that it uses (Walk).
use mathlib.Core.List.{List}
use mathlib.Core.Path.{refl, sym, ap, subst, ◌∙◌}
use native.Mathlib.Omega.{arith}
use borrow.Author.Tests.{lt-ltb, le-ltb}
use lib.ListN.{take}
use Rattle.sheet.specs.declared.Lash.{Lash}
use Rattle.sheet.specs.Fits.{Fits}
use Rattle.choices.specs.Choices.{chosen}
use Rattle.gear.specs.Gear.{with_lashes}
use Rattle.arrangements_judge.specs.Inner.Judged.{accepted_with}
use Rattle.arrangements_list.proofs.Walk.{held_back, held_by_name}
use Rattle.arrangements_list.proofs.judge.Goals as goal

pub returns-then-all-choice : goal.returns-then-all-choice
returns-then-all-choice c =
    let a = c.args in
    rw (le-ltb a.choice a.all (omega (arith, c.if-all-choice.true))) refl

pub accepts-requires : goal.accepts-requires
accepts-requires c =
    let ls = chosen c.args.choice (take c.args.m c.args.lashes) in
    let e = c.gather-g.ensures in
    let fits = c.requires.gear_given.fits c.args.choice in
    record {
      stack_given = c.requires.stack_given;
      held = (held_by_name ls e, subst (λ (l : List Lash). Fits (with_lashes l c.args.stack.now.sheet)) (sym (held_back ls e)) fits);
    }

pub returns : goal.returns
returns c =
    let a = c.args in
    let ls = chosen a.choice (take a.m a.lashes) in
    rw (lt-ltb a.choice a.all (omega (arith, c.if-all-choice.false)))
    (c.accepts.ensures ∙ ap (λ (l : List Lash). accepted_with l a.stack.now.sheet) (held_back ls c.gather-g.ensures))
