-- `arrangements_list::put_choices`: after i turns the accepted ones of the first i choices are put (Walk).
use native.Mathlib.Omega.{arith}
use lib.ListN.{take}
use Rattle.answer_write.proofs.Stores.{none}
use Rattle.arrangements_list.proofs.Walk.{one_listed, all_passed}
use Rattle.arrangements_list.proofs.put_choices.Goals as goal

pub loop-i-init : goal.loop-i-init
loop-i-init c = (omega arith, none _ 2)

pub loop-i-preserved : goal.loop-i-preserved
loop-i-preserved c =
    let l = c.loop-i in (
      omega (arith, c.put_choice-next.ensures.1),
      one_listed _ _ _ l.i (omega arith) l.invariant.1
          c.choice_at-choice.ensures c.choices_of-all.ensures c.judge-accepted.ensures c.put_choice-next.ensures.0,
    )

pub returns : goal.returns
returns c =
    let l = c.loop-i in
    let a = c.args in (
      rw (all_passed a.stack.now.sheet (take a.m a.lashes) a.m l.i (omega arith) c.requires.gear_given.0.few) at l.invariant.1,
      omega arith,
    )
