-- `arrangements_list::put_choice`: nothing, or one byte, is put.
use mathlib.Core.List.{[], ◌∷◌}
use mathlib.Core.Path.{refl}
use native.Mathlib.Omega.{arith}
use Rattle.answer_write.proofs.Stores.{none, run}
use Rattle.arrangements_list.proofs.put_choice.Goals as goal

pub returns-then-not-accepted : goal.returns-then-not-accepted
returns-then-not-accepted c =
    let a = c.args in
    (rw c.if-not-accepted.true (none a.list.now a.at), omega arith)

pub returns : goal.returns
returns c =
    let a = c.args in
    (rw c.if-not-accepted.false (run {bytes = a.choice ∷ []} refl refl), omega arith)
