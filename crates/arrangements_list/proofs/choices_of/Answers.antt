-- `arrangements_list::choices_of`: the table's entries are the powers of 2.
use Rattle.arrangements_list.proofs.Walk.{power}
use Rattle.arrangements_list.proofs.choices_of.Goals as goal

pub returns : goal.returns
returns c = power c.args.m c.requires
