-- `chosen_lashes::gather`: one turn passes a lash, or puts it behind those that are used (Picked).
use mathlib.Core.Path.{◌≡◌}
use lib.ListN.{length, take}
use Rattle.chosen_lashes.proofs.Picked.{GatheredTo}
use Rattle.chosen_lashes.proofs.gather.Given as goal

abbrev pub invariant-loop-j : goal.invariant-loop-j
invariant-loop-j l =
    (length l.out.lengths ≡ 8)
    × (length l.out.stiffnesses ≡ 8)
    × (length l.out.levels ≡ 10)
    × GatheredTo l.choice l.m (take l.m l.lashes) l.j l.rest l.count l.held l.out.lengths l.out.stiffnesses l.out.levels
