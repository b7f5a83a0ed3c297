-- `cases::fields::hold` holds one field after another. The invariant: what is left gives what all the fields give.
use Prim.Native.Nat.{◌/◌, ◌≤◌}
use mathlib.Core.Path.{◌≡◌}
use lib.ListN.{length}
use Rattle.std.specs.Slice.Iter.{chunks_exact_rest, chunks_exact_size}
use Rattle.cases.specs.Inner.Fields.{held_from}
use Rattle.cases.proofs.fields.hold.Given as goal

abbrev pub invariant-loop-field : goal.invariant-loop-field
invariant-loop-field l =
    (goal.iterator-loop-field).can_next l.field-iterator
    × (goal.iterator-loop-field).is_finite l.field-iterator
    × (chunks_exact_size l.field-iterator ≡ 9)
    × (l.place ≤ length l.buffer)
    × (held_from l.buffer l.n (length (chunks_exact_rest l.field-iterator) / 9) (chunks_exact_rest l.field-iterator) l.place
    ≡ held_from l.buffer l.n (length l.fields / 9) l.fields 0)
