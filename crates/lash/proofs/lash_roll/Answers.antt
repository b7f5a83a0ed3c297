-- `lash::lash_roll` says what `roll::condition_a` says, packed in one number.
use mathlib.Core.Path.{◌≡◌, subst, sym, ◌∙◌}
use native.Mathlib.Omega.{arith}
use mir.Syntax.{w32}
use mir.ValLaws.{to_z-of_z}
use Rattle.roll.specs.declared.Condition.{Condition}
use Rattle.roll.specs.Rounded.{Rolled, condition_a}
use Rattle.roll.specs.Theorems.{Within}
use Rattle.roll.proofs.Limits.{within}
use Rattle.lash.specs.RolledIn.{RolledIn}
use Rattle.lash.proofs.lash_roll.Goals as goal
use Rattle.lash.proofs.lash_roll.Goals.{After-condition_a-rolled}

-- what is given, read back, and what is found for it
asked : After-condition_a-rolled → Condition
asked j =
    let a = j.args in
    record {
      sine = a.sine;
      cosine = a.cosine;
      heave = a.heave;
      angle = a.angle;
      period = a.period;
      length = a.length;
      centre = a.centre;
      x = a.x;
      y = a.y;
      z = a.z;
    }

found : (j : After-condition_a-rolled) → j.condition_a-rolled.result ≡ condition_a (asked j)
unfolding asked
found j =
    let a = j.args in
    let f = j.ranges in
    simp (to_z-of_z w32 a.centre f.centre, to_z-of_z w32 a.x f.x, to_z-of_z w32 a.y f.y, to_z-of_z w32 a.z f.z)
    at j.condition_a-rolled.ensures

-- q is the case that it is
small : (j : After-condition_a-rolled) {q : Rolled} → j.condition_a-rolled.result ≡ q → Within q
small j is = subst Within (sym (found j) ∙ is) (within (asked j))

pub packed_accelerations-requires : goal.packed_accelerations-requires
packed_accelerations-requires c =
    let w = small (goal.at.packed_accelerations-requires c).After-condition_a-rolled c.in-Ok.is in
    (omega (arith, w.0), omega (arith, w.1), omega (arith, w.2))

pub joined-requires : goal.joined-requires
joined-requires c =
    let w = small (goal.at.joined-requires c).After-condition_a-rolled c.in-Err.is in
    (omega (arith, w.1), omega (arith, w.2))

pub returns-in-Ok : goal.returns-in-Ok
unfolding asked
returns-in-Ok c =
    let j = (goal.at.returns-in-Ok c).After-condition_a-rolled in
    subst (λ q. RolledIn q c.packed_accelerations.result) (sym c.in-Ok.is ∙ found j) c.packed_accelerations.ensures

pub returns-in-Err : goal.returns-in-Err
unfolding asked
returns-in-Err c =
    let j = (goal.at.returns-in-Err c).After-condition_a-rolled in
    let n = (small j c.in-Err.is).1 in
    subst (λ q. RolledIn q c.joined.result) (sym c.in-Err.is ∙ found j) (record { low = omega arith; above = omega arith })
