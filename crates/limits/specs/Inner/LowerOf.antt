-- Contract of an inner function; nothing here need be believed.
use Rattle.std.specs.Prelude.{cond, ℕ, ltb}
use Rattle.answer.specs.Limits.{corner_tension_limit}
use Rattle.limits.specs.declared.PullLimit.{PullLimit}

-- what a tension is checked against: the lower of the corner's limit and the lock's, under the kind of that one
abbrev pub lower_of : ℕ → PullLimit
lower_of lock = cond (ltb lock corner_tension_limit) (record { kind = 4; limit = lock }) (record { kind = 3; limit = corner_tension_limit })
