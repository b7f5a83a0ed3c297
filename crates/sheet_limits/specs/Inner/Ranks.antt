-- Contracts of inner functions: a lash's place in the order by tier, then hook, then kind, as one number. Nothing here need be believed.
use Rattle.std.specs.Prelude.{ℕ, zero, suc, ◌+◌, ◌*◌, List}
use Rattle.sheet.specs.declared.Lash.{Lash}
use Rattle.sheet.specs.Layout.{lash_in}

abbrev pub rank : Lash → ℕ
rank l = 65536 * l.tier + 256 * l.hook + l.kind

-- the least that lash k of an end may have, whose count stands at `at`: one more than the lash before it. The first has none before it
abbrev pub least_rank : List ℕ → ℕ → ℕ → ℕ
least_rank s at zero = 0
least_rank s at (suc k) = rank (lash_in s at k) + 1
