-- Document 02, P9 (CR 5.2.4(d)): the factor of a short voyage by its forecast, in thousandths, from wave height H and breadth B in cm.
use Rattle.std.specs.Prelude.{ℕ, zero, suc, ◌-◌, ◌*◌, max, min, Bool, cond, leb}

-- t − 400 is at least 1,000 × H / (20 × the root of B), which is 50 × H / the root of B. For t of 400 or more neither side is below zero,
-- so it is the same to compare their squares, times B: no root is evaluated (`ByRoots` of Theorems says it with the root)
unfoldable pub enough : ℕ → ℕ → ℕ → Bool
enough h b t = leb (2500 * (h * h)) ((t - 400) * (t - 400) * b)

-- the first that is enough of `more` numbers from t on, else the number behind them
unfoldable pub first_enough : ℕ → ℕ → ℕ → ℕ → ℕ
first_enough h b t zero = t
first_enough h b t (suc more) = cond (enough h b t) t (first_enough h b (suc t) more)

-- the least whole t that is enough: by the inequality none below 400 is, and 400 + 50 × H is for every B but zero
abbrev pub least_enough : ℕ → ℕ → ℕ
least_enough h b = first_enough h b 400 (50 * h)

-- kept within 600 and 1,000
unfoldable pub factor : ℕ → ℕ → ℕ
factor h b = max 600 (min 1000 (least_enough h b))
