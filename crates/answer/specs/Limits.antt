-- Document 01, "Permissible loads": the limits of CR Table 2-3 and the safe working loads, in N.
use Rattle.std.specs.Prelude.{cond, ℕ, ◌*◌, ◌/◌, eqb}

abbrev pub racking_limit : ℕ
racking_limit = 150000

-- checked at levels 1 to n; level 0 is reported only
abbrev pub compression_limit : ℕ
compression_limit = 848000

abbrev pub corner_tension_limit : ℕ
corner_tension_limit = 250000

-- a lash on a corner
abbrev pub lash_vertical_limit : ℕ
lash_vertical_limit = 300000

abbrev pub lash_athwart_limit : ℕ
lash_athwart_limit = 150000

-- the factor of safety in hundredths: 1.67 for higher strength steel, 2 for all else (CR Table 3-3).
-- Code 1 is higher strength steel, for a lash and for a lock
abbrev pub safety_factor : ℕ → ℕ
safety_factor material = cond (eqb material 1) 167 200

-- breaking load / factor, rounded down to whole kilonewtons (02, P3)
unfoldable pub safe_load : ℕ → ℕ → ℕ
safe_load material breaking = breaking * 100 / safety_factor material / 1000 * 1000
