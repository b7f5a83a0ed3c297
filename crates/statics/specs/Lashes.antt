-- Document 01, "The springs": a lash's length, tension and parts.
use Rattle.std.specs.Prelude.{cond, ℕ, zero, suc, ◌+◌, ◌*◌, leb}
use Rattle.arith.specs.Fractions.{Frac, nat, ◌*q◌, ◌/q◌}
use Rattle.sheet.specs.declared.Lash.{Lash}

-- the least k, from k on, with k² ≥ s, among `more` numbers
unfoldable pub least_from : ℕ → ℕ → ℕ → ℕ
least_from s k zero = k
least_from s k (suc more) = cond (leb s (k * k)) k (least_from s (suc k) more)

-- L: the least whole millimetre with L² ≥ LX² + LY² + LZ²
abbrev pub squares : Lash → ℕ
squares l = l.lx * l.lx + l.ly * l.ly + l.lz * l.lz

unfoldable pub lash_length : Lash → ℕ
lash_length l = least_from (squares l) 0 (squares l)

-- T = modulus × area × LY × D / L², at a shift D of the hook's level
unfoldable pub pull : Lash → Frac → Frac
pull l D = nat l.modulus *q nat l.area *q nat l.ly *q D /q nat (lash_length l * lash_length l)

-- athwart part T × LY / L
unfoldable pub athwart_part : Lash → Frac → Frac
athwart_part l D = pull l D *q nat l.ly /q nat (lash_length l)

-- vertical part T × LZ / L
unfoldable pub vertical_part : Lash → Frac → Frac
vertical_part l D = pull l D *q nat l.lz /q nat (lash_length l)
