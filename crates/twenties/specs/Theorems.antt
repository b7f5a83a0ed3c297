-- What is proved of CR Tables 5-2 and 5-3 as they are used, and of the row that is taken.
use Rattle.std.specs.Prelude.{ℕ, ◌+◌, ◌*◌, ◌≤◌, ◌<◌, ◌≡◌}
use Rattle.twenties.specs.Judgements.{row_taken, entry, permitted}

-- no entry of either table rises as acceleration or tier count grows; past a table's end it reads 0 (proofs/Falling)
abbrev pub Falling : Type 0
Falling = (table row later tiers more : ℕ) → row ≤ later → tiers ≤ more → entry table later more ≤ entry table row tiers

-- the row taken is the first that does not lie below the acceleration, and the tables have it (proofs/Rows)
pub record RowTaken (acceleration : ℕ) : Type 0 where
  pub not_below : acceleration ≤ 350 + 10 * row_taken acceleration
  pub first : 350 + 10 * row_taken acceleration < acceleration + 10
  pub there : row_taken acceleration < 31

abbrev pub RowsTaken : Type 0
RowsTaken = (acceleration : ℕ) → 350 ≤ acceleration → acceleration ≤ 650 → RowTaken acceleration

-- so a higher acceleration permits no more (proofs/Rows)
abbrev pub NoMorePermitted : Type 0
NoMorePermitted =
    (table acceleration higher tiers : ℕ) → acceleration ≤ higher → permitted table higher tiers ≤ permitted table acceleration tiers

-- 16.4 is printed for seven tiers at 0.40 g, above the 15.4 at 0.39 g; 14.9, the entry of the next row, is used (proofs/Rows)
pub record Misprint : Type 0 where
  pub before : entry 0 4 7 ≡ 154
  pub used : entry 0 5 7 ≡ 149
  pub next : entry 0 6 7 ≡ 149
