-- Document 02, P12: twenties in forty-foot guides (CR 5.4.6(b)(ii)). Given are the table (0 without, 1 with a 40-ft box on top), the
-- acceleration in thousandths of g and the masses of the twenties alone in kg, lowest first.
use Rattle.std.specs.Prelude.{Result, ℕ, ◌+◌, ◌-◌, ◌*◌, ◌/◌, Bool, true, not, cond, ◌&&◌, ◌||◌, List, [], ◌∷◌, leb, length, get_or, drop}
use Rattle.sheet.specs.Layout.{◌is◌, ◌above◌, within}
use Rattle.sheet.specs.Refusals.{Row, row, first, unless_refused}
use Rattle.twenties.specs.declared.Verdict.{Verdict}
use Rattle.sheet.specs.declared.Refusal.{Refusal}
use Rattle.twenties.specs.Tables.{table52, table53}

-- between two rows the one of higher acceleration is taken: row 0 is that of 350, each further row 10 higher; so rounded up (RowsTaken)
abbrev pub row_taken : ℕ → ℕ
row_taken acceleration = (acceleration - 350 + 9) / 10

-- a table's entry at a row and a tier count, in tenths of a tonne; a count under 3 reads as 3, past the table's end it is 0
unfoldable pub entry : ℕ → ℕ → ℕ → ℕ
entry table row tiers = get_or (get_or (cond (table is 0) table52 table53) row []) (tiers - 3) 0

-- that total may be at most the entry in tonnes × the number of those tiers, all but the lowest
abbrev pub permitted : ℕ → ℕ → ℕ → ℕ
permitted table acceleration tiers = entry table (row_taken acceleration) tiers * 100 * (tiers - 1)

unfoldable pub sum : List ℕ → ℕ
sum [] = 0
sum (m ∷ ms) = m + sum ms

-- the total of all tiers but the lowest
abbrev pub total : List ℕ → ℕ
total masses = sum (drop 1 masses)

-- yes or no with the total of all tiers but the lowest and the permitted mass, in kg
unfoldable pub verdict : ℕ → ℕ → List ℕ → Verdict
verdict table acceleration masses =
    let most = permitted table acceleration (length masses) in
    record { yes = leb (total masses) most; total = total masses; permitted = most }

-- 22, 0: a table above 1, an acceleration outside 350 to 650 thousandths or a tier count outside 3 to 11
abbrev pub row22 : ℕ → ℕ → ℕ → Row
row22 table acceleration tiers = row 22 0 (table above 1 || not (within 350 650 acceleration) || not (within 3 11 tiers))

-- 23, 0: a box over 30,480 kg or of mass 0
unfoldable pub all_fit : List ℕ → Bool
all_fit [] = true
all_fit (m ∷ ms) = within 1 30480 m && all_fit ms

abbrev pub row23 : List ℕ → Row
row23 masses = row 23 0 (not (all_fit masses))

-- what is answered: a verdict, or why none is given
abbrev pub Judgement : Type 0
Judgement = Result Verdict Refusal

-- the first row that holds turns the question back, 22 before 23; where none does, the verdict is given
unfoldable pub judgement : ℕ → ℕ → List ℕ → Judgement
judgement table acceleration masses =
    unless_refused
    (first (row22 table acceleration (length masses) ∷ row23 masses ∷ []))
    (verdict table acceleration masses)
