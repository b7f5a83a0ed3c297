-- Document 01, "The answer sheet": the seven kinds of checked limits, the findings and the verdict.
use Rattle.std.specs.Prelude.{Bool, cond, not, ◌&&◌, ℕ, zero, suc, ◌-◌, leb, ltb, eqb, get_or, length}
use mathlib.Core.List.{List, [], ◌∷◌, ◌++◌, flat_map}
use Rattle.sheet.specs.Layout.{blank_lash}
use Rattle.arith.specs.Fractions.{Frac}
use Rattle.sheet.specs.declared.Sheet.{Sheet}
use Rattle.sheet.specs.Ends.{End, door, closed, lashes_of}
use Rattle.statics.specs.declared.EndFigures.{EndFigures}
use Rattle.statics.specs.declared.Figures.{Figures}
use Rattle.statics.specs.Loads.{Rule}
use Rattle.statics.specs.Forces as F
use Rattle.statics.specs.Forces.{Force, exact_force}
use Rattle.statics.specs.Reported.{reported_size}
use Rattle.answer.specs.Limits.{racking_limit, compression_limit, corner_tension_limit, lash_vertical_limit, lash_athwart_limit, safe_load}

-- 0 door, 1 closed
abbrev pub end_code : End → ℕ
end_code door = 0
end_code closed = 1

abbrev pub figures_of : End → Figures → EndFigures
figures_of door f = f.door
figures_of closed f = f.closed

-- 1 racking (tier), 2 compression (level), 3 corner tension (level), 4 tension over the lock's safe load (level),
-- 5 lash tension over safe load, 6 vertical, 7 athwart (lash, from 0)
pub data Kind : Type 0 where
  racking : Kind
  compression : Kind
  corner_tension : Kind
  lock_tension : Kind
  lash_tension : Kind
  lash_vertical : Kind
  lash_athwart : Kind

abbrev pub kind_code : Kind → ℕ
kind_code racking = 1
kind_code compression = 2
kind_code corner_tension = 3
kind_code lock_tension = 4
kind_code lash_tension = 5
kind_code lash_vertical = 6
kind_code lash_athwart = 7

abbrev pub kinds : List Kind
kinds = racking ∷ compression ∷ corner_tension ∷ lock_tension ∷ lash_tension ∷ lash_vertical ∷ lash_athwart ∷ []

-- the force that a kind is about, and its entry, counted from 0, at an index: tiers count from 1
abbrev pub force_of : Kind → Force
force_of racking = F.racking
force_of compression = F.compression
force_of corner_tension = F.tension
force_of lock_tension = F.tension
force_of lash_tension = F.lash_tension
force_of lash_vertical = F.lash_vertical
force_of lash_athwart = F.lash_athwart

abbrev pub entry_at : Kind → ℕ → ℕ
entry_at racking i = i - 1
entry_at compression i = i
entry_at corner_tension i = i
entry_at lock_tension i = i
entry_at lash_tension i = i
entry_at lash_vertical i = i
entry_at lash_athwart i = i

-- where a kind is checked: racking at every tier, compression at levels 1 to n, tension at levels 0 to n − 1, and every lash
abbrev pub first_index : Kind → ℕ
first_index racking = 1
first_index compression = 1
first_index corner_tension = 0
first_index lock_tension = 0
first_index lash_tension = 0
first_index lash_vertical = 0
first_index lash_athwart = 0

abbrev pub index_count : End → Sheet → Kind → ℕ
index_count e t racking = t.ntiers
index_count e t compression = t.ntiers
index_count e t corner_tension = t.ntiers
index_count e t lock_tension = t.ntiers
index_count e t lash_tension = length (lashes_of e t)
index_count e t lash_vertical = length (lashes_of e t)
index_count e t lash_athwart = length (lashes_of e t)

-- the reported size at an index, and the exact force there at the shifts Ds of the end's levels
abbrev pub size_at : EndFigures → Kind → ℕ → ℕ
size_at f k i = reported_size (force_of k) f (entry_at k i)

abbrev pub exact_at : Rule → End → Sheet → List Frac → Kind → ℕ → Frac
exact_at rule e t Ds k i = exact_force (force_of k) rule e t Ds (entry_at k i)

-- the limit there
abbrev pub limit_at : End → Sheet → Kind → ℕ → ℕ
limit_at e t racking i = racking_limit
limit_at e t compression i = compression_limit
limit_at e t corner_tension i = corner_tension_limit
limit_at e t lock_tension i = safe_load t.head.lockMaterial t.head.lockBreakingLoad
limit_at e t lash_tension j = safe_load (get_or (lashes_of e t) j blank_lash).material (get_or (lashes_of e t) j blank_lash).breakingLoad
limit_at e t lash_vertical j = lash_vertical_limit
limit_at e t lash_athwart j = lash_athwart_limit

-- what is said of a kind at an index of an end with these figures
abbrev pub Said : Type 0
Said = End → Sheet → EndFigures → Kind → ℕ → Bool

-- its limit is exceeded, by the reported size
abbrev pub exceeded : Said
exceeded e t f k i = ltb (limit_at e t k i) (size_at f k i)

-- its limit is named, by document 02, P11: corner tension and lock tension are the same pull against two limits. Where both are exceeded at
-- a level, only the lower limit is named, and the corner if they are equal
abbrev pub named : Said
named e t f racking i = exceeded e t f racking i
named e t f compression i = exceeded e t f compression i
named e t f corner_tension i =
    exceeded e t f corner_tension i && not (exceeded e t f lock_tension i && ltb (limit_at e t lock_tension i) (limit_at e t corner_tension i))
named e t f lock_tension i =
    exceeded e t f lock_tension i && not (exceeded e t f corner_tension i && leb (limit_at e t corner_tension i) (limit_at e t lock_tension i))
named e t f lash_tension i = exceeded e t f lash_tension i
named e t f lash_vertical i = exceeded e t f lash_vertical i
named e t f lash_athwart i = exceeded e t f lash_athwart i

pub record Finding : Type 0 where
  pub end : ℕ
  pub kind : ℕ
  pub index : ℕ

-- a finding stands exactly where `said` holds: of `more` indexes from i on
unfoldable pub findings_from : Said → End → Sheet → EndFigures → Kind → ℕ → ℕ → List Finding
findings_from said e t f k i zero = []
findings_from said e t f k i (suc more) =
    cond (said e t f k i)
    (record { end = end_code e; kind = kind_code k; index = i } ∷ findings_from said e t f k (suc i) more)
    (findings_from said e t f k (suc i) more)

-- order by end, kind, index
abbrev pub end_findings : Said → Sheet → Figures → End → List Finding
end_findings said t f e = flat_map (λ k. findings_from said e t (figures_of e f) k (first_index k) (index_count e t k)) kinds

unfoldable pub findings_by : Said → Sheet → Figures → List Finding
findings_by said t f = end_findings said t f door ++ end_findings said t f closed

-- the findings of an answer: the limits that are named
abbrev pub findings : Sheet → Figures → List Finding
findings t f = findings_by named t f

-- the verdict is 0 exactly with no findings
abbrev pub verdict : List Finding → ℕ
verdict [] = 0
verdict (x ∷ xs) = 1

-- a stack is accepted where its figures give no finding
abbrev pub accepted : Sheet → Figures → Bool
accepted t f = eqb (length (findings t f)) 0
