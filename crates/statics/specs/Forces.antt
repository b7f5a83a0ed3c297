-- The forces that an answer reports of an end, by an index: how many there are of each, and the exact force at an entry.
-- Entries are counted from 0: racking of tier i + 1, compression and tension of level i, the three forces of lash i.
use Rattle.std.specs.Prelude.{List, ℕ, suc, get_or, length}
use Rattle.arith.specs.Fractions.{Frac}
use Rattle.springs.specs.Equations as S
use Rattle.sheet.specs.declared.Lash.{Lash}
use Rattle.sheet.specs.declared.Sheet.{Sheet}
use Rattle.sheet.specs.Layout.{blank_lash}
use Rattle.sheet.specs.Lashings.{level_of}
use Rattle.statics.specs.Loads.{Rule}
use Rattle.statics.specs.Lashes as L
use Rattle.statics.specs.Ends.{end_tiers}
use Rattle.sheet.specs.Ends.{End, tiers_of, lashes_of}
use Rattle.statics.specs.Posts as P

pub data Force : Type 0 where
  racking : Force
  compression : Force
  tension : Force
  lash_tension : Force
  lash_athwart : Force
  lash_vertical : Force

-- rackings of tiers 1 to n, compressions of levels 0 to n, tensions of levels 0 to n − 1, and three forces of every lash
abbrev pub entry_count : Force → End → Sheet → ℕ
entry_count racking e t = t.ntiers
entry_count compression e t = suc t.ntiers
entry_count tension e t = t.ntiers
entry_count lash_tension e t = length (lashes_of e t)
entry_count lash_athwart e t = length (lashes_of e t)
entry_count lash_vertical e t = length (lashes_of e t)

-- a force of lash j, at the shift of its hook's level
abbrev pub lash_force : (Lash → Frac → Frac) → List Lash → List Frac → ℕ → Frac
lash_force force ls Ds j = force (get_or ls j blank_lash) (S.shift Ds (level_of (get_or ls j blank_lash)))

-- the exact force at an entry, at shifts Ds of the levels
abbrev pub exact_force : Force → Rule → End → Sheet → List Frac → ℕ → Frac
exact_force racking rule e t Ds i = S.racking (end_tiers rule e t) Ds i
exact_force compression rule e t Ds i = P.compression rule (tiers_of t) (lashes_of e t) Ds i
exact_force tension rule e t Ds i = P.tension rule (tiers_of t) (lashes_of e t) Ds i
exact_force lash_tension rule e t Ds j = lash_force L.pull (lashes_of e t) Ds j
exact_force lash_athwart rule e t Ds j = lash_force L.athwart_part (lashes_of e t) Ds j
exact_force lash_vertical rule e t Ds j = lash_force L.vertical_part (lashes_of e t) Ds j
