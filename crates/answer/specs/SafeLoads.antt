-- Document 02, P3: safe working loads in whole kilonewtons; what the definition means, and figures of gear certificates.
use Rattle.std.specs.Prelude.{◌≡◌, false, ◌∷◌, ℕ, suc, ◌+◌, ◌*◌, ◌<◌, ◌≤◌, eqb, get_or}
use Rattle.sheet.specs.declared.Sheet.{Sheet}
use Rattle.sheet.specs.declared.Lash.{Lash}
use Rattle.sheet.specs.Layout.{blank_lash}
use Rattle.sheet.specs.Ends.{End, lashes_of}
use Rattle.statics.specs.declared.EndFigures.{EndFigures}
use Rattle.answer.specs.Limits.{safety_factor, safe_load}
use Rattle.answer.specs.Findings.{Kind, lock_tension, lash_tension, end_code, kind_code, limit_at, size_at, named, findings_from}

-- the greatest load of whole kilonewtons that, times the factor, is at most the breaking load
pub record GreatestSafe (material breaking load : ℕ) : Type 0 where
  pub kilonewtons : ℕ
  pub whole : load ≡ kilonewtons * 1000
  pub safe : safety_factor material * load ≤ 100 * breaking
  pub most : 100 * breaking < safety_factor material * (load + 1000)

abbrev pub GreatestOfLash : Lash → ℕ → Type 0
GreatestOfLash l load = GreatestSafe l.material l.breakingLoad load

pub record SafeLoads : Type 0 where
  -- the limit of a lock and of a lash
  pub of_lock : (e : End) (t : Sheet) (i : ℕ) → GreatestSafe t.head.lockMaterial t.head.lockBreakingLoad (limit_at e t lock_tension i)
  pub of_lash : (e : End) (t : Sheet) (j : ℕ) → GreatestOfLash (get_or (lashes_of e t) j blank_lash) (limit_at e t lash_tension j)
  -- CR Table 3-4, beside (f) and (g) of Table: 460 kN of higher strength steel, and 400 kN of anything else
  pub plate : safe_load 1 460000 ≡ 275000
  pub bridge : (material : ℕ) → eqb material 1 ≡ false → safe_load material 400000 ≡ 200000
  -- less than one kilonewton is none; where none is safe, any reported force above 0 is a finding
  pub none_higher : safe_load 1 1669 ≡ 0
  pub none_other : safe_load 0 1999 ≡ 0
  pub none_safe :
      (e : End) (t : Sheet) (f : EndFigures) (k : Kind) (i more : ℕ) →
      limit_at e t k i ≡ 0 →
      0 < size_at f k i →
      findings_from named e t f k i (suc more) ≡
      record { end = end_code e; kind = kind_code k; index = i } ∷ findings_from named e t f k (suc i) more
