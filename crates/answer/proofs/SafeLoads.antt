-- Safe loads in whole kilonewtons: the definition's meaning, and its figures.
use mathlib.Core.Path.{◌≡◌, refl, ◌∙◌}
use mathlib.Core.Bool.{Bool, true, false, cond}
use mathlib.Core.List.{◌∷◌}
use Prim.Native.Nat.{ℕ, suc, ◌+◌, ◌*◌, ◌/◌, ◌%◌, ◌<◌, ◌≤◌}
use native.Mathlib.Nat.{div-add-mod', mod-lt, mul_comm, add-mul, mul-le-mul_right}
use native.Mathlib.Omega.{arith}
use lib.Dec.{eqb, lit≤}
use borrow.Author.Tests.{lt-ltb}
use Rattle.sheet.specs.declared.Sheet.{Sheet}
use Rattle.sheet.specs.Ends.{End}
use Rattle.statics.specs.declared.EndFigures.{EndFigures}
use Rattle.answer.specs.Limits.{safety_factor, safe_load}
use Rattle.answer.specs.Findings.{Kind, racking, compression, corner_tension, lock_tension, lash_tension, lash_vertical, lash_athwart}
use Rattle.answer.specs.Findings.{end_code, kind_code, limit_at, size_at, exceeded, named, findings_from}
use Rattle.answer.specs.SafeLoads.{GreatestSafe, SafeLoads}
use Rattle.answer.proofs.TwoLimits.{corner_kept, lock_kept}

-- breaking load / factor in whole kilonewtons, by any factor in hundredths
module _ (breaking factor : ℕ) (h : 0 < factor) where
  abbrev newtons : ℕ
  newtons = breaking * 100 / factor

  abbrev load : ℕ
  load = newtons / 1000 * 1000

  parts : newtons * factor + breaking * 100 % factor ≡ breaking * 100
  parts = div-add-mod' (breaking * 100) factor

  safe : factor * load ≤ 100 * breaking
  safe = omega (arith, parts, mul_comm factor load, mul-le-mul_right {m = load} {n = newtons} factor (omega arith))

  most : 100 * breaking < factor * (load + 1000)
  most =
      omega (
        arith,
        parts,
        mod-lt (breaking * 100) h,
        mul_comm factor (load + 1000),
        add-mul newtons 1 factor,
        mul-le-mul_right {m = newtons + 1} {n = load + 1000} factor (omega arith),
      )

either : (b : Bool) (x y : ℕ) → 0 < x → 0 < y → 0 < cond b x y
either true x y p q = p
either false x y p q = q

positive : (material : ℕ) → 0 < safety_factor material
positive material = either (eqb material 1) _ _ (lit≤ tt) (lit≤ tt)

pub greatest : (material breaking : ℕ) → GreatestSafe material breaking (safe_load material breaking)
unfolding safe_load
greatest material breaking =
    let factor = safety_factor material in
    let positive = positive material in
    record {
      kilonewtons = breaking * 100 / factor / 1000;
      whole = refl;
      safe = safe breaking factor positive;
      most = most breaking factor positive;
    }

module _ (e : End) (t : Sheet) (f : EndFigures) (i : ℕ) where
  over_none : (k : Kind) → limit_at e t k i ≡ 0 → 0 < size_at f k i → exceeded e t f k i ≡ true
  over_none k z h = lt-ltb (limit_at e t k i) (size_at f k i) (omega arith)

  -- of corner and lock, a limit of 0 is the lower one
  named_none : (k : Kind) → limit_at e t k i ≡ 0 → 0 < size_at f k i → named e t f k i ≡ true
  named_none racking z h = over_none racking z h
  named_none compression z h = over_none compression z h
  named_none corner_tension z h = corner_kept e t f i (omega arith) ∙ over_none corner_tension z h
  named_none lock_tension z h = lock_kept e t f i (omega (arith, z)) ∙ over_none lock_tension z h
  named_none lash_tension z h = over_none lash_tension z h
  named_none lash_vertical z h = over_none lash_vertical z h
  named_none lash_athwart z h = over_none lash_athwart z h

  none_safe :
      (k : Kind) (more : ℕ) →
      limit_at e t k i ≡ 0 →
      0 < size_at f k i →
      findings_from named e t f k i (suc more) ≡
      record { end = end_code e; kind = kind_code k; index = i } ∷ findings_from named e t f k (suc i) more
  unfolding findings_from
  none_safe k more z h = rw (named_none k z h) refl

pub safe_loads : SafeLoads
unfolding safe_load
safe_loads =
    record {
      of_lock = λ e t i. greatest t.head.lockMaterial t.head.lockBreakingLoad;
      of_lash = λ e t j. greatest _ _;
      plate = refl;
      bridge = λ material other. rw (other) refl;
      none_higher = refl;
      none_other = refl;
      none_safe = λ e t f k i more. none_safe e t f i k more;
    }
