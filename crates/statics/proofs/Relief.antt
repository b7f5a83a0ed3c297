-- Which lashes count in the tension at a level: those whose tier's number is above the level's.
use mathlib.Core.Bool.{Bool, true, false, ◌&&◌, ◌||◌}
use mathlib.Core.Logic.{◌⊎◌, inl, inr}
use mathlib.Core.Path.{◌≡◌, refl}
use Prim.Native.Nat.{ℕ, ◌-◌, ◌≤◌}
use native.Mathlib.Decide.{dec_lt, ℕ_discrete}
use native.Mathlib.Omega.{arith}
use borrow.Author.Tests.{lt-ltb, le-ltb, eq-eqb, ne_eqb}
use lib.Dec.{eqb, ltb}
use Rattle.sheet.specs.declared.Lash.{Lash}
use Rattle.sheet.specs.Inner.Limits.{LashLimits}
use Rattle.sheet.proofs.Limits.{code, level_top, level_bottom, lash_limits}
use Rattle.statics.specs.Posts.{in_tension}
use Rattle.statics.specs.Theorems.{TensionByTier}

-- a bottom hook of tier t counts from the level under that tier down
under_tier : (i t : ℕ) → 1 ≤ t → ltb i (t - 1) || eqb i (t - 1) && true ≡ ltb i t
under_tier i t h =
    elim (dec_lt i (t - 1)) [
      | yes l ↦ rw (lt-ltb i (t - 1) l, lt-ltb i t (omega arith)) refl
      | no nl ↦
          elim (ℕ_discrete i (t - 1)) [
            | yes e ↦ rw (le-ltb i (t - 1) (omega arith), eq-eqb i (t - 1) e, lt-ltb i t (omega arith)) refl
            | no ne ↦ rw (le-ltb i (t - 1) (omega arith), ne_eqb i (t - 1) ne, le-ltb i t (omega arith)) refl
          ]
    ]

bottom_counts : (l : Lash) → l.hook ≡ 1 → 1 ≤ l.tier → (i : ℕ) → in_tension i l ≡ ltb i l.tier
bottom_counts l e h i = rw (level_bottom l e, e) (under_tier i l.tier h)

-- a top hook counts under its level only
or_none : (above here : Bool) → above || here && false ≡ above
or_none true here = refl
or_none false true = refl
or_none false false = refl

top_counts : (l : Lash) → l.hook ≡ 0 → (i : ℕ) → in_tension i l ≡ ltb i l.tier
top_counts l e i = rw (level_top l e, e) (or_none (ltb i l.tier) (eqb i l.tier))

pub by_tier : {n : ℕ} {l : Lash} → LashLimits n l → (i : ℕ) → in_tension i l ≡ ltb i l.tier
by_tier {n} {l} f i = go (code l.hook f.hook)
  where
    go : (l.hook ≡ 0) ⊎ (l.hook ≡ 1) → in_tension i l ≡ ltb i l.tier
    go (inl e) = top_counts l e i
    go (inr e) = bottom_counts l e f.tier i

pub tension_by_tier : TensionByTier
tension_by_tier n l fits on i = by_tier (lash_limits n l on fits) i
