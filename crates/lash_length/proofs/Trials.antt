-- The search finds L: its start is L or one more, and the one trial, the length below, is not below the longest side.
use Prim.Native.Nat.{ℕ, zero, suc, ◌+◌, ◌*◌, ◌-◌, ◌<◌, ◌≤◌}
use mathlib.Core.Bool.{Bool, true, false, cond}
use mathlib.Core.Path.{◌≡◌, refl}
use native.Mathlib.Nat.{mul-le-mul}
use native.Mathlib.Omega.{arith}
use lib.Dec.{leb}
use lib.ListN.{get_or, length}
use borrow.Author.Tests.{leb-true, leb-false}
use Rattle.arith.specs.Inner.Roots.{Least}
use Rattle.sheet.specs.declared.Lash.{Lash}
use Rattle.sheet.specs.Layout.{lash_fits}
use Rattle.sheet.specs.Refusals.{off_tiers}
use Rattle.sheet.specs.Inner.Limits.{LashLimits}
use Rattle.sheet.proofs.Limits.{lash_limits}
use Rattle.statics.specs.Lashes.{squares, lash_length}
use Rattle.statics.proofs.LashLength.{length_least, length_most}
use Rattle.lash_length.specs.Trials.{longest, others, guess, start, trials, found, Searched, TrialsFind}
use Rattle.lash_length.proofs.Newton.{step_enough, two_steps_most}
use Rattle.lash_length.proofs.Spread.{Spread, spread, guess_near}

-- one trial below a length that is enough and at most 1 above the least
settled : (s x k : ℕ) → Least s k → 0 < x → s ≤ x * x → x ≤ k + 1 → cond (leb s ((x - 1) * (x - 1))) (x - 1) x ≡ k
settled s x k root positive enough most = go (leb s ((x - 1) * (x - 1))) refl
  where
    go : (b : Bool) → leb s ((x - 1) * (x - 1)) ≡ b → cond b (x - 1) x ≡ k
    go true e = omega (arith, root.least (x - 1) (leb-true s _ e))
    go false e = omega (arith, root.least x enough, not_yet)
      where
        not_yet : k ≤ x - 1 → ⊥
        not_yet l = omega (arith, mul-le-mul l l, root.enough, leb-false s ((x - 1) * (x - 1)) e)

module _ {n : ℕ} {l : Lash} (f : LashLimits n l) where
  sides : Spread (squares l) (longest l) (others l)
  sides = spread l.lx l.ly l.lz f.ly f.lz

  -- L is above the longest side
  long : longest l < lash_length l
  long = omega (arith, clash)
    where
      clash : lash_length l ≤ longest l → ⊥
      clash h = omega (arith, mul-le-mul h h, (length_least l).enough, sides.below)

  start_enough : squares l ≤ start l * start l
  unfolding start
  start_enough = step_enough (squares l) _ (omega arith)

  start_most : start l ≤ lash_length l + 1
  unfolding start
  start_most =
      two_steps_most (squares l) (guess (longest l) (others l)) (lash_length l) (omega (arith, sides.some)) (guess_near sides).0
      (guess_near sides).1 (length_least l) (omega (arith, long)) (length_most f)

  pub start_long : longest l < start l
  start_long = omega (arith, long, (length_least l).least (start l) start_enough)

  none_below : (i : ℕ) → i < length (trials l) → longest l ≤ get_or (trials l) i 0
  unfolding trials
  none_below zero h = omega (arith, start_long)
  none_below (suc i) h = absurd (omega (arith, h))

  pub finds : found (squares l) (start l) (trials l) ≡ lash_length l
  unfolding found trials
  finds = settled (squares l) (start l) (lash_length l) (length_least l) (omega (arith, start_long)) start_enough start_most

  searched : Searched l
  unfolding trials
  searched = record { few = omega arith; none_below = none_below; finds = finds }

-- the same lash on tier 2 of two
abbrev hung : Lash → Lash
hung l =
    record {
      tier = 2;
      hook = l.hook;
      kind = l.kind;
      material = l.material;
      lx = l.lx;
      ly = l.ly;
      lz = l.lz;
      area = l.area;
      modulus = l.modulus;
      breakingLoad = l.breakingLoad;
    }

on_tiers : (l : Lash) → off_tiers 2 (hung l) ≡ false
unfolding off_tiers
on_tiers l = refl

-- the search does not depend on the tier
pub trials_find : TrialsFind
unfolding start trials lash_length lash_fits
trials_find l e = record { few = on.few; none_below = on.none_below; finds = on.finds }
  where
    on : Searched (hung l)
    on = searched (lash_limits 2 (hung l) (on_tiers l) e)
