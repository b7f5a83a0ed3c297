-- The vertical parts by corner, summed over the corners from a level's up, are those of the lashes that count at the level.
use Prim.Native.Nat.{ℕ, zero, suc, ◌+◌, ◌*◌, ◌-◌, ◌<◌, ◌≤◌}
use mathlib.Core.Bool.{Bool, cond}
use mathlib.Core.List.{List, [], ◌∷◌}
use mathlib.Core.Path.{◌≡◌, refl, sym, ◌∙◌}
use native.Mathlib.Decide.{dec_lt, ℕ_discrete}
use native.Mathlib.Omega.{arith}
use borrow.Author.Tests.{le-leb, lt-leb, eq-eqb, ne_eqb}
use lib.Dec.{leb, eqb}
use lib.ListN.{length, get_or, take, drop}
use Rattle.sheet.specs.declared.Lash.{Lash}
use Rattle.sheet.specs.declared.Lashing.{Lashing}
use Rattle.sheet.specs.Lashings.{lashing_of, level_of}
use Rattle.sheet.specs.Inner.Limits.{LashLimits}
use Rattle.statics.specs.Posts.{in_compression, in_tension}
use Rattle.statics.specs.Inner.WholeNumbers.{upward, upwards}
use Rattle.statics.proofs.EachLash.{Each, each_first, each_rest}
use Rattle.statics.proofs.Relief.{by_tier}
use Rattle.lash_forces.specs.Inner.OneLash.{corner_of}
use Rattle.figures_lashes.proofs.Tallies.{tally, tally_upwards}
use Rattle.figures_levels.specs.Inner.Levels.{total}
use Rattle.figures_levels.proofs.Descent.{total_peel, total_off}

-- a test of one order is a test of another
same_test : (a b c d : ℕ) → (a ≤ b → c ≤ d) → (b < a → d < c) → leb a b ≡ leb c d
same_test a b c d f g =
    elim (dec_lt b a) [
      | yes l ↦ rw (lt-leb a b l, lt-leb c d (g l)) refl
      | no nl ↦ rw (le-leb a b (omega arith), le-leb c d (f (omega arith))) refl
    ]

-- the corners from 2 i up are those at level i or above; those from 2 i + 1 up are the ones of the tiers above the level
module _ {n : ℕ} {l : Lash} (f : LashLimits n l) where
  at_or_above : (i : ℕ) → leb (2 * i) (corner_of l) ≡ in_compression i l
  unfolding corner_of level_of
  at_or_above i =
      same_test (2 * i) (2 * l.tier - l.hook) i (l.tier - l.hook) (λ h. omega (arith, f.hook)) (λ h. omega (arith, f.hook))

  of_tiers_above : (i : ℕ) → leb (suc (2 * i)) (corner_of l) ≡ in_tension i l
  unfolding corner_of
  of_tiers_above i =
      same_test (suc (2 * i)) (2 * l.tier - l.hook) (suc i) l.tier (λ h. omega (arith, f.hook)) (λ h. omega (arith, f.hook))
      ∙ sym (by_tier f i)

  corner_most : corner_of l ≤ 2 * n
  unfolding corner_of
  corner_most = omega (arith, f.tier_most)

-- the lashes at a corner or above: those at it, and those above it
corner_split : (i h x : ℕ) → cond (leb i h) x 0 ≡ cond (eqb i h) x 0 + cond (leb (suc i) h) x 0
corner_split i h x =
    elim (ℕ_discrete i h) [
      | yes e ↦ rw (le-leb i h (omega arith), eq-eqb i h e, lt-leb (suc i) h (omega arith)) (omega arith)
      | no ne ↦
          elim (dec_lt i h) [
            | yes l ↦ rw (le-leb i h (omega arith), ne_eqb i h ne, le-leb (suc i) h l) (omega arith)
            | no nl ↦ rw (lt-leb i h (omega arith), ne_eqb i h ne, lt-leb (suc i) h (omega arith)) (omega arith)
          ]
    ]

module _ (v : Lash → ℕ) where
  tally_split :
      (i : ℕ) (ls : List Lash) →
      tally (λ l. leb i (corner_of l)) v ls ≡ tally (λ l. eqb i (corner_of l)) v ls + tally (λ l. leb (suc i) (corner_of l)) v ls
  unfolding tally
  tally_split i [] = refl
  tally_split i (l ∷ ls) = omega (arith, corner_split i (corner_of l) (v l), tally_split i ls)

  tally_over : (n : ℕ) (ls : List Lash) → Each n ls → tally (λ l. leb (suc (2 * n)) (corner_of l)) v ls ≡ 0
  unfolding tally
  tally_over n [] f = refl
  tally_over n (l ∷ ls) f =
      rw (lt-leb (suc (2 * n)) (corner_of l) (omega (arith, corner_most (each_first f)))) (omega (arith, tally_over n ls (each_rest f)))

  -- tests that agree on every lash within the limits
  tally_same :
      {n : ℕ} (p q : Lash → Bool) →
      ((l : Lash) → LashLimits n l → p l ≡ q l) →
      (ls : List Lash) →
      Each n ls →
      tally p v ls ≡ tally q v ls
  unfolding tally
  tally_same p q e [] f = refl
  tally_same p q e (l ∷ ls) f = rw (e l (each_first f), tally_same p q e ls (each_rest f)) refl

-- the sums on a post that the compression and the tension at level i take
pub record ByCorner (post : Lashing → ℕ → ℕ) (n : ℕ) (d : List ℕ) (ls : List Lash) (r : List ℕ) : Type 0 where
  pub pressing : (i : ℕ) → i ≤ n → total (drop (2 * i) (take (suc (2 * n)) r)) ≡ upwards post (in_compression i) d ls
  pub pulling : (i : ℕ) → i < n → total (drop (suc (2 * i)) (take (suc (2 * n)) r)) ≡ upwards post (in_tension i) d ls

module _ (post : Lashing → ℕ → ℕ) (n : ℕ) (d : List ℕ) (ls : List Lash) (r : List ℕ) (room : suc (2 * n) ≤ length r)
    (within : Each n ls)
    (each : (i : ℕ) → get_or r i 0 ≡ upwards post (λ l. eqb i (corner_of l)) d ls) where
  abbrev on : Lash → ℕ
  on l = post (lashing_of l) (upward d l)

  corners_from : (g i : ℕ) → i + g ≡ suc (2 * n) → total (drop i (take (suc (2 * n)) r)) ≡ tally (λ l. leb i (corner_of l)) on ls
  corners_from zero i e =
      let q : i ≡ suc (2 * n) = omega arith in
      rw q (total_off r (suc (2 * n)) room ∙ sym (tally_over on n ls within))
  corners_from (suc g) i e =
      omega (
        arith,
        total_peel r (suc (2 * n)) i (omega arith) room,
        corners_from g (suc i) (omega arith),
        each i ∙ tally_upwards post (λ l. eqb i (corner_of l)) d ls,
        tally_split on i ls,
      )

  sum_from :
      (i : ℕ) (counts : Lash → Bool) →
      i ≤ suc (2 * n) →
      ((l : Lash) → LashLimits n l → leb i (corner_of l) ≡ counts l) →
      total (drop i (take (suc (2 * n)) r)) ≡ upwards post counts d ls
  sum_from i counts h e =
      corners_from (suc (2 * n) - i) i (omega arith)
      ∙ tally_same on (λ l. leb i (corner_of l)) counts e ls within
      ∙ sym (tally_upwards post counts d ls)

  pub by_corner : ByCorner post n d ls r
  by_corner =
      record {
        pressing = λ i h. sum_from (2 * i) (in_compression i) (omega arith) (λ l f. at_or_above f i);
        pulling = λ i h. sum_from (suc (2 * i)) (in_tension i) (omega arith) (λ l f. of_tiers_above f i);
      }
