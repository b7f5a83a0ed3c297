-- Sums over the lashes that pass a test, and arrays that a loop over the lashes adds them up in, an entry for each test.
use Prim.Native.Nat.{ℕ, suc, ◌+◌, ◌*◌, ◌<◌, ◌≤◌}
use mathlib.Core.Bool.{Bool, true, false, cond}
use mathlib.Core.List.{List, [], ◌∷◌}
use mathlib.Core.Path.{◌≡◌, refl, ap, ◌∙◌}
use native.Mathlib.Decide.{ℕ_discrete}
use native.Mathlib.Omega.{arith}
use lib.Dec.{eqb}
use lib.ListN.{length, get_or, set, drop, length-set, drop_of_length-le}
use lib.Seq.{get_or-set_same, get_or-set_other}
use Rattle.sheet.specs.Layout.{blank_lash}
use Rattle.sheet.specs.declared.Lash.{Lash}
use Rattle.sheet.specs.Lashings.{lashing_of, level_of}
use Rattle.sheet.specs.declared.Lashing.{Lashing}
use Rattle.statics.specs.Inner.WholeNumbers.{stiffness_of, level_stiffness, upward, upwards}

unfoldable pub tally : (Lash → Bool) → (Lash → ℕ) → List Lash → ℕ
tally test v [] = 0
tally test v (l ∷ ls) = cond (test l) (v l) 0 + tally test v ls

pub tally_stiffness : (i : ℕ) (ls : List Lash) → level_stiffness ls i ≡ tally (λ l. eqb i (level_of l)) stiffness_of ls
unfolding level_stiffness tally
tally_stiffness i [] = refl
tally_stiffness i (l ∷ ls) = ap (λ (n : ℕ). cond (eqb i (level_of l)) (stiffness_of l) 0 + n) (tally_stiffness i ls)

pub tally_upwards :
    (post : Lashing → ℕ → ℕ) (counts : Lash → Bool) (d : List ℕ) (ls : List Lash) →
    upwards post counts d ls ≡ tally counts (λ l. post (lashing_of l) (upward d l)) ls
unfolding upwards tally
tally_upwards post counts d [] = refl
tally_upwards post counts d (l ∷ ls) =
    ap (λ (n : ℕ). cond (counts l) (post (lashing_of l) (upward d l)) 0 + n) (tally_upwards post counts d ls)

cond_le : {B : ℕ} (t : Bool) (x : ℕ) → x ≤ B → cond t x 0 ≤ B
cond_le true x h = h
cond_le false x h = omega arith

pub tally_le :
    (B : ℕ) (test : Lash → Bool) (v : Lash → ℕ) (ls : List Lash) →
    ((j : ℕ) → j < length ls → v (get_or ls j blank_lash) ≤ B) →
    tally test v ls ≤ length ls * B
unfolding tally
tally_le B test v [] h = omega arith
tally_le B test v (l ∷ ls) h =
    omega (arith, cond_le (test l) (v l) (h 0 (omega arith)), tally_le B test v ls (λ j q. h (suc j) (omega arith)))

-- what the first j lashes add to each entry, with what the others have still to add, is the whole
pub record Tallied (test : ℕ → Lash → Bool) (v : Lash → ℕ) (ls : List Lash) (size j : ℕ) (r : List ℕ) : Type 0 where
  pub long : length r ≡ size
  pub sums : (i : ℕ) → get_or r i 0 + tally (test i) v (drop j ls) ≡ tally (test i) v ls

-- a lash passes the test of one entry only
pub record Only (test : ℕ → Lash → Bool) (at : ℕ) (l : Lash) : Type 0 where
  pub here : test at l ≡ true
  pub others : (i : ℕ) → (i ≡ at → ⊥) → test i l ≡ false

module _ {test : ℕ → Lash → Bool} {v : Lash → ℕ} {ls : List Lash} {size j : ℕ} {r : List ℕ} (t : Tallied test v ls size j r) where
  pub tallied_all : length ls ≤ j → (i : ℕ) → get_or r i 0 ≡ tally (test i) v ls
  unfolding tally
  tallied_all h i =
      let e : tally (test i) v (drop j ls) ≡ 0 = rw (drop_of_length-le ls {i = j} h) refl in
      omega (arith, t.sums i)

  module _ {l : Lash} {at : ℕ} (e : drop j ls ≡ l ∷ drop (suc j) ls) (o : Only test at l) where
    left : (i : ℕ) → tally (test i) v (drop j ls) ≡ cond (test i l) (v l) 0 + tally (test i) v (drop (suc j) ls)
    unfolding tally
    left i = ap (tally (test i) v) e

    at_own : tally (test at) v (drop j ls) ≡ v l + tally (test at) v (drop (suc j) ls)
    at_own = left at ∙ ap (λ b. cond b (v l) 0 + tally (test at) v (drop (suc j) ls)) o.here

    -- the entry stays below the whole sum
    pub tallied_le : get_or r at 0 + v l ≤ tally (test at) v ls
    tallied_le = omega (arith, at_own, t.sums at)

    pub tallied_more : at < size → Tallied test v ls size (suc j) (set r at (get_or r at 0 + v l))
    tallied_more room = record { long = length-set r at (get_or r at 0 + v l) ∙ t.long; sums = sums }
      where
        sums : (i : ℕ) → get_or (set r at (get_or r at 0 + v l)) i 0 + tally (test i) v (drop (suc j) ls) ≡ tally (test i) v ls
        sums i =
            elim (ℕ_discrete i at) [
              | yes q ↦ rw (q, get_or-set_same r at (get_or r at 0 + v l) 0 (omega (arith, t.long))) (omega (arith, at_own, t.sums at))
              | no ne ↦
                  rw (get_or-set_other r at i (get_or r at 0 + v l) 0 ne)
                  (omega (arith, t.sums i, left i ∙ ap (λ b. cond b (v l) 0 + tally (test i) v (drop (suc j) ls)) (o.others i ne)))
            ]
