-- Lashes held in arrays with their lengths, stiffnesses and sums: what the figures of an end take.
use Prim.Native.Nat.{ℕ, suc, ◌+◌, ◌-◌, ◌<◌, ◌≤◌}
use mathlib.Core.List.{List, [], ◌∷◌, ◌++◌, map}
use mathlib.Core.Path.{◌≡◌, refl, sym, subst, ◌∙◌}
use native.Mathlib.Decide.{dec_lt}
use native.Mathlib.Omega.{arith}
use borrow.Author.Tests.{ne_eqb}
use lib.ListN.{length, get_or, take, replicate, length-append, length-replicate, get_or-append, get_or-eq_default}
use lib.Seq.{get_or-append-add}
use Rattle.std.proofs.lemmas.List.{length-map, get_or-map}
use Rattle.arith.specs.Lists.{padded}
use Rattle.sheet.specs.declared.Lash.{Lash}
use Rattle.sheet.specs.Layout.{blank_lash}
use Rattle.sheet.specs.Lashings.{level_of}
use Rattle.sheet.specs.Inner.Limits.{LashLimits}
use Rattle.statics.specs.Lashes.{lash_length}
use Rattle.statics.specs.Inner.WholeNumbers.{Filled, stiffness_of, level_stiffness}
use Rattle.statics.specs.Inner.Computed.{stiffnesses_of}
use Rattle.statics.proofs.Arrays.{blank_entry}
use Rattle.figures_lashes.specs.Inner.Lashes.{LashesMeasured, LevelStiffnesses}
use Rattle.chosen_lashes.specs.Inner.Gathered.{Held}
use Rattle.chosen_lashes.proofs.Picked.{levels_long, level_entry}

abbrev pub lashes_held : Held → List Lash
lashes_held h = take h.count h.lashes

module _ (f : Lash → ℕ) (ls : List Lash) (few : length ls ≤ 8) where
  abbrev blanks : List ℕ
  blanks = replicate (8 - length (map f ls)) 0

  behind : (j : ℕ) → length ls ≤ j → get_or (padded 8 0 (map f ls)) j 0 ≡ 0
  behind j h =
      subst (λ (z : ℕ). get_or (map f ls ++ blanks) z 0 ≡ 0) {x = length (map f ls) + (j - length ls)} {y = j}
      (rw (length-map ls f) (omega arith))
      (get_or-append-add (map f ls) blanks (j - length ls) 0 ∙ blank_entry 0 (8 - length (map f ls)) (j - length ls))

  pub padded_filled : Filled 8 0 (length ls) (λ j. f (get_or ls j blank_lash)) (padded 8 0 (map f ls))
  padded_filled =
      record {
        long = simp (length-append, length-replicate, length-map ls f) (omega arith);
        each = λ j h. get_or-append (map f ls) blanks 0 j (omega (arith, h, length-map ls f)) ∙ get_or-map f ls j blank_lash 0 h;
        rest = behind;
      }

-- no lash of ten tiers lies above level 10
levels_off :
    (ls : List Lash) →
    ((k : ℕ) → k < length ls → LashLimits 10 (get_or ls k blank_lash)) →
    (i : ℕ) →
    10 ≤ i →
    level_stiffness ls (suc i) ≡ 0
unfolding level_stiffness
levels_off [] each i h = refl
levels_off (l ∷ ls) each i h =
    rw (ne_eqb (suc i) (level_of l) (λ e. omega (arith, (each 0 (omega arith)).inside)))
    (omega (arith, levels_off ls (λ k q. each (suc k) (omega arith)) i h))

module _ (ls : List Lash) (few : length ls ≤ 8) (each : (k : ℕ) → k < length ls → LashLimits 10 (get_or ls k blank_lash)) where
  pub held_measured : LashesMeasured (length ls) ls (padded 8 0 (map lash_length ls)) (padded 8 0 (map stiffness_of ls))
  held_measured = record { long = padded_filled lash_length ls few; stiff = padded_filled stiffness_of ls few }

  pub held_levels : LevelStiffnesses ls (stiffnesses_of ls)
  held_levels i =
      elim (dec_lt i 10) [
        | yes h ↦ level_entry ls i h
        | no h ↦ get_or-eq_default (stiffnesses_of ls) 0 (omega (arith, levels_long ls)) ∙ sym (levels_off ls each i (omega arith))
      ]
