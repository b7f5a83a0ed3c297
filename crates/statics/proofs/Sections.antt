-- The sections of arrays: the last of an array as a slice has it, one set, and how long those are that hold the figures of an end.
use mathlib.Core.List.{List}
use mathlib.Core.Path.{◌≡◌, refl, ap, ◌∙◌}
use Prim.Native.Nat.{ℕ, ◌+◌, ◌-◌, ◌<◌}
use native.Mathlib.Omega.{arith}
use lib.IntN.{ℤ}
use lib.ListN.{drop, length, length-drop, set, take}
use lib.Seq.{length-take-le, take_all, take-set-le, take-set-lt, drop-set-lt, drop-set-add}
use Rattle.statics.specs.declared.EndFigures.{EndFigures}
use Rattle.statics.specs.Inner.InArrays.{Lengths, figures_in}

-- what stands from k on
pub rest : (k : ℕ) (l : List ℕ) → take (length l - k) (drop k l) ≡ drop k l
rest k l = take_all (length l - k) (drop k l) (omega (arith, length-drop k l))

-- two sections of which the first has k entries: an entry of each is set
module _ (k : ℕ) (l : List ℕ) {j : ℕ} (h : j < k) (x y : ℕ) where
  abbrev pub both_set : List ℕ
  both_set = set (set l j x) (k + j) y

  pub first_set : take k both_set ≡ set (take k l) j x
  first_set = take-set-le k (set l j x) (k + j) y (omega arith) ∙ take-set-lt k l j x h

  pub second_set : drop k both_set ≡ set (drop k l) j y
  second_set = rw (drop-set-add k (set l j x) j y, drop-set-lt k l j x h) refl

-- the figures of an end fill their arrays
pub record Sections (f : EndFigures) : Type 0 where
  pub racking : length f.racking ≡ 10
  pub compression : length f.compression ≡ 11
  pub tension : length f.tension ≡ 10
  pub pull : length f.pull ≡ 8
  pub athwart : length f.athwart ≡ 8
  pub vertical : length f.vertical ≡ 8

pub sections : {racking : List ℤ} {levels forces : List ℕ} → Lengths racking levels forces → Sections (figures_in racking levels forces)
sections {racking} {levels} {forces} h =
    let l = h.of_levels in
    let f = h.of_forces in
    record {
      racking = h.of_racking;
      compression = length-take-le 11 levels (omega arith);
      tension = omega (arith, length-drop 11 levels);
      pull = length-take-le 8 forces (omega arith);
      athwart = length-take-le 8 (drop 8 forces) (omega (arith, length-drop 8 forces));
      vertical = omega (arith, length-drop 16 forces);
    }
