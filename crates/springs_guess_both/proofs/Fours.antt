-- Four floats stored side by side for the level over tier j: each is every fourth of the array, and those of the tiers above stay.
use Prim.Native.Nat.{ℕ, ◌+◌, ◌*◌, ◌<◌}
use mathlib.Core.Path.{◌≡◌, sym, ap, ◌∙◌}
use mathlib.Core.List.{List}
use mathlib.Core.Logic.{◌≢◌}
use native.Mathlib.Omega.{arith}
use lib.Ieee.{Float, nan}
use lib.ListN.{get_or, length, set, length-set}
use lib.Seq.{get_or-set_same, get_or-set_other}
use Rattle.springs.specs.Inner.Candidate.{every_fourth}
use Rattle.springs_guess.proofs.Loops.{Stored}

module _ (l : List Float) (j p q : ℕ) (x : Float) where
  -- the one that is stored
  own : q ≡ 4 * j + p → q < length l → Stored (every_fourth p l) (every_fourth p (set l q x)) j x
  own e room = record {
    same = ap (λ (i : ℕ). get_or (set l q x) i nan) (sym e) ∙ get_or-set_same l q x nan room;
    others = λ m h. get_or-set_other l q (4 * m + p) x nan (λ i. omega arith);
  }

  -- another is stored later, or was stored before
  module _ (apart : (m : ℕ) → 4 * m + p ≢ q) where
    kept : (m : ℕ) → every_fourth p (set l q x) m ≡ every_fourth p l m
    kept m = get_or-set_other l q (4 * m + p) x nan (apart m)

    later : {a : ℕ → Float} {y : Float} → Stored a (every_fourth p l) j y → Stored a (every_fourth p (set l q x)) j y
    later s = record { same = kept j ∙ s.same; others = λ m h. kept m ∙ s.others m h }

    before : {b : ℕ → Float} {y : Float} → Stored (every_fourth p (set l q x)) b j y → Stored (every_fourth p l) b j y
    before s = record { same = s.same; others = λ m h. s.others m h ∙ kept m }

module _ (l : List Float) (j : ℕ) (x y z u : Float) (room : 4 * j + 3 < length l) where
  abbrev one : List Float
  one = set l (4 * j) x

  abbrev two : List Float
  two = set one (4 * j + 1) y

  abbrev three : List Float
  three = set two (4 * j + 2) z

  abbrev four : List Float
  four = set three (4 * j + 3) u

  length_four : length four ≡ length l
  length_four = simp length-set

  first : Stored (every_fourth 0 l) (every_fourth 0 four) j x
  first =
      later three j 0 (4 * j + 3) u (λ m e. omega arith)
      (later two j 0 (4 * j + 2) z (λ m e. omega arith)
      (later one j 0 (4 * j + 1) y (λ m e. omega arith)
      (own l j 0 (4 * j) x (omega arith) (omega arith))))

  second : Stored (every_fourth 1 l) (every_fourth 1 four) j y
  second =
      later three j 1 (4 * j + 3) u (λ m e. omega arith)
      (later two j 1 (4 * j + 2) z (λ m e. omega arith)
      (before l j 1 (4 * j) x (λ m e. omega arith)
      (own one j 1 (4 * j + 1) y (omega arith) (simp length-set (omega arith)))))

  third : Stored (every_fourth 2 l) (every_fourth 2 four) j z
  third =
      later three j 2 (4 * j + 3) u (λ m e. omega arith)
      (before l j 2 (4 * j) x (λ m e. omega arith)
      (before one j 2 (4 * j + 1) y (λ m e. omega arith)
      (own two j 2 (4 * j + 2) z (omega arith) (simp length-set (omega arith)))))

  fourth : Stored (every_fourth 3 l) (every_fourth 3 four) j u
  fourth =
      before l j 3 (4 * j) x (λ m e. omega arith)
      (before one j 3 (4 * j + 1) y (λ m e. omega arith)
      (before two j 3 (4 * j + 2) z (λ m e. omega arith)
      (own three j 3 (4 * j + 3) u (omega arith) (simp length-set (omega arith)))))

  pub stored_four :
      (length four ≡ length l)
      × Stored (every_fourth 0 l) (every_fourth 0 four) j x
      × Stored (every_fourth 1 l) (every_fourth 1 four) j y
      × Stored (every_fourth 2 l) (every_fourth 2 four) j z
      × Stored (every_fourth 3 l) (every_fourth 3 four) j u
  stored_four = (length_four, first, second, third, fourth)
