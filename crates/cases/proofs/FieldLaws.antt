-- Fields held one after another: the next field x of nine bytes, or no field more.
use mathlib.Core.List.{List, ◌++◌}
use mathlib.Core.Path.{◌≡◌, refl, ap, ◌∙◌}
use Prim.Native.Nat.{ℕ, suc, ◌+◌, ◌/◌, ◌<◌}
use native.Mathlib.Omega.{arith}
use borrow.Author.Tests.{eq-eqb, ne_eqb}
use lib.ListN.{length, take, drop, length-append}
use Rattle.std.specs.Prelude.{Some, None, Result, Ok, Err}
use Rattle.std.proofs.lemmas.List.{take_at, drop_at}
use Rattle.cases.specs.Inner.Fields.{size_within, held_from}

module _ (buffer : List ℕ) (n : ℕ) (s : List ℕ) (place : ℕ) where
  abbrev pub held : Result Unit ℕ
  held = held_from buffer n (length s / 9) s place

  module _ (x t : List ℕ) (is : s ≡ x ++ t) (nine : length x ≡ 9) where
    left : length s / 9 ≡ suc (length t / 9)
    left = omega (arith, ap length is ∙ length-append x t, nine)

    front : take 9 s ≡ x
    front = ap (take 9) is ∙ take_at x t 9 nine

    back : drop 9 s ≡ t
    back = ap (drop 9) is ∙ drop_at x t 9 nine

    pub held_not : None ≡ size_within x buffer place → held ≡ Err place
    unfolding held_from
    held_not e = rw (left, front, ← e) refl

    pub held_more :
        {size : ℕ} → Some size ≡ size_within x buffer place → held ≡ held_from buffer n (length t / 9) t (place + size)
    unfolding held_from
    held_more e = rw (left, front, back, ← e) refl

  module _ (few : length s < 9) where
    none : length s / 9 ≡ 0
    none = omega arith

    pub held_all : place ≡ n → held ≡ Ok tt
    unfolding held_from
    held_all e = rw (none, eq-eqb _ _ e) refl

    pub held_other : (place ≡ n → ⊥) → held ≡ Err place
    unfolding held_from
    held_other e = rw (none, ne_eqb _ _ e) refl
