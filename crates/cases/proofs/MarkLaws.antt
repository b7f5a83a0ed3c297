-- Marks as std's words have them.
use mathlib.Core.Bool.{◌&&◌}
use mathlib.Core.List.{List}
use mathlib.Core.Path.{◌≡◌, refl, ap}
use Prim.Native.Nat.{ℕ, zero, suc, ◌-◌}
use native.Mathlib.Numerals.{add-one}
use native.Mathlib.Omega.{arith}
use lib.ListN.{length, get_or, drop, drop_of_length-le}
use lib.Seq.{drop-cons}
use Rattle.std.specs.Prelude.{eqb}
use Rattle.std.specs.List.{list_all, range_with_len}
use Rattle.arith.specs.Lists.{from}
use Rattle.cases.specs.Inner.Marks.{mark_of, all_marked}

pub range_from : (i n : ℕ) → range_with_len i n ≡ from i n
unfolding from
range_from i zero = refl
range_from i (suc n) = rw (add-one i, range_from (suc i) n) refl

-- the n bytes of l from i on, which are the last
pub marked :
    (l : List ℕ) (n i : ℕ) →
    length l - i ≡ n →
    list_all (λ k. eqb (get_or l k 0) (mark_of k)) (range_with_len i n) ≡ all_marked i (drop i l)
unfolding all_marked
marked l zero i e = rw (drop_of_length-le l {i = i} (omega arith)) refl
marked l (suc n) i e =
    rw (drop-cons l i 0 (omega arith), add-one i)
    (ap (λ b. eqb (get_or l i 0) (mark_of i) && b) (marked l n (suc i) (omega arith)))
