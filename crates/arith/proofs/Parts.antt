-- A text copied to the start of a part of a buffer.
use Prim.Native.Nat.{ℕ, ◌+◌, ◌-◌, ◌≤◌}
use mathlib.Core.List.{List, ◌++◌, append_assoc, append-nil}
use mathlib.Core.Path.{◌≡◌}
use native.Mathlib.Omega.{arith}
use borrow.Rule.Slice.PartMut.{mid_of, put_mid}
use lib.ListN.{length, take, drop, length-drop, drop_of_length-le}
use lib.Seq.{take_all, drop-drop}

-- a text of k bytes, copied to the start of the part of xs from `at` on
pub part_put :
    (xs text : List ℕ) (at k : ℕ) →
    k ≡ length text →
    at + k ≤ length xs →
    put_mid at (length xs - at) xs (text ++ drop k (mid_of at (length xs - at) xs)) ≡ take at xs ++ text ++ drop (at + k) xs
part_put xs text at k e h =
    rw (
      take_all (length xs - at) (drop at xs) (rw length-drop (omega arith)),
      drop_of_length-le (drop at xs) {i = length xs - at} (rw length-drop (omega arith)),
      append-nil,
      drop-drop k at xs,
      append_assoc,
    )
