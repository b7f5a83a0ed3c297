-- The figures of an end: their sections written one behind another are the end's bytes.
use Prim.Native.Nat.{ℕ, ◌+◌}
use mathlib.Core.List.{List}
use mathlib.Core.Path.{◌≡◌}
use native.Mathlib.Omega.{arith}
use lib.IntN.{pos}
use lib.ListN.{drop, get_or, length, length-drop, take}
use lib.Seq.{take_all}
use Rattle.arith.specs.Bytes.{bytes4, twos}
use Rattle.arith.specs.Lists.{counted}
use Rattle.statics.specs.declared.EndArrays.{EndArrays}
use Rattle.statics.specs.Inner.InArrays.{end_in}
use Rattle.answer_write.specs.Inner.Encoding.{Wrote, lash_bytes, end_bytes_of}
use Rattle.answer_write.proofs.Stores.{then}

-- the bytes of n figures
abbrev figures : ℕ → List ℕ → List ℕ
figures n xs = counted n (λ i. bytes4 (get_or xs i 0))

module _ (n m : ℕ) (of : EndArrays) (levels_long : length of.levels ≡ 21) (forces_long : length of.forces ≡ 24) where
  pub end_written :
      {a b c d e : List ℕ} {at p q r s : ℕ} →
      Wrote a at (counted n (λ i. bytes4 (twos (get_or of.racking i (pos 0))))) b p →
      Wrote b p (figures (n + 1) (take 11 of.levels)) c q →
      Wrote c q (figures n (take 10 (drop 11 of.levels))) d r →
      Wrote d r
      (counted m (λ j. lash_bytes (get_or (take 8 of.forces) j 0) (get_or (take 8 (drop 8 of.forces)) j 0)
      (get_or (take 8 (drop 16 of.forces)) j 0))) e s →
      Wrote a at (end_bytes_of n m (end_in of)) e s
  unfolding end_bytes_of
  end_written rackings compressions tensions lashes =
      let second = take_all 10 (drop 11 of.levels) (omega (arith, length-drop 11 of.levels, levels_long)) in
      let last = take_all 8 (drop 16 of.forces) (omega (arith, length-drop 16 of.forces, forces_long)) in
      then (then (then rackings compressions) (rw second at tensions)) (rw last at lashes)
