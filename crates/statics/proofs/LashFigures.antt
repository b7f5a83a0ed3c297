-- The three figures of a lash, and its vertical part as it stands in the post sums, from the error of its level's shift.
use mathlib.Core.Path.{◌≡◌}
use mathlib.Core.List.{List}
use Prim.Native.Nat.{ℕ, ◌+◌, ◌*◌, ◌-◌, ◌^◌, ◌≤◌, ◌<◌}
use native.Mathlib.Omega.{arith}
use lib.Dec.{lit≤}
use lib.IntN.{pos}
use lib.ListN.{get_or}
use Rattle.sheet.specs.Lashings.{level_of}
use Rattle.arith.specs.Fractions.{Frac}
use Rattle.arith.proofs.Polynomials.{v, kp, ◌⊗◌, ⊖◌}
use Rattle.arith.proofs.Rings.{∀₅, ∀₉, by_cert, to, times, num, part, ◌⊞◌, ◌⊠◌}
use Rattle.arith.proofs.Rationals.{ℚR, ℚ, mk, ◌+ℚ◌, ◌-ℚ◌, ◌*ℚ◌, ◌/ℚ◌, negℚ, absℚ, ◌≤ℚ◌, int_times, nn_int, nn_times}
use Rattle.arith.proofs.RationalTerms.{qq}
use Rattle.arith.proofs.Signs.{ge_q, ge_neg_q, nn_q}
use Rattle.arith.proofs.RationalOrder.{nat_q, q_nat}
use Rattle.arith.proofs.RationalRounding.{div_down, down_low, down_high}
use Rattle.springs.specs.Inner.Promise.{found}
use Rattle.springs.proofs.Chain.{natℚ}
use Rattle.sheet.specs.declared.Lash.{Lash}
use Rattle.statics.specs.Lashes.{lash_length, pull, athwart_part, vertical_part}
use Rattle.statics.specs.Inner.WholeNumbers as F
use Rattle.statics.specs.Inner.WholeNumbers.{stiffness_of, upward, along_pad, figure_along, lash_pad, athwart_figure, pull_figure}
use Rattle.statics.specs.Inner.WholeNumbers.{vertical_figure}
use Rattle.statics.specs.Reported.{Reported}
use Rattle.sheet.specs.Inner.Limits.{LashLimits}
use Rattle.statics.proofs.LashLength.{length_above, length_most, length_ratio, vertical_ratio}
use Rattle.statics.proofs.Errors.{Off, add_le, off_more, off_share}
use Rattle.statics.proofs.Scales.{found_times, newtons, newtons_times, newtons_nn, share_nn, share_most}
use Rattle.statics.proofs.Pads.{shift_error_bound, most_held, part_error, vertical_error, lash_pad_lem, part_room, lash_over, turned_over}
use Rattle.statics.proofs.Along.{padded_enough, padded_close, middle_off}
use Rattle.statics.proofs.Covers.{Covers, covers_reported, padded_covers, turned_covers}
use Rattle.statics.proofs.LashForces.{stiffness, stiffness_low, stiffness_high, stiffness_nn, athwart_is, pull_is, vertical_is}

-- the shift error of a lash, in N: its stiffness × the error of its level's shift, D being the exact shift
abbrev pub shift_error : List ℕ → Lash → Frac → ℚ
shift_error d l D = stiffness l *ℚ absℚ (mk (found d (level_of l)) -ℚ mk D)

module _ (d : List ℕ) (l : Lash) (D : Frac) (long : 0 < lash_length l) where
  pub shift_error_nn : natℚ 0 ≤ℚ shift_error d l D
  shift_error_nn =
      nn_times (stiffness l) (absℚ (mk (found d (level_of l)) -ℚ mk D)) (stiffness_nn l long) (nn_q (mk (found d (level_of l)) -ℚ mk D))

  -- the athwart part found: rounding costs a unit, and a unit of stiffness times the shift, at most 2^40
  part_off : get_or d (level_of l) 0 ≤ 2 ^ 40 → Off (part_error (shift_error d l D)) (newtons (pos (F.part d l))) (stiffness l *ℚ mk D)
  unfolding F.part
  part_off far =
      let k = stiffness l in
      let x = mk (found d (level_of l)) in
      let m = absℚ (x -ℚ mk D) in
      let s = stiffness_of l in
      let n = get_or d (level_of l) 0 in
      let q = F.part d l in
      let down = div_down (s * n) (2 ^ 32) (lit≤ tt) in
      record {
        above =
            high k (mk D) x (natℚ n) (natℚ s) (natℚ q) (newtons (pos q)) m (newtons (pos 257))
            (stiffness_nn l long) (stiffness_low l long) (nn_int n) (found_times d (level_of l)) (ge_q (x -ℚ mk D))
            (rw (int_times (pos s) (pos n)) at (down_low down)) (newtons_times (pos q)) (newtons_nn 257);
        below =
            low k (mk D) x (natℚ n) (natℚ s) (natℚ q) (newtons (pos q)) m (newtons (pos 257))
            (stiffness_nn l long) (stiffness_high l long) (nn_int n) (nat_q n (2 ^ 40) far) (found_times d (level_of l))
            (ge_neg_q (x -ℚ mk D))
            (rw (int_times (pos s) (pos n)) at (down_high down)) (newtons_times (pos q)) (newtons_times (pos 257));
      }
    where
      -- k, D, x exact stiffness, exact shift and shift found; n, s, q whole shift, stiffness and product; w the product in N
      high :
          (k D x n s q w m c : ℚ) →
          natℚ 0 ≤ℚ k →
          s ≤ℚ natℚ (2 ^ 22) *ℚ k →
          natℚ 0 ≤ℚ n →
          natℚ (2 ^ 28) *ℚ x ≡ n →
          x -ℚ D ≤ℚ m →
          natℚ (2 ^ 32) *ℚ q ≤ℚ s *ℚ n →
          natℚ (2 ^ 18) *ℚ w ≡ q →
          natℚ 0 ≤ℚ c →
          w ≤ℚ k *ℚ D +ℚ (k *ℚ m +ℚ c)
      high =
          ∀₉ ℚR _ λ ρ. simp qq λ k0 h n0 e l f i c0.
          part (2 ^ 50 - 1)
          (to f ⊞ to h ⊠ to n0 ⊞ num (2 ^ 50) ⊠ (to k0 ⊠ to l ⊞ to c0) ⊞ times (kp (2 ^ 22) ⊗ v 0) e ⊞ times (⊖ kp (2 ^ 32)) i)
          tt

      low :
          (k D x n s q w m c : ℚ) →
          natℚ 0 ≤ℚ k →
          natℚ (2 ^ 22) *ℚ k ≤ℚ s +ℚ natℚ 1 →
          natℚ 0 ≤ℚ n →
          n ≤ℚ natℚ (2 ^ 40) →
          natℚ (2 ^ 28) *ℚ x ≡ n →
          negℚ (x -ℚ D) ≤ℚ m →
          s *ℚ n +ℚ natℚ 1 ≤ℚ natℚ (2 ^ 32) *ℚ q +ℚ natℚ (2 ^ 32) →
          natℚ (2 ^ 18) *ℚ w ≡ q →
          natℚ (2 ^ 18) *ℚ c ≡ natℚ 257 →
          k *ℚ D ≤ℚ w +ℚ (k *ℚ m +ℚ c)
      low =
          ∀₉ ℚR _ λ ρ. simp qq λ k0 h n0 n1 e l f i j.
          part (2 ^ 50 - 1)
          (to f ⊞ to h ⊠ to n0 ⊞ to n1 ⊞ num (2 ^ 50) ⊠ (to k0 ⊠ to l) ⊞ times (⊖ (kp (2 ^ 22) ⊗ v 0)) e ⊞ times (kp (2 ^ 32)) i ⊞ times
          (kp (2 ^ 32)) j)
          tt

module _
    {n : ℕ} (d : List ℕ) (l : Lash) (D : Frac) (f : LashLimits n l) (far : get_or d (level_of l) 0 ≤ 2 ^ 40)
    (small : shift_error d l D ≤ℚ shift_error_bound) (held : mk (athwart_part l D) ≤ℚ natℚ most_held) where
  wide : 0 < l.ly
  wide = omega (arith, f.ly)

  steep : l.lz ≤ 42 * l.ly
  steep = omega (arith, vertical_ratio f)

  off : Off (part_error shift_error_bound) (newtons (pos (F.part d l))) (stiffness l *ℚ mk D)
  off = off_more (add_le (shift_error d l D) shift_error_bound (newtons (pos 257)) small) (part_off d l D (length_above f) far)

  -- no lash holds more than the load of the lowest tier, so that its part is in the range of `along`
  in_range : F.part d l + lash_pad ≤ 5 * 2 ^ 37
  in_range =
      omega (
        arith,
        q_nat (F.part d l) ((most_held + 1) * 2 ^ 18)
            (rw (int_times (pos (most_held + 1)) (pos (2 ^ 18)))
            (go (newtons (pos (F.part d l))) (stiffness l *ℚ mk D) (part_error shift_error_bound) (newtons (pos lash_pad)) (natℚ (F.part d l))
            off.above (rw athwart_is at held) lash_pad_lem part_room (newtons_times (pos (F.part d l))))),
      )
    where
      go : (w X e p n : ℚ) →
          w ≤ℚ X +ℚ e →
          X ≤ℚ natℚ most_held →
          e ≤ℚ p →
          p ≤ℚ natℚ 1 →
          natℚ (2 ^ 18) *ℚ w ≡ n →
          n ≤ℚ natℚ (most_held + 1) *ℚ natℚ (2 ^ 18)
      go = ∀₅ ℚR _ λ ρ. simp qq λ o h l k e. by_cert (num (2 ^ 18) ⊠ (to o ⊞ to h ⊞ to l ⊞ to k) ⊞ times (kp 1) e) tt

  -- in the post sums
  pub upward_off : Off (vertical_error (shift_error d l D)) (newtons (pos (upward d l))) (mk (vertical_part l D))
  unfolding upward
  upward_off =
      rw (vertical_is l (length_above f) wide D)
      (off_share (share_nn l.lz l.ly wide) (share_most l.lz l.ly wide 40 (vertical_ratio f))
      (part_off d l D (length_above f) far)
      (middle_off l.lz l.ly wide (F.part d l) (omega (arith, in_range)) steep (omega (arith, f.lz_most))))

  -- the figures
  module _ (m : ℕ) (margin : 6 < m) where
    pub athwart_reported : Reported m (athwart_part l D) (athwart_figure d l)
    unfolding athwart_figure
    athwart_reported =
        covers_reported {b = 2} m (athwart_part l D) (omega arith)
        (rw athwart_is (padded_covers (F.part d l) lash_pad off lash_pad_lem lash_over))

    -- times a side of at most 42 LY
    turned : (N : ℕ) →
        N ≤ 42 * l.ly →
        N ≤ 22913 →
        Covers 6 (figure_along (F.part d l + lash_pad) N l.ly) (stiffness l *ℚ mk D *ℚ (natℚ N /ℚ natℚ l.ly))
    turned N low short =
        turned_covers (F.part d l) lash_pad off lash_pad_lem N l.ly _ (newtons (pos along_pad)) wide low turned_over
        (padded_enough N l.ly wide (F.part d l + lash_pad) in_range low short)
        (padded_close N l.ly wide (F.part d l + lash_pad) in_range low short)

    pub pull_reported : Reported m (pull l D) (pull_figure d l)
    unfolding pull_figure
    pull_reported =
        covers_reported m (pull l D) margin
        (rw (pull_is l (length_above f) wide D) (turned (lash_length l) (length_ratio f) (length_most f)))

    pub vertical_reported : Reported m (vertical_part l D) (vertical_figure d l)
    unfolding vertical_figure
    vertical_reported =
        covers_reported m (vertical_part l D) margin
        (rw (vertical_is l (length_above f) wide D) (turned l.lz steep (omega (arith, f.lz_most))))
