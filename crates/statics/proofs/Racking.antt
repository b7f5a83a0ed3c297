-- The racking found of a tier beside the exact one, and that its figure reports it with its sign.
use mathlib.Core.Path.{◌≡◌, sym, ap, ap₂, ◌∙◌}
use mathlib.Core.List.{List}
use Prim.Native.Nat.{ℕ, zero, suc, ◌+◌, ◌*◌, ◌^◌, ◌≤◌, ◌<◌}
use native.Mathlib.Omega.{arith}
use lib.Dec.{lit≤, lt→ltb}
use lib.IntN.{ℤ, pos, negsuc, neg_ℤ, ◌-ℤ◌, nat_abs}
use lib.ListN.{get_or}
use lib.Signed.{◌<ℤ◌}
use Rattle.arith.specs.Inner.Rounding.{rounded_up}
use Rattle.arith.specs.Fractions.{Frac, nat, negq}
use Rattle.arith.proofs.Polynomials.{v, ⊖◌}
use Rattle.arith.proofs.Rings.{∀₅, by_eqs, to, mul_eq, contra, ◌⊞◌, ◌⊹◌}
use Rattle.arith.proofs.IntegerOmega.{le_nat}
use Rattle.arith.proofs.Sizes.{nat_abs_neg}
use Rattle.arith.proofs.Rationals.{ℚR, ℚ, mk, int, ◌+ℚ◌, ◌-ℚ◌, ◌*ℚ◌, ◌/ℚ◌, negℚ, absℚ, ◌≤ℚ◌, int_plus, int_times, of-⊑}
use Rattle.arith.proofs.RationalTerms.{qq, q_int_neg}
use Rattle.arith.proofs.Signs.{div_eq}
use Rattle.arith.proofs.RationalOrder.{above_0, nat_q}
use Rattle.arith.proofs.RationalRounding.{ceil_up}
use Rattle.arith.proofs.FractionsInRationals.{mk_int, mk_neg}
use Rattle.springs.specs.Inner.Promise.{found}
use Rattle.springs.proofs.Chain.{natℚ}
use Rattle.statics.specs.Inner.WholeNumbers.{racking_part, racking_pad, racking_figure}
use Rattle.statics.specs.Reported.{Reported, Directed}
use Rattle.statics.proofs.Errors.{turn_le, Off, off_abs, off_neg, off_more, off_trans}
use Rattle.statics.proofs.Scales.{found_times, newtons, newtons_nn, newtons_neg, shift_off}
use Rattle.statics.proofs.Pads.{force_bound, rounded_racking_error, racking_room, racking_pad_lem, racking_over}
use Rattle.statics.proofs.Covers.{covers_reported, back_reported, padded_covers}

module _ (K : ℕ) (d : List ℕ) (i : ℕ) where
  -- K × (shift over − shift under) in 2^-28 N, and in N
  whole : ℤ
  whole = pos (K * get_or d (suc i) 0) -ℤ pos (K * get_or d i 0)

  abbrev pub force_found : ℚ
  force_found = natℚ K *ℚ (mk (found d (suc i)) -ℚ mk (found d i))

  whole_is : int whole ≡ natℚ K *ℚ natℚ (get_or d (suc i) 0) -ℚ natℚ K *ℚ natℚ (get_or d i 0)
  unfolding whole
  whole_is =
      int_plus (pos (K * get_or d (suc i) 0)) (neg_ℤ (pos (K * get_or d i 0)))
      ∙ ap₂ ◌+ℚ◌
      (int_times (pos K) (pos (get_or d (suc i) 0)))
      (sym (q_int_neg (pos (K * get_or d i 0))) ∙ ap negℚ (int_times (pos K) (pos (get_or d i 0))))

  force_is : force_found ≡ newtons whole /ℚ natℚ 1024
  force_is =
      div_eq force_found (newtons whole) (natℚ 1024) (above_0 1024 (lit≤ tt))
      (div_eq (force_found *ℚ natℚ 1024) (int whole) (natℚ (2 ^ 18)) (above_0 (2 ^ 18) (lit≤ tt))
      (go (natℚ K) (mk (found d (suc i))) (mk (found d i)) (natℚ (get_or d (suc i) 0)) (natℚ (get_or d i 0))
      (found_times d (suc i)) (found_times d i)
      ∙ sym whole_is))
    where
      go :
          (K x y n m : ℚ) →
          natℚ (2 ^ 28) *ℚ x ≡ n →
          natℚ (2 ^ 28) *ℚ y ≡ m →
          K *ℚ (x -ℚ y) *ℚ natℚ 1024 *ℚ natℚ (2 ^ 18) ≡ K *ℚ n -ℚ K *ℚ m
      go = ∀₅ ℚR _ λ ρ. simp qq λ a b. by_eqs (mul_eq (v 0) a ⊹ mul_eq (⊖ v 0) b) tt

  pub racking_off : (R : ℚ) → absℚ (force_found -ℚ R) ≤ℚ force_bound → Off rounded_racking_error (newtons (racking_part K d i)) R
  unfolding racking_part whole
  racking_off R h = off_more racking_room (off_trans (rw (← force_is) at (shift_off 1024 (lit≤ tt) whole)) (off_abs h))

-- the figure's size, which is never 0
padded : ℕ → ℕ
padded n = rounded_up (n + racking_pad) (2 ^ 18)

padded_above : (n : ℕ) → 0 < padded n
unfolding padded
padded_above n = go (padded n) (le_nat (n + racking_pad) (2 ^ 18 * padded n) (ceil_up (n + racking_pad) (2 ^ 18) (lit≤ tt)).low)
  where
    go : (c : ℕ) → n + racking_pad ≤ 2 ^ 18 * c → 0 < c
    go c h = omega arith

above_zero : (c : ℕ) → 0 < c → pos 0 <ℤ pos c
above_zero c h = record { lt = lt→ltb 0 c h }

below_zero : (c : ℕ) → 0 < c → neg_ℤ (pos c) <ℤ pos 0
below_zero zero h = absurd (no_less h)
  where
    no_less : 0 < 0 → ⊥
    no_less x = omega arith
below_zero (suc c) h = record { lt = tt }

module _ (m : ℕ) (margin : 2 < m) where
  -- what is found to leeward is not m N to windward
  not_back : (n : ℕ) (R : ℚ) → Off rounded_racking_error (newtons (pos n)) R → R ≤ℚ negℚ (natℚ m) → ⊥
  not_back n R o h =
      go (newtons (pos n)) R rounded_racking_error (newtons (pos racking_pad)) (natℚ m)
      (newtons_nn n) o.above (newtons_nn racking_pad) racking_over h (nat_q 3 m (omega arith))
    where
      go :
          (x R e p m : ℚ) →
          natℚ 0 ≤ℚ x →
          x ≤ℚ R +ℚ e →
          natℚ 0 ≤ℚ p →
          e +ℚ p ≤ℚ natℚ 1 →
          R ≤ℚ negℚ m →
          natℚ 3 ≤ℚ m →
          ⊥
      go = ∀₅ ℚR _ λ ρ. simp qq λ z o p e h l. contra (to z ⊞ to o ⊞ to p ⊞ to e ⊞ to h ⊞ to l) tt

  -- a racking's figure: its size, and the way it points
  pub racking_reported :
      (r : ℤ) (R : Frac) →
      Off rounded_racking_error (newtons r) (mk R) → Reported m R (nat_abs (racking_figure r))
  unfolding racking_figure padded
  racking_reported (pos n) R o = covers_reported m R margin (padded_covers n racking_pad o racking_pad_lem racking_over)
  racking_reported (negsuc n) R o =
      let back = rw (← newtons_neg (negsuc n)) at (off_neg o) in
      rw (nat_abs_neg (pos (padded (suc n))))
      (back_reported m R margin (padded_covers (suc n) racking_pad back racking_pad_lem racking_over))

  pub racking_directed :
      (r : ℤ) (R : Frac) →
      Off rounded_racking_error (newtons r) (mk R) → Directed m R (racking_figure r)
  unfolding racking_figure padded
  racking_directed (pos n) R o =
      record {
        leeward = λ l. above_zero (padded n) (padded_above n);
        windward = λ l. absurd (not_back n (mk R) o (rw (mk_neg (nat m), mk_int (pos m)) at (of-⊑ R (negq (nat m)) l)));
      }
  racking_directed (negsuc n) R o =
      let back = rw (← newtons_neg (negsuc n)) at (off_neg o) in
      record {
        leeward =
            λ l. absurd (not_back (suc n) (negℚ (mk R)) back (turn_le (natℚ m) (mk R) (rw (mk_int (pos m)) at (of-⊑ (nat m) R l))));
        windward = λ l. below_zero (padded (suc n)) (padded_above (suc n));
      }
