-- The moment and the two sums of a level, found beside exact, from rackings, weights and vertical parts found.
use mathlib.Core.Path.{◌≡◌, refl, sym, ap, ◌∙◌}
use mathlib.Core.List.{List, [], ◌∷◌}
use Prim.Native.Nat.{ℕ, suc, ◌+◌, ◌≤◌, ◌<◌}
use native.Mathlib.Omega.{arith}
use native.Mathlib.Numerals.{add-one}
use lib.Dec.{lit≤}
use lib.ListN.{length, get_or}
use lib.IntN.{ℤ, pos, neg_ℤ, ◌+ℤ◌, ◌-ℤ◌, ◌*ℤ◌}
use lib.Signed.{quot_z}
use Rattle.sheet.specs.Layout.{blank_tier}
use Rattle.arith.specs.Fractions.{Frac, nat, ◌*q◌}
use Rattle.arith.proofs.Rings.{∀₂, ∀₆, by_ring, by_cert, to, ◌⊞◌, ◌⊠◌}
use Rattle.arith.proofs.Rationals.{ℚR, ℚ, mk, int, ◌+ℚ◌, ◌-ℚ◌, ◌*ℚ◌, ◌/ℚ◌, recipℚ, negℚ, ◌≤ℚ◌, recip_nn, int_plus, nn_int, nn_times}
use Rattle.arith.proofs.RationalTerms.{qq}
use Rattle.arith.proofs.Signs.{same_le}
use Rattle.arith.proofs.RationalOrder.{nat_q}
use Rattle.arith.proofs.FractionsInRationals.{mk_add, mk_mul, mk_int}
use Rattle.springs.proofs.Chain.{natℚ}
use Rattle.sheet.specs.declared.Tier.{Tier}
use Rattle.statics.specs.Posts.{lee_sum, windward_sum}
use Rattle.statics.specs.Inner.WholeNumbers.{racking_part, moment_part, lee_found, windward_found}
use Rattle.statics.proofs.Errors.{Off, off_neg, off_add, off_more, off_times, off_share}
use Rattle.statics.proofs.Scales.{newtons, newtons_add, newtons_neg, newtons_scale, nothing_off, quot_off}
use Rattle.statics.proofs.Pads.{rounded_racking_error, tier_error, verticals_error, sum_error, post_error, post_room}
use Rattle.statics.specs.Theorems.{racking_moment}

racking_error_nn : natℚ 0 ≤ℚ rounded_racking_error
racking_error_nn = nn_times (natℚ 6) (recipℚ (natℚ 100)) (nn_int 6) (recip_nn (natℚ 100))

tier_error_nn : natℚ 0 ≤ℚ tier_error
tier_error_nn = nn_times (natℚ 2896) rounded_racking_error (nn_int 2896) racking_error_nn

tier_off :
    (h : ℕ) →
    h ≤ 2896 →
    (r : ℤ) (R : Frac) →
    Off rounded_racking_error (newtons r) (mk R) → Off tier_error (newtons (pos h *ℤ r)) (mk (nat h *q R))
tier_off h low r R o =
    rw (newtons_scale (pos h) r, mk_mul (nat h) R, mk_int (pos h))
    (off_more (go (natℚ h) rounded_racking_error racking_error_nn (nat_q h 2896 low)) (off_times (nn_int h) o))
  where
    go : (h e : ℚ) → natℚ 0 ≤ℚ e → h ≤ℚ natℚ 2896 → h *ℚ e ≤ℚ natℚ 2896 *ℚ e
    go = ∀₂ ℚR _ λ ρ. simp qq λ z h. by_cert (to z ⊠ to h) tt

-- the tiers from number i + 1 on, j of them passed being tier k + 1
module _ (k d : List ℕ) (R : ℕ → Frac) where
  pub moment_off :
      (ts : List Tier) (i : ℕ) →
      ((j : ℕ) → j < length ts → (get_or ts j blank_tier).height ≤ 2896) →
      ((j m : ℕ) → i + j ≡ m → j < length ts → Off rounded_racking_error (newtons (racking_part (get_or k m 0) d m)) (mk (R m))) →
      Off (natℚ (length ts) *ℚ tier_error) (newtons (moment_part k d ts i)) (mk (racking_moment R ts i))
  unfolding moment_part racking_moment
  moment_off [] i low o = nothing_off (nn_times (natℚ 0) tier_error (nn_int 0) tier_error_nn)
  moment_off (t ∷ ts) i low o =
      let own = pos t.height *ℤ racking_part (get_or k i 0) d i in
      rw (newtons_add own (moment_part k d ts (suc i)), mk_add (nat t.height *q R i) (racking_moment R ts (suc i)), one_more)
      (off_add
      (tier_off t.height (low 0 (omega arith)) (racking_part (get_or k i 0) d i) (R i) (o 0 i (omega arith) (omega arith)))
      (moment_off ts (suc i) (λ j h. low (suc j) (omega arith)) (λ j m e h. o (suc j) m (omega arith) (omega arith))))
    where
      join : (n e : ℚ) → (n +ℚ natℚ 1) *ℚ e ≡ e +ℚ n *ℚ e
      join = ∀₂ ℚR _ λ ρ. simp qq (by_ring tt)

      one_more : natℚ (suc (length ts)) *ℚ tier_error ≡ tier_error +ℚ natℚ (length ts) *ℚ tier_error
      one_more =
          ap (λ m. m *ℚ tier_error) (ap natℚ (sym (add-one (length ts))) ∙ int_plus (pos (length ts)) (pos 1))
          ∙ join (natℚ (length ts)) tier_error

lee_q : (W M C : Frac) → mk (lee_sum W M C) ≡ mk W /ℚ natℚ 2 +ℚ mk M /ℚ natℚ 2259 +ℚ mk C
unfolding ◌+ℚ◌ ◌*ℚ◌ recipℚ int
lee_q W M C = refl

windward_q : (W M C : Frac) → mk (windward_sum W M C) ≡ mk W /ℚ natℚ 2 -ℚ mk M /ℚ natℚ 2259 +ℚ mk C
unfolding ◌+ℚ◌ ◌*ℚ◌ negℚ recipℚ int
windward_q W M C = refl

-- a level with n tiers above it: half the weight, moment and vertical parts found, w, m and c, and exact
module _
    (n w c : ℕ) (m : ℤ) (W M C : Frac) (few : n ≤ 10)
    (weighed : Off (newtons (pos 1)) (newtons (pos w)) (mk W /ℚ natℚ 2))
    (moment_near : Off (natℚ n *ℚ tier_error) (newtons m) (mk M))
    (pulled : Off verticals_error (newtons (pos c)) (mk C)) where
  spaced : Off (recipℚ (natℚ 2259) *ℚ (natℚ n *ℚ tier_error) +ℚ newtons (pos 1)) (newtons (quot_z m (pos 2259))) (mk M /ℚ natℚ 2259)
  spaced = off_share (recip_nn (natℚ 2259)) (same_le (recipℚ (natℚ 2259))) moment_near (quot_off 2259 (lit≤ tt) m)

  room : sum_error (natℚ n) ≤ℚ post_error
  room =
      go (newtons (pos 1)) (recipℚ (natℚ 2259)) (natℚ n) tier_error verticals_error post_error
      (recip_nn (natℚ 2259)) tier_error_nn (nat_q n 10 few) post_room
    where
      go :
          (u r n e c p : ℚ) →
          natℚ 0 ≤ℚ r →
          natℚ 0 ≤ℚ e →
          n ≤ℚ natℚ 10 →
          u +ℚ (r *ℚ (natℚ 10 *ℚ e) +ℚ u) +ℚ c ≤ℚ p →
          u +ℚ (r *ℚ (n *ℚ e) +ℚ u) +ℚ c ≤ℚ p
      go = ∀₆ ℚR _ λ ρ. simp qq λ r0 e0 h l. by_cert (to r0 ⊠ to e0 ⊠ to h ⊞ to l) tt

  pub lee_off : Off post_error (newtons (lee_found w m c)) (mk (lee_sum W M C))
  unfolding lee_found
  lee_off =
      let q = quot_z m (pos 2259) in
      rw (newtons_add (pos w +ℤ q) (pos c), newtons_add (pos w) q, lee_q W M C)
      (off_more room (off_add (off_add weighed spaced) pulled))

  pub windward_off : Off post_error (newtons (windward_found w m c)) (mk (windward_sum W M C))
  unfolding windward_found
  windward_off =
      let q = quot_z m (pos 2259) in
      rw (newtons_add (pos w -ℤ q) (pos c), newtons_add (pos w) (neg_ℤ q), newtons_neg q, windward_q W M C)
      (off_more room (off_add (off_add weighed (off_neg spaced)) pulled))
