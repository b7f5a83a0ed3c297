-- The promise kept by a certificate: shifts that leave each level in balance, wherever they come from, are as near to the exact ones as
-- specs/inner/Promise says.
use mathlib.Core.Path.{◌≡◌, refl, sym, ap, ap₂, subst, ◌∙◌}
use mathlib.Core.List.{List}
use Prim.Native.Nat.{ℕ, zero, suc, ◌+◌, ◌*◌, ◌-◌, ◌/◌, ◌≤◌, ◌<◌, ◌^◌}
use native.Mathlib.Nat.{div-add-mod', mod-lt}
use native.Mathlib.Numerals.{add-one}
use native.Mathlib.Omega.{arith}
use native.Mathlib.Decide.{dec_le}
use lib.Dec.{lit<}
use lib.IntN.{pos}
use lib.ListN.{length, get_or}
use Rattle.arith.specs.Lists.{from, below}
use Rattle.arith.specs.Fractions.{Frac, nat, ◌-q◌, ◌*q◌, ◌/q◌, absq, sumq, ◌⊑◌}
use Rattle.arith.proofs.Polynomials.{kp}
use Rattle.arith.proofs.Rings.{∀₁, ∀₂, ∀₃, ∀₁₀, by_ring, by_cert, part, to, times, num, ◌⊞◌, ◌⊠◌}
use Rattle.arith.proofs.Rationals.{ℚR, ℚ, mk, ◌+ℚ◌, ◌-ℚ◌, ◌*ℚ◌, negℚ, ◌/ℚ◌, recipℚ, absℚ, ◌≤ℚ◌, nn_int, int_plus, recip_times, to-⊑}
use Rattle.arith.proofs.RationalTerms.{qq, q_int_add, q_int_mul}
use Rattle.arith.proofs.RationalOrder.{≤ℚ-trans, nat_q, above_0, div_times}
use Rattle.arith.proofs.FractionsInRationals.{sumℚ, mk_int, mk_div, of-≈, toℚ}
use Rattle.springs.specs.Equations.{Tier, Lash, tier_at, shift, racking, Solves}
use Rattle.springs.specs.Inner.Promise.{stiffness_scale, farthest, shift_scale, Near, found, error_hundredths}
use Rattle.springs.specs.Inner.Promise.{lash_error, racking_error, Promised}
use Rattle.springs.specs.Inner.Balance.{spring_at, pulled, pushed, slack_at}
use Rattle.springs.proofs.Chain.{natℚ, force, load}
use Rattle.springs.proofs.Levels.{springs, lashes, loads, shifts, mk_racking, no_spring}
use Rattle.springs.proofs.Stability.{lash_errors, racking_errors, mk_errors}
use Rattle.springs.proofs.OutOfBalance.{S, unit, times_abs, out_high, out_low}
use Rattle.springs.proofs.Balance.{spring_in, spring_top, Level}

-- shifts of levels 1 to n that are not too far, and 0 elsewhere
pub record Guessed (n : ℕ) (d : List ℕ) : Type 0 where
  pub deck : get_or d 0 0 ≡ 0
  pub over : (j : ℕ) → n < j → get_or d j 0 ≡ 0
  pub far : (j : ℕ) → get_or d j 0 ≤ farthest

-- what a level may be out of balance by, in 2^-50 N
abbrev most : ℕ
most = 1326004 * stiffness_scale

-- h what the lashes hold the level with, rounded down; b what it may be out of balance by, t its shift in 2^20 units, rounded down
high_g :
    (K L κ ω p d e h b t : ℚ) →
    K *ℚ d +ℚ L *ℚ d +ℚ h ≤ℚ K *ℚ p +ℚ L *ℚ e +ℚ ω +ℚ b →
    κ *ℚ d ≤ℚ h *ℚ S +ℚ S →
    b +ℚ t ≤ℚ natℚ 1326000 →
    d ≤ℚ natℚ (2 ^ 20) *ℚ t +ℚ natℚ (2 ^ 20) →
    S *ℚ (K *ℚ (d -ℚ p)) -ℚ S *ℚ (L *ℚ (e -ℚ d)) +ℚ κ *ℚ d -ℚ S *ℚ ω +ℚ natℚ 4 *ℚ d ≤ℚ natℚ (1326002 * stiffness_scale)
high_g =
    ∀₁₀ ℚR _ λ ρ.
    simp qq λ a hh bt hd.
    by_cert (num stiffness_scale ⊠ to a ⊞ to hh ⊞ num stiffness_scale ⊠ to bt ⊞ num 4 ⊠ to hd) tt

low_g :
    (K L κ ω p d e h b t : ℚ) →
    K *ℚ p +ℚ L *ℚ e +ℚ ω ≤ℚ K *ℚ d +ℚ L *ℚ d +ℚ h +ℚ b →
    h *ℚ S ≤ℚ κ *ℚ d →
    b +ℚ t ≤ℚ natℚ 1326000 →
    natℚ 0 ≤ℚ t →
    negℚ (natℚ (1326000 * stiffness_scale)) ≤ℚ S *ℚ (K *ℚ (d -ℚ p)) -ℚ S *ℚ (L *ℚ (e -ℚ d)) +ℚ κ *ℚ d -ℚ S *ℚ ω
low_g =
    ∀₁₀ ℚR _ λ ρ.
    simp qq λ a hh bt ht.
    by_cert (num stiffness_scale ⊠ to a ⊞ to hh ⊞ num stiffness_scale ⊠ to bt ⊞ num stiffness_scale ⊠ to ht) tt

-- the shift found, in mm
found_is : (d : List ℕ) (j : ℕ) → natℚ shift_scale *ℚ mk (found d j) ≡ natℚ (get_or d j 0)
found_is d j =
    ap (λ z. natℚ shift_scale *ℚ z)
    (mk_div (nat (get_or d j 0)) (nat shift_scale) ∙ ap₂ ◌/ℚ◌ (mk_int (pos (get_or d j 0))) (mk_int (pos shift_scale)))
    ∙ div_times (natℚ (get_or d j 0)) (natℚ shift_scale) (above_0 shift_scale (lit< tt))

module _
    (n : ℕ)
    (k κ ω d : List ℕ)
    (few : n ≤ 10)
    (g : Guessed n d)
    (bal : (i : ℕ) → i < n → Level n k κ ω d i)
  where
    -- the shift of a level in units
    abbrev units : ℕ → ℚ
    units j = natℚ (get_or d j 0)

    module _ (ts : List Tier) (ls : List Lash) (near : Near n k κ ω ts ls) where
      spring : (j : ℕ) → j < n → springs ts j ≡ natℚ (get_or k j 0)
      spring j l = of-≈ (tier_at ts j).K (nat (get_or k j 0)) (near.spring j l) ∙ mk_int (pos (get_or k j 0))

      -- the spring over level i + 1
      over : (i : ℕ) → i < n → springs ts (suc i) ≡ natℚ (spring_at n k (suc i))
      over i l = go (dec_le (suc (suc i)) n)
        where
          go : Dec (suc (suc i) ≤ n) → springs ts (suc i) ≡ natℚ (spring_at n k (suc i))
          go (yes b) = spring (suc i) b ∙ ap natℚ (sym (spring_in n k (suc i) b))
          go (no b) = no_spring ts (suc i) (omega (arith, near.tiers)) ∙ ap natℚ (sym (spring_top n k (suc i) (omega arith)))

      -- the balance of level i + 1 by the shifts in units
      abbrev G : ℕ → ℚ
      G i =
          S *ℚ (springs ts i *ℚ (units (suc i) -ℚ units i))
          -ℚ S *ℚ (springs ts (suc i) *ℚ (units (suc (suc i)) -ℚ units (suc i)))
          +ℚ natℚ (get_or κ i 0) *ℚ units (suc i)
          -ℚ S *ℚ natℚ (get_or ω i 0)

      module _ (i : ℕ) (l : i < n) where
        abbrev held : ℕ
        held = get_or κ i 0 * get_or d (suc i) 0 / stiffness_scale

        abbrev coarse : ℕ
        coarse = get_or d (suc i) 0 / 2 ^ 20

        held_low : natℚ held *ℚ S ≤ℚ natℚ (get_or κ i 0) *ℚ units (suc i)
        held_low =
            simp q_int_mul
            (nat_q (held * stiffness_scale) (get_or κ i 0 * get_or d (suc i) 0)
            (omega (arith, div-add-mod' (get_or κ i 0 * get_or d (suc i) 0) stiffness_scale)))

        held_high : natℚ (get_or κ i 0) *ℚ units (suc i) ≤ℚ natℚ held *ℚ S +ℚ S
        held_high =
            let x = get_or κ i 0 * get_or d (suc i) 0 in
            simp (q_int_mul, q_int_add)
            (nat_q x (held * stiffness_scale + stiffness_scale)
            (omega (arith, div-add-mod' x stiffness_scale, mod-lt x {m = stiffness_scale} (lit< tt))))

        slack_is : natℚ (slack_at (get_or d (suc i) 0)) +ℚ natℚ coarse ≤ℚ natℚ 1326000
        unfolding slack_at
        slack_is =
            simp q_int_add
            (nat_q (slack_at (get_or d (suc i) 0) + coarse) 1326000
            (omega (arith, div-add-mod' (get_or d (suc i) 0) (2 ^ 20), g.far (suc i))))

        shift_high : units (suc i) ≤ℚ natℚ (2 ^ 20) *ℚ natℚ coarse +ℚ natℚ (2 ^ 20)
        shift_high =
            let x = get_or d (suc i) 0 in
            simp (q_int_mul, q_int_add)
            (nat_q x (2 ^ 20 * coarse + 2 ^ 20) (omega (arith, div-add-mod' x (2 ^ 20), mod-lt x {m = 2 ^ 20} (lit< tt))))

        high : G i +ℚ natℚ 4 *ℚ units (suc i) ≤ℚ natℚ (1326002 * stiffness_scale)
        unfolding pulled pushed
        high =
            let slack = slack_at (get_or d (suc i) 0) in
            rw (spring i l, over i l)
            (high_g (natℚ (get_or k i 0)) (natℚ (spring_at n k (suc i))) (natℚ (get_or κ i 0)) (natℚ (get_or ω i 0)) (units i) (units (suc i))
            (units (suc (suc i))) (natℚ held) (natℚ slack) (natℚ coarse)
            (simp (q_int_mul, q_int_add) (nat_q (pulled n k κ d i) (pushed n k ω d i + slack) (bal i l).high))
            held_high
            slack_is
            shift_high)

        low : negℚ (natℚ (1326000 * stiffness_scale)) ≤ℚ G i
        unfolding pulled pushed
        low =
            let slack = slack_at (get_or d (suc i) 0) in
            rw (spring i l, over i l)
            (low_g (natℚ (get_or k i 0)) (natℚ (spring_at n k (suc i))) (natℚ (get_or κ i 0)) (natℚ (get_or ω i 0)) (units i) (units (suc i))
            (units (suc (suc i))) (natℚ held) (natℚ slack) (natℚ coarse)
            (simp (q_int_mul, q_int_add) (nat_q (pushed n k ω d i) (pulled n k κ d i + slack) (bal i l).low))
            held_low
            slack_is
            (nn_int coarse))

      -- what level i + 1 is out of balance by under the shifts found
      abbrev f : ℕ → ℚ
      f j = mk (found d j)

      out_at : (i : ℕ) → i < n → natℚ (2 ^ 50) *ℚ absℚ (load (springs ts) (lashes ls) f i -ℚ loads ts i) ≤ℚ natℚ most
      out_at i l =
          times_abs (natℚ (2 ^ 50)) (load (springs ts) (lashes ls) f i -ℚ loads ts i) (natℚ most)
          (≤ℚ-trans (natℚ unit *ℚ (load (springs ts) (lashes ls) f i -ℚ loads ts i)) (G i +ℚ natℚ 4 *ℚ units (suc i)) (natℚ most)
          (out_high n k κ ω ts ls near (λ j. get_or d j 0) f (found_is d) i l)
          (≤ℚ-trans (G i +ℚ natℚ 4 *ℚ units (suc i)) (natℚ (1326002 * stiffness_scale)) (natℚ most) (high i l)
          (nat_q (1326002 * stiffness_scale) most (omega arith))))
          (less (natℚ unit *ℚ negℚ (load (springs ts) (lashes ls) f i -ℚ loads ts i)) (G i) (low i l)
          (out_low n k κ ω ts ls near (λ j. get_or d j 0) f (found_is d) i l))
        where
          less : (a g : ℚ) → negℚ (natℚ (1326000 * stiffness_scale)) ≤ℚ g → a ≤ℚ natℚ (4 * stiffness_scale) -ℚ g → a ≤ℚ natℚ most
          less = ∀₂ ℚR _ λ ρ. simp qq λ h l. by_cert (to h ⊞ to l) tt

      -- all levels together, ten at most
      abbrev size : ℕ → ℚ
      size i = absℚ (load (springs ts) (lashes ls) f i -ℚ loads ts i)

      outs_at : (i m : ℕ) → i + m ≤ n → natℚ (2 ^ 50) *ℚ sumℚ size (from i m) ≤ℚ natℚ m *ℚ natℚ most
      unfolding sumℚ from
      outs_at i zero b = none (natℚ 0) refl
        where
          none : (z : ℚ) → z ≡ natℚ 0 → natℚ (2 ^ 50) *ℚ natℚ 0 ≤ℚ z *ℚ natℚ most
          none = ∀₁ ℚR _ λ ρ. simp qq λ e. by_cert (times (kp most) e) tt
      outs_at i (suc m) b =
          subst (λ z. natℚ (2 ^ 50) *ℚ sumℚ size (from i (suc m)) ≤ℚ z *ℚ natℚ most)
          (sym (int_plus (pos m) (pos 1)) ∙ ap natℚ (add-one m))
          (more (size i) (sumℚ size (from (suc i) m)) (natℚ m) (out_at i (omega arith)) (outs_at (suc i) m (omega arith)))
        where
          more :
              (a t m : ℚ) →
              natℚ (2 ^ 50) *ℚ a ≤ℚ natℚ most →
              natℚ (2 ^ 50) *ℚ t ≤ℚ m *ℚ natℚ most →
              natℚ (2 ^ 50) *ℚ (a +ℚ t) ≤ℚ (m +ℚ natℚ 1) *ℚ natℚ most
          more = ∀₃ ℚR _ λ ρ. simp qq λ h l. by_cert (to h ⊞ to l) tt

      outs_small : sumℚ size (below (length ts)) ≤ℚ mk lash_error
      outs_small =
          rw (error_is)
          (go (sumℚ size (below (length ts))) (natℚ (length ts)) (recipℚ (natℚ 100))
          (outs_at 0 (length ts) (omega (arith, near.tiers)))
          (nat_q (length ts) 10 (omega (arith, near.tiers, few)))
          hundredth)
        where
          hundredth : natℚ 100 *ℚ recipℚ (natℚ 100) ≡ natℚ 1
          hundredth = recip_times (natℚ 100) (above_0 100 (lit< tt))

          error_is : mk lash_error ≡ natℚ error_hundredths *ℚ recipℚ (natℚ 100)
          error_is = simp toℚ

          go :
              (a m r : ℚ) →
              natℚ (2 ^ 50) *ℚ a ≤ℚ m *ℚ natℚ most →
              m ≤ℚ natℚ 10 →
              natℚ 100 *ℚ r ≡ natℚ 1 →
              a ≤ℚ natℚ error_hundredths *ℚ r
          go =
              ∀₃ ℚR _ λ ρ.
              simp qq λ h l e.
              part (100 * 2 ^ 50 - 1) (num 100 ⊠ to h ⊞ num (100 * most) ⊠ to l ⊞ times (kp (error_hundredths * 2 ^ 50)) e) tt

    -- at the deck and above the uppermost level
    found_none : (j : ℕ) → get_or d j 0 ≡ 0 → mk (found d j) ≡ natℚ 0
    found_none j z =
        ap (λ (a : ℕ). mk (nat a /q nat shift_scale)) z
        ∙ mk_div (nat 0) (nat shift_scale)
        ∙ ap (λ a. a /ℚ mk (nat shift_scale)) (mk_int (pos 0))
        ∙ go (recipℚ (mk (nat shift_scale)))
      where
        go : (r : ℚ) → natℚ 0 *ℚ r ≡ natℚ 0
        go = ∀₁ ℚR _ λ ρ. simp qq (by_ring tt)

    module _ (ts : List Tier) (ls : List Lash) (Ds : List Frac) (near : Near n k κ ω ts ls) (sol : Solves ts ls Ds) where
      near_lashes : sumq (λ l. l.stiffness *q absq (found d l.level -q shift Ds l.level)) ls ⊑ lash_error
      near_lashes =
          to-⊑ (sumq (λ l. l.stiffness *q absq (found d l.level -q shift Ds l.level)) ls) lash_error
          (rw (mk_errors ls (found d) (shift Ds))
          (≤ℚ-trans (sumℚ (λ l. mk l.stiffness *ℚ absℚ (mk (found d l.level) -ℚ shifts Ds l.level)) ls)
          (sumℚ (size ts ls near) (below (length ts)))
          (mk lash_error)
          (lash_errors ts ls Ds near.stiff sol (λ j. mk (found d j)) (found_none 0 g.deck)
          (λ j b. found_none j (g.over j (omega (arith, near.tiers)))))
          (outs_small ts ls near)))

      near_rackings : (i : ℕ) → i < n → absq ((tier_at ts i).K *q (found d (suc i) -q found d i) -q racking ts Ds i) ⊑ racking_error
      near_rackings i b =
          to-⊑ (absq ((tier_at ts i).K *q (found d (suc i) -q found d i) -q racking ts Ds i)) racking_error
          (rw (one (tier_at ts i).K (found d (suc i)) (found d i) (racking ts Ds i), mk_racking ts Ds i)
          (≤ℚ-trans (absℚ (force (springs ts) (λ j. mk (found d j)) i -ℚ force (springs ts) (shifts Ds) i))
          (sumℚ (size ts ls near) (below (length ts)))
          (mk racking_error)
          (racking_errors ts ls Ds near.stiff sol (λ j. mk (found d j)) (found_none 0 g.deck) i (omega (arith, near.tiers)))
          (outs_small ts ls near)))
        where
          one : (K a b r : Frac) → mk (absq (K *q (a -q b) -q r)) ≡ absℚ (mk K *ℚ (mk a -ℚ mk b) -ℚ mk r)
          one K a b r = simp toℚ

    pub certified : Promised n k κ ω d
    certified = record { deck = g.deck; far = g.far; lashes = near_lashes; rackings = near_rackings }
