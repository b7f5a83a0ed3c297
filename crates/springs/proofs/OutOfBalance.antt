-- What a level is out of balance by under shifts in whole units, wherever they come from, by its balance in these units: four units of its
-- lashes' stiffness and of its load may be added, since the inputs are rounded.
use mathlib.Core.Path.{◌≡◌, subst}
use mathlib.Core.Bool.{cond}
use mathlib.Core.List.{List}
use Prim.Native.Nat.{ℕ, suc, ◌*◌, ◌<◌}
use lib.ListN.{get_or}
use Rattle.arith.proofs.Polynomials.{v, kp, ◌⊕◌, ◌⊗◌, ⊖◌}
use Rattle.arith.proofs.Rings.{∀₁₂, by_cert, to, times, num, ◌⊞◌, ◌⊠◌}
use Rattle.arith.proofs.Rationals.{ℚR, ℚ, ◌+ℚ◌, ◌-ℚ◌, ◌*ℚ◌, negℚ, absℚ, ◌≤ℚ◌, nn_int}
use Rattle.arith.proofs.RationalTerms.{qq}
use Rattle.arith.proofs.Signs.{on}
use Rattle.springs.specs.Equations.{Tier, Lash, stiffness_at, load_at}
use Rattle.springs.specs.Inner.Promise.{stiffness_scale, load_scale, shift_scale, Near}
use Rattle.springs.proofs.Chain.{natℚ, force, load}
use Rattle.springs.proofs.Levels.{springs, lashes, loads, mk_stiffness, mk_load}
use Rattle.springs.proofs.Inputs.{rounded_low, rounded_high}

-- m x is at most b in size
pub times_abs : (m x b : ℚ) → m *ℚ x ≤ℚ b → m *ℚ negℚ x ≤ℚ b → m *ℚ absℚ x ≤ℚ b
unfolding absℚ
times_abs m x b h l = on x (λ c. m *ℚ cond c x (negℚ x) ≤ℚ b) (λ p. h) (λ p. l)

abbrev pub S : ℚ
S = natℚ stiffness_scale

-- 2^50, the unit of a level's balance
abbrev pub unit : ℕ
unit = stiffness_scale * shift_scale

-- K and L the springs under and over a level, k its lashes and κ theirs as found, q its load and ω it as found; f₀ f₁ f₂ the shifts found
-- under it, of it and over it, p d e the same in units
high_law :
    (K L k κ ω q f₀ f₁ f₂ p d e : ℚ) →
    natℚ shift_scale *ℚ f₀ ≡ p →
    natℚ shift_scale *ℚ f₁ ≡ d →
    natℚ shift_scale *ℚ f₂ ≡ e →
    S *ℚ k ≤ℚ κ +ℚ natℚ 4 →
    ω ≤ℚ natℚ load_scale *ℚ q →
    natℚ 0 ≤ℚ d →
    natℚ unit *ℚ (K *ℚ (f₁ -ℚ f₀) -ℚ L *ℚ (f₂ -ℚ f₁) +ℚ k *ℚ f₁ -ℚ q)
    ≤ℚ S *ℚ (K *ℚ (d -ℚ p)) -ℚ S *ℚ (L *ℚ (e -ℚ d)) +ℚ κ *ℚ d -ℚ S *ℚ ω +ℚ natℚ 4 *ℚ d
high_law =
    ∀₁₂ ℚR _ λ ρ.
    simp qq λ e0 e1 e2 hk hq hd.
    by_cert
    (to hk ⊠ to hd
    ⊞ num stiffness_scale ⊠ to hq
    ⊞ times (kp stiffness_scale ⊗ v 0) e0
    ⊞ times (⊖ (kp stiffness_scale ⊗ (v 0 ⊕ v 1 ⊕ v 2))) e1
    ⊞ times (kp stiffness_scale ⊗ v 1) e2)
    tt

low_law :
    (K L k κ ω q f₀ f₁ f₂ p d e : ℚ) →
    natℚ shift_scale *ℚ f₀ ≡ p →
    natℚ shift_scale *ℚ f₁ ≡ d →
    natℚ shift_scale *ℚ f₂ ≡ e →
    κ ≤ℚ S *ℚ k →
    natℚ load_scale *ℚ q ≤ℚ ω +ℚ natℚ 4 →
    natℚ 0 ≤ℚ d →
    natℚ unit *ℚ negℚ (K *ℚ (f₁ -ℚ f₀) -ℚ L *ℚ (f₂ -ℚ f₁) +ℚ k *ℚ f₁ -ℚ q)
    ≤ℚ natℚ (4 * stiffness_scale) -ℚ (S *ℚ (K *ℚ (d -ℚ p)) -ℚ S *ℚ (L *ℚ (e -ℚ d)) +ℚ κ *ℚ d -ℚ S *ℚ ω)
low_law =
    ∀₁₂ ℚR _ λ ρ.
    simp qq λ e0 e1 e2 hk hq hd.
    by_cert
    (to hk ⊠ to hd
    ⊞ num stiffness_scale ⊠ to hq
    ⊞ times (⊖ (kp stiffness_scale ⊗ v 0)) e0
    ⊞ times (kp stiffness_scale ⊗ (v 0 ⊕ v 1 ⊕ v 2)) e1
    ⊞ times (⊖ (kp stiffness_scale ⊗ v 1)) e2)
    tt

-- d the shifts in units, f in mm; level i + 1
module _
    (n : ℕ)
    (k κ ω : List ℕ)
    (ts : List Tier)
    (ls : List Lash)
    (near : Near n k κ ω ts ls)
    (d : ℕ → ℕ)
    (f : ℕ → ℚ)
    (f_is : (j : ℕ) → natℚ shift_scale *ℚ f j ≡ natℚ (d j))
    (i : ℕ)
    (l : i < n)
  where
    -- its balance by the shifts in units
    abbrev pub balance : ℚ
    balance =
        S *ℚ force (springs ts) (λ j. natℚ (d j)) i
        -ℚ S *ℚ force (springs ts) (λ j. natℚ (d j)) (suc i)
        +ℚ natℚ (get_or κ i 0) *ℚ natℚ (d (suc i))
        -ℚ S *ℚ natℚ (get_or ω i 0)

    -- what it is out of balance by
    abbrev pub out : ℚ
    out = load (springs ts) (lashes ls) f i -ℚ loads ts i

    abbrev kq : ℚ
    kq = natℚ (get_or κ i 0)

    abbrev oq : ℚ
    oq = natℚ (get_or ω i 0)

    pub out_high : natℚ unit *ℚ out ≤ℚ balance +ℚ natℚ 4 *ℚ natℚ (d (suc i))
    out_high =
        high_law (springs ts i) (springs ts (suc i)) (lashes ls i) kq oq (loads ts i) (f i) (f (suc i)) (f (suc (suc i)))
        (natℚ (d i)) (natℚ (d (suc i))) (natℚ (d (suc (suc i))))
        (f_is i)
        (f_is (suc i))
        (f_is (suc (suc i)))
        (subst (λ z. S *ℚ z ≤ℚ kq +ℚ natℚ 4) (mk_stiffness ls (suc i))
        (rounded_high stiffness_scale 4 (get_or κ i 0) (stiffness_at ls (suc i)) (near.held i l)))
        (subst (λ z. oq ≤ℚ natℚ load_scale *ℚ z) (mk_load ts i) (rounded_low load_scale 4 (get_or ω i 0) (load_at ts i) (near.loaded i l)))
        (nn_int (d (suc i)))

    pub out_low : natℚ unit *ℚ negℚ out ≤ℚ natℚ (4 * stiffness_scale) -ℚ balance
    out_low =
        low_law (springs ts i) (springs ts (suc i)) (lashes ls i) kq oq (loads ts i) (f i) (f (suc i)) (f (suc (suc i)))
        (natℚ (d i)) (natℚ (d (suc i))) (natℚ (d (suc (suc i))))
        (f_is i)
        (f_is (suc i))
        (f_is (suc (suc i)))
        (subst (λ z. kq ≤ℚ S *ℚ z) (mk_stiffness ls (suc i))
        (rounded_low stiffness_scale 4 (get_or κ i 0) (stiffness_at ls (suc i)) (near.held i l)))
        (subst (λ z. natℚ load_scale *ℚ z ≤ℚ oq +ℚ natℚ 4) (mk_load ts i)
        (rounded_high load_scale 4 (get_or ω i 0) (load_at ts i) (near.loaded i l)))
        (nn_int (d (suc i)))
