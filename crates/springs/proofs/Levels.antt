-- Document 01's equations of an end, in fractions and per tier and lash, are the balance of a chain over ℚ, level by level.
use mathlib.Core.Path.{◌≡◌, refl, sym, ap, ap₂, subst, fun_ext, ◌∙◌}
use mathlib.Core.Bool.{Bool, true, false}
use mathlib.Core.List.{List}
use Prim.Native.Nat.{ℕ, zero, suc, ◌+◌, ◌-◌, ◌<◌, ◌≤◌}
use native.Mathlib.Omega.{arith}
use native.Mathlib.Decide.{dec_le}
use lib.Dec.{leb, eqb}
use lib.IntN.{pos}
use lib.ListN.{length, get_or-eq_default}
use Rattle.arith.specs.Fractions.{Frac, nat, ◌-q◌}
use Rattle.arith.proofs.Rings.{∀₁, ∀₈, by_ring, by_eqs, mul_eq, ◌⊹◌}
use Rattle.arith.proofs.Polynomials.{kp, kn}
use Rattle.arith.proofs.Rationals.{ℚR, ℚ, mk, ◌+ℚ◌, ◌-ℚ◌, ◌*ℚ◌, ◌≤ℚ◌, ◌<ℚ◌, <→≤, nn_int}
use Rattle.arith.proofs.RationalTerms.{qq}
use Rattle.arith.proofs.FractionsInRationals.{sumℚ, mk_int, mk_sub, mk_mul, mk_sum, of-≈, to-≈, of-⊏, toℚ}
use Rattle.springs.specs.Equations.{Tier, Lash, no_tier, tier_at, lash_at, shift, given, athwart, athwart_from, stiffness_at, load_at}
use Rattle.springs.specs.Equations.{racking, Solves, Stiff}
use Rattle.springs.proofs.Chain.{natℚ, force, load}
use Rattle.springs.proofs.Lashes.{givenℚ, lashes_from, lashes_on, lashes_from_step, lashes_from_top, lashes_on_nn}

-- the chain: the spring of each tier, the stiffness of each level's lashes, the load on each level, its shift
abbrev pub springs : List Tier → ℕ → ℚ
springs ts i = mk (tier_at ts i).K

abbrev pub lashes : List Lash → ℕ → ℚ
lashes ls i = lashes_on ls (suc i)

abbrev pub loads : List Tier → ℕ → ℚ
loads ts i = mk (tier_at ts i).Q -ℚ mk (tier_at ts (suc i)).Q

abbrev pub shifts : List Frac → ℕ → ℚ
shifts Ds i = mk (shift Ds i)

mk_given : (b : Bool) (x : Frac) → mk (given b x) ≡ givenℚ b (mk x)
mk_given true x = refl
mk_given false x = mk_int (pos 0)

pub mk_athwart : (ls : List Lash) (Ds : List Frac) (i : ℕ) → mk (athwart_from ls Ds i) ≡ lashes_from (shifts Ds) ls i
mk_athwart ls Ds i =
    mk_sum (λ l. given (leb i l.level) (athwart Ds l)) ls
    ∙ ap (λ f. sumℚ f ls)
    (fun_ext
    (λ l. mk_given (leb i l.level) (athwart Ds l) ∙ ap (givenℚ (leb i l.level)) (mk_mul l.stiffness (shift Ds l.level))))

pub mk_stiffness : (ls : List Lash) (i : ℕ) → mk (stiffness_at ls i) ≡ lashes_on ls i
mk_stiffness ls i =
    mk_sum (λ l. given (eqb i l.level) l.stiffness) ls
    ∙ ap (λ f. sumℚ f ls) (fun_ext (λ l. mk_given (eqb i l.level) l.stiffness))

pub mk_load : (ts : List Tier) (i : ℕ) → mk (load_at ts i) ≡ loads ts i
mk_load ts i = mk_sub (tier_at ts i).Q (tier_at ts (suc i)).Q

pub mk_racking : (ts : List Tier) (Ds : List Frac) (i : ℕ) → mk (racking ts Ds i) ≡ force (springs ts) (shifts Ds) i
mk_racking ts Ds i = simp toℚ

-- past the uppermost tier
pub no_spring : (ts : List Tier) (i : ℕ) → length ts ≤ i → springs ts i ≡ natℚ 0
no_spring ts i h = ap (λ t. mk t.K) (get_or-eq_default ts no_tier h) ∙ mk_int (pos 0)

no_load : (ts : List Tier) (i : ℕ) → length ts ≤ i → mk (tier_at ts i).Q ≡ natℚ 0
no_load ts i h = ap (λ t. mk t.Q) (get_or-eq_default ts no_tier h) ∙ mk_int (pos 0)

pub deck : (Ds : List Frac) → shifts Ds 0 ≡ natℚ 0
unfolding shift
deck Ds = mk_int (pos 0)

pub no_shift : (Ds : List Frac) (i : ℕ) → length Ds < i → shifts Ds i ≡ natℚ 0
unfolding shift
no_shift Ds zero h = mk_int (pos 0)
no_shift Ds (suc i) h = ap mk (get_or-eq_default Ds (nat 0) (omega arith)) ∙ mk_int (pos 0)

-- what Stiff says of the chain
pub spring_pos : (ts : List Tier) (ls : List Lash) → Stiff ts ls → (i : ℕ) → i < length ts → natℚ 0 <ℚ springs ts i
spring_pos ts ls s i h = subst (λ z. z <ℚ springs ts i) (mk_int (pos 0)) (of-⊏ (nat 0) (tier_at ts i).K (s.springs i h))

pub spring_nn : (ts : List Tier) (ls : List Lash) → Stiff ts ls → (i : ℕ) → natℚ 0 ≤ℚ springs ts i
spring_nn ts ls s i = go (dec_le (suc i) (length ts))
  where
    go : Dec (suc i ≤ length ts) → natℚ 0 ≤ℚ springs ts i
    go (yes h) = <→≤ (spring_pos ts ls s i h)
    go (no h) = subst (λ z. natℚ 0 ≤ℚ z) (sym (no_spring ts i (omega arith))) (nn_int 0)

pub lashes_nn : (ts : List Tier) (ls : List Lash) → Stiff ts ls → (i : ℕ) → natℚ 0 ≤ℚ lashes ls i
lashes_nn ts ls s i =
    lashes_on_nn ls
    (λ j h. <→≤ (subst (λ z. z <ℚ mk (lash_at ls j).stiffness) (mk_int (pos 0)) (of-⊏ (nat 0) (lash_at ls j).stiffness (s.lashes j h))))
    (suc i)

-- the equations
module _ (ts : List Tier) (ls : List Lash) (Ds : List Frac) where
  abbrev K : ℕ → ℚ
  K = springs ts

  abbrev D : ℕ → ℚ
  D = shifts Ds

  abbrev Q : ℕ → ℚ
  Q i = mk (tier_at ts i).Q

  -- at the tier that would stand on the uppermost level all is 0
  top : length Ds ≡ length ts → force K D (length ts) ≡ Q (length ts) -ℚ lashes_from D ls (suc (length ts))
  top e =
      ap (λ z. z *ℚ (D (suc (length ts)) -ℚ D (length ts))) (no_spring ts (length ts) (omega arith))
      ∙ go (D (suc (length ts)) -ℚ D (length ts))
      ∙ sym (ap₂ ◌-ℚ◌ (no_load ts (length ts) (omega arith)) (lashes_from_top D (length ts) (λ i h. no_shift Ds i (omega arith)) ls))
    where
      go : (x : ℚ) → natℚ 0 *ℚ x ≡ natℚ 0 -ℚ natℚ 0
      go = ∀₁ ℚR _ λ ρ. simp qq (by_ring tt)

  module _ (s : Solves ts ls Ds) where
    tier : (i : ℕ) → i ≤ length ts → force K D i ≡ Q i -ℚ lashes_from D ls (suc i)
    tier i h = go (dec_le (suc i) (length ts))
      where
        go : Dec (suc i ≤ length ts) → force K D i ≡ Q i -ℚ lashes_from D ls (suc i)
        go (yes l) =
            sym (mk_racking ts Ds i)
            ∙ of-≈ (racking ts Ds i) ((tier_at ts i).Q -q athwart_from ls Ds (suc i)) (s.balance i l)
            ∙ mk_sub (tier_at ts i).Q (athwart_from ls Ds (suc i))
            ∙ ap (λ z. Q i -ℚ z) (mk_athwart ls Ds (suc i))
        go (no l) = subst (λ j. force K D j ≡ Q j -ℚ lashes_from D ls (suc j)) {x = length ts} {y = i} (omega arith) (top s.levels)

    pub balance : (i : ℕ) → i < length ts → load K (lashes ls) D i ≡ loads ts i
    balance i h =
        go (force K D i) (force K D (suc i)) (lashes ls i) (D (suc i)) (Q i) (Q (suc i)) (lashes_from D ls (suc i))
        (lashes_from D ls (suc (suc i))) (tier i (omega arith)) (tier (suc i) (omega arith)) (lashes_from_step D ls (suc i))
      where
        go : (f F k d q Q a b : ℚ) → f ≡ q -ℚ a → F ≡ Q -ℚ b → a ≡ k *ℚ d +ℚ b → f -ℚ F +ℚ k *ℚ d ≡ q -ℚ Q
        go = ∀₈ ℚR _ λ ρ. simp qq λ a b c. by_eqs (mul_eq (kp 1) a ⊹ mul_eq (kn 0) b ⊹ mul_eq (kn 0) c) tt

  -- and back
  module _ (e : length Ds ≡ length ts) (b : (i : ℕ) → i < length ts → load K (lashes ls) D i ≡ loads ts i) where
    tier_of : (i m : ℕ) → i + m ≡ length ts → force K D i ≡ Q i -ℚ lashes_from D ls (suc i)
    tier_of i zero h = subst (λ j. force K D j ≡ Q j -ℚ lashes_from D ls (suc j)) {x = length ts} {y = i} (omega arith) (top e)
    tier_of i (suc m) h =
        go (force K D i) (force K D (suc i)) (lashes ls i) (D (suc i)) (Q i) (Q (suc i)) (lashes_from D ls (suc i))
        (lashes_from D ls (suc (suc i))) (b i (omega arith)) (tier_of (suc i) m (omega arith)) (lashes_from_step D ls (suc i))
      where
        go : (f F k d q Q a b : ℚ) → f -ℚ F +ℚ k *ℚ d ≡ q -ℚ Q → F ≡ Q -ℚ b → a ≡ k *ℚ d +ℚ b → f ≡ q -ℚ a
        go = ∀₈ ℚR _ λ ρ. simp qq λ a b c. by_eqs (mul_eq (kp 1) a ⊹ mul_eq (kp 1) b ⊹ mul_eq (kp 1) c) tt

    pub solves : Solves ts ls Ds
    solves = record {
      levels = e;
      balance =
          λ i h.
          to-≈ (racking ts Ds i) ((tier_at ts i).Q -q athwart_from ls Ds (suc i))
          (mk_racking ts Ds i
          ∙ tier_of i (length ts - i) (omega arith)
          ∙ sym (mk_sub (tier_at ts i).Q (athwart_from ls Ds (suc i)) ∙ ap (λ z. Q i -ℚ z) (mk_athwart ls Ds (suc i))));
    }
