-- The chain's equations over ℚ, by elimination from the top down: there is a solution; under loads not below 0 no shift is below 0; under
-- loads no smaller no shift is smaller.
use mathlib.Core.Path.{◌≡◌, refl, sym, ap, ap₂, subst, ◌∙◌}
use Prim.Native.Nat.{ℕ, zero, suc, ◌+◌, ◌-◌, ◌<◌}
use native.Mathlib.Omega.{arith}
use Rattle.arith.proofs.Polynomials.{v, ◌⊕◌, ◌⊖◌, ◌⊗◌, ⊖◌}
use Rattle.arith.proofs.Rings.{∀₂, ∀₅, ∀₇, ∀₈, by_ring, by_cert, by_eqs, to, mul_eq, ◌⊞◌, ◌⊹◌}
use Rattle.arith.proofs.Rationals.{ℚR, ℚ, ◌+ℚ◌, ◌-ℚ◌, ◌*ℚ◌, recipℚ, ◌≤ℚ◌, ◌<ℚ◌, recip_times, recip_nn, nn_int, nn_plus, nn_times, to_nn}
use Rattle.arith.proofs.Rationals.{of_nn}
use Rattle.arith.proofs.RationalTerms.{qq}
use Rattle.arith.proofs.RationalOrder.{lt_of, lt_not}
use Rattle.springs.proofs.Chain.{natℚ, force, load, load_minus}

-- p above 0, b not below it
above : (p b : ℚ) → natℚ 0 <ℚ p → natℚ 0 ≤ℚ b → natℚ 0 <ℚ p +ℚ b
above p b h l = lt_of (natℚ 0) (p +ℚ b) (λ m. lt_not h (less p b l m))
  where
    less : (p b : ℚ) → natℚ 0 ≤ℚ b → p +ℚ b ≤ℚ natℚ 0 → p ≤ℚ natℚ 0
    less = ∀₂ ℚR _ λ ρ. simp qq λ h l. by_cert (to h ⊞ to l) tt

-- springs K, lashes k and loads q as in Chain. What m tiers from tier i on, with the lashes over them, hand down to level i: stiffness and
-- load
module _ (K k q : ℕ → ℚ) where
  abbrev pub handed_stiffness_lem : ℕ → ℕ → ℚ
  handed_stiffness_lem i zero = natℚ 0
  handed_stiffness_lem i (suc m) = K i *ℚ (k i +ℚ handed_stiffness_lem (suc i) m) *ℚ recipℚ (K i +ℚ (k i +ℚ handed_stiffness_lem (suc i) m))

  abbrev pub handed_load_lem : ℕ → ℕ → ℚ
  handed_load_lem i zero = natℚ 0
  handed_load_lem i (suc m) = K i *ℚ (q i +ℚ handed_load_lem (suc i) m) *ℚ recipℚ (K i +ℚ (k i +ℚ handed_stiffness_lem (suc i) m))

  -- the shift of level i + 1, with m tiers over it, where level i has the shift p
  abbrev pub shift_over : ℕ → ℕ → ℚ → ℚ
  shift_over i m p = (q i +ℚ handed_load_lem (suc i) m +ℚ K i *ℚ p) *ℚ recipℚ (K i +ℚ (k i +ℚ handed_stiffness_lem (suc i) m))

  -- the shifts of n levels
  abbrev pub eliminated : ℕ → ℕ → ℚ
  eliminated n zero = natℚ 0
  eliminated n (suc i) = shift_over i (n - suc i) (eliminated n i)

  module _
      (n : ℕ)
      (stiff : (i : ℕ) → i < n → natℚ 0 <ℚ K i)
      (stiff-nn : (i : ℕ) → natℚ 0 ≤ℚ K i)
      (held : (i : ℕ) → natℚ 0 ≤ℚ k i)
      (top : K n ≡ natℚ 0)
    where
      handed_nn : (i m : ℕ) → natℚ 0 ≤ℚ handed_stiffness_lem i m
      handed_nn i zero = nn_int 0
      handed_nn i (suc m) =
          let b = k i +ℚ handed_stiffness_lem (suc i) m in
          nn_times (K i *ℚ b) (recipℚ (K i +ℚ b))
          (nn_times (K i) b (stiff-nn i) (nn_plus (k i) (handed_stiffness_lem (suc i) m) (held i) (handed_nn (suc i) m))) (recip_nn (K i +ℚ b))

      unit :
          (i m : ℕ) →
          i + suc m ≡ n →
          (K i +ℚ (k i +ℚ handed_stiffness_lem (suc i) m)) *ℚ recipℚ (K i +ℚ (k i +ℚ handed_stiffness_lem (suc i) m)) ≡ natℚ 1
      unit i m h =
          recip_times (K i +ℚ (k i +ℚ handed_stiffness_lem (suc i) m))
          (above (K i) (k i +ℚ handed_stiffness_lem (suc i) m) (stiff i (omega arith))
          (nn_plus (k i) (handed_stiffness_lem (suc i) m) (held i) (handed_nn (suc i) m)))

      top_force : (D : ℕ → ℚ) (i : ℕ) → i + 0 ≡ n → force K D i ≡ natℚ 0 -ℚ natℚ 0 *ℚ D i
      top_force D i h = ap (λ z. z *ℚ (D (suc i) -ℚ D i)) (ap K {x = i} {y = n} (omega arith) ∙ top) ∙ go (D (suc i)) (D i)
        where
          go : (a b : ℚ) → natℚ 0 *ℚ (a -ℚ b) ≡ natℚ 0 -ℚ natℚ 0 *ℚ b
          go = ∀₂ ℚR _ λ ρ. simp qq (by_ring tt)

      -- the spring over level i pulls by what is handed down
      shift_over_force :
          (i m : ℕ) →
          i + suc m ≡ n →
          (p : ℚ) →
          K i *ℚ (shift_over i m p -ℚ p) ≡ handed_load_lem i (suc m) -ℚ handed_stiffness_lem i (suc m) *ℚ p
      shift_over_force i m h p =
          go (K i) (k i +ℚ handed_stiffness_lem (suc i) m) (q i +ℚ handed_load_lem (suc i) m) p
          (recipℚ (K i +ℚ (k i +ℚ handed_stiffness_lem (suc i) m))) (unit i m h)
        where
          go : (K b a p r : ℚ) → (K +ℚ b) *ℚ r ≡ natℚ 1 → K *ℚ ((a +ℚ K *ℚ p) *ℚ r -ℚ p) ≡ K *ℚ a *ℚ r -ℚ K *ℚ b *ℚ r *ℚ p
          go = ∀₅ ℚR _ λ ρ. simp qq λ e. by_eqs (mul_eq (v 0 ⊗ v 3) e) tt

      -- a solution exists
      eliminated_is : (i m : ℕ) → i + suc m ≡ n → eliminated n (suc i) ≡ shift_over i m (eliminated n i)
      eliminated_is i m h = ap (λ (z : ℕ). shift_over i z (eliminated n i)) {x = n - suc i} {y = m} (omega arith)

      eliminated_force : (i m : ℕ) → i + m ≡ n → force K (eliminated n) i ≡ handed_load_lem i m -ℚ handed_stiffness_lem i m *ℚ eliminated n i
      eliminated_force i zero h = top_force (eliminated n) i h
      eliminated_force i (suc m) h = ap (λ z. K i *ℚ (z -ℚ eliminated n i)) (eliminated_is i m h) ∙ shift_over_force i m h (eliminated n i)

      pub eliminated_balance : (i m : ℕ) → i + suc m ≡ n → load K k (eliminated n) i ≡ q i
      eliminated_balance i m h =
          let d = eliminated n (suc i) in
          ap (λ z. K i *ℚ (d -ℚ eliminated n i) -ℚ z +ℚ k i *ℚ d) (eliminated_force (suc i) m (omega arith))
          ∙ ap (λ z. K i *ℚ (z -ℚ eliminated n i) -ℚ (handed_load_lem (suc i) m -ℚ handed_stiffness_lem (suc i) m *ℚ z) +ℚ k i *ℚ z)
          (eliminated_is i m h)
          ∙ go (K i) (k i) (handed_stiffness_lem (suc i) m) (q i) (handed_load_lem (suc i) m) (eliminated n i)
          (recipℚ (K i +ℚ (k i +ℚ handed_stiffness_lem (suc i) m))) (unit i m h)
        where
          go :
              (K k x q y p r : ℚ) →
              (K +ℚ (k +ℚ x)) *ℚ r ≡ natℚ 1 →
              K *ℚ ((q +ℚ y +ℚ K *ℚ p) *ℚ r -ℚ p) -ℚ (y -ℚ x *ℚ ((q +ℚ y +ℚ K *ℚ p) *ℚ r)) +ℚ k *ℚ
              ((q +ℚ y +ℚ K *ℚ p) *ℚ r) ≡
              q
          go = ∀₇ ℚR _ λ ρ. simp qq λ e. by_eqs (mul_eq (v 3 ⊕ v 4 ⊕ v 0 ⊗ v 5) e) tt

      -- a solution is the one that elimination gives
      module _ (D : ℕ → ℚ) (balance : (i : ℕ) → i < n → load K k D i ≡ q i) where
        shift_is :
            (i m : ℕ) →
            i + suc m ≡ n →
            force K D (suc i) ≡ handed_load_lem (suc i) m -ℚ handed_stiffness_lem (suc i) m *ℚ D (suc i) →
            D (suc i) ≡ shift_over i m (D i)
        shift_is i m h f =
            go (K i) (k i) (handed_stiffness_lem (suc i) m) (q i) (handed_load_lem (suc i) m) (D i) (D (suc i))
            (recipℚ (K i +ℚ (k i +ℚ handed_stiffness_lem (suc i) m))) (unit i m h)
            (ap (λ z. K i *ℚ (D (suc i) -ℚ D i) -ℚ z +ℚ k i *ℚ D (suc i)) (sym f) ∙ balance i (omega arith))
          where
            go :
                (K k x q y p D r : ℚ) →
                (K +ℚ (k +ℚ x)) *ℚ r ≡ natℚ 1 →
                K *ℚ (D -ℚ p) -ℚ (y -ℚ x *ℚ D) +ℚ k *ℚ D ≡ q →
                D ≡ (q +ℚ y +ℚ K *ℚ p) *ℚ r
            go = ∀₈ ℚR _ λ ρ. simp qq λ e f. by_eqs (mul_eq (⊖ v 6) e ⊹ mul_eq (v 7) f) tt

        handed : (i m : ℕ) → i + m ≡ n → force K D i ≡ handed_load_lem i m -ℚ handed_stiffness_lem i m *ℚ D i
        handed i zero h = top_force D i h
        handed i (suc m) h = ap (λ z. K i *ℚ (z -ℚ D i)) (shift_is i m h (handed (suc i) m (omega arith))) ∙ shift_over_force i m h (D i)

        -- loads not below 0
        module _ (loads-nn : (i : ℕ) → i < n → natℚ 0 ≤ℚ q i) (deck : D 0 ≡ natℚ 0) where
          handed_load_nn : (i m : ℕ) → i + m ≡ n → natℚ 0 ≤ℚ handed_load_lem i m
          handed_load_nn i zero h = nn_int 0
          handed_load_nn i (suc m) h =
              let a = q i +ℚ handed_load_lem (suc i) m in
              let r = recipℚ (K i +ℚ (k i +ℚ handed_stiffness_lem (suc i) m)) in
              nn_times (K i *ℚ a) r
              (nn_times (K i) a (stiff-nn i)
              (nn_plus (q i) (handed_load_lem (suc i) m) (loads-nn i (omega arith)) (handed_load_nn (suc i) m (omega arith))))
              (recip_nn (K i +ℚ (k i +ℚ handed_stiffness_lem (suc i) m)))

          shift_over_nn : (i m : ℕ) → i + suc m ≡ n → (p : ℚ) → natℚ 0 ≤ℚ p → natℚ 0 ≤ℚ shift_over i m p
          shift_over_nn i m h p l =
              nn_times (q i +ℚ handed_load_lem (suc i) m +ℚ K i *ℚ p) (recipℚ (K i +ℚ (k i +ℚ handed_stiffness_lem (suc i) m)))
              (nn_plus (q i +ℚ handed_load_lem (suc i) m) (K i *ℚ p)
              (nn_plus (q i) (handed_load_lem (suc i) m) (loads-nn i (omega arith)) (handed_load_nn (suc i) m (omega arith)))
              (nn_times (K i) p (stiff-nn i) l))
              (recip_nn (K i +ℚ (k i +ℚ handed_stiffness_lem (suc i) m)))

          pub not_windward : (i m : ℕ) → i + m ≡ n → natℚ 0 ≤ℚ D i
          not_windward zero m h = subst (λ z. natℚ 0 ≤ℚ z) (sym deck) (nn_int 0)
          not_windward (suc i) m h =
              subst (λ z. natℚ 0 ≤ℚ z) (sym (shift_is i m (omega arith) (handed (suc i) m h)))
              (shift_over_nn i m (omega arith) (D i) (not_windward i (suc m) (omega arith)))

-- one chain under two sets of loads
module _
    (K k p q : ℕ → ℚ)
    (n : ℕ)
    (stiff : (i : ℕ) → i < n → natℚ 0 <ℚ K i)
    (stiff-nn : (i : ℕ) → natℚ 0 ≤ℚ K i)
    (held : (i : ℕ) → natℚ 0 ≤ℚ k i)
    (top : K n ≡ natℚ 0)
  where
    pub grows :
        (D E : ℕ → ℚ) →
        ((i : ℕ) → i < n → load K k D i ≡ p i) →
        ((i : ℕ) → i < n → load K k E i ≡ q i) →
        ((i : ℕ) → i < n → p i ≤ℚ q i) →
        D 0 ≡ natℚ 0 →
        E 0 ≡ natℚ 0 →
        (i m : ℕ) →
        i + m ≡ n →
        D i ≤ℚ E i
    grows D E f g more d e i m h =
        of_nn (D i) (E i)
        (not_windward K k (λ j. q j -ℚ p j) n stiff stiff-nn held top (λ j. E j -ℚ D j)
        (λ j l. load_minus K k E D j ∙ ap₂ ◌-ℚ◌ (g j l) (f j l)) (λ j l. to_nn (p j) (q j) (more j l)) (ap₂ ◌-ℚ◌ e d ∙ none) i m h)
      where
        none : natℚ 0 -ℚ natℚ 0 ≡ natℚ 0
        none = simp qq refl
