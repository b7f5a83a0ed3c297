-- A chain of springs over ℚ: under any shifts of its levels, what its lashes hold and the force of each spring are at most the sum of the
-- loads' sizes.
use mathlib.Core.Path.{◌≡◌, refl, sym, ap, ap₂, subst, ◌∙◌}
use mathlib.Core.Logic.{◌⊎◌, inl, inr}
use mathlib.Core.Bool.{Bool, true, false, not}
use Prim.Native.Nat.{ℕ, zero, suc, ◌+◌, ◌<◌, ◌≤◌}
use native.Mathlib.Nat.{zero-add, add-suc, suc-add}
use native.Mathlib.Omega.{arith}
use native.Mathlib.Decide.{dec_le}
use lib.Dec.{T}
use lib.IntN.{pos}
use Rattle.arith.specs.Lists.{from, below}
use Rattle.arith.proofs.Polynomials.{v, kp}
use Rattle.arith.proofs.Rings.{∀₁, ∀₂, ∀₃, ∀₆, ∀₇, ∀₈, ∀₉, ∀₁₁, by_ring, by_cert, to, times, num, ◌⊞◌, ◌⊠◌}
use Rattle.arith.proofs.Rationals.{ℚR, ℚ, int, ◌+ℚ◌, ◌-ℚ◌, ◌*ℚ◌, negℚ, ◌≤ℚ◌, leℚ, flip, absℚ, plus_zero, plus_assoc, nn_int, nn_plus}
use Rattle.arith.proofs.RationalTerms.{qq}
use Rattle.arith.proofs.Signs.{absℚ_le, sgq, nn_q, ge_q, ge_neg_q, hit_q, low_q}
use Rattle.arith.proofs.RationalOrder.{≤ℚ-trans}
use Rattle.arith.proofs.FractionsInRationals.{sumℚ}
use Rattle.arith.proofs.Sums.{sumℚ_nn}

-- a whole number
abbrev pub natℚ : ℕ → ℚ
natℚ n = int (pos n)

pub total : (p q : ℚ) → (p ≤ℚ q) ⊎ (q ≤ℚ p)
total p q = go (leℚ p q) refl
  where
    go : (c : Bool) → leℚ p q ≡ c → (p ≤ℚ q) ⊎ (q ≤ℚ p)
    go true e = inl (record { le = subst T (sym e) tt })
    go false e = inr (flip p q (subst (λ b. T (not b)) (sym e) tt))

-- the springs K, of the tier between levels i and i + 1; the stiffness k of the lashes at level i + 1; the shift e of level i
abbrev pub force : (K e : ℕ → ℚ) → ℕ → ℚ
force K e i = K i *ℚ (e (suc i) -ℚ e i)

-- the load under which level i + 1 is in balance
abbrev pub load : (K k e : ℕ → ℚ) → ℕ → ℚ
load K k e i = force K e i -ℚ force K e (suc i) +ℚ k i *ℚ e (suc i)

-- loads add up as shifts do
pub load_minus : (K k e f : ℕ → ℚ) (i : ℕ) → load K k (λ j. e j -ℚ f j) i ≡ load K k e i -ℚ load K k f i
load_minus K k e f i = go (K i) (K (suc i)) (k i) (e i) (e (suc i)) (e (suc (suc i))) (f i) (f (suc i)) (f (suc (suc i)))
  where
    go :
        (K L k a b c x y z : ℚ) →
        K *ℚ ((b -ℚ y) -ℚ (a -ℚ x)) -ℚ L *ℚ ((c -ℚ z) -ℚ (b -ℚ y)) +ℚ k *ℚ (b -ℚ y)
        ≡ (K *ℚ (b -ℚ a) -ℚ L *ℚ (c -ℚ b) +ℚ k *ℚ b) -ℚ (K *ℚ (y -ℚ x) -ℚ L *ℚ (z -ℚ y) +ℚ k *ℚ y)
    go = ∀₉ ℚR _ λ ρ. simp qq (by_ring tt)

-- the sum of f at each number under i
abbrev sum_below : (ℕ → ℚ) → ℕ → ℚ
sum_below f zero = natℚ 0
sum_below f (suc i) = sum_below f i +ℚ f i

sum_below_nn : (f : ℕ → ℚ) → ((i : ℕ) → natℚ 0 ≤ℚ f i) → (i : ℕ) → natℚ 0 ≤ℚ sum_below f i
sum_below_nn f h zero = nn_int 0
sum_below_nn f h (suc i) = nn_plus (sum_below f i) (f i) (sum_below_nn f h i) (h i)

sum_below_rest : (f : ℕ → ℚ) (i m : ℕ) → sum_below f i +ℚ sumℚ f (from i m) ≡ sumℚ f (below (i + m))
unfolding sumℚ from
sum_below_rest f zero m = plus_zero (sumℚ f (below m)) ∙ ap (λ n. sumℚ f (below n)) (sym (zero-add m))
sum_below_rest f (suc i) m =
    plus_assoc (sum_below f i) (f i) (sumℚ f (from (suc i) m))
    ∙ sum_below_rest f i (suc m)
    ∙ ap (λ n. sumℚ f (below n)) (add-suc i m ∙ sym (suc-add i m))

-- the same shifts up to level n need the same loads, where no tier stands on it
pub load_same :
    (K k d e : ℕ → ℚ) (n : ℕ) →
    K n ≡ natℚ 0 →
    ((i : ℕ) → i ≤ n → d i ≡ e i) →
    (i : ℕ) →
    i < n →
    load K k d i ≡ load K k e i
load_same K k d e n top h i l =
    ap₂ (λ f x. f +ℚ k i *ℚ x) (ap₂ ◌-ℚ◌ (ap₂ (λ x y. K i *ℚ (x -ℚ y)) (h (suc i) l) (h i (omega arith))) (over (dec_le (suc (suc i)) n)))
    (h (suc i) l)
  where
    none : (x y : ℚ) → natℚ 0 *ℚ x ≡ natℚ 0 *ℚ y
    none = ∀₂ ℚR _ λ ρ. simp qq (by_ring tt)

    over : Dec (suc (suc i) ≤ n) → force K d (suc i) ≡ force K e (suc i)
    over (yes b) = ap₂ (λ x y. K (suc i) *ℚ (x -ℚ y)) (h (suc (suc i)) b) (h (suc i) l)
    over (no b) =
        let z : K (suc i) ≡ natℚ 0 = ap K {x = suc i} {y = n} (omega arith) ∙ top in
        ap (λ x. x *ℚ (d (suc (suc i)) -ℚ d (suc i))) z
        ∙ none (d (suc (suc i)) -ℚ d (suc i)) (e (suc (suc i)) -ℚ e (suc i))
        ∙ sym (ap (λ x. x *ℚ (e (suc (suc i)) -ℚ e (suc i))) z)

-- a spring of no stiffness
no_stiffness : (s d : ℚ) → s *ℚ (natℚ 0 *ℚ d) ≡ natℚ 0
no_stiffness = ∀₂ ℚR _ λ ρ. simp qq (by_ring tt)

-- n levels, no tier over the uppermost. Both bounds go by induction over the levels, with the sign of each shift: a spring between two
-- levels pulls with the sign of their difference, so that it can only help
module _ (K k e : ℕ → ℚ) (n : ℕ) (stiff : (i : ℕ) → natℚ 0 ≤ℚ K i) (held : (i : ℕ) → natℚ 0 ≤ℚ k i) (top : K n ≡ natℚ 0) where
  abbrev size : ℕ → ℚ
  size i = absℚ (load K k e i)

  size_nn : (i : ℕ) → natℚ 0 ≤ℚ size i
  size_nn i = nn_q (load K k e i)

  abbrev sizes : ℕ → ℕ → ℚ
  sizes i m = sumℚ size (from i m)

  abbrev holds : ℕ → ℕ → ℚ
  holds i m = sumℚ (λ j. k j *ℚ absℚ (e (suc j))) (from i m)

  top_force : (i : ℕ) → i + 0 ≡ n → (s : ℚ) → s *ℚ force K e i ≡ natℚ 0
  top_force i h s = ap (λ z. s *ℚ (z *ℚ (e (suc i) -ℚ e i))) (ap K {x = i} {y = n} (omega arith) ∙ top) ∙ no_stiffness s (e (suc i) -ℚ e i)

  -- s may be any sign of the shift e i, so that it can be 0 at 0
  bound :
      (i m : ℕ) →
      i + m ≡ n →
      (s : ℚ) →
      s *ℚ e i ≡ absℚ (e i) →
      ((x : ℚ) → s *ℚ x ≤ℚ absℚ x) →
      holds i m ≤ℚ sizes i m -ℚ s *ℚ force K e i
  unfolding sumℚ from
  bound i zero h s a b = subst (λ z. natℚ 0 ≤ℚ natℚ 0 -ℚ z) (sym (top_force i h s)) none
    where
      none : natℚ 0 ≤ℚ natℚ 0 -ℚ natℚ 0
      none = simp qq (nn_int 0)
  bound i (suc m) h s a b =
      step (K i) (k i) (e (suc i)) (e i) (force K e (suc i)) (absℚ (e (suc i))) (size i) (sgq (e (suc i))) s (holds (suc i) m)
      (sizes (suc i) m) (stiff i) (hit_q (e (suc i))) (low_q (e (suc i)) (load K k e i))
      (grow (e (suc i)) (e i) (sgq (e (suc i))) s (absℚ (e (suc i))) (absℚ (e i)) (hit_q (e (suc i))) a (low_q (e (suc i)) (e i))
      (b (e (suc i))))
      (bound (suc i) m (omega arith) (sgq (e (suc i))) (hit_q (e (suc i))) (low_q (e (suc i))))
    where
      grow :
          (e p s t a b : ℚ) →
          s *ℚ e ≡ a →
          t *ℚ p ≡ b →
          s *ℚ p ≤ℚ b →
          t *ℚ e ≤ℚ a →
          natℚ 0 ≤ℚ (s -ℚ t) *ℚ (e -ℚ p)
      grow = ∀₆ ℚR _ λ ρ. simp qq λ x y h l. by_cert (to h ⊞ to l ⊞ times (kp 1) x ⊞ times (kp 1) y) tt

      step :
          (K k e p F ae ag se sp H G : ℚ) →
          natℚ 0 ≤ℚ K →
          se *ℚ e ≡ ae →
          se *ℚ (K *ℚ (e -ℚ p) -ℚ F +ℚ k *ℚ e) ≤ℚ ag →
          natℚ 0 ≤ℚ (se -ℚ sp) *ℚ (e -ℚ p) →
          H ≤ℚ G -ℚ se *ℚ F →
          k *ℚ ae +ℚ H ≤ℚ ag +ℚ G -ℚ sp *ℚ (K *ℚ (e -ℚ p))
      step = ∀₁₁ ℚR _ λ ρ. simp qq λ pK sa sl gr ih. by_cert (to ih ⊞ to sl ⊞ to pK ⊠ to gr ⊞ times (v 1) sa) tt

  -- with the deck at rest, the lashes hold no more than the loads
  pub held_by_loads : e 0 ≡ natℚ 0 → holds 0 n ≤ℚ sizes 0 n
  held_by_loads z = rest (holds 0 n) (sizes 0 n) (force K e 0) (bound 0 n (zero-add n) (natℚ 0) (none z) (λ x. nought x (absℚ x) (nn_q x)))
    where
      rest : (h g f : ℚ) → h ≤ℚ g -ℚ natℚ 0 *ℚ f → h ≤ℚ g
      rest = ∀₃ ℚR _ λ ρ. simp qq λ l. by_cert (to l) tt

      nought : (x a : ℚ) → natℚ 0 ≤ℚ a → natℚ 0 *ℚ x ≤ℚ a
      nought = ∀₂ ℚR _ λ ρ. simp qq λ h. by_cert (to h) tt

      zeros : (x y : ℚ) → natℚ 0 *ℚ x ≡ y *ℚ natℚ 0
      zeros = ∀₂ ℚR _ λ ρ. simp qq (by_ring tt)

      none : e 0 ≡ natℚ 0 → natℚ 0 *ℚ e 0 ≡ absℚ (e 0)
      none z = zeros (e 0) (sgq (e 0)) ∙ ap (λ x. sgq (e 0) *ℚ x) (sym z) ∙ hit_q (e 0)

  -- s is 1 or -1
  module _ (s : ℚ) (low : (x : ℚ) → s *ℚ x ≤ℚ absℚ x) where
    sizes_nn : (i m : ℕ) → natℚ 0 ≤ℚ sizes i m
    sizes_nn i m = sumℚ_nn size size_nn (from i m)

    abbrev under : ℕ → ℚ
    under i = sum_below size i

    further : (i : ℕ) → natℚ 0 ≤ℚ s *ℚ e (suc i) → s *ℚ e i ≤ℚ s *ℚ e (suc i) → negℚ (s *ℚ force K e (suc i)) ≤ℚ under (suc i)
    further i l b =
        back s (K i) (force K e (suc i)) (k i) (e (suc i)) (e i) (size i) (under i) (low (load K k e i)) (stiff i) b (held i) l
        (sum_below_nn size size_nn i)
      where
        back :
            (s K F k d e g G : ℚ) →
            s *ℚ (K *ℚ (d -ℚ e) -ℚ F +ℚ k *ℚ d) ≤ℚ g →
            natℚ 0 ≤ℚ K →
            s *ℚ e ≤ℚ s *ℚ d →
            natℚ 0 ≤ℚ k →
            natℚ 0 ≤ℚ s *ℚ d →
            natℚ 0 ≤ℚ G →
            negℚ (s *ℚ F) ≤ℚ G +ℚ g
        back = ∀₈ ℚR _ λ ρ. simp qq λ h a b c d g. by_cert (to h ⊞ to a ⊠ to b ⊞ to c ⊠ to d ⊞ to g) tt

    -- a spring over a level that is to leeward pulls to leeward by no more than the loads over it
    pull_up : (i m : ℕ) → i + m ≡ n → natℚ 0 ≤ℚ s *ℚ e i → s *ℚ force K e i ≤ℚ sizes i m
    unfolding sumℚ from
    pull_up i zero h l = subst (λ z. z ≤ℚ natℚ 0) (sym (top_force i h s)) (nn_int 0)
    pull_up i (suc m) h l = go (pull_up (suc i) m (omega arith)) (total (s *ℚ e (suc i)) (s *ℚ e i))
      where
        back :
            (s K d e g G : ℚ) →
            natℚ 0 ≤ℚ K →
            s *ℚ d ≤ℚ s *ℚ e →
            natℚ 0 ≤ℚ g →
            natℚ 0 ≤ℚ G →
            s *ℚ (K *ℚ (d -ℚ e)) ≤ℚ g +ℚ G
        back = ∀₆ ℚR _ λ ρ. simp qq λ a b c d. by_cert (to a ⊠ to b ⊞ to c ⊞ to d) tt

        onward :
            (s f F k d g G : ℚ) →
            s *ℚ (f -ℚ F +ℚ k *ℚ d) ≤ℚ g →
            s *ℚ F ≤ℚ G →
            natℚ 0 ≤ℚ k →
            natℚ 0 ≤ℚ s *ℚ d →
            s *ℚ f ≤ℚ g +ℚ G
        onward = ∀₇ ℚR _ λ ρ. simp qq λ a b c d. by_cert (to a ⊞ to b ⊞ to c ⊠ to d) tt

        go :
            (natℚ 0 ≤ℚ s *ℚ e (suc i) → s *ℚ force K e (suc i) ≤ℚ sizes (suc i) m) →
            (s *ℚ e (suc i) ≤ℚ s *ℚ e i) ⊎ (s *ℚ e i ≤ℚ s *ℚ e (suc i)) →
            s *ℚ force K e i ≤ℚ sizes i (suc m)
        go ih (inl b) = back s (K i) (e (suc i)) (e i) (size i) (sizes (suc i) m) (stiff i) b (size_nn i) (sizes_nn (suc i) m)
        go ih (inr b) =
            let over = ≤ℚ-trans (natℚ 0) (s *ℚ e i) (s *ℚ e (suc i)) l b in
            onward s (force K e i) (force K e (suc i)) (k i) (e (suc i)) (size i) (sizes (suc i) m) (low (load K k e i)) (ih over)
            (held i) over

    -- and pulls to windward by no more than the loads under it
    pull_down : e 0 ≡ natℚ 0 → (i : ℕ) → natℚ 0 ≤ℚ s *ℚ e (suc i) → negℚ (s *ℚ force K e (suc i)) ≤ℚ under (suc i)
    pull_down z zero l = further 0 l (subst (λ x. s *ℚ x ≤ℚ s *ℚ e 1) (sym z) (rest s (s *ℚ e 1) l))
      where
        rest : (s x : ℚ) → natℚ 0 ≤ℚ x → s *ℚ natℚ 0 ≤ℚ x
        rest = ∀₂ ℚR _ λ ρ. simp qq λ h. by_cert (to h) tt
    pull_down z (suc i) l = go (pull_down z i) (total (s *ℚ e (suc i)) (s *ℚ e (suc (suc i))))
      where
        onward :
            (s f F k d g G : ℚ) →
            s *ℚ (f -ℚ F +ℚ k *ℚ d) ≤ℚ g →
            negℚ (s *ℚ f) ≤ℚ G →
            natℚ 0 ≤ℚ k →
            natℚ 0 ≤ℚ s *ℚ d →
            negℚ (s *ℚ F) ≤ℚ G +ℚ g
        onward = ∀₇ ℚR _ λ ρ. simp qq λ a b c d. by_cert (to a ⊞ to b ⊞ to c ⊠ to d) tt

        go :
            (natℚ 0 ≤ℚ s *ℚ e (suc i) → negℚ (s *ℚ force K e (suc i)) ≤ℚ under (suc i)) →
            (s *ℚ e (suc i) ≤ℚ s *ℚ e (suc (suc i))) ⊎ (s *ℚ e (suc (suc i)) ≤ℚ s *ℚ e (suc i)) →
            negℚ (s *ℚ force K e (suc (suc i))) ≤ℚ under (suc (suc i))
        go ih (inl b) = further (suc i) l b
        go ih (inr b) =
            onward s (force K e (suc i)) (force K e (suc (suc i))) (k (suc i)) (e (suc (suc i))) (size (suc i)) (under (suc i))
            (low (load K k e (suc i))) (ih (≤ℚ-trans (natℚ 0) (s *ℚ e (suc (suc i))) (s *ℚ e (suc i)) l b)) (held (suc i)) l

  -- what is at most the loads under a level, or those over it, is at most all of them
  all_under : (i m : ℕ) → i + m ≡ n → (x : ℚ) → x ≤ℚ sum_below size i → x ≤ℚ sizes 0 n
  all_under i m h x l =
      subst (λ z. x ≤ℚ z) (sum_below_rest size i m ∙ ap (λ (j : ℕ). sizes 0 j) h)
      (go x (sum_below size i) (sizes i m) l (sumℚ_nn size size_nn (from i m)))
    where
      go : (x a b : ℚ) → x ≤ℚ a → natℚ 0 ≤ℚ b → x ≤ℚ a +ℚ b
      go = ∀₃ ℚR _ λ ρ. simp qq λ h l. by_cert (to h ⊞ to l) tt

  all_over : (i m : ℕ) → i + m ≡ n → (x : ℚ) → x ≤ℚ sizes i m → x ≤ℚ sizes 0 n
  all_over i m h x l =
      subst (λ z. x ≤ℚ z) (sum_below_rest size i m ∙ ap (λ (j : ℕ). sizes 0 j) h)
      (go x (sum_below size i) (sizes i m) l (sum_below_nn size size_nn i))
    where
      go : (x a b : ℚ) → x ≤ℚ b → natℚ 0 ≤ℚ a → x ≤ℚ a +ℚ b
      go = ∀₃ ℚR _ λ ρ. simp qq λ h l. by_cert (to h ⊞ to l) tt

  -- to either side: s is 1 or -1
  pull :
      e 0 ≡ natℚ 0 →
      (s : ℚ) →
      ((x : ℚ) → s *ℚ x ≤ℚ absℚ x) →
      ((x : ℚ) → negℚ s *ℚ x ≤ℚ absℚ x) →
      (i m : ℕ) →
      i + m ≡ n →
      s *ℚ force K e i ≤ℚ sizes 0 n
  pull z s low high zero m h = all_over 0 m h (s *ℚ force K e 0) (pull_up s low 0 m h (subst (λ x. natℚ 0 ≤ℚ s *ℚ x) (sym z) (rest s)))
    where
      rest : (s : ℚ) → natℚ 0 ≤ℚ s *ℚ natℚ 0
      rest = ∀₁ ℚR _ λ ρ. simp qq (by_cert (num 0) tt)
  pull z s low high (suc i) m h = go (total (natℚ 0) (s *ℚ e (suc i)))
    where
      turned : (s x : ℚ) → s *ℚ x ≤ℚ natℚ 0 → natℚ 0 ≤ℚ negℚ s *ℚ x
      turned = ∀₂ ℚR _ λ ρ. simp qq λ h. by_cert (to h) tt

      twice : (s x b : ℚ) → negℚ (negℚ s *ℚ x) ≤ℚ b → s *ℚ x ≤ℚ b
      twice = ∀₃ ℚR _ λ ρ. simp qq λ h. by_cert (to h) tt

      go : (natℚ 0 ≤ℚ s *ℚ e (suc i)) ⊎ (s *ℚ e (suc i) ≤ℚ natℚ 0) → s *ℚ force K e (suc i) ≤ℚ sizes 0 n
      go (inl l) = all_over (suc i) m h (s *ℚ force K e (suc i)) (pull_up s low (suc i) m h l)
      go (inr l) =
          all_under (suc i) m h (s *ℚ force K e (suc i))
          (twice s (force K e (suc i)) (sum_below size (suc i)) (pull_down (negℚ s) high z i (turned s (e (suc i)) l)))

  -- nor is any spring's force more
  pub forced_by_loads : e 0 ≡ natℚ 0 → (i m : ℕ) → i + m ≡ n → absℚ (force K e i) ≤ℚ sizes 0 n
  forced_by_loads z i m h =
      absℚ_le (force K e i) (sizes 0 n)
      (one (force K e i) (sizes 0 n) (pull z (natℚ 1) (λ x. plain x (absℚ x) (ge_q x)) (λ x. minus x (absℚ x) (ge_neg_q x)) i m h))
      (minus_one (force K e i) (sizes 0 n)
      (pull z (negℚ (natℚ 1)) (λ x. minus x (absℚ x) (ge_neg_q x)) (λ x. twice x (absℚ x) (ge_q x)) i m h))
    where
      plain : (x a : ℚ) → x ≤ℚ a → natℚ 1 *ℚ x ≤ℚ a
      plain = ∀₂ ℚR _ λ ρ. simp qq λ h. by_cert (to h) tt

      minus : (x a : ℚ) → negℚ x ≤ℚ a → negℚ (natℚ 1) *ℚ x ≤ℚ a
      minus = ∀₂ ℚR _ λ ρ. simp qq λ h. by_cert (to h) tt

      twice : (x a : ℚ) → x ≤ℚ a → negℚ (negℚ (natℚ 1)) *ℚ x ≤ℚ a
      twice = ∀₂ ℚR _ λ ρ. simp qq λ h. by_cert (to h) tt

      one : (x b : ℚ) → natℚ 1 *ℚ x ≤ℚ b → x ≤ℚ b
      one = ∀₂ ℚR _ λ ρ. simp qq λ h. by_cert (to h) tt

      minus_one : (x b : ℚ) → negℚ (natℚ 1) *ℚ x ≤ℚ b → negℚ x ≤ℚ b
      minus_one = ∀₂ ℚR _ λ ρ. simp qq λ h. by_cert (to h) tt
