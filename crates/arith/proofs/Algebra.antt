-- How to prove with the algebra: a page for its users, with a proved example of each kind.
--
-- A statement over ℤ or ℚ takes its variables first, then its hypotheses, and is proved in three moves:
--
--     law = ∀₃ ℤR _ λ ρ. simp zq λ h l. CLOSER
--
-- `∀₃` (to ∀₁₂, ∀₁₄, ∀₁₆) names the variables v 0, v 1, v 2, in their order. `simp zq` reads the statement: sums, differences, products,
-- negations and whole numbers, joined by ≡ or ≼. Over ℚ it is ℚR, `simp qq`, ≤ℚ and `int (pos 3)`; over a ring R that is a variable, R and
-- `simp gq`. `λ h l.` takes the hypotheses. A quotient or an absolute value in a statement becomes a variable with what is known of it as
-- hypotheses.
--
-- Closers, each with a last argument `tt`, for which antt computes that nothing is left over:
--     by-ring tt       an identity
--     by-cert c tt     an inequality a ≤ b: b - a is c and a number not below 0
--     part n c tt      the same for n + 1 times the goal;    over m h c tt   for m times the goal, h : ¬ (m ≤ 0)
--     contra c tt      ⊥, from a c that is a number below 0
--     by-eqs z tt      an equation from equations;           over-eq m h z tt   for m times the goal
--     both h l         an equation from two inequalities
-- A certificate c is not below 0. It is joined by ⊞ (plus) and ⊠ (times) from
--     to h             h : a ≤ b gives b - a
--     times m e        e : a ≡ b gives m * (a - b), for any expression m
--     sq e             e * e;      num n   the number n
-- and z is joined by ⊹ from `mul_eq m e`, which is m * (a - b) too. Expressions: v 0, kp 3 (3), kn 3 (-4), ⊕, ⊖, ⊗ and ⊖ v 0.
-- To find c: write b - a as a sum of products of what is not below 0. Where `tt` is refused (⊥ against Unit), `look c ?` in place of
-- `by_cert c tt`, checked with --allow-holes, prints what is left: `negsuc 0 · (1 ∷ 2 ∷ [])` is - v 1 * v 2.
--
-- A linear statement over ℤ, absolute values too, needs no certificate: `all₃ _ λ p n q m r s. simp zs (omega arith)`, two naturals a
-- variable.
-- A statement in fractions (specs/Fractions) is proved in ℚ: `to-≈`, `to-⊑`, `to-⊏` ask for it there, `of-≈`, `of-⊑`, `of-⊏` bring
-- hypotheses along, and `simp toℚ` takes `mk` through sums, products, quotients, sizes and sums over lists.
use mathlib.Core.Path.{◌≡◌}
use native.Mathlib.Omega.{arith}
use lib.IntN.{ℤ, pos, ◌+ℤ◌, ◌-ℤ◌, ◌*ℤ◌}
use Rattle.arith.specs.Fractions.{Frac, nat, ◌≈◌, ◌⊑◌, ◌+q◌, ◌*q◌, ◌/q◌}
use Rattle.arith.proofs.Polynomials.{v, ◌⊖◌, ⊖◌}
use Rattle.arith.proofs.Rings.{ORing, ∀₂, ∀₃, ∀₄, ∀₈, by_ring, by_cert, by_eqs, part, over, to, sq, mul_eq, gq, ◌⊞◌, ◌⊠◌, ◌⊹◌}
use Rattle.arith.proofs.Integers.{ℤR, ◌≼◌}
use Rattle.arith.proofs.IntegerTerms.{zq}
use Rattle.arith.proofs.IntegerOrder.{abs}
use Rattle.arith.proofs.IntegerOmega.{all₃, zs}
use Rattle.arith.proofs.Rationals.{ℚR, ℚ, mk, int, recipℚ, recip_times, ◌+ℚ◌, ◌-ℚ◌, ◌*ℚ◌, ◌/ℚ◌, ◌≤ℚ◌, absℚ, negℚ, of-⊑, to-⊑}
use Rattle.arith.proofs.RationalTerms.{qq}
use Rattle.arith.proofs.RationalOrder.{above_0}
use Rattle.arith.proofs.Signs.{ge_q, ge_neg_q, absℚ_le}
use Rattle.arith.proofs.FractionsInRationals.{to-≈, toℚ}

-- an identity
pub square_of_sum : (a b : ℤ) → (a +ℤ b) *ℤ (a +ℤ b) ≡ a *ℤ a +ℤ pos 2 *ℤ a *ℤ b +ℤ b *ℤ b
square_of_sum = ∀₂ ℤR _ λ ρ. simp zq (by_ring tt)

-- the same in any ordered ring
pub square_of_difference :
    (R : ORing) (a b : R.C) →
    R.times (R.plus a (R.minus b)) (R.plus a (R.minus b)) ≡
    R.plus (R.plus (R.times a a) (R.minus (R.times (R.int (pos 2)) (R.times a b)))) (R.times b b)
square_of_difference R = ∀₂ R _ λ ρ. simp gq (by_ring tt)

-- an inequality: 4 a b is below the square of a + b by the square of a - b
pub four_products : (a b : ℚ) → int (pos 4) *ℚ (a *ℚ b) ≤ℚ (a +ℚ b) *ℚ (a +ℚ b)
four_products = ∀₂ ℚR _ λ ρ. simp qq (by_cert (sq (v 0 ⊖ v 1)) tt)

-- from hypotheses: products of what is not below 0
pub grows : (a b c : ℚ) → int (pos 0) ≤ℚ c → a ≤ℚ b → c *ℚ a ≤ℚ c *ℚ b
grows = ∀₃ ℚR _ λ ρ. simp qq λ h l. by_cert (to h ⊠ to l) tt

-- the goal twice: half and half
pub halves : (a b c : ℚ) → int (pos 2) *ℚ a ≤ℚ c → int (pos 2) *ℚ b ≤ℚ c → a +ℚ b ≤ℚ c
halves = ∀₃ ℚR _ λ ρ. simp qq λ h l. part 1 (to h ⊞ to l) tt

-- the goal times a factor above 0
pub cancel_factor : (m a b : ℚ) → ¬ (m ≤ℚ int (pos 0)) → m *ℚ a ≤ℚ m *ℚ b → a ≤ℚ b
cancel_factor = ∀₃ ℚR _ λ ρ. simp qq λ h l. over (v 0) h (to l) tt

-- an equation from equations: p = a r, where p d = a and d r = 1
pub solved : (p a d r : ℚ) → p *ℚ d ≡ a → d *ℚ r ≡ int (pos 1) → p ≡ a *ℚ r
solved = ∀₄ ℚR _ λ ρ. simp qq λ e f. by_eqs (mul_eq (v 3) e ⊹ mul_eq (⊖ v 0) f) tt

-- a division: its reciprocal is a variable
pub half_and_half : (p : ℚ) → p /ℚ int (pos 2) +ℚ p /ℚ int (pos 2) ≡ p
half_and_half p = go p (recipℚ (int (pos 2))) (recip_times (int (pos 2)) (above_0 2 (omega arith)))
  where
    go : (p r : ℚ) → int (pos 2) *ℚ r ≡ int (pos 1) → p *ℚ r +ℚ p *ℚ r ≡ p
    go = ∀₂ ℚR _ λ ρ. simp qq λ e. by_eqs (mul_eq (v 0) e) tt

-- a linear statement on ℤ with absolute values, by omega
pub triangle : (x y z : ℤ) → abs (x -ℤ z) ≼ abs (x -ℤ y) +ℤ abs (y -ℤ z)
triangle = all₃ _ λ p n q m r s. simp zs (omega arith)

-- over ℚ an absolute value is a variable (x, y) of which `ge_q` and `ge_neg_q` are known: two errors add up
pub errors_add : (p a q b e f : ℚ) → absℚ (p -ℚ a) ≤ℚ e → absℚ (q -ℚ b) ≤ℚ f → absℚ (p +ℚ q -ℚ (a +ℚ b)) ≤ℚ e +ℚ f
errors_add p a q b e f h l =
    absℚ_le (p +ℚ q -ℚ (a +ℚ b)) (e +ℚ f)
    (up p a q b e f (absℚ (p -ℚ a)) (absℚ (q -ℚ b)) (ge_q (p -ℚ a)) (ge_q (q -ℚ b)) h l)
    (down p a q b e f (absℚ (p -ℚ a)) (absℚ (q -ℚ b)) (ge_neg_q (p -ℚ a)) (ge_neg_q (q -ℚ b)) h l)
  where
    up : (p a q b e f x y : ℚ) → p -ℚ a ≤ℚ x → q -ℚ b ≤ℚ y → x ≤ℚ e → y ≤ℚ f → p +ℚ q -ℚ (a +ℚ b) ≤ℚ e +ℚ f
    up = ∀₈ ℚR _ λ ρ. simp qq λ s t h l. by_cert (to s ⊞ to t ⊞ to h ⊞ to l) tt

    down :
        (p a q b e f x y : ℚ) →
        negℚ (p -ℚ a) ≤ℚ x →
        negℚ (q -ℚ b) ≤ℚ y →
        x ≤ℚ e →
        y ≤ℚ f →
        negℚ (p +ℚ q -ℚ (a +ℚ b)) ≤ℚ e +ℚ f
    down = ∀₈ ℚR _ λ ρ. simp qq λ s t h l. by_cert (to s ⊞ to t ⊞ to h ⊞ to l) tt

-- statements in fractions, through ℚ
pub half_and_half_q : (x : Frac) → x /q nat 2 +q x /q nat 2 ≈ x
half_and_half_q x = to-≈ (x /q nat 2 +q x /q nat 2) x (simp toℚ (half_and_half (mk x)))

pub doubled : (x y : Frac) → x ⊑ y → nat 2 *q x ⊑ x +q y
doubled x y h = to-⊑ (nat 2 *q x) (x +q y) (simp toℚ (go (mk x) (mk y) (of-⊑ x y h)))
  where
    go : (p q : ℚ) → p ≤ℚ q → int (pos 2) *ℚ p ≤ℚ p +ℚ q
    go = ∀₂ ℚR _ λ ρ. simp qq λ h. by_cert (to h) tt
