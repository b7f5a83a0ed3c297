-- Fractions between zero and a whole number, and within a whole number of zero: through sums, quotients and choices.
use mathlib.Core.Path.{◌≡◌}
use mathlib.Core.Bool.{Bool, true, false, cond}
use Prim.Native.Nat.{ℕ, ◌+◌, ◌*◌, ◌≤◌, ◌<◌}
use native.Mathlib.Nat.{lt_of_not-le}
use lib.IntN.{pos}
use Rattle.arith.specs.Fractions.{Frac, nat, ◌+q◌, ◌-q◌, ◌*q◌, ◌/q◌, negq, absq}
use Rattle.arith.proofs.Polynomials.{v, kp, kn}
use Rattle.arith.proofs.Rings.{∀₂, ∀₃, ∀₄, by_cert, to, times, over, ◌⊞◌, ◌⊠◌}
use Rattle.arith.proofs.Rationals.{ℚR, ℚ, mk, int, ◌+ℚ◌, ◌-ℚ◌, ◌*ℚ◌, negℚ, absℚ, ◌≤ℚ◌, nn_int, nn_plus, nn_times}
use Rattle.arith.proofs.RationalTerms.{qq}
use Rattle.arith.proofs.RationalOrder.{≤ℚ-trans, nat_q, above_0, lt_not, div_le, le_div}
use Rattle.arith.proofs.Signs.{absℚ_le}
use Rattle.arith.proofs.FractionsInRationals.{mk_int, mk_add, mk_sub, mk_neg, mk_mul, mk_div, mk_abs, of-⊏}
use Rattle.springs.proofs.Chain.{natℚ}
use Rattle.statics.specs.Reported.{Reported}
use Rattle.statics.proofs.WholeNumbers.{nat_plus, nat_times}

-- not below 0 and at most b
pub record UpTo (b : ℕ) (x : Frac) : Type 0 where
  pub least : natℚ 0 ≤ℚ mk x
  pub most : mk x ≤ℚ natℚ b

-- at most b in size
pub record Within (b : ℕ) (x : Frac) : Type 0 where
  pub least : negℚ (natℚ b) ≤ℚ mk x
  pub most : mk x ≤ℚ natℚ b

add : (x y a b : ℚ) → x ≤ℚ a → y ≤ℚ b → x +ℚ y ≤ℚ a +ℚ b
add = ∀₄ ℚR _ λ ρ. simp qq λ h l. by_cert (to h ⊞ to l) tt

back : (x b : ℚ) → negℚ b ≤ℚ x → negℚ x ≤ℚ b
back = ∀₂ ℚR _ λ ρ. simp qq λ h. by_cert (to h) tt

pub up_none : UpTo 0 (nat 0)
unfolding int
up_none = record { least = nn_int 0; most = nn_int 0 }

pub up_more : {a b : ℕ} {x : Frac} → a ≤ b → UpTo a x → UpTo b x
up_more {a} {b} {x} h u =
    record { least = u.least; most = ≤ℚ-trans (mk x) (natℚ a) (natℚ b) u.most (nat_q a b h) }

pub up_sum : {a b : ℕ} {x y : Frac} → UpTo a x → UpTo b y → UpTo (a + b) (x +q y)
up_sum {a} {b} {x} {y} u w =
    record {
      least = rw (mk_add x y) (nn_plus (mk x) (mk y) u.least w.least);
      most = rw (mk_add x y, nat_plus a b) (add (mk x) (mk y) (natℚ a) (natℚ b) u.most w.most);
    }

-- n / c, where n is at most c b
pub up_quotient : (c n b : ℕ) (x : Frac) → 0 < c → natℚ c *ℚ mk x ≡ natℚ n → n ≤ c * b → UpTo b x
up_quotient c n b x c0 e h =
    let c1 = lt_not (above_0 c c0) in
    record {
      least = least (natℚ c) (natℚ n) (mk x) c1 e (nn_int n);
      most = most (natℚ c) (natℚ n) (natℚ b) (mk x) c1 e (rw nat_times at (nat_q n (c * b) h));
    }
  where
    least : (c n x : ℚ) → ¬ (c ≤ℚ natℚ 0) → c *ℚ x ≡ n → natℚ 0 ≤ℚ n → natℚ 0 ≤ℚ x
    least = ∀₃ ℚR _ λ ρ. simp qq λ p e h. over (v 0) p (to h ⊞ times (kp 1) e) tt

    most : (c n b x : ℚ) → ¬ (c ≤ℚ natℚ 0) → c *ℚ x ≡ n → n ≤ℚ c *ℚ b → x ≤ℚ b
    most = ∀₄ ℚR _ λ ρ. simp qq λ p e h. over (v 0) p (to h ⊞ times (kn 0) e) tt

-- a share of it
pub up_share : {b : ℕ} {s x : Frac} → UpTo 1 s → UpTo b x → UpTo b (s *q x)
up_share {b} {s} {x} u w =
    record {
      least = rw (mk_mul s x) (nn_times (mk s) (mk x) u.least w.least);
      most = rw (mk_mul s x) (go (mk s) (mk x) (natℚ b) u.most w.least w.most);
    }
  where
    go : (s x b : ℚ) → s ≤ℚ natℚ 1 → natℚ 0 ≤ℚ x → x ≤ℚ b → s *ℚ x ≤ℚ b
    go = ∀₃ ℚR _ λ ρ. simp qq λ h z l. by_cert (to l ⊞ to z ⊠ to h) tt

pub within_up : {b : ℕ} {x : Frac} → UpTo b x → Within b x
within_up {b} {x} u = record { least = go (mk x) (natℚ b) u.least (nn_int b); most = u.most }
  where
    go : (x b : ℚ) → natℚ 0 ≤ℚ x → natℚ 0 ≤ℚ b → negℚ b ≤ℚ x
    go = ∀₂ ℚR _ λ ρ. simp qq λ h l. by_cert (to h ⊞ to l) tt

-- a difference of two
pub within_less : {b : ℕ} {x y : Frac} → UpTo b x → UpTo b y → Within b (x -q y)
within_less {b} {x} {y} u w =
    record {
      least = rw (mk_sub x y) (low (mk x) (mk y) (natℚ b) u.least w.most);
      most = rw (mk_sub x y) (high (mk x) (mk y) (natℚ b) u.most w.least);
    }
  where
    low : (x y b : ℚ) → natℚ 0 ≤ℚ x → y ≤ℚ b → negℚ b ≤ℚ x -ℚ y
    low = ∀₃ ℚR _ λ ρ. simp qq λ h l. by_cert (to h ⊞ to l) tt

    high : (x y b : ℚ) → x ≤ℚ b → natℚ 0 ≤ℚ y → x -ℚ y ≤ℚ b
    high = ∀₃ ℚR _ λ ρ. simp qq λ h l. by_cert (to h ⊞ to l) tt

pub within_neg : {b : ℕ} {x : Frac} → Within b x → Within b (negq x)
within_neg {b} {x} w =
    record {
      least = rw (mk_neg x) (turn (mk x) (natℚ b) w.most);
      most = rw (mk_neg x) (back (mk x) (natℚ b) w.least);
    }
  where
    turn : (x b : ℚ) → x ≤ℚ b → negℚ b ≤ℚ negℚ x
    turn = ∀₂ ℚR _ λ ρ. simp qq λ h. by_cert (to h) tt

pub within_sum : {a b : ℕ} {x y : Frac} → Within a x → Within b y → Within (a + b) (x +q y)
within_sum {a} {b} {x} {y} u w =
    record {
      least = rw (mk_add x y, nat_plus a b) (low (mk x) (mk y) (natℚ a) (natℚ b) u.least w.least);
      most = rw (mk_add x y, nat_plus a b) (add (mk x) (mk y) (natℚ a) (natℚ b) u.most w.most);
    }
  where
    low : (x y a b : ℚ) → negℚ a ≤ℚ x → negℚ b ≤ℚ y → negℚ (a +ℚ b) ≤ℚ x +ℚ y
    low = ∀₄ ℚR _ λ ρ. simp qq λ h l. by_cert (to h ⊞ to l) tt

pub within_more : {a b : ℕ} {x : Frac} → a ≤ b → Within a x → Within b x
within_more {a} {b} {x} h w =
    record {
      least = low (mk x) (natℚ a) (natℚ b) w.least (nat_q a b h);
      most = ≤ℚ-trans (mk x) (natℚ a) (natℚ b) w.most (nat_q a b h);
    }
  where
    low : (x a b : ℚ) → negℚ a ≤ℚ x → a ≤ℚ b → negℚ b ≤ℚ x
    low = ∀₃ ℚR _ λ ρ. simp qq λ h l. by_cert (to h ⊞ to l) tt

pub within_same : {b : ℕ} {x y : Frac} → mk x ≡ mk y → Within b y → Within b x
within_same e w = record { least = rw e w.least; most = rw e w.most }

-- over a whole number c
pub within_over : {b : ℕ} {x : Frac} (c : ℕ) → 0 < c → Within (c * b) x → Within b (x /q nat c)
within_over {b} {x} c c0 w =
    let least = low (natℚ c) (natℚ b) (mk x) (rw nat_times at w.least) in
    let most = rw nat_times at w.most in
    record {
      least = rw (mk_div x (nat c), mk_int (pos c)) (le_div (mk x) (natℚ c) (negℚ (natℚ b)) (above_0 c c0) least);
      most = rw (mk_div x (nat c), mk_int (pos c)) (div_le (mk x) (natℚ c) (natℚ b) (above_0 c c0) most);
    }
  where
    low : (c b x : ℚ) → negℚ (c *ℚ b) ≤ℚ x → c *ℚ negℚ b ≤ℚ x
    low = ∀₃ ℚR _ λ ρ. simp qq λ h. by_cert (to h) tt

-- a choice of two
pub within_choice : {b : ℕ} {x y : Frac} (c : Bool) → Within b x → Within b y → Within b (cond c x y)
within_choice true u w = u
within_choice false u w = w

-- a figure of a force within b
pub reported_below : {m b n : ℕ} {x : Frac} → Within b x → Reported m x n → n < b + m
reported_below {m} {b} {n} {x} w r =
    let close = rw (mk_int (pos n), mk_add (absq x) (nat m), mk_abs x, mk_int (pos m)) at (of-⊏ (nat n) (absq x +q nat m) r.close) in
    let size = absℚ_le (mk x) (natℚ b) w.most (back (mk x) (natℚ b) w.least) in
    lt_of_not-le (λ h. lt_not close (go (absℚ (mk x)) (natℚ b) (natℚ m) (natℚ n) size (rw nat_plus at (nat_q (b + m) n h))))
  where
    go : (a b m n : ℚ) → a ≤ℚ b → b +ℚ m ≤ℚ n → a +ℚ m ≤ℚ n
    go = ∀₄ ℚR _ λ ρ. simp qq λ h l. by_cert (to h ⊞ to l) tt
