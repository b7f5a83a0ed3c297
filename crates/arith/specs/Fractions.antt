-- Document 01's fractions: a signed whole number over a whole number above zero. Two are compared by their cross products.
use Rattle.std.specs.Prelude.{List, [], ◌∷◌, ℕ, zero, suc, ◌*◌, ◌≡◌, ℤ, pos, negsuc, neg_ℤ, nat_abs, ◌+ℤ◌, ◌*ℤ◌, ◌≤ℤ◌, ◌<ℤ◌}
use Rattle.std.proofs.Common.{arith, le→leb}

pub record Frac : Type 0 where
  pub top : ℤ
  pub bot : ℤ
  pub ok : pos 1 ≤ℤ bot

-- equal, not above, below: by cross products
infix 4 ◌≈◌ ◌⊑◌ ◌⊏◌
pub record ◌≈◌ (x y : Frac) : Type 0 where
  pub cross : x.top *ℤ y.bot ≡ y.top *ℤ x.bot

pub record ◌⊑◌ (x y : Frac) : Type 0 where
  pub cross : (x.top *ℤ y.bot) ≤ℤ (y.top *ℤ x.bot)

pub record ◌⊏◌ (x y : Frac) : Type 0 where
  pub cross : (x.top *ℤ y.bot) <ℤ (y.top *ℤ x.bot)

-- a product of whole numbers above zero is above zero
pub one_le : (n : ℕ) → pos 1 ≤ℤ pos (suc n)
one_le n = record { le = le→leb 1 (suc n) (omega arith) }

pub ok_mul : (a b : ℤ) → pos 1 ≤ℤ a → pos 1 ≤ℤ b → pos 1 ≤ℤ (a *ℤ b)
ok_mul (pos zero) b h l = absurd h.le
ok_mul (pos (suc n)) (pos zero) h l = absurd l.le
ok_mul (pos (suc n)) (pos (suc m)) h l = record { le = le→leb 1 (suc n * suc m) (omega arith) }
ok_mul (pos (suc n)) (negsuc m) h l = absurd l.le
ok_mul (negsuc n) b h l = absurd h.le

-- a whole number
abbrev pub int : ℤ → Frac
int z = record { top = z; bot = pos 1; ok = one_le 0 }

abbrev pub nat : ℕ → Frac
nat n = int (pos n)

infixl 6 ◌+q◌ ◌-q◌
infixl 7 ◌*q◌ ◌/q◌
abbrev pub ◌+q◌ : Frac → Frac → Frac
x +q y =
    record {
      top = x.top *ℤ y.bot +ℤ y.top *ℤ x.bot;
      bot = x.bot *ℤ y.bot;
      ok = ok_mul x.bot y.bot x.ok y.ok;
    }

abbrev pub negq : Frac → Frac
negq x = record { top = neg_ℤ x.top; bot = x.bot; ok = x.ok }

abbrev pub ◌-q◌ : Frac → Frac → Frac
x -q y = x +q negq y

abbrev pub ◌*q◌ : Frac → Frac → Frac
x *q y =
    record { top = x.top *ℤ y.top; bot = x.bot *ℤ y.bot; ok = ok_mul x.bot y.bot x.ok y.ok }

-- 1 over a fraction above zero. What is not above zero divides nothing here: for it 0 stands, so that a quotient needs no proof to be
-- written
abbrev pub recip_at : (a b : ℤ) → pos 1 ≤ℤ b → Frac
recip_at (pos zero) b p = int (pos 0)
recip_at (pos (suc n)) b p = record { top = b; bot = pos (suc n); ok = one_le n }
recip_at (negsuc n) b p = int (pos 0)

unfoldable pub recip : Frac → Frac
recip x = recip_at x.top x.bot x.ok

-- the quotient by a fraction above zero
abbrev pub ◌/q◌ : Frac → Frac → Frac
x /q y = x *q recip y

-- the size: the value without the sign
abbrev pub absq : Frac → Frac
absq x = record { top = pos (nat_abs x.top); bot = x.bot; ok = x.ok }

-- the sum of f over a list
unfoldable pub sumq : {A : Type 0} → (A → Frac) → List A → Frac
sumq f [] = nat 0
sumq f (x ∷ xs) = f x +q sumq f xs
