-- A quotient of a product that 64 bits do not hold, certified by its remainder, which is found by parts.
use mathlib.Core.Path.{◌≡◌, sym, ap}
use Prim.Native.Nat.{ℕ, ◌+◌, ◌*◌, ◌-◌, ◌/◌, ◌%◌, ◌<◌, ◌≤◌, ◌^◌}
use native.Mathlib.Nat.{add-mul, one-mul, mul-le-mul, div-add-mod', div-eq_of_lt-le, div-le_of_le-mul, mod-lt}
use native.Mathlib.Omega.{arith}
use lib.Dec.{lit<}

pub square_le : {long : ℕ} → long ≤ 22913 → long * long ≤ 22913 * 22913
square_le h = mul-le-mul h h

pub cube_le : {long : ℕ} → long ≤ 22913 → long * long * long ≤ 22913 * 22913 * 22913
cube_le h = mul-le-mul (square_le h) h

quotient_is : (x c q : ℕ) → q * c ≤ x → x < q * c + c → q ≡ x / c
quotient_is x c q l h = sym (div-eq_of_lt-le c l (rw (add-mul q 1 c, one-mul c) h))

module _ {q long square : ℕ} (hq : q < 1099511627776) (hl : long ≤ 22913) (hs : square ≤ 22913 * 22913) where
  pub p_le : q * long ≤ 1099511627775 * 22913
  p_le =
      let a : q ≤ 1099511627775 = omega (arith, hq) in
      mul-le-mul a hl

  pub taken_le : q * long / 4194304 * square ≤ 6006505472 * (22913 * 22913)
  taken_le =
      let a : q * long / 4194304 ≤ 6006505472 = div-le_of_le-mul 4194304 (omega (arith, p_le)) in
      mul-le-mul a hs

  pub more_le : q * long % 4194304 * square ≤ 4194304 * (22913 * 22913)
  more_le =
      let a : q * long % 4194304 ≤ 4194304 = omega (arith, mod-lt (q * long) {m = 4194304} (lit< tt)) in
      mul-le-mul a hs

-- q cubes in parts
parts : (q long square : ℕ) → (q * long / 4194304 * square) * 4194304 + q * long % 4194304 * square ≡ q * (square * long)
parts q long square = omega (arith, ap (λ (z : ℕ). z * square) (div-add-mod' (q * long) 4194304))

-- what is left of the force in 2^-22, less what p has more, is the remainder: below the cube, q is the quotient
pub certified :
    (force q long square cube taken more : ℕ) →
    cube ≡ square * long →
    taken ≡ q * long / 4194304 * square →
    more ≡ q * long % 4194304 * square →
    taken ≤ force →
    more ≤ (force - taken) * 4194304 →
    (force - taken) * 4194304 - more < cube →
    q ≡ force * 2 ^ 22 / cube
certified force q long square cube taken more e t m a b h =
    quotient_is (force * 2 ^ 22) cube q (omega (arith, whole)) (omega (arith, whole))
  where
    whole : taken * 4194304 + more ≡ q * cube
    whole = rw (t, m, e) (parts q long square)
