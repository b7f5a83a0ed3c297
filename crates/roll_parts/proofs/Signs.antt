-- Sizes beyond a bound.
use Prim.Native.Nat.{ℕ, suc, ◌+◌, ◌*◌, ◌-◌, ◌≤◌, ◌<◌}
use mathlib.Core.Bool.{Bool, true, false, cond, ◌||◌}
use mathlib.Core.Path.{◌≡◌, refl}
use native.Mathlib.Decide.{dec_le}
use native.Mathlib.Nat.{mul-le-mul}
use native.Mathlib.Omega.{arith}
use borrow.Author.Tests.{ltb-true, ltb-false, le-ltb, lt-ltb}
use lib.Dec.{ltb}
use lib.IntN.{ℤ, pos, negsuc, nat_abs, ◌-ℤ◌}
use lib.Signed.{lt_z}

-- a size above 500,000 is above it on either side of 0
pub far_either : (z : ℤ) → lt_z z (negsuc 499999) || lt_z (pos 500000) z ≡ ltb 500000 (nat_abs z)
far_either (pos n) = refl
far_either (negsuc n) = go (dec_le (suc n) 500000)
  where
    go : Dec (suc n ≤ 500000) → ltb 499999 n || false ≡ ltb 500000 (suc n)
    go (yes h) = let l : n ≤ 499999 = omega arith in rw (le-ltb _ _ l, le-ltb _ _ h) refl
    go (no h) = let l : 499999 < n = omega arith in let k : 500000 < suc n = omega arith in rw (lt-ltb _ _ l, lt-ltb _ _ k) refl

-- more than 15,000 from 100,000,000
apart_at :
    (s t : ℕ) (c : Bool) → ltb s t ≡ c → nat_abs (cond c (negsuc (t - suc s)) (pos (s - t))) ≡ (s - t) + (t - s)
apart_at s t true e = omega (arith, ltb-true s t e)
apart_at s t false e = omega (arith, ltb-false s t e)

apart : (s : ℕ) → nat_abs (pos s -ℤ pos 100000000) ≡ (s - 100000000) + (100000000 - s)
apart s = apart_at s 100000000 (ltb s 100000000) refl

pub off_either : (s : ℕ) → ltb s 99985000 || ltb 100015000 s ≡ ltb 15000 (nat_abs (pos s -ℤ pos 100000000))
off_either s = rw (apart s) (go (dec_le 99985000 s) (dec_le s 100015000))
  where
    go : Dec (99985000 ≤ s) → Dec (s ≤ 100015000) → ltb s 99985000 || ltb 100015000 s ≡ ltb 15000 ((s - 100000000) + (100000000 - s))
    go (yes h) (yes l) =
        let k : (s - 100000000) + (100000000 - s) ≤ 15000 = omega arith in
        rw (le-ltb _ _ h, le-ltb _ _ l, le-ltb _ _ k) refl
    go (no h) d =
        let l : s < 99985000 = omega arith in
        let k : 15000 < (s - 100000000) + (100000000 - s) = omega arith in
        rw (lt-ltb _ _ l, lt-ltb _ _ k) refl
    go (yes h) (no l) =
        let m : 100015000 < s = omega arith in
        let k : 15000 < (s - 100000000) + (100000000 - s) = omega arith in
        rw (le-ltb _ _ h, lt-ltb _ _ m, lt-ltb _ _ k) refl

-- a number above 10,000 has a square that is too great
pub square_above : (a b : ℕ) → 10000 < a → 15000 < nat_abs (pos (a * a + b * b) -ℤ pos 100000000)
square_above a b h =
    let l : 10001 ≤ a = omega arith in
    rw (apart (a * a + b * b)) (omega (arith, mul-le-mul l l))
