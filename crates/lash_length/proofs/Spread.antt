-- Three sides: the guess is near the root of the sum of their squares.
use Prim.Native.Nat.{ℕ, ◌+◌, ◌*◌, ◌-◌, ◌<◌, ◌≤◌, max}
use mathlib.Core.Path.{◌≡◌}
use native.Mathlib.Nat.{mul-le-mul, mul-le-mul_left, mul-le-mul_right, max-eq_left, max-eq_right}
use native.Mathlib.Decide.{dec_le}
use native.Mathlib.Omega.{arith}
use Rattle.lash_length.specs.Trials.{guess}
use Rattle.lash_length.proofs.Newton.{four}

-- m the longest side, t the other two together, s the sum of the three squares
pub record Spread (s m t : ℕ) : Type 0 where
  pub some : 500 ≤ m
  pub short : t ≤ 2 * m
  pub below : m * m < s
  pub least : 2 * (m * m) + t * t ≤ 2 * s
  pub most : s ≤ m * m + m * t

spread_of : (m a b : ℕ) → 500 ≤ m → a ≤ m → b ≤ m → 0 < b → Spread (m * m + a * a + b * b) m (a + b)
spread_of m a b some h l positive =
    record {
      some = some;
      short = omega arith;
      below = omega (arith, mul-le-mul positive positive);
      least = omega (arith, four a b (dec_le a b));
      most = omega (arith, mul-le-mul_right a h, mul-le-mul_right b l);
    }

-- u the longer of two of the sides
spread_from :
    (x u v s t : ℕ) → 500 ≤ v → v ≤ u → s ≡ x * x + u * u + v * v → t ≡ x + u + v → Dec (x ≤ u) → Spread s (max x u) (t - max x u)
spread_from x u v s t some h e f (yes l) =
    let q : s ≡ u * u + x * x + v * v = omega (arith, e) in
    let r : t - u ≡ x + v = omega arith in
    rw (max-eq_right l, q, r) (spread_of u x v (omega arith) l h (omega arith))
spread_from x u v s t some h e f (no l) =
    let q : u ≤ x = omega arith in
    let r : t - x ≡ u + v = omega arith in
    rw (max-eq_left q, e, r) (spread_of x u v (omega arith) q (omega arith) (omega arith))

module _ (x y z : ℕ) (some : 500 ≤ y) (high : 500 ≤ z) where
  pub spread : Spread (x * x + y * y + z * z) (max x (max y z)) (x + y + z - max x (max y z))
  spread = go (dec_le y z)
    where
      go : Dec (y ≤ z) → Spread (x * x + y * y + z * z) (max x (max y z)) (x + y + z - max x (max y z))
      go (yes l) = rw (max-eq_right l) (spread_from x z y _ _ some l (omega arith) (omega arith) (dec_le x z))
      go (no l) =
          let q : z ≤ y = omega arith in
          rw (max-eq_left q) (spread_from x y z _ _ high q (omega arith) (omega arith) (dec_le x y))

-- the guess has a square that is s but for a quarter
module _ {s m t : ℕ} (p : Spread s m t) where
  near : (g : ℕ) → 16 * g ≤ 16 * m + 5 * t → 16 * m + 5 * t ≤ 16 * g + 15 → (4 * (g * g) ≤ 5 * s) × (4 * s ≤ 5 * (g * g))
  near g h l = (
    omega (arith, mul-le-mul h h, four (16 * m) (20 * t) (dec_le _ _), p.least),
    omega (arith, mul-le-mul l l, four (4 * m) (4 * t) (dec_le _ _), p.most, p.short, h, mul-le-mul_left m p.some),
  )

  pub guess_near : (4 * (guess m t * guess m t) ≤ 5 * s) × (4 * s ≤ 5 * (guess m t * guess m t))
  guess_near = near (guess m t) (omega arith) (omega arith)
