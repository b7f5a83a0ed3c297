-- The whole numbers of a lash: the steps to its stiffness and its forces stay in range.
use Prim.Native.Nat.{ℕ, suc, ◌+◌, ◌*◌, ◌/◌, ◌%◌, ◌^◌, ◌<◌, ◌≤◌}
use mathlib.Core.Path.{◌≡◌}
use native.Mathlib.Nat.{mul-le-mul, mul-le-mul_left, div-le_of_le-mul}
use native.Mathlib.Omega.{arith}
use Rattle.sheet.specs.declared.Lash.{Lash}
use Rattle.sheet.specs.Inner.Limits.{LashLimits}
use Rattle.statics.specs.Lashes.{squares, lash_length}
use Rattle.statics.specs.Inner.WholeNumbers.{inverse, along, along_middle}
use Rattle.statics.proofs.LashLength.{length_least, length_most}

module _ {n : ℕ} {l : Lash} (f : LashLimits n l) where
  short : (k : ℕ) → squares l ≤ k * k → suc k ≤ l.ly → ⊥
  short k h q = omega (arith, mul-le-mul q q)

  pub length_ly : l.ly ≤ lash_length l
  length_ly = omega (arith, short (lash_length l) (length_least l).enough)

  -- the steps to the stiffness
  module _ {L : ℕ} (e : L ≡ lash_length l) where
    pub load_le : l.modulus * l.area ≤ 200000 * 1000
    load_le = mul-le-mul f.modulus_most f.area_most

    pub side_le : l.ly * l.ly ≤ 10000 * 10000
    side_le = mul-le-mul f.ly_most f.ly_most

    pub long_le : L ≤ 22913
    long_le = omega (arith, length_most f)

    l_least : l.ly ≤ L
    l_least = omega (arith, length_ly)

    -- the cube is at least 500 L², and 500 L² at least 1
    cube_least : L * L * 500 ≤ L * L * L
    cube_least = mul-le-mul_left (L * L) (omega (arith, f.ly, l_least))

    pub cube_above : 0 < L * L * L
    cube_above = omega (arith, cube_least, mul-le-mul l_least l_least, mul-le-mul f.ly f.ly)

    pub quotient_le : l.modulus * l.area * (l.ly * l.ly) / (L * L * L) ≤ 400000
    quotient_le =
        let h : l.modulus * l.area * (l.ly * l.ly) ≤ 200000 * 1000 * (L * L) = mul-le-mul load_le (mul-le-mul l_least l_least) in
        div-le_of_le-mul (L * L * L) (omega (arith, h, cube_least))

-- the athwart part
module _ {k s : ℕ} (hk : k ≤ 155000 * 2 ^ 22) (hs : s ≤ 2 ^ 40) where
  pub by_quotient : k * (s / 4194304 + 1) ≤ 155000 * 2 ^ 22 * (2 ^ 18 + 1)
  by_quotient =
      let h : s / 4194304 + 1 ≤ 2 ^ 18 + 1 = omega arith in
      mul-le-mul hk h

  pub part_le : k * s / 2 ^ 32 ≤ 2 ^ 48
  part_le = omega (arith, mul-le-mul hk hs)

-- the reciprocal of LY, and a number × a side / LY by it
pub inverse_le : {ly : ℕ} → 500 ≤ ly → 2 ^ 46 / ly ≤ 140737488356
inverse_le {ly} h = div-le_of_le-mul ly (omega (arith, h))

module _ {side inv : ℕ} (hs : side ≤ 22913) (hi : inv ≤ 140737488356) where
  pub rate_product : side * inv ≤ 22913 * 140737488356
  rate_product = mul-le-mul hs hi

  rate_le : side * inv / 1048576 ≤ 3075330801
  rate_le = omega (arith, rate_product)

  pub along_product : (x : ℕ) → x % 4294967296 * (side * inv / 1048576) ≤ 4294967295 * 3075330801
  along_product x =
      let h : x % 4294967296 ≤ 4294967295 = omega arith in
      mul-le-mul h rate_le

-- the vertical part
pub upward_le : {ly lz : ℕ} (x : ℕ) → 500 ≤ ly → lz ≤ 20000 → along x lz (inverse ly) + along_middle ≤ 2 ^ 54
unfolding along inverse
upward_le {ly} {lz} x hy hz =
    let short : lz ≤ 22913 = omega (arith, hz) in
    omega (arith, along_product short (inverse_le hy) (x / 256))
