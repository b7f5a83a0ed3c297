-- Where two inputs agree on the bytes of a field or an entry, it is the same in both.
use Prim.Native.Nat.{ℕ, ◌+◌, ◌<◌, ◌≤◌}
use mathlib.Core.List.{List}
use mathlib.Core.Path.{◌≡◌}
use native.Mathlib.Omega.{arith}
use Rattle.arith.specs.Bytes.{le2, le4, byte_at}
use Rattle.sheet.specs.Layout.{head_of, tier_of, lash_of}

module _ (s t : List ℕ) where
  -- they agree on `size` bytes from `at`
  abbrev pub Agree : ℕ → ℕ → Type 0
  Agree at size = (i : ℕ) → at ≤ i → i < at + size → byte_at s i ≡ byte_at t i

  module _ (at size : ℕ) (same : Agree at size) where
    one : (d : ℕ) → d < size → byte_at s (at + d) ≡ byte_at t (at + d)
    one d h = same (at + d) (omega arith) (omega arith)

    two : (d : ℕ) → d + 2 ≤ size → le2 s (at + d) ≡ le2 t (at + d)
    two d h = rw (one d (omega arith), same (at + d + 1) (omega arith) (omega arith))

    four : (d : ℕ) → d + 4 ≤ size → le4 s (at + d) ≡ le4 t (at + d)
    four d h =
        rw (two d (omega arith), same (at + d + 2) (omega arith) (omega arith), same (at + d + 2 + 1) (omega arith) (omega arith))

  pub head_same : Agree 0 8 → head_of s ≡ head_of t
  unfolding head_of
  head_same h =
      rw (
        one 0 8 h 0 (omega arith),
        one 0 8 h 1 (omega arith),
        one 0 8 h 2 (omega arith),
        one 0 8 h 3 (omega arith),
        four 0 8 h 4 (omega arith),
      )

  pub tier_same : (at : ℕ) → Agree at 12 → tier_of s at ≡ tier_of t at
  unfolding tier_of
  tier_same at h =
      rw (
        h at (omega arith) (omega arith),
        one at 12 h 1 (omega arith),
        two at 12 h 2 (omega arith),
        two at 12 h 4 (omega arith),
        two at 12 h 6 (omega arith),
        two at 12 h 8 (omega arith),
        two at 12 h 10 (omega arith),
      )

  pub lash_same : (at : ℕ) → Agree at 20 → lash_of s at ≡ lash_of t at
  unfolding lash_of
  lash_same at h =
      rw (
        h at (omega arith) (omega arith),
        one at 20 h 1 (omega arith),
        one at 20 h 2 (omega arith),
        one at 20 h 3 (omega arith),
        two at 20 h 4 (omega arith),
        two at 20 h 6 (omega arith),
        two at 20 h 8 (omega arith),
        two at 20 h 10 (omega arith),
        four at 20 h 12 (omega arith),
        four at 20 h 16 (omega arith),
      )
