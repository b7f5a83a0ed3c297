-- The bytes written of a head or a lash that was read from bytes are those bytes.
use Prim.Native.Nat.{ℕ, ◌+◌, ◌*◌, ◌/◌, ◌%◌, ◌<◌, ◌≤◌}
use mathlib.Core.List.{List, [], ◌∷◌, ◌++◌, map}
use mathlib.Core.Path.{◌≡◌, refl, sym, ap, ◌∙◌}
use native.Mathlib.Nat.{div-div-eq-div-mul, add-zero}
use native.Mathlib.Omega.{arith}
use lib.ListN.{length, take, drop, length-drop}
use lib.Seq.{length-take-le, get_or-take, get_or-drop}
use Rattle.arith.specs.Bytes.{byte_at, le2, le4, bytes2, bytes4}
use Rattle.arith.specs.Lists.{from, below}
use Rattle.arith.proofs.Arrays.{entries_are}
use Rattle.sheet.specs.Layout.{head_of, lash_of}
use Rattle.sheet.specs.Written.{head_bytes, lash_bytes}
use Rattle.gear.specs.Bytes.{InBytes}

-- the last digit of base 256, and the others
last : (x q : ℕ) → x < 256 → (x + 256 * q) % 256 ≡ x
last x q h = omega arith

others : (x q : ℕ) → x < 256 → (x + 256 * q) / 256 ≡ q
others x q h = omega arith

small : (x : ℕ) → x < 256 → x % 256 ≡ x
small x h = omega arith

-- a number's bytes from its bytes
two_of : (x y : ℕ) → x < 256 → y < 256 → bytes2 (x + 256 * y) ≡ x ∷ y ∷ []
two_of x y p q = rw (last x y p, others x y p, small y q) refl

four_of :
    (v x y z w : ℕ) →
    v ≡ x + 256 * (y + 256 * (z + 256 * w)) →
    x < 256 →
    y < 256 →
    z < 256 →
    w < 256 →
    bytes4 v ≡ x ∷ y ∷ z ∷ w ∷ []
four_of v x y z w e p q r t =
    let one : v / 256 ≡ y + 256 * (z + 256 * w) = ap (λ u. u / 256) e ∙ others x (y + 256 * (z + 256 * w)) p in
    let two : v / 65536 ≡ z + 256 * w =
    sym (div-div-eq-div-mul v 256 256) ∙ ap (λ u. u / 256) one ∙ others y (z + 256 * w) q in
    let three : v / 16777216 ≡ w = sym (div-div-eq-div-mul v 65536 256) ∙ ap (λ u. u / 256) two ∙ others z w r in
    let first : v % 256 ≡ x = ap (λ u. u % 256) e ∙ last x (y + 256 * (z + 256 * w)) p in
    rw (first, one, two, three, last y (z + 256 * w) q, last z w r, small w t) refl

module _ (s : List ℕ) (b : InBytes s) where
  two_own : (at next : ℕ) → next ≡ at + 1 → bytes2 (le2 s at) ≡ byte_at s at ∷ byte_at s next ∷ []
  two_own at next e = rw e (two_of (byte_at s at) (byte_at s (at + 1)) (b at) (b (at + 1)))

  four_own :
      (at x y z : ℕ) →
      x ≡ at + 1 →
      y ≡ at + 2 →
      z ≡ at + 2 + 1 →
      bytes4 (le4 s at) ≡ byte_at s at ∷ byte_at s x ∷ byte_at s y ∷ byte_at s z ∷ []
  four_own at x y z p q r =
      rw (p, q, r)
      (four_of (le4 s at) (byte_at s at) (byte_at s (at + 1)) (byte_at s (at + 2)) (byte_at s (at + 2 + 1)) (omega arith) (b at)
      (b (at + 1)) (b (at + 2)) (b (at + 2 + 1)))

  -- n bytes from `at`
  abbrev pub cut : ℕ → ℕ → List ℕ
  cut at n = map (λ i. byte_at s (at + i)) (below n)

  pub head_own : head_bytes (head_of s) ≡ cut 0 8
  unfolding head_of from
  head_own = rw (four_own 4 5 6 7 refl refl refl) refl

  pub lash_own : (at : ℕ) → lash_bytes (lash_of s at) ≡ cut at 20
  unfolding lash_of from
  lash_own at = λ i.
      byte_at s (sym (add-zero at) i)
      ∷ byte_at s (at + 1)
      ∷ byte_at s (at + 2)
      ∷ byte_at s (at + 3)
      ∷ two_own (at + 4) (at + 5) (omega arith) i
      ++ two_own (at + 6) (at + 7) (omega arith) i
      ++ two_own (at + 8) (at + 9) (omega arith) i
      ++ two_own (at + 10) (at + 11) (omega arith) i
      ++ four_own (at + 12) (at + 13) (at + 14) (at + 15) (omega arith) (omega arith) (omega arith) i
      ++ four_own (at + 16) (at + 17) (at + 18) (at + 19) (omega arith) (omega arith) (omega arith) i

  -- n bytes from `at`, where they are there
  pub cut_is : (at n : ℕ) → at + n ≤ length s → cut at n ≡ take n (drop at s)
  cut_is at n h =
      entries_are (λ i. byte_at s (at + i)) 0 (take n (drop at s)) n
      (length-take-le n (drop at s) (omega (arith, h, length-drop at s)))
      (λ k q. sym (get_or-take n (drop at s) k 0 q ∙ get_or-drop at s k 0))
