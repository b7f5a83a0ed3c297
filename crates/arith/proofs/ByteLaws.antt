-- Numbers written as bytes read back: of 2 and of 4 bytes, and signed ones, wherever the bytes stand in a list.
use Prim.Native.Nat.{ℕ, suc, ◌+◌, ◌*◌, ◌-◌, ◌/◌, ◌%◌, ◌<◌, ◌≤◌}
use mathlib.Core.List.{List, ◌++◌, append_assoc}
use mathlib.Core.Path.{◌≡◌, refl, sym, ap, ◌∙◌}
use native.Mathlib.Nat.{div-div-eq-div-mul, add-zero}
use native.Mathlib.Omega.{arith}
use borrow.Author.Tests.{lt-ltb, le-ltb}
use lib.IntN.{ℤ, pos, negsuc}
use lib.ListN.{length, get_or, take, drop}
use lib.Seq.{drop-drop, sets, sets-eq, get_or-append-add, length-take-le}
use borrow.Rule.Slice.PartMut.{put_mid}
use mir.Syntax.{w32, w64}
use mir.Val.{SFits, of_z}
use Rattle.arith.specs.Bytes.{le2, le4, bytes2, bytes4, twos, of_twos, signed4}

-- digits of base 256
digits2 : (v : ℕ) → v < 65536 → v % 256 + 256 * (v / 256 % 256) ≡ v
digits2 v h = omega arith

digits4_of :
    (v a b d : ℕ) →
    a ≡ v / 256 →
    b ≡ a / 256 →
    d ≡ b / 256 →
    v < 4294967296 →
    v % 256 + 256 * (a % 256) + 65536 * (b % 256 + 256 * (d % 256)) ≡ v
digits4_of v a b d p q r h = omega arith

digits4 : (v : ℕ) → v < 4294967296 → v % 256 + 256 * (v / 256 % 256) + 65536 * (v / 65536 % 256 + 256 * (v / 16777216 % 256)) ≡ v
digits4 v h =
    digits4_of v (v / 256) (v / 65536) (v / 16777216) refl (sym (div-div-eq-div-mul v 256 256)) (sym (div-div-eq-div-mul v 65536 256)) h

-- the element n places into the second list
pub get_d_behind : (a ys : List ℕ) (at n : ℕ) → length a ≡ at → get_or (a ++ ys) (at + n) 0 ≡ get_or ys n 0
get_d_behind a ys at n e = rw (← e) (get_or-append-add a ys n 0)

get_d_first : (a ys : List ℕ) (at : ℕ) → length a ≡ at → get_or (a ++ ys) at 0 ≡ get_or ys 0 0
get_d_first a ys at e = rw (add-zero at) at (get_d_behind a ys at 0 e)

-- the number whose bytes stand between a and b
module _ (v : ℕ) (a b : List ℕ) (at : ℕ) (e : length a ≡ at) where
  pub le2_back : v < 65536 → le2 (a ++ (bytes2 v ++ b)) at ≡ v
  le2_back h =
      rw (get_d_first a (bytes2 v ++ b) at e, get_d_behind a (bytes2 v ++ b) at 1 e) (digits2 v h)

  pub le4_back : v < 4294967296 → le4 (a ++ (bytes4 v ++ b)) at ≡ v
  le4_back h =
      let l = a ++ (bytes4 v ++ b) in
      let r : at + 2 + 1 ≡ at + 3 = omega arith in
      let e3 : get_or l (at + 2 + 1) 0 ≡ v / 16777216 % 256 = rw r (get_d_behind a (bytes4 v ++ b) at 3 e) in
      rw (get_d_first a (bytes4 v ++ b) at e, get_d_behind a (bytes4 v ++ b) at 1 e, get_d_behind a (bytes4 v ++ b) at 2 e, e3)
      (digits4 v h)

-- the same after stores at `at`
module _ (v : ℕ) (l : List ℕ) (at : ℕ) where
  pub le2_stored : v < 65536 → at + 2 ≤ length l → le2 (sets l at (bytes2 v)) at ≡ v
  le2_stored h r =
      let s : at ≤ length l = omega arith in
      rw (sets-eq (bytes2 v) l at r, append_assoc) (le2_back v (take at l) (drop (at + 2) l) at (length-take-le at l s) h)

  pub le4_stored : v < 4294967296 → at + 4 ≤ length l → le4 (sets l at (bytes4 v)) at ≡ v
  le4_stored h r =
      let s : at ≤ length l = omega arith in
      rw (sets-eq (bytes4 v) l at r, append_assoc) (le4_back v (take at l) (drop (at + 4) l) at (length-take-le at l s) h)

-- a copy into the bytes from `at` on
pub put_bytes :
    (l : List ℕ) (at k : ℕ) (bytes : List ℕ) {part : List ℕ} →
    at + length bytes ≤ length l →
    k ≡ length bytes →
    part ≡ bytes →
    put_mid at (at + k - at) l part ≡ sets l at bytes
put_bytes l at k bytes {part} r size e =
    let n : at + k - at ≡ length bytes = omega (arith, size) in
    rw (e, n, drop-drop) (sym (append_assoc (take at l) bytes (drop (at + length bytes) l)) ∙ sym (sets-eq bytes l at r))

-- of a greater number the lowest two bytes
pub low2 : (v : ℕ) → bytes2 (v % 65536) ≡ bytes2 v
low2 v =
    let low : v % 65536 % 256 ≡ v % 256 = omega arith in
    let high : v % 65536 / 256 % 256 ≡ v / 256 % 256 = omega arith in
    rw (low, high) refl

-- two's complement is how a word holds a signed number
pub twos_word : (z : ℤ) → of_z w32 z ≡ twos z
unfolding twos
twos_word (pos n) = refl
twos_word (negsuc n) = refl

pub twos_lt : (z : ℤ) → SFits w32 z → twos z < 4294967296
unfolding twos
twos_lt (pos n) f = omega (arith, f.sfits)
twos_lt (negsuc n) f = omega arith

back_neg : (n : ℕ) → n < 2147483648 → 4294967296 - suc (4294967296 - suc n) ≡ n
back_neg n h = omega arith

pub twos_back : (z : ℤ) → SFits w32 z → of_twos (twos z) ≡ z
unfolding twos of_twos
twos_back (pos n) f = rw (lt-ltb n 2147483648 f.sfits) refl
twos_back (negsuc n) f =
    let v = 4294967296 - suc n in
    let h : n < 2147483648 = f.sfits in
    let up : 2147483648 ≤ v = omega arith in
    let below : v < 4294967296 = omega arith in
    rw (le-ltb v 2147483648 up, lt-ltb v 4294967296 below) (ap negsuc (back_neg n h))

-- the four bytes of a signed number read back as the number: where they stand between a and b, and after stores
pub signed_back : (z : ℤ) → SFits w32 z → (a b : List ℕ) (at : ℕ) → length a ≡ at → signed4 (a ++ (bytes4 (twos z) ++ b)) at ≡ z
signed_back z f a b at e = ap of_twos (le4_back (twos z) a b at e (twos_lt z f)) ∙ twos_back z f

pub signed_stored : (z : ℤ) → SFits w32 z → (l : List ℕ) (at : ℕ) → at + 4 ≤ length l → signed4 (sets l at (bytes4 (twos z))) at ≡ z
signed_stored z f l at r = ap of_twos (le4_stored (twos z) l at (twos_lt z f) r) ∙ twos_back z f

-- a number of 32 bits in 64
pub wide64 : {z : ℤ} → SFits w32 z → SFits w64 z
wide64 {z} f = record { sfits = omega (arith, f.sfits) }
