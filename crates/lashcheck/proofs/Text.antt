-- A text copied into a part of a buffer, and the line that two numbers make.
use Prim.Native.Nat.{ℕ, ◌+◌, ◌-◌, ◌^◌, ◌<◌, ◌≤◌}
use mathlib.Core.Bool.{Bool, true, false}
use mathlib.Core.List.{List, [], ◌∷◌, ◌++◌, append_assoc}
use mathlib.Core.Path.{◌≡◌, refl, sym, ap, ◌∙◌}
use native.Mathlib.Nat.{pow-le-pow_right}
use native.Mathlib.Numerals.{add-one}
use native.Mathlib.Omega.{arith}
use borrow.Author.Tests.{ltb-true, ltb-false}
use borrow.Rule.Slice.PartMut.{put_mid}
use lib.Dec.{ltb}
use lib.ListN.{length, take, drop, set, length-append}
use lib.Seq.{length-take-le, take_at, take-suc-set, drop-drop}
use Rattle.io.specs.Counts.{IsPrefixLen}
use Rattle.io.specs.Digits.{last_digits, IsDigitCount}
use Rattle.lashcheck.specs.Lines.{Line}
use Rattle.lashcheck.specs.Inner.Texts.{Put}

-- a number of 64 bits has at most 20 digits
pub few_digits : (n k : ℕ) → n < 2 ^ 64 → IsDigitCount 10 1 n k → k ≤ 20
few_digits n k h f = go (ltb 20 k) refl
  where
    go : (b : Bool) → ltb 20 k ≡ b → k ≤ 20
    go false e = ltb-false 20 k e
    go true e =
        let long : 20 < k = ltb-true 20 k e in
        let large : 10 ^ 20 ≤ 10 ^ (k - 1) = pow-le-pow_right {n = 10} (omega arith) {i = 20} {j = k - 1} (omega arith) in
        let there : 10 ^ (k - 1) ≤ n = f.2 (omega arith) in
        omega arith

-- the first k bytes of `text`, the digits of n, copied there
pub put_of :
    (n at k room : ℕ) (text before copied : List ℕ) →
    n < 2 ^ 64 →
    IsPrefixLen k text →
    IsDigitCount 10 1 n k →
    take k text ≡ last_digits 10 k n →
    at + 20 ≤ length before →
    room ≡ k →
    copied ≡ take k text →
    Put n at (at + k) before (put_mid at room before copied)
put_of n at k room text before copied small counts fewest spelled long same stored =
    record {
      text = take k text;
      in_decimal = record { count = k; fewest = fewest; spelled = spelled };
      ends = ap (λ l. at + l) counts.1;
      short = omega (arith, few_digits n k small fewest, counts.1);
      stored = rw (stored, same, drop-drop k at before, append_assoc);
    }

-- a count within a buffer, as io::count gives it
pub counts_of : (n : ℕ) (xs : List ℕ) → n ≤ length xs → IsPrefixLen n xs
counts_of n xs h = (h, sym (length-take-le n xs h))

-- a number at the start of a buffer, a blank behind it, then a second number and a line end
module _
    (number second a b : ℕ) (xs stored whole : List ℕ)
    (first : Put number 0 a xs stored) (inside : a < length stored)
    (next : Put second (a + 1) b (set stored a 32) whole) (room : b < length whole)
  where
    abbrev left : List ℕ
    left = first.text

    abbrev right : List ℕ
    right = next.text

    abbrev behind : List ℕ
    behind = drop b (set stored a 32)

    blanked : take (a + 1) (set stored a 32) ≡ left ++ (32 ∷ [])
    blanked =
        rw (add-one a, take-suc-set stored a 32 inside)
        (ap (λ l. l ++ (32 ∷ [])) (ap (take a) first.stored ∙ take_at left (drop a xs) a (omega (arith, first.ends))))

    ended : take (b + 1) (set whole b 10) ≡ left ++ (32 ∷ []) ++ right ++ (10 ∷ [])
    ended =
        rw (add-one b, take-suc-set whole b 10 room)
        (ap (λ l. l ++ (10 ∷ []))
        (ap (take b) (next.stored ∙ ap (λ l. l ++ right ++ behind) blanked)
        ∙ take_at (left ++ (32 ∷ []) ++ right) behind b (simp length-append (omega (arith, first.ends, next.ends)))))

    pub line_of : Line number second (take (b + 1) (set whole b 10))
    line_of =
        record { left = left; right = right; left_in = first.in_decimal; right_in = next.in_decimal; whole = ended }
