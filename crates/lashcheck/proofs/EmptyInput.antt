-- Document 01's example of what the program writes: for an empty input, 1 0.
use Rattle.std.specs.Prelude.{Ok, Err}
use Prim.Native.Nat.{ℕ, ◌-◌, ◌^◌, ◌<◌, ◌≤◌}
use mathlib.Core.Bool.{Bool, true, false}
use mathlib.Core.List.{List, [], ◌∷◌}
use mathlib.Core.Path.{◌≡◌, refl, ap, subst, ◌∙◌}
use native.Mathlib.Nat.{pow-le-pow_right}
use native.Mathlib.Omega.{arith}
use borrow.Author.Tests.{ltb-true, ltb-false}
use lib.Dec.{ltb}
use Rattle.io.specs.Digits.{last_digits, IsDigitCount}
use Rattle.sheet.specs.Refusals.{Reading}
use Rattle.sheet.specs.Refusals.{first, refusal_of, refusal}
use Rattle.sheet.specs.Layout.{sheet_of}
use Rattle.lashcheck.specs.Lines.{Decimal, Line}
use Rattle.lashcheck.specs.Replies.{ReplyAs, Reply}
use Rattle.sheet.specs.Refusals.{numbers}

-- a number below 10 is one digit
one_digit : (n k : ℕ) → n < 10 → IsDigitCount 10 1 n k → k ≡ 1
one_digit n k h f = go (ltb 1 k) refl
  where
    go : (b : Bool) → ltb 1 k ≡ b → k ≡ 1
    go false e = omega (arith, ltb-false 1 k e, f.0)
    go true e =
        let long : 1 < k = ltb-true 1 k e in
        let large : 10 ^ 1 ≤ 10 ^ (k - 1) = pow-le-pow_right {n = 10} (omega arith) {i = 1} {j = k - 1} (omega arith) in
        let there : 10 ^ (k - 1) ≤ n = f.2 (omega arith) in
        absurd (omega arith)

decimal : (n : ℕ) {text : List ℕ} → n < 10 → Decimal n text → text ≡ last_digits 10 1 n
decimal n h d = d.spelled ∙ ap (λ k. last_digits 10 k n) (one_digit n d.count h d.fewest)

line : {text : List ℕ} → Line 1 0 text → text ≡ 49 ∷ 32 ∷ 48 ∷ 10 ∷ []
line l = l.whole ∙ rw (decimal 1 (omega arith) l.left_in, decimal 0 (omega arith) l.right_in)

short : refusal [] 834 ≡ Err (numbers 1 0)
unfolding refusal refusal_of first
short = refl

pub empty_input : {margin : ℕ} {bytes : List ℕ} → Reply margin [] bytes → bytes ≡ 49 ∷ 32 ∷ 48 ∷ 10 ∷ []
empty_input {margin} {bytes} r = line (subst (λ (q : Reading). ReplyAs q margin (sheet_of []) bytes) short r.holds)
