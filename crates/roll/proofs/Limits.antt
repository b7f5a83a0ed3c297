-- What is given is within document 01's limits, so that a tier with it fits; and how great the numbers of a refusal are.
use Prim.Native.Nat.{ℕ, ◌+◌, ◌*◌, ◌-◌, ◌/◌, ◌≤◌, ◌<◌}
use mathlib.Core.Bool.{Bool, true, false, not, true≢false}
use mathlib.Core.Path.{◌≡◌, refl, sym, subst}
use native.Mathlib.Decide.{dec_le}
use native.Mathlib.Nat.{mul-le-mul_left, div-mul-le_self, lt-div-mul-add, div-lt_iff_lt-mul, le-div_iff_mul-le}
use native.Mathlib.Omega.{arith}
use borrow.Author.Tests.{leb-true, le-leb, lt-leb}
use lib.Dec.{leb}
use lib.IntN.{ℤ, pos, negsuc, nat_abs, ◌+ℤ◌, ◌-ℤ◌}
use Rattle.arith.specs.Fractions.{nat, ◌≈◌, ◌*q◌}
use Rattle.arith.specs.Wholes.{floor}
use Rattle.arith.specs.Inner.Rounding.{rounded_up}
use Rattle.arith.proofs.Rings.{∀₃, by_cert, to}
use Rattle.arith.proofs.Integers.{ℤR, ◌≼◌}
use Rattle.arith.proofs.IntegerTerms.{zq}
use Rattle.arith.proofs.IntegerOrder.{≼_refl, ≼_trans}
use Rattle.arith.proofs.IntegerOmega.{nat_le, le_nat}
use Rattle.sheet.proofs.Bools.{and_true, not_false}
use Rattle.sheet.specs.Layout.{tier_fits}
use Rattle.roll_parts.specs.Inner.Parts.{turn_of, parts_of, still_of, roll_of, up_of}
use Rattle.roll_parts.proofs.Bounds.{rest_most}
use Rattle.roll.specs.declared.Condition.{Condition}
use Rattle.roll.specs.ConditionA.{metres, k₃}
use Rattle.roll.specs.Rounded.{along, cut, transverse, vertical_most, vertical_least, row18, condition_a}
use Rattle.roll.specs.Theorems.{Within, AllWithin, TiersFit}
use Rattle.roll.specs.Inner.Sums.{Legal, difference}
use Rattle.roll.proofs.Formulas.{most_is, least_is}
use Rattle.roll.proofs.Exact.{sum_rounded, difference_rounded}
use Rattle.roll.proofs.Factor.{part_aft, part_fore, part_amid}
use Rattle.roll.proofs.Ranges.{place}
use Rattle.roll.proofs.Scales.{size_metres}
use Rattle.roll.proofs.Outcomes.{refused_18, refused_19_1, refused_19_2, refused_19_3, given, legal}

-- the least is not above the most: in whole numbers
taken_off : (a c d : ℤ) → a ≼ d +ℤ c → a -ℤ c ≼ d
taken_off = ∀₃ ℤR _ λ ρ. simp zq λ h. by_cert (to h) tt

down_up : (S S' rest b W : ℕ) → 0 < b → S ≤ S' → (S + (b - rest)) / b ≤ W + rounded_up (S' + rest) b + (W + 1)
down_up S S' rest b W b0 h =
    let q = S' / b in
    let most : (S + (b - rest)) / b < q + 2 =
    let l : S + (b - rest) < (q + 2) * b = omega (arith, lt-div-mul-add {a = S'} b0) in
    (div-lt_iff_lt-mul b0).1 l
    in
    let least : q ≤ (S' + rest + (b - 1)) / b =
    let l : q * b ≤ S' + rest + (b - 1) = omega (arith, div-mul-le_self S' b) in
    (le-div_iff_mul-le b0).1 l
    in
    omega (arith, most, least)

-- k_3 in parts of 1 / (30 length), at some place
record InParts (l : ℕ) (x : ℤ) : Type 0 where
  parts : ℕ
  is : nat parts ≈ nat (30 * l) *q k₃ (metres (pos l)) (metres x)
  most : parts ≤ 21 * l

in_parts : (l m : ℕ) → 1 ≤ l → m ≤ l → InParts l (pos m)
in_parts l m l0 h = go (dec_le l (5 * m)) (dec_le (10 * m) (7 * l))
  where
    go : Dec (l ≤ 5 * m) → Dec (10 * m ≤ 7 * l) → InParts l (pos m)
    go (no a) b = record { parts = 15 * l - 75 * m; is = part_aft l m l0 (omega arith); most = omega arith }
    go (yes a) (yes b) = record { parts = 0; is = part_amid l m l0 a b; most = omega arith }
    go (yes a) (no b) = record { parts = 70 * m - 49 * l; is = part_fore l m l0 a (omega arith); most = omega arith }

cut_below : (z : ℤ) → cut z ≼ z
cut_below (pos n) = go (dec_le n 1000)
  where
    go : Dec (n ≤ 1000) → cut (pos n) ≼ pos n
    go (yes h) = rw (le-leb n 1000 h) (≼_refl (pos n))
    go (no h) = let l : 1000 < n = omega arith in rw (lt-leb n 1000 l) (nat_le 1000 n (omega arith))
cut_below (negsuc n) = ≼_refl (negsuc n)

least_most : (g : Condition) → Legal g → vertical_least g ≼ vertical_most g
least_most g ok =
    let at = place ok.length.1 g.x ok.x.0 ok.x.1 in
    let k = subst (InParts g.length) at.0 (in_parts g.length (nat_abs g.x) ok.length.0 at.1) in
    let far = size_metres g.y in
    let roll = roll_of g.angle g.period (nat_abs g.y) g.length in
    let less : k.parts ≤ 30 * g.length = omega (arith, k.most) in
    let up = sum_rounded g ok g.cosine k.parts (nat_abs g.y) (metres g.y) k.is far in
    let down = difference_rounded g ok g.cosine k.parts (nat_abs g.y) (metres g.y) k.is far less
    (rest_most ok.period.0 ok.period.1 (turn_of g.angle (nat_abs g.y)) g.length ok.length.1)
    in
    let S = still_of g.cosine g.heave g.length (30 * g.length - k.parts) in
    let S' = still_of g.cosine g.heave g.length (30 * g.length + k.parts) in
    let grows : S ≤ S' =
    let f : 30 * g.length - k.parts ≤ 30 * g.length + k.parts = omega arith in
    let h : 300000 * g.length + g.heave * (30 * g.length - k.parts) ≤ 300000 * g.length + g.heave * (30 * g.length + k.parts) =
    omega (arith, mul-le-mul_left g.heave f)
    in
    mul-le-mul_left g.cosine h
    in
    let b0 : 0 < parts_of g.length = omega (arith, ok.length.0) in
    let whole = nat_le _ _ (down_up S S' roll.rest (parts_of g.length) roll.whole b0 grows) in
    let b = parts_of g.length in
    rw (least_is g, most_is g)
    (≼_trans _ _ _ (cut_below (floor (nat 1000 *q difference g g.cosine (metres g.y))))
    (rw (down, up) (taken_off (pos ((S + (b - roll.rest)) / b)) (pos (roll.whole + 1)) (pos (up_of S' roll b)) whole)))

-- the size of what is within
size_along : (z : ℤ) (most : ℕ) → not (along z most) ≡ false → nat_abs z ≤ most
size_along (pos n) most e = leb-true n most (and_true (leb 0 n) (leb n most) (not_false _ e)).1
size_along (negsuc n) most e = absurd (true≢false e)

size_least : (z u : ℤ) (most : ℕ) → not (along z most) ≡ false → z ≼ u → nat_abs z ≤ nat_abs u
size_least (pos n) (pos m) most e h = le_nat n m h
size_least (pos n) (negsuc m) most e h = absurd h.le
size_least (negsuc n) u most e h = absurd (true≢false e)

pub within : AllWithin
within g =
    go (row18 g).holds (not (along (transverse g) 1500)) (not (along (vertical_most g) 3000)) (not (along (vertical_least g) 1000))
    refl refl refl refl
  where
    go :
        (a b c d : Bool) →
        (row18 g).holds ≡ a →
        not (along (transverse g) 1500) ≡ b →
        not (along (vertical_most g) 3000) ≡ c →
        not (along (vertical_least g) 1000) ≡ d →
        Within (condition_a g)
    go true b c d e f h k = subst Within (sym (refused_18 g e)) (omega arith, omega arith, omega arith)
    go false true c d e f h k = subst Within (sym (refused_19_1 g e f)) (omega arith, omega arith, omega arith)
    go false false true d e f h k = subst Within (sym (refused_19_2 g e f h)) (omega arith, omega arith, omega arith)
    go false false false true e f h k = subst Within (sym (refused_19_3 g e f h k)) (omega arith, omega arith, omega arith)
    go false false false false e f h k =
        subst Within (sym (given g e f h k)) (
          size_along (transverse g) 1500 f,
          size_along (vertical_most g) 3000 h,
          size_along (vertical_least g) 1000 k,
          size_least (vertical_least g) (vertical_most g) 1000 k (least_most g (legal g e)),
        )

pub tiers_fit : TiersFit
unfolding tier_fits
tiers_fit g a t is h =
    let w = subst Within is (within g) in
    rw (le-leb a.aT 1500 w.0, le-leb a.aVmax 3000 w.1, le-leb a.aVmin 1000 w.2, le-leb a.aVmin a.aVmax w.3) h
