-- What each row settles: its refusal where it holds; where 18's does not, the ranges; where none does, the accelerations.
use Rattle.std.specs.Prelude.{Ok, Err}
use Prim.Native.Nat.{ℕ, ◌+◌, ◌*◌, ◌≤◌, ◌<◌}
use mathlib.Core.Bool.{Bool, true, false, not, true≢false}
use mathlib.Core.Path.{◌≡◌, refl, ap, sym, subst, ◌∙◌}
use native.Mathlib.Decide.{dec_le}
use native.Mathlib.Nat.{add_comm}
use native.Mathlib.Omega.{arith}
use borrow.Author.Tests.{ltb-true, ltb-false, eqb-false, le-leb, lt-leb}
use lib.Dec.{T, ltb, eqb}
use lib.IntN.{ℤ, pos, negsuc, nat_abs, ◌-ℤ◌}
use lib.Signed.{◌≤ℤ◌, le_z, lt_z}
use Rattle.arith.specs.Fractions.{nat, ◌*q◌}
use Rattle.arith.specs.Wholes.{floor}
use Rattle.sheet.specs.Layout.{◌is◌, ◌above◌}
use Rattle.sheet.specs.Refusals.{numbers, unless_refused}
use Rattle.sheet.proofs.Bools.{and_true, or_false, not_false}
use Rattle.sheet.proofs.Rows.{no_rows, row_holds, row_passed}
use Rattle.roll_parts.proofs.Signs.{square_above}
use Rattle.roll.specs.declared.Condition.{Condition}
use Rattle.roll.specs.declared.Accelerations.{Accelerations}
use Rattle.roll.specs.ConditionA.{metres}
use Rattle.roll.specs.Rounded.{far, along, off_unit, cut, transverse, vertical_most, vertical_least, row18, condition_a}
use Rattle.roll.specs.Inner.Sums.{Legal, difference}
use Rattle.roll.proofs.Formulas.{least_is}

-- above zero, along the ship, and on the unit circle
above_zero : (n : ℕ) → eqb n 0 ≡ false → 1 ≤ n
above_zero n e = go (dec_le 1 n)
  where
    none : ¬ (1 ≤ n) → n ≡ 0
    none h = omega arith

    go : Dec (1 ≤ n) → 1 ≤ n
    go (yes h) = h
    go (no h) = absurd (eqb-false n 0 e (none h))

on_ship : (x : ℤ) (length : ℕ) → not (along x length) ≡ false → (pos 0 ≤ℤ x) × (x ≤ℤ pos length)
on_ship x length e =
    let p = and_true (le_z (pos 0) x) (le_z x (pos length)) (not_false _ e) in
    (record { le = subst T (sym p.0) tt }, record { le = subst T (sym p.1) tt })

near_unit : (a b : ℕ) → off_unit a b ≡ false → a ≤ 10000
near_unit a b e = go (dec_le a 10000)
  where
    clash : 10000 < a → ⊥
    clash h = omega (arith, square_above a b h, ltb-false 15000 (nat_abs (pos (a * a + b * b) -ℤ pos 100000000)) e)

    go : Dec (a ≤ 10000) → a ≤ 10000
    go (yes h) = h
    go (no h) = absurd (clash (omega arith))

-- outside, and within
pub beyond : {z : ℤ} (t most : ℕ) → pos t ≡ z → most < t → not (along z most) ≡ true
beyond t most e h = subst (λ z. not (along z most) ≡ true) e (rw (le-leb 0 t (omega arith), lt-leb t most h) refl)

pub inside : {z : ℤ} (t most : ℕ) → pos t ≡ z → t ≤ most → not (along z most) ≡ false
inside t most e h = subst (λ z. not (along z most) ≡ false) e (rw (le-leb 0 t (omega arith), le-leb t most h) refl)

pub under_zero : (z : ℤ) (most : ℕ) → lt_z z (pos 0) ≡ true → not (along z most) ≡ true
under_zero (pos n) most e = absurd (none (ltb-true n 0 e))
  where
    none : n < 0 → ⊥
    none h = omega arith
under_zero (negsuc n) most e = refl

cut_most : (z : ℤ) → lt_z (cut z) (pos 0) ≡ false → not (along (cut z) 1000) ≡ false
cut_most (pos n) e = go (dec_le n 1000)
  where
    go : Dec (n ≤ 1000) → not (along (cut (pos n)) 1000) ≡ false
    go (yes h) = rw (le-leb n 1000 h, le-leb 0 n (omega arith), le-leb n 1000 h) refl
    go (no h) = let l : 1000 < n = omega arith in rw (lt-leb n 1000 l) refl
cut_most (negsuc n) e = absurd (true≢false e)

pub least_inside : (g : Condition) → lt_z (vertical_least g) (pos 0) ≡ false → not (along (vertical_least g) 1000) ≡ false
least_inside g e =
    let z = floor (nat 1000 *q difference g g.cosine (metres g.y)) in
    rw (least_is g) (cut_most z (rw (least_is g) at e))

module _ (g : Condition) where
  abbrev out : Bool
  out = (row18 g).holds

  abbrev found : Accelerations
  found = record { aT = nat_abs (transverse g); aVmax = nat_abs (vertical_most g); aVmin = nat_abs (vertical_least g) }

  pub refused_18 : out ≡ true → condition_a g ≡ Err (numbers 18 0)
  unfolding condition_a
  refused_18 e = ap (λ r. unless_refused r found) (row_holds _ _ e)

  module _ (e : out ≡ false) where
    pub refused_19_1 : not (along (transverse g) 1500) ≡ true → condition_a g ≡ Err (numbers 19 1)
    unfolding condition_a
    refused_19_1 f = ap (λ r. unless_refused r found) (row_passed _ _ e ∙ row_holds _ _ f)

    module _ (f : not (along (transverse g) 1500) ≡ false) where
      pub refused_19_2 : not (along (vertical_most g) 3000) ≡ true → condition_a g ≡ Err (numbers 19 2)
      unfolding condition_a
      refused_19_2 h = ap (λ r. unless_refused r found) (row_passed _ _ e ∙ row_passed _ _ f ∙ row_holds _ _ h)

      module _ (h : not (along (vertical_most g) 3000) ≡ false) where
        pub refused_19_3 : not (along (vertical_least g) 1000) ≡ true → condition_a g ≡ Err (numbers 19 3)
        unfolding condition_a
        refused_19_3 k = ap (λ r. unless_refused r found) (row_passed _ _ e ∙ row_passed _ _ f ∙ row_passed _ _ h ∙ row_holds _ _ k)

        pub given : not (along (vertical_least g) 1000) ≡ false → condition_a g ≡ Ok found
        unfolding condition_a
        given k =
            ap (λ r. unless_refused r found)
            (row_passed _ _ e ∙ row_passed _ _ f ∙ row_passed _ _ h ∙ row_passed _ _ k ∙ no_rows)

    pub legal : Legal g
    legal =
        let unit = or_false _ (off_unit g.sine g.cosine) e in
        let ship = or_false _ (not (along g.x g.length)) unit.0 in
        let z = or_false _ (far g.z) ship.0 in
        let y = or_false _ (far g.y) z.0 in
        let x = or_false _ (far g.x) y.0 in
        let centre = or_false _ (far g.centre) x.0 in
        let length = or_false _ (far (pos g.length)) centre.0 in
        let heave = or_false _ (g.heave above 10000) length.0 in
        let angle = or_false _ (g.angle above 9000) heave.0 in
        let period = or_false _ (g.period above 10000) angle.0 in
        let none = or_false (g.length is 0) (g.period is 0) period.0 in
        let turned = ap (λ (n : ℕ). ltb 15000 (nat_abs (pos n -ℤ pos 100000000))) (add_comm (g.cosine * g.cosine) (g.sine * g.sine)) in
        record {
          sine = near_unit g.sine g.cosine unit.1;
          cosine = near_unit g.cosine g.sine (turned ∙ unit.1);
          heave = ltb-false _ _ heave.1;
          angle = ltb-false _ _ angle.1;
          period = (above_zero g.period none.1, ltb-false _ _ period.1);
          length = (above_zero g.length none.0, ltb-false _ _ length.1);
          centre = ltb-false _ _ centre.1;
          x = on_ship g.x g.length ship.1;
          y = ltb-false _ _ y.1;
          z = ltb-false _ _ z.1;
        }
