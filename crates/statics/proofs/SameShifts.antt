-- Where two lists of shifts agree, so does the tension at a level.
use mathlib.Core.Bool.{Bool, true, false, cond}
use mathlib.Core.List.{List, [], ◌∷◌}
use mathlib.Core.Path.{◌≡◌, ap₂}
use Prim.Native.Nat.{ℕ, ◌*◌}
use lib.Dec.{ltb}
use lib.ListN.{drop}
use Rattle.arith.specs.Fractions.{Frac, nat, recip, sumq, negq, ◌+q◌, ◌-q◌, ◌*q◌, ◌/q◌, ◌≈◌}
use Rattle.arith.proofs.FractionLaws.{≈-refl, ≈-trans, +q-cong, +q-cong-r, *q-cong, *q-cong-r, negq_cong}
use Rattle.arith.proofs.FractionsInRationals.{of-≈}
use Rattle.arith.proofs.Rationals.{leℚ}
use Rattle.springs.specs.Equations.{given, shift}
use Rattle.springs.specs.Theorems.{Agree}
use Rattle.sheet.specs.declared.Tier.{Tier}
use Rattle.sheet.specs.declared.Lash.{Lash}
use Rattle.sheet.specs.declared.Lashing.{Lashing}
use Rattle.sheet.specs.declared.Lashing.TheVariants.{Cross, Side}
use Rattle.sheet.specs.Lashings.{lashing_of, level_of}
use Rattle.statics.specs.Loads.{Rule}
use Rattle.statics.specs.Lashes.{lash_length, pull, athwart_part, vertical_part}
use Rattle.statics.specs.Posts.{level_height, turning, athwart_of, moment, weight_above, in_tension, on_lee, on_windward, verticals}
use Rattle.statics.specs.Posts.{post_spacing, at_most, greater, lower, lee, windward, tension}

-- a part of a lash: athwart or vertical, by the side that it is taken along
module _ (l : Lash) (D E : Frac) (h : D ≈ E) where
  part_same : (side : ℕ) → pull l D *q nat side /q nat (lash_length l) ≈ pull l E *q nat side /q nat (lash_length l)
  unfolding pull
  part_same side =
      let a = nat l.modulus *q nat l.area *q nat l.ly in
      let b = recip (nat (lash_length l * lash_length l)) in
      let c = nat side in
      *q-cong (a *q D *q b *q c) (a *q E *q b *q c) (recip (nat (lash_length l)))
      (*q-cong (a *q D *q b) (a *q E *q b) c (*q-cong (a *q D) (a *q E) b (*q-cong-r D E a h)))

  athwart_same : athwart_part l D ≈ athwart_part l E
  unfolding athwart_part
  athwart_same = part_same l.ly

  vertical_same : vertical_part l D ≈ vertical_part l E
  unfolding vertical_part
  vertical_same = part_same l.lz

-- sums, and what counts
sum_same : {A : Type 0} (f g : A → Frac) → ((x : A) → f x ≈ g x) → (xs : List A) → sumq f xs ≈ sumq g xs
unfolding sumq
sum_same f g h [] = ≈-refl (nat 0)
sum_same f g h (x ∷ xs) =
    ≈-trans (f x +q sumq f xs) (g x +q sumq f xs) (g x +q sumq g xs) (+q-cong (f x) (g x) (sumq f xs) (h x))
    (+q-cong-r (sumq f xs) (sumq g xs) (g x) (sum_same f g h xs))

given_same : (b : Bool) (x y : Frac) → x ≈ y → given b x ≈ given b y
given_same true x y h = h
given_same false x y h = ≈-refl (nat 0)

-- the greater and the lower of two
test_same : (x y p q : Frac) → x ≈ p → y ≈ q → at_most x y ≡ at_most p q
unfolding at_most leℚ
test_same x y p q h k = ap₂ leℚ (of-≈ x p h) (of-≈ y q k)

choice_same : (b : Bool) (x y p q : Frac) → x ≈ p → y ≈ q → cond b x y ≈ cond b p q
choice_same true x y p q h k = h
choice_same false x y p q h k = k

greater_same : (x y p q : Frac) → x ≈ p → y ≈ q → greater x y ≈ greater p q
greater_same x y p q h k = rw (test_same x y p q h k) (choice_same (at_most p q) y x q p k h)

lower_same : (x y p q : Frac) → x ≈ p → y ≈ q → lower x y ≈ lower p q
lower_same x y p q h k = rw (test_same x y p q h k) (choice_same (at_most p q) x y p q h k)

-- a post takes equal forces alike
lee_keeps : (g : Lashing) (x y : Frac) → x ≈ y → on_lee g x ≈ on_lee g y
lee_keeps (Cross l) x y h = h
lee_keeps (Side l) x y h = ≈-refl (nat 0)

windward_keeps : (g : Lashing) (x y : Frac) → x ≈ y → on_windward g x ≈ on_windward g y
windward_keeps (Cross l) x y h = ≈-refl (nat 0)
windward_keeps (Side l) x y h = h

module _ (rule : Rule) (ts : List Tier) (ls : List Lash) (Ds Es : List Frac) (a : Agree Ds Es) (i : ℕ) where
  verticals_same :
      (post : Lashing → Frac → Frac) →
      ((g : Lashing) (x y : Frac) → x ≈ y → post g x ≈ post g y) →
      (counts : Lash → Bool) →
      verticals post counts ls Ds ≈ verticals post counts ls Es
  verticals_same post keeps counts = sum_same (added Ds) (added Es) each ls
    where
      part : List Frac → Lash → Frac
      part Ds l = vertical_part l (shift Ds (level_of l))

      added : List Frac → Lash → Frac
      added Ds l = given (counts l) (post (lashing_of l) (part Ds l))

      each : (l : Lash) → added Ds l ≈ added Es l
      each l =
          given_same (counts l) (post (lashing_of l) (part Ds l)) (post (lashing_of l) (part Es l))
          (keeps (lashing_of l) (part Ds l) (part Es l)
          (vertical_same l (shift Ds (level_of l)) (shift Es (level_of l)) (a.same (level_of l))))

  moment_same : moment rule ts ls Ds i ≈ moment rule ts ls Es i
  unfolding moment
  moment_same =
      let held : List Frac → Frac = λ Ds. sumq (taken Ds) ls in
      +q-cong-r (negq (held Ds)) (negq (held Es)) (turning rule (nat 0) (drop i ts))
      (negq_cong (held Ds) (held Es) (sum_same (taken Ds) (taken Es) each ls))
    where
      arm : Lash → Frac
      arm l = nat (level_height ts (level_of l)) -q nat (level_height ts i)

      taken : List Frac → Lash → Frac
      taken Ds l = given (ltb i (level_of l)) (athwart_of Ds l *q arm l)

      each : (l : Lash) → taken Ds l ≈ taken Es l
      each l =
          given_same (ltb i (level_of l)) (athwart_of Ds l *q arm l) (athwart_of Es l *q arm l)
          (*q-cong (athwart_of Ds l) (athwart_of Es l) (arm l)
          (athwart_same l (shift Ds (level_of l)) (shift Es (level_of l)) (a.same (level_of l))))

  -- the sum of a post
  post_same : (w P Q p q : Frac) → P ≈ Q → p ≈ q → w +q P +q p ≈ w +q Q +q q
  post_same w P Q p q h k =
      ≈-trans (w +q P +q p) (w +q Q +q p) (w +q Q +q q) (+q-cong (w +q P) (w +q Q) p (+q-cong-r P Q w h))
      (+q-cong-r p q (w +q Q) k)

  pub tension_same : tension rule ts ls Ds i ≈ tension rule ts ls Es i
  unfolding tension
  tension_same =
      let l : List Frac → Frac = λ Ds. lee rule ts ls Ds i (λ t. t.aVmin) in_tension in
      let w : List Frac → Frac = λ Ds. windward rule ts ls Ds i (λ t. t.aVmin) in_tension in
      greater_same (nat 0) (negq (lower (l Ds) (w Ds))) (nat 0) (negq (lower (l Es) (w Es))) (≈-refl (nat 0))
      (negq_cong (lower (l Ds) (w Ds)) (lower (l Es) (w Es)) (lower_same (l Ds) (w Ds) (l Es) (w Es) lee_same windward_same))
    where
      lean : List Frac → Frac
      lean Ds = moment rule ts ls Ds i /q nat post_spacing

      lean_same : lean Ds ≈ lean Es
      lean_same = *q-cong (moment rule ts ls Ds i) (moment rule ts ls Es i) (recip (nat post_spacing)) moment_same

      weight : Frac
      weight = weight_above (λ t. t.aVmin) ts i /q nat 2

      lee_same : lee rule ts ls Ds i (λ t. t.aVmin) in_tension ≈ lee rule ts ls Es i (λ t. t.aVmin) in_tension
      lee_same =
          post_same weight (lean Ds) (lean Es) (verticals on_lee (in_tension i) ls Ds) (verticals on_lee (in_tension i) ls Es) lean_same
          (verticals_same on_lee lee_keeps (in_tension i))

      windward_same : windward rule ts ls Ds i (λ t. t.aVmin) in_tension ≈ windward rule ts ls Es i (λ t. t.aVmin) in_tension
      windward_same =
          post_same weight (negq (lean Ds)) (negq (lean Es)) (verticals on_windward (in_tension i) ls Ds)
          (verticals on_windward (in_tension i) ls Es) (negq_cong (lean Ds) (lean Es) lean_same)
          (verticals_same on_windward windward_keeps (in_tension i))
