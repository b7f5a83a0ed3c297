-- Rackings, moments and sums of the posts: their sizes, and the figure of a post by the greater and the lesser sum.
use Prim.Native.Nat.{ℕ, zero, suc, ◌+◌, ◌*◌, ◌-◌, ◌/◌, ◌^◌, ◌<◌, ◌≤◌, max}
use mathlib.Core.Bool.{Bool, true, false, cond}
use mathlib.Core.Path.{◌≡◌, refl, sym, ap, ap₂, ◌∙◌}
use native.Mathlib.Nat.{div-eq_of_lt}
use native.Mathlib.Omega.{arith}
use native.Mathlib.Decide.{dec_le}
use lib.Dec.{lit<, lit≤, ltb}
use lib.IntN.{ℤ, pos, negsuc, nat_abs, neg_ℤ, ◌+ℤ◌, ◌-ℤ◌, ◌*ℤ◌, +ℤ_assoc}
use lib.Signed.{quot_z, shr_z, lt_z}
use Rattle.arith.specs.Inner.Rounding.{rounded_up, rounded_up_z}
use Rattle.arith.specs.Inner.Sizes.{Small}
use Rattle.arith.proofs.Integers.{◌≼◌}
use Rattle.arith.proofs.IntegerOrder.{tested_less, tested_not_less}
use Rattle.arith.proofs.IntegerOmega.{D, d_eq, d_pos, d_neg, zs, all₃}
use Rattle.arith.proofs.Sizes.{small_weaken, small_pos, small_add, small_sub, small_mul}
use Rattle.springs.specs.Equations.{closed_spring}
use Rattle.springs.specs.Inner.Promise.{farthest}
use Rattle.springs.proofs.Ranges.{force_small}
use Rattle.statics.specs.Posts.{post_spacing}
use Rattle.statics.specs.Inner.WholeNumbers.{post_pad, not_below, post_figure}
use Rattle.statics.specs.declared.PostParts.{PostParts}
use Rattle.figures_posts.specs.Inner.Posts.{greater_of, lesser_of, lee_of, windward_of}
use Rattle.figures_posts.proofs.Shifts.{shifted_small}
use Rattle.arith.proofs.SignedWords.{small_quot}

-- a racking
pub racking_small :
    {k u l : ℕ} → k ≤ closed_spring → u ≤ farthest → l ≤ farthest → Small (2 ^ 45) (shr_z (pos (k * u) -ℤ pos (k * l)) 1024)
racking_small {k} {u} {l} hk hu hl = shifted_small (pos (k * u) -ℤ pos (k * l)) (force_small hk hu hl)

-- a moment, and what it adds to a post
module _ {height : ℕ} {part : ℤ} (hh : height ≤ 2896) (hp : Small (2 ^ 45) part) where
  pub tier_moment_small : Small (2896 * 2 ^ 45) (pos height *ℤ part)
  tier_moment_small = small_mul (small_pos hh) hp

  pub moment_small : {above : ℤ} → Small (2 ^ 60) above → Small (2 ^ 61) (pos height *ℤ part +ℤ above)
  moment_small ha = small_weaken (small_add tier_moment_small ha) (lit≤ tt)

pub lean_small : {z : ℤ} → Small (2 ^ 61) z → Small (2 ^ 50) (quot_z z (pos post_spacing))
lean_small s = small_quot post_spacing s (omega (arith, s.size))

-- the sum of a post but for the weight; with weight and pad
pub post_small : {couple : ℤ} {vertical : ℕ} → Small (2 ^ 50) couple → vertical ≤ 2 ^ 62 → Small (5 * 2 ^ 60) (couple +ℤ pos vertical)
post_small hc hv = small_weaken (small_add hc (small_pos hv)) (lit≤ tt)

pub unweighed : {weight : ℕ} → weight ≤ 2 ^ 40 → Small (2 ^ 41) (pos post_pad -ℤ pos weight)
unweighed hw = small_weaken (small_sub (small_pos {b = post_pad} (lit≤ tt)) (small_pos hw)) (lit≤ tt)

module _ {weight : ℕ} {z : ℤ} (hw : weight ≤ 2 ^ 40) (s : Small (5 * 2 ^ 60) z) where
  pub weighed : Small (6 * 2 ^ 60) (z +ℤ pos weight)
  weighed = small_weaken (small_add s (small_pos hw)) (lit≤ tt)

  pub pressed_small : Small (7 * 2 ^ 60) (z +ℤ pos weight +ℤ pos post_pad)
  pressed_small = small_weaken (small_add weighed (small_pos {b = post_pad} (lit≤ tt))) (lit≤ tt)

  pub lifted_small : Small (7 * 2 ^ 60) (pos post_pad -ℤ pos weight -ℤ z)
  lifted_small = small_weaken (small_sub (unweighed hw) s) (lit≤ tt)

-- the greater and the lesser of two signed numbers
either_small : {b : ℕ} {x y : ℤ} (second : Bool) → Small b x → Small b y → Small b (cond second y x)
either_small true s t = t
either_small false s t = s

pub greater_small : {b : ℕ} {x y : ℤ} → Small b x → Small b y → Small b (greater_of x y)
greater_small {x = x} {y = y} s t = either_small (lt_z x y) s t

pub lesser_small : {b : ℕ} {x y : ℤ} → Small b x → Small b y → Small b (lesser_of x y)
lesser_small {x = x} {y = y} s t = either_small (lt_z y x) s t

-- the figure of a post: what is rounded up may be cut off at 0 before that or after it
no_size : (n : ℕ) → not_below (neg_ℤ (pos n)) ≡ 0
no_size zero = refl
no_size (suc n) = refl

cut_off : (z : ℤ) (d : ℕ) → 0 < d → not_below (rounded_up_z z d) ≡ rounded_up (not_below z) d
unfolding rounded_up_z
cut_off (pos n) d h = refl
cut_off (negsuc n) d h = no_size (suc n / d) ∙ sym (div-eq_of_lt (omega arith))

-- and the greater sum is cut off as both are
d_below : (p n : ℕ) → not_below (D p n) ≡ p - n
d_below p n = go (dec_le n p)
  where
    go : Dec (n ≤ p) → not_below (D p n) ≡ p - n
    go (yes h) = ap not_below ((d_eq p n (p - n) 0).1 (omega arith) ∙ sym (d_pos (p - n)))
    go (no h) =
        ap not_below ((d_eq p n 0 (n - p)).1 (omega arith) ∙ sym (d_neg (n - p) 0) ∙ ap neg_ℤ (sym (d_pos (n - p))))
        ∙ no_size (n - p)
        ∙ omega arith

added : (x y q : ℤ) → x ≼ y → not_below (x +ℤ q) ≤ not_below (y +ℤ q)
added = all₃ _ λ p n q m r s. simp (zs, d_below) (λ h. omega (arith, h))

taken : (x y q : ℤ) → x ≼ y → not_below (q -ℤ y) ≤ not_below (q -ℤ x)
taken = all₃ _ λ p n q m r s. simp (zs, d_below) (λ h. omega (arith, h))

greater_cut : (x y q : ℤ) → not_below (greater_of x y +ℤ q) ≡ max (not_below (x +ℤ q)) (not_below (y +ℤ q))
greater_cut x y q = go (lt_z x y) refl
  where
    go : (second : Bool) → lt_z x y ≡ second → not_below (cond second y x +ℤ q) ≡ max (not_below (x +ℤ q)) (not_below (y +ℤ q))
    go true e = omega (arith, added x y q (tested_less x y e))
    go false e = omega (arith, added y x q (tested_not_less x y e))

lesser_cut : (x y q : ℤ) → not_below (q -ℤ lesser_of x y) ≡ max (not_below (q -ℤ x)) (not_below (q -ℤ y))
lesser_cut x y q = go (lt_z y x) refl
  where
    go : (second : Bool) → lt_z y x ≡ second → not_below (q -ℤ cond second y x) ≡ max (not_below (q -ℤ x)) (not_below (q -ℤ y))
    go true e = omega (arith, taken y x q (tested_less y x e))
    go false e = omega (arith, taken x y q (tested_not_less y x e))

-- the sum of a post with weight and pad, and with its sign reversed
summed : (x w p : ℤ) → x +ℤ (w +ℤ p) ≡ w +ℤ x +ℤ p
summed = all₃ _ λ p n q m r s. simp zs (omega arith)

reversed : (x w p : ℤ) → p -ℤ w -ℤ x ≡ neg_ℤ (w +ℤ x) +ℤ p
reversed = all₃ _ λ p n q m r s. simp zs (omega arith)

module _ (weight : ℕ) (x y : ℤ) where
  greater_sum : not_below (rounded_up_z (greater_of x y +ℤ pos weight +ℤ pos post_pad) (2 ^ 18)) ≡ post_figure (pos weight +ℤ x) (pos weight +ℤ y)
  unfolding post_figure
  greater_sum =
      let w = pos weight in
      let p = pos post_pad in
      cut_off (greater_of x y +ℤ w +ℤ p) (2 ^ 18) (lit< tt)
      ∙ ap (λ (n : ℕ). rounded_up n (2 ^ 18))
      (ap not_below (+ℤ_assoc (greater_of x y) w p)
      ∙ greater_cut x y (w +ℤ p)
      ∙ ap₂ (λ (a b : ℤ). max (not_below a) (not_below b)) (summed x w p) (summed y w p))

  pub lifted_rounded :
      not_below (rounded_up_z (pos post_pad -ℤ pos weight -ℤ lesser_of x y) (2 ^ 18))
      ≡ post_figure (neg_ℤ (pos weight +ℤ x)) (neg_ℤ (pos weight +ℤ y))
  unfolding post_figure
  lifted_rounded =
      let w = pos weight in
      let p = pos post_pad in
      cut_off (p -ℤ w -ℤ lesser_of x y) (2 ^ 18) (lit< tt)
      ∙ ap (λ (n : ℕ). rounded_up n (2 ^ 18))
      (lesser_cut x y (p -ℤ w) ∙ ap₂ (λ (a b : ℤ). max (not_below a) (not_below b)) (reversed x w p) (reversed y w p))

  -- from 0 on there is nothing to cut off
  pub pressed_rounded :
      greater_of x y ≡ pos (nat_abs (greater_of x y)) →
      rounded_up_z (greater_of x y +ℤ pos weight +ℤ pos post_pad) (2 ^ 18) ≡ pos (post_figure (pos weight +ℤ x) (pos weight +ℤ y))
  unfolding rounded_up_z
  pressed_rounded e =
      let z : rounded_up_z (greater_of x y +ℤ pos weight +ℤ pos post_pad) (2 ^ 18)
      ≡ pos (rounded_up (nat_abs (greater_of x y) + weight + post_pad) (2 ^ 18)) =
      ap (λ (g : ℤ). rounded_up_z (g +ℤ pos weight +ℤ pos post_pad) (2 ^ 18)) e in
      z ∙ ap pos (sym (ap not_below z) ∙ greater_sum)

-- of the two posts of a level the moment presses one down
either : (k m : ℕ) (less : Bool) → cond less (pos m) (pos k) ≡ pos (nat_abs (cond less (pos m) (pos k)))
either k m true = refl
either k m false = refl

first_pressed : (k : ℕ) (y : ℤ) → greater_of (pos k) y ≡ pos (nat_abs (greater_of (pos k) y))
first_pressed k (pos m) = either k m (ltb k m)
first_pressed k (negsuc m) = refl

second_pressed : (x : ℤ) (k : ℕ) → greater_of x (pos k) ≡ pos (nat_abs (greater_of x (pos k)))
second_pressed (pos m) k = either m k (ltb m k)
second_pressed (negsuc m) k = refl

pub one_pressed :
    (couple : ℤ) (parts : PostParts) →
    let greatest = greater_of (couple +ℤ pos parts.lee) (neg_ℤ couple +ℤ pos parts.windward) in
    greatest ≡ pos (nat_abs greatest)
one_pressed (pos n) parts = first_pressed (n + parts.lee) (neg_ℤ (pos n) +ℤ pos parts.windward)
one_pressed (negsuc n) parts = second_pressed (negsuc n +ℤ pos parts.lee) (suc n + parts.windward)

-- the sums of the two posts with the weight
module _ (weight : ℕ) (couple : ℤ) (parts : PostParts) where
  pub lee_sum : pos weight +ℤ (couple +ℤ pos parts.lee) ≡ lee_of weight couple parts
  lee_sum = sym (+ℤ_assoc (pos weight) couple (pos parts.lee))

  pub windward_sum : pos weight +ℤ (neg_ℤ couple +ℤ pos parts.windward) ≡ windward_of weight couple parts
  windward_sum = sym (+ℤ_assoc (pos weight) (neg_ℤ couple) (pos parts.windward))
