-- Document 01, "Posts and locks": moments, and what the posts carry at a level.
use Rattle.std.specs.Prelude.{Bool, cond, ◌&&◌, ◌||◌, List, [], ◌∷◌, ℕ, zero, suc, ◌+◌, leb, ltb, drop, ◌*ℤ◌}
use Rattle.std.specs.Int.Signed.{le_z}
use Rattle.arith.specs.Fractions.{Frac, nat, ◌+q◌, ◌-q◌, ◌*q◌, ◌/q◌, negq, sumq}
use Rattle.springs.specs.Equations.{given, shift}
use Rattle.sheet.specs.declared.Tier.{Tier}
use Rattle.sheet.specs.declared.Lash.{Lash}
use Rattle.sheet.specs.declared.Lashing.{Lashing}
use Rattle.sheet.specs.declared.Lashing.TheVariants.{Cross, Side}
use Rattle.sheet.specs.Layout.{◌is◌}
use Rattle.sheet.specs.Lashings.{lashing_of, level_of, at_bottom}
use Rattle.statics.specs.Loads.{half, transverse, wind, vertical_force, Rule}
use Rattle.statics.specs.Lashes.{athwart_part, vertical_part}

-- the height of level i over the deck, mm
unfoldable pub level_height : List Tier → ℕ → ℕ
level_height ts zero = 0
level_height [] (suc i) = 0
level_height (t ∷ ts) (suc i) = t.height + level_height ts i

-- F at the rule's share of its box's height and P at half of it, each × its height over a level; the first box stands `foot` over the level
unfoldable pub turning : Rule → Frac → List Tier → Frac
turning rule foot [] = nat 0
turning rule foot (t ∷ above) =
    transverse rule.factor t *q (foot +q rule.share *q nat t.height)
    +q wind t *q (foot +q half *q nat t.height)
    +q turning rule (foot +q nat t.height) above

-- the athwart part of a lash, by the shifts of the levels
abbrev pub athwart_of : List Frac → Lash → Frac
athwart_of Ds l = athwart_part l (shift Ds (level_of l))

-- M at level i: of all F and P of the tiers above, less athwart lash parts hooked above the level, each × its height over the level
unfoldable pub moment : Rule → List Tier → List Lash → List Frac → ℕ → Frac
moment rule ts ls Ds i =
    turning rule (nat 0) (drop i ts)
    -q sumq (λ l. given (ltb i (level_of l)) (athwart_of Ds l *q (nat (level_height ts (level_of l)) -q nat (level_height ts i)))) ls

-- V: F_V of the tiers above level i
abbrev pub weight_above : (Tier → ℕ) → List Tier → ℕ → Frac
weight_above acceleration ts i = sumq (vertical_force acceleration) (drop i ts)

-- which lashes count at level i: in compression those at this level or above it
abbrev pub in_compression : ℕ → Lash → Bool
in_compression i l = leb i (level_of l)

-- in tension those above it, and of those at this level the ones hooked to a bottom corner, which pull the upper box down onto the lock
-- (document 02, P4)
abbrev pub in_tension : ℕ → Lash → Bool
in_tension i l = ltb i (level_of l) || i is level_of l && at_bottom l

-- a cross lash pulls on the lee post, a side lash on the windward post
abbrev pub on_lee : Lashing → Frac → Frac
on_lee (Cross l) x = x
on_lee (Side l) x = nat 0

abbrev pub on_windward : Lashing → Frac → Frac
on_windward (Cross l) x = nat 0
on_windward (Side l) x = x

-- the vertical parts, on one post, of the lashes that count
abbrev pub verticals : (Lashing → Frac → Frac) → (Lash → Bool) → List Lash → List Frac → Frac
verticals post counts ls Ds =
    sumq (λ l. given (counts l) (post (lashing_of l) (vertical_part l (shift Ds (level_of l))))) ls

-- V/2 + M/2259 + vertical parts of cross lashes; V/2 − M/2259 + vertical parts of side lashes (post spacing, CR Table 2-2)
abbrev pub post_spacing : ℕ
post_spacing = 2259

abbrev pub lee_sum : Frac → Frac → Frac → Frac
lee_sum weight M cross = weight /q nat 2 +q M /q nat post_spacing +q cross

abbrev pub windward_sum : Frac → Frac → Frac → Frac
windward_sum weight M side = weight /q nat 2 -q M /q nat post_spacing +q side

-- the greater and the lower of two
unfoldable pub at_most : Frac → Frac → Bool
at_most x y = le_z (x.top *ℤ y.bot) (y.top *ℤ x.bot)

abbrev pub greater : Frac → Frac → Frac
greater x y = cond (at_most x y) y x

abbrev pub lower : Frac → Frac → Frac
lower x y = cond (at_most x y) x y

module _ (rule : Rule) (ts : List Tier) (ls : List Lash) (Ds : List Frac) (i : ℕ) where
  -- the two sums at level i, with the acceleration and the lashes that count
  abbrev pub lee : (Tier → ℕ) → (ℕ → Lash → Bool) → Frac
  lee acceleration counts =
      lee_sum (weight_above acceleration ts i) (moment rule ts ls Ds i) (verticals on_lee (counts i) ls Ds)

  abbrev pub windward : (Tier → ℕ) → (ℕ → Lash → Bool) → Frac
  windward acceleration counts =
      windward_sum (weight_above acceleration ts i) (moment rule ts ls Ds i) (verticals on_windward (counts i) ls Ds)

  -- compression: the greatest of 0 and the two sums
  unfoldable pub compression : Frac
  compression = greater (nat 0) (greater (lee (λ t. t.aVmax) in_compression) (windward (λ t. t.aVmax) in_compression))

  -- tension: how far the lower of the two sums lies below 0, else 0
  unfoldable pub tension : Frac
  tension = greater (nat 0) (negq (lower (lee (λ t. t.aVmin) in_tension) (windward (λ t. t.aVmin) in_tension)))
