-- The whole numbers that the check computes with. What they are worth is proved; nothing here need be believed.
-- Scales: stiffness in 2^-22 N/mm, shifts in 2^-28 mm, level loads in 2^-28 N; lash parts, rackings and post sums in 2^-18 N, moments in
-- 2^-18 N·mm.
use Rattle.std.specs.Prelude.{◌≡◌, Bool, cond, List, [], ◌∷◌, ℕ, suc, ◌+◌, ◌*◌, ◌-◌, ◌/◌, ◌%◌, ◌^◌, ◌<◌, ◌≤◌, max, eqb, drop, get_or, length, ℤ, pos, negsuc, neg_ℤ, ◌+ℤ◌, ◌-ℤ◌, ◌*ℤ◌}
use Rattle.std.specs.Int.Signed.{quot_z, shr_z}
use Rattle.arith.specs.Inner.Rounding.{rounded_up}
use Rattle.sheet.specs.Layout.{exposed}
use Rattle.sheet.specs.declared.Tier.{Tier}
use Rattle.sheet.specs.declared.Lash.{Lash}
use Rattle.sheet.specs.declared.Lashing.{Lashing}
use Rattle.sheet.specs.declared.Lashing.TheVariants.{Cross, Side}
use Rattle.sheet.specs.Lashings.{lashing_of, level_of}
use Rattle.statics.specs.Loads.{box_length}
use Rattle.statics.specs.Lashes.{lash_length}
use Rattle.statics.specs.Posts.{in_compression, in_tension, post_spacing}

-- the first n entries of an array of this size are P, and those behind them blank
pub record Filled {A : Type 0} (size : ℕ) (blank : A) (n : ℕ) (P : ℕ → A) (r : List A) : Type 0 where
  pub long : length r ≡ size
  pub each : (i : ℕ) → i < n → get_or r i blank ≡ P i
  pub rest : (i : ℕ) → n ≤ i → get_or r i blank ≡ blank

-- mass × A_T, and 27 × length × height where exposed
unfoldable pub transverse_units : Tier → ℕ
transverse_units t = t.mass * t.aT

unfoldable pub wind_units : Tier → ℕ
wind_units t = cond (exposed t) (27 * box_length t * t.height) 0

-- the load on the level between a tier and the tier over it: share in twentieths, factor in thousandths, all over 4,000,000,000
unfoldable pub level_load : ℕ → ℕ → Tier → Tier → ℕ
level_load share factor t over =
    (981 * factor * (share * transverse_units t + (20 - share) * transverse_units over) + 40000 * (wind_units t + wind_units over))
    * 2 ^ 28
    / 4000000000

-- mass × acceleration of the tiers, and half of V above level i
unfoldable pub vertical_units : (Tier → ℕ) → List Tier → ℕ
vertical_units acceleration [] = 0
vertical_units acceleration (t ∷ ts) = t.mass * acceleration t + vertical_units acceleration ts

unfoldable pub half_weight : (Tier → ℕ) → List Tier → ℕ → ℕ
half_weight acceleration ts i = 981 * vertical_units acceleration (drop i ts) * 2 ^ 18 / 400000

-- a lash's athwart stiffness, and the sum at level i
unfoldable pub stiffness_of : Lash → ℕ
stiffness_of l = l.modulus * l.area * (l.ly * l.ly) * 2 ^ 22 / (lash_length l * lash_length l * lash_length l)

unfoldable pub level_stiffness : List Lash → ℕ → ℕ
level_stiffness [] i = 0
level_stiffness (l ∷ ls) i = cond (eqb i (level_of l)) (stiffness_of l) 0 + level_stiffness ls i

-- the athwart part of a lash at the shifts d
unfoldable pub part : List ℕ → Lash → ℕ
part d l = stiffness_of l * get_or d (level_of l) 0 / 2 ^ 32

-- x × side / LY by a reciprocal of LY, the one division for all forces of a lash; of an x up to 5 × 2^37, 2.6 MN, it may come out low
unfoldable pub inverse : ℕ → ℕ
inverse ly = 2 ^ 46 / ly

unfoldable pub along : ℕ → ℕ → ℕ → ℕ
along x side inv = x / 2 ^ 8 % 2 ^ 32 * (side * inv / 2 ^ 20) / 2 ^ 18

-- 0.081 N in 2^-18 N: what it may lack, and half of that
abbrev pub along_pad : ℕ
along_pad = 21176

abbrev pub along_middle : ℕ
along_middle = 10588

-- 0.051 N in 2^-18 N: what one lash's part may lack
abbrev pub lash_pad : ℕ
lash_pad = 13365

-- the vertical part of a lash, as much too high as too low
unfoldable pub upward : List ℕ → Lash → ℕ
upward d l = along (part d l) l.lz (inverse l.ly) + along_middle

-- a number × a side / LY, with what it may lack, in N upwards
abbrev pub figure_along : ℕ → ℕ → ℕ → ℕ
figure_along x side ly = rounded_up (along x side (inverse ly) + along_pad) (2 ^ 18)

-- the figures of a lash: its padded part, in N upwards; times L / LY and LZ / LY
unfoldable pub athwart_figure : List ℕ → Lash → ℕ
athwart_figure d l = rounded_up (part d l + lash_pad) (2 ^ 18)

unfoldable pub pull_figure : List ℕ → Lash → ℕ
pull_figure d l = figure_along (part d l + lash_pad) (lash_length l) l.ly

unfoldable pub vertical_figure : List ℕ → Lash → ℕ
vertical_figure d l = figure_along (part d l + lash_pad) l.lz l.ly

-- the racking of tier i, rounded down, and its figure: padded by 0.06 N, in N upwards, with the sign kept
unfoldable pub racking_part : ℕ → List ℕ → ℕ → ℤ
racking_part K d i = shr_z (pos (K * get_or d (suc i) 0) -ℤ pos (K * get_or d i 0)) 1024

abbrev pub racking_pad : ℕ
racking_pad = 15729

unfoldable pub racking_figure : ℤ → ℤ
racking_figure (pos n) = pos (rounded_up (n + racking_pad) (2 ^ 18))
racking_figure (negsuc n) = neg_ℤ (pos (rounded_up (suc n + racking_pad) (2 ^ 18)))

-- the moment at a level, with the springs k of the tiers: height × racking, summed over the tiers from number i + 1 on
unfoldable pub moment_part : List ℕ → List ℕ → List Tier → ℕ → ℤ
moment_part k d [] i = pos 0
moment_part k d (t ∷ ts) i = pos t.height *ℤ racking_part (get_or k i 0) d i +ℤ moment_part k d ts (suc i)

-- the vertical parts on one post of the lashes that count
abbrev pub lee_part : Lashing → ℕ → ℕ
lee_part (Cross l) x = x
lee_part (Side l) x = 0

abbrev pub windward_part : Lashing → ℕ → ℕ
windward_part (Cross l) x = 0
windward_part (Side l) x = x

unfoldable pub upwards : (Lashing → ℕ → ℕ) → (Lash → Bool) → List ℕ → List Lash → ℕ
upwards post counts d [] = 0
upwards post counts d (l ∷ ls) = cond (counts l) (post (lashing_of l) (upward d l)) 0 + upwards post counts d ls

-- the two sums of a level
unfoldable pub lee_found : ℕ → ℤ → ℕ → ℤ
lee_found halfweight moment vertical = pos halfweight +ℤ quot_z moment (pos post_spacing) +ℤ pos vertical

unfoldable pub windward_found : ℕ → ℤ → ℕ → ℤ
windward_found halfweight moment vertical = pos halfweight -ℤ quot_z moment (pos post_spacing) +ℤ pos vertical

-- 3.41 N in 2^-18 N: what a post sum may lack
abbrev pub post_pad : ℕ
post_pad = 893912

abbrev pub not_below : ℤ → ℕ
not_below (pos n) = n
not_below (negsuc n) = 0

-- the figure of a post: the greater of two padded sums, not below 0, in N upwards
unfoldable pub post_figure : ℤ → ℤ → ℕ
post_figure x y = rounded_up (max (not_below (x +ℤ pos post_pad)) (not_below (y +ℤ pos post_pad))) (2 ^ 18)

-- compression and tension at a level, from half the weight above it, the moment, and the vertical parts on the two posts
abbrev pub compression_from : ℕ → ℤ → ℕ → ℕ → ℕ
compression_from weight moment lee windward = post_figure (lee_found weight moment lee) (windward_found weight moment windward)

abbrev pub tension_from : ℕ → ℤ → ℕ → ℕ → ℕ
tension_from weight moment lee windward = post_figure (neg_ℤ (lee_found weight moment lee)) (neg_ℤ (windward_found weight moment windward))

module _ (k : List ℕ) (ts : List Tier) (ls : List Lash) (d : List ℕ) (i : ℕ) where
  unfoldable pub compression_figure : ℕ
  compression_figure =
      compression_from
      (half_weight (λ t. t.aVmax) ts i)
      (moment_part k d (drop i ts) i)
      (upwards lee_part (in_compression i) d ls)
      (upwards windward_part (in_compression i) d ls)

  unfoldable pub tension_figure : ℕ
  tension_figure =
      tension_from
      (half_weight (λ t. t.aVmin) ts i)
      (moment_part k d (drop i ts) i)
      (upwards lee_part (in_tension i) d ls)
      (upwards windward_part (in_tension i) d ls)
