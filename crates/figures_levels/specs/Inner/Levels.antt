-- Contracts of inner functions: the figures of tiers and levels, from shifts, weights and vertical parts. Nothing here need be believed.
use Rattle.std.specs.Prelude.{◌≡◌, List, [], ◌∷◌, ℕ, suc, ◌+◌, ◌*◌, ◌^◌, ◌<◌, ◌≤◌, drop, take, get_or, length, ℤ, pos, ◌+ℤ◌, ◌*ℤ◌}
use Rattle.springs.specs.Equations.{closed_spring}
use Rattle.statics.specs.Inner.WholeNumbers.{Filled, racking_part, racking_figure, compression_from, tension_from}
use Rattle.statics.specs.Inner.InArrays.{most_in, least_in}
use Rattle.figures_posts.specs.Inner.Posts.{word}

unfoldable pub total : List ℕ → ℕ
total [] = 0
total (x ∷ xs) = x + total xs

-- the moment at a level, as moment_part, by the heights of the tiers from number i + 1 on
unfoldable pub moment_by : List ℕ → List ℕ → List ℕ → ℕ → ℤ
moment_by k d [] i = pos 0
moment_by k d (h ∷ hs) i = pos h *ℤ racking_part (get_or k i 0) d i +ℤ moment_by k d hs (suc i)

-- what the figures of the levels are computed from: hs are the heights of the tiers, weights half of V above the levels; lee and
-- windward the vertical parts by corner, of which 2 i and 2 i + 1 lie at level i (figures_lashes, `corner_of`)
pub record LevelInputs (n : ℕ) (k hs d weights lee windward : List ℕ) : Type 0 where
  pub few : n ≤ 10
  pub springs : (i : ℕ) → i < n → get_or k i 0 ≤ closed_spring
  pub heights : (i : ℕ) → i < n → get_or hs i 0 ≤ 2896
  pub shifts : (i : ℕ) → get_or d i 0 ≤ 2 ^ 40
  pub vmax_light : (i : ℕ) → get_or (most_in weights) i 0 ≤ 2 ^ 40
  pub vmin_light : (i : ℕ) → get_or (least_in weights) i 0 ≤ 2 ^ 40
  pub lee_small : (i : ℕ) → get_or lee i 0 ≤ 2 ^ 57
  pub windward_small : (i : ℕ) → get_or windward i 0 ≤ 2 ^ 57
  pub lee_long : length lee ≡ 22
  pub windward_long : length windward ≡ 22

module _ (n : ℕ) (k hs d weights lee windward : List ℕ) where
  abbrev pub compression_at : ℕ → ℕ
  compression_at i =
      word
      (compression_from
      (get_or (most_in weights) i 0)
      (moment_by k d (drop i (take n hs)) i)
      (total (drop (2 * i) (take (suc (2 * n)) lee)))
      (total (drop (2 * i) (take (suc (2 * n)) windward))))

  abbrev pub tension_at : ℕ → ℕ
  tension_at i =
      word
      (tension_from
      (get_or (least_in weights) i 0)
      (moment_by k d (drop i (take n hs)) i)
      (total (drop (suc (2 * i)) (take (suc (2 * n)) lee)))
      (total (drop (suc (2 * i)) (take (suc (2 * n)) windward))))

  pub record LevelsFigured (racking : List ℤ) (compression tension : List ℕ) : Type 0 where
    pub racking_is : Filled 10 (pos 0) n (λ i. racking_figure (racking_part (get_or k i 0) d i)) racking
    pub compression_is : Filled 11 0 (suc n) compression_at compression
    pub tension_is : Filled 10 0 n tension_at tension
