-- The loop from the top level down: what it has found when it stands at level i, and one turn of it.
use Prim.Native.Nat.{ℕ, suc, ◌+◌, ◌*◌, ◌-◌, ◌^◌, ◌<◌, ◌≤◌}
use mathlib.Core.Path.{◌≡◌, refl, sym, ◌∙◌}
use mathlib.Core.List.{List}
use native.Mathlib.Omega.{arith}
use lib.IntN.{ℤ, pos, ◌+ℤ◌, ◌*ℤ◌}
use lib.ListN.{length, get_or, set, take, drop, replicate, length-set}
use lib.Seq.{take-set-lt, drop-set-lt}
use Rattle.arith.specs.Inner.Sizes.{Small}
use Rattle.arith.proofs.Sizes.{small_weaken, small_add, small_pos}
use Rattle.springs.specs.Equations.{closed_spring}
use Rattle.statics.specs.Inner.WholeNumbers.{racking_part, racking_figure, compression_from, tension_from}
use Rattle.statics.specs.Inner.InArrays.{most_in, least_in}
use Rattle.figures_posts.specs.Inner.Posts.{word}
use Rattle.figures_levels.specs.Inner.Levels.{total, moment_by, LevelInputs, compression_at, tension_at}
use Rattle.statics.proofs.Sections.{first_set, second_set}
use Rattle.statics.proofs.Arrays.{Between, between_none, fill_below, fill_above, peel, peeled_off}
use Rattle.figures_posts.proofs.LevelLaws.{tier_moment_small, racking_small}

-- sums over the corners from i on, of m
pub total_peel : (v : List ℕ) (m i : ℕ) → i < m → m ≤ length v → total (drop i (take m v)) ≡ total (drop (suc i) (take m v)) + get_or v i 0
unfolding total
total_peel v m i h room = rw (peel v m i 0 h room) (omega arith)

pub total_off : (v : List ℕ) (m : ℕ) → m ≤ length v → total (drop m (take m v)) ≡ 0
unfolding total
total_off v m room = rw (peeled_off v m room) refl

total_top : (v : List ℕ) (n : ℕ) → suc n ≤ length v → get_or v n 0 ≡ total (drop n (take (suc n) v))
total_top v n room = omega (arith, total_peel v (suc n) n (omega arith) room, total_off v (suc n) room)

-- moments: none at the top, and one tier more
moment_off : (k d hs : List ℕ) (n : ℕ) → n ≤ length hs → moment_by k d (drop n (take n hs)) n ≡ pos 0
unfolding moment_by
moment_off k d hs n room = rw (peeled_off hs n room) refl

moment_peel :
    (k d hs : List ℕ) (n j : ℕ) →
    j < n →
    n ≤ length hs →
    moment_by k d (drop j (take n hs)) j
    ≡ pos (get_or hs j 0) *ℤ racking_part (get_or k j 0) d j +ℤ moment_by k d (drop (suc j) (take n hs)) (suc j)
unfolding moment_by
moment_peel k d hs n j h room = rw (peel hs n j 0 h room) refl

part_small :
    (k d : List ℕ) (j : ℕ) →
    get_or k j 0 ≤ closed_spring →
    ((i : ℕ) → get_or d i 0 ≤ 2 ^ 40) →
    Small (2 ^ 45) (racking_part (get_or k j 0) d j)
unfolding racking_part
part_small k d j h s = racking_small h (s (suc j)) (s j)

-- a tier's racking × height, at most
abbrev most_turn : ℕ
most_turn = 2896 * 2 ^ 45

-- the vertical parts of a stack of n tiers on a post, at corner c or above
abbrev from_corner : ℕ → List ℕ → ℕ → ℕ
from_corner n v c = total (drop c (take (suc (2 * n)) v))

pub record FiguredFrom
    (n : ℕ) (k hs d weights lee windward : List ℕ)
    (racking : List ℤ) (levels : List ℕ) (moment : ℤ) (lees windwards i : ℕ) : Type 0 where
  pub racked : Between (pos 0) (λ j x. x ≡ racking_figure (racking_part (get_or k j 0) d j)) 10 i n racking
  pub pressed : Between 0 (λ j x. x ≡ compression_at n k hs d weights lee windward j) 11 i (suc n) (take 11 levels)
  pub tensed : Between 0 (λ j x. x ≡ tension_at n k hs d weights lee windward j) 10 i n (drop 11 levels)
  pub levels_long : length levels ≡ 21
  pub moment_is : moment ≡ moment_by k d (drop i (take n hs)) i
  pub lees_are : lees ≡ from_corner n lee (2 * i)
  pub windwards_are : windwards ≡ from_corner n windward (2 * i)
  pub moment_small : Small ((n - i) * most_turn) moment
  pub lees_small : lees ≤ suc (2 * (n - i)) * 2 ^ 57
  pub windwards_small : windwards ≤ suc (2 * (n - i)) * 2 ^ 57

module _ {n : ℕ} {k hs d weights lee windward : List ℕ}
    (m : LevelInputs n k hs d weights lee windward) (stacked : n ≤ length hs) where
  pub at_top :
      {v : ℕ} →
      v ≡ word (compression_from (get_or (most_in weights) n 0) (pos 0) (get_or lee (2 * n) 0) (get_or windward (2 * n) 0)) →
      FiguredFrom
      n
      k
      hs
      d
      weights
      lee
      windward
      (replicate 10 (pos 0))
      (set (replicate 21 0) n v)
      (pos 0)
      (get_or lee (2 * n) 0)
      (get_or windward (2 * n) 0)
      n
  at_top {v} e =
      let low : n < 11 = omega (arith, m.few) in
      let no_moment = moment_off k d hs n stacked in
      let top_lee = total_top lee (2 * n) (omega (arith, m.few, m.lee_long)) in
      let top_windward = total_top windward (2 * n) (omega (arith, m.few, m.windward_long)) in
      record {
        racked = between_none _ _ 10 n;
        pressed =
            rw (take-set-lt 11 (replicate 21 0) n v low)
            (fill_above _ _ 11 n n _ v low (rw (no_moment, ← top_lee, ← top_windward) e) (between_none _ _ 11 n));
        tensed = rw (drop-set-lt 11 (replicate 21 0) n v low) (between_none _ _ 10 n);
        levels_long = length-set (replicate 21 0) n v;
        moment_is = sym no_moment;
        lees_are = top_lee;
        windwards_are = top_windward;
        moment_small = small_pos (omega arith);
        lees_small = omega (arith, m.lee_small (2 * n));
        windwards_small = omega (arith, m.windward_small (2 * n));
      }

  -- the parts on a post that count in the tension at level j, and in the compression, from those at the level over it
  abbrev Both : List ℕ → ℕ → ℕ → ℕ → ℕ → Type 0
  Both v above bottom top j =
      (above + bottom ≡ from_corner n v (suc (2 * j))) × (above + bottom + top ≡ from_corner n v (2 * j))

  both :
      (v : List ℕ) {above bottom top j : ℕ} →
      j < n →
      suc (2 * n) ≤ length v →
      above ≡ from_corner n v (2 * suc j) →
      bottom ≡ get_or v (2 * j + 1) 0 →
      top ≡ get_or v (2 * j) 0 →
      Both v above bottom top j
  both v {above} {bottom} {top} {j} h room e eb et =
      let twice : 2 * suc j ≡ suc (suc (2 * j)) = omega arith in
      let next : 2 * j + 1 ≡ suc (2 * j) = omega arith in
      let low = total_peel v (suc (2 * n)) (suc (2 * j)) (omega arith) room in
      let high = total_peel v (suc (2 * n)) (2 * j) (omega arith) room in
      let over : above ≡ from_corner n v (suc (suc (2 * j))) = rw twice at e in
      let under : bottom ≡ get_or v (suc (2 * j)) 0 = rw next at eb in
      (omega (arith, over, under, low), omega (arith, over, under, low, high))

  module _ {racking : List ℤ} {levels : List ℕ} {moment : ℤ} {lees windwards : ℕ} where
    -- to the level under tier j, with the values that the code has there: bl and bw are the parts of the bottom hooks at the level, on the
    -- lee post and on the windward one, tl and tw those of the top hooks
    pub to_under :
        {i j : ℕ} {p : ℤ} {h : ℕ} {r : ℤ} {bl bw tl tw compression tension : ℕ} {moment' : ℤ} {lees' windwards' : ℕ} →
        i ≡ suc j →
        j < n →
        FiguredFrom n k hs d weights lee windward racking levels moment lees windwards i →
        p ≡ racking_part (get_or k j 0) d j →
        h ≡ get_or hs j 0 →
        r ≡ racking_figure p →
        bl ≡ get_or lee (2 * j + 1) 0 →
        bw ≡ get_or windward (2 * j + 1) 0 →
        tl ≡ get_or lee (2 * j) 0 →
        tw ≡ get_or windward (2 * j) 0 →
        moment' ≡ pos h *ℤ p +ℤ moment →
        lees' ≡ lees + bl + tl →
        windwards' ≡ windwards + bw + tw →
        compression ≡ word (compression_from (get_or (most_in weights) j 0) (pos h *ℤ p +ℤ moment) (lees + bl + tl) (windwards + bw + tw)) →
        tension ≡ word (tension_from (get_or (least_in weights) j 0) (pos h *ℤ p +ℤ moment) (lees + bl) (windwards + bw)) →
        FiguredFrom
        n
        k
        hs
        d
        weights
        lee
        windward
        (set racking j r)
        (set (set levels j compression) (11 + j) tension)
        moment'
        lees'
        windwards'
        j
    to_under {i} {j} {p} {h} {r} {bl} {bw} {tl} {tw} {compression} {tension} ei w stood ep eh er ebl ebw etl etw em el ew ec et =
        record {
          racked = fill_below _ _ 10 j n racking r w (omega (arith, m.few, w)) (rw ep at er) s.racked;
          pressed =
              rw (first_set 11 levels low compression tension)
              (fill_below _ _ 11 j (suc n) (take 11 levels) compression (omega (arith, w)) low
              (rw (← moment_under, ← lee_under.1, ← windward_under.1) ec) s.pressed);
          tensed =
              rw (second_set 11 levels low compression tension)
              (fill_below _ _ 10 j n (drop 11 levels) tension w (omega (arith, m.few, w))
              (rw (← moment_under, ← lee_under.0, ← windward_under.0) et) s.tensed);
          levels_long = simp length-set s.levels_long;
          moment_is = em ∙ moment_under;
          lees_are = el ∙ lee_under.1;
          windwards_are = ew ∙ windward_under.1;
          moment_small = rw em small;
          lees_small = omega (arith, w, s.lees_small, m.lee_small (2 * j + 1), m.lee_small (2 * j));
          windwards_small = omega (arith, w, s.windwards_small, m.windward_small (2 * j + 1), m.windward_small (2 * j));
        }
      where
        s : FiguredFrom n k hs d weights lee windward racking levels moment lees windwards (suc j)
        s = rw ei at stood

        low : j < 11
        low = omega (arith, m.few, w)

        moment_under : pos h *ℤ p +ℤ moment ≡ moment_by k d (drop j (take n hs)) j
        moment_under =
            rw (ep, eh, s.moment_is) (sym (moment_peel k d hs n j w stacked))

        lee_under : Both lee lees bl tl j
        lee_under = both lee w (omega (arith, m.few, m.lee_long)) s.lees_are ebl etl

        windward_under : Both windward windwards bw tw j
        windward_under = both windward w (omega (arith, m.few, m.windward_long)) s.windwards_are ebw etw

        small : Small ((n - j) * most_turn) (pos h *ℤ p +ℤ moment)
        small =
            let own = tier_moment_small (m.heights j w) (part_small k d j (m.springs j w) m.shifts) in
            rw (ep, eh) (small_weaken (small_add own s.moment_small) (omega (arith, w)))
