-- The figures of an end, put together from the steps that compute them.
use Prim.Native.Nat.{ℕ, zero, suc, ◌%◌, ◌^◌, ◌<◌, ◌≤◌}
use mathlib.Core.List.{List, [], ◌∷◌, map}
use mathlib.Core.Path.{◌≡◌, refl, sym, ap, ap₂, subst, ◌∙◌}
use native.Mathlib.Omega.{arith}
use lib.Dec.{lit≤}
use lib.IntN.{ℤ, pos, ◌+ℤ◌, ◌*ℤ◌}
use lib.ListN.{length, get_or, get_or-map, take, drop}
use lib.Seq.{ext_get_or, get_or-take}
use Rattle.sheet.specs.Layout.{blank_lash, blank_tier}
use Rattle.sheet.proofs.Limits.{lash_wider}
use Rattle.springs.specs.Inner.Promise.{Solvable}
use Rattle.springs.specs.Inner.Elimination.{solved}
use Rattle.sheet.specs.declared.Tier.{Tier}
use Rattle.sheet.specs.declared.Lash.{Lash}
use Rattle.sheet.specs.declared.Sheet.{Sheet}
use Rattle.statics.specs.declared.EndFigures.{EndFigures}
use Rattle.statics.specs.declared.Figures.{Figures}
use Rattle.sheet.specs.Inner.Limits.{LashLimits, SheetLimits}
use Rattle.statics.specs.declared.LoadRule.{LoadRule}
use Rattle.statics.specs.Ends.{spring_of}
use Rattle.statics.specs.Forces as F
use Rattle.statics.specs.Loads.{Rule, StandsFor}
use Rattle.statics.specs.Reported.{Fitting}
use Rattle.sheet.specs.Ends.{End, door, closed, tiers_of, lashes_of}
use Rattle.statics.specs.Inner.WholeNumbers.{Filled, level_stiffness, lee_part, windward_part, racking_part, racking_figure}
use Rattle.statics.specs.Inner.WholeNumbers.{moment_part, compression_figure, tension_figure, pull_figure, athwart_figure, vertical_figure}
use Rattle.statics.specs.Inner.Computed.{springs_of, stiffnesses_of, loads_of, figures_at, end_figures_by, figures_by}
use Rattle.figures_tiers.specs.Inner.Loads.{Loaded, TiersMeasured}
use Rattle.figures.specs.Inner.Ends.{Workable, end_figures}
use Rattle.figures_levels.specs.Inner.Levels.{moment_by, LevelsFigured}
use Rattle.figures_lashes.specs.Inner.Lashes.{LevelStiffnesses, LashesFigured, VerticalsOn}
use Rattle.arith.specs.Lists.{below}
use Rattle.arith.proofs.Arrays.{length_entries}
use Rattle.statics.proofs.Arrays.{entry_at, padded_at, filled_padded}
use Rattle.statics.proofs.Figured.{end_figured}
use Rattle.statics.proofs.Inputs.{spring_least, spring_most}
use Rattle.statics.proofs.LevelStiffness.{level_most}
use Rattle.figures.proofs.Corners.{ByCorner, by_corner}

refilled :
    {A : Type 0} {size : ℕ} {blank : A} {n : ℕ} {P Q : ℕ → A} {r : List A} →
    ((i : ℕ) → i < n → P i ≡ Q i) → Filled size blank n P r → Filled size blank n Q r
refilled e f = record { long = f.long; each = λ i h. f.each i h ∙ e i h; rest = f.rest }

-- the moment by the heights of the tiers is theirs
drop_map : {A B : Type 0} (f : A → B) (l : List A) (j : ℕ) → drop j (map f l) ≡ map f (drop j l)
drop_map f l zero = refl
drop_map f [] (suc j) = refl
drop_map f (x ∷ l) (suc j) = drop_map f l j

moment_by_lem : (k d : List ℕ) (ts : List Tier) (i : ℕ) → moment_by k d (map (λ t. t.height) ts) i ≡ moment_part k d ts i
unfolding moment_by moment_part
moment_by_lem k d [] i = refl
moment_by_lem k d (t ∷ ts) i = ap (λ (z : ℤ). pos t.height *ℤ racking_part (get_or k i 0) d i +ℤ z) (moment_by_lem k d ts (suc i))

-- at shifts that are given, the loads do not matter
pub without_loads :
    {n : ℕ} {k heights : List ℕ} {m : ℕ} {ls : List Lash} {ω weights : List ℕ} →
    Workable n k heights m ls ω weights →
    Workable n k heights m ls [] weights
without_loads h =
    record {
      few = h.few;
      springs = h.springs;
      heights = h.heights;
      few_lashes = h.few_lashes;
      each = h.each;
      each_level = h.each_level;
      loaded = λ i q. lit≤ tt;
      vmax_light = h.vmax_light;
      vmin_light = h.vmin_light;
    }

-- a figure that fits is its word (figures_posts)
whole_word : {x : ℕ} → x < 2 ^ 31 → x % 2 ^ 32 ≡ x
whole_word h = omega arith

module _ (n : ℕ) (k : List ℕ) (ts : List Tier) (ls : List Lash) (d : List ℕ) (fits : Fitting (figures_at n k ts ls d)) where
  pressed_fits : (i : ℕ) → i < suc n → compression_figure k ts ls d i < 2 ^ 31
  unfolding figures_at
  pressed_fits i q = rw (padded_at (compression_figure k ts ls d) 0 11 (suc n) i q) at (fits.small F.compression i)

  tensed_fits : (i : ℕ) → i < n → tension_figure k ts ls d i < 2 ^ 31
  unfolding figures_at
  tensed_fits i q = rw (padded_at (tension_figure k ts ls d) 0 10 n i q) at (fits.small F.tension i)

module _ {n : ℕ} {k heights : List ℕ} {m : ℕ} {ls : List Lash} {ω weights : List ℕ}
    (h : Workable n k heights m ls ω weights) (counted : length ls ≡ m) where
  pub each_ten : (j : ℕ) → j < m → LashLimits 10 (get_or ls j blank_lash)
  each_ten j q = lash_wider h.few (h.each j (omega arith))

  pub end_solvable : {κ : List ℕ} → LevelStiffnesses ls κ → Solvable n k κ ω
  end_solvable s =
      record {
        few = h.few;
        springs = h.springs;
        held = λ i q. rw (s i) (omega (arith, level_most n ls (record { at = h.each }) (suc i), h.each_level (suc i)));
        loaded = h.loaded;
      }

  -- the figures put together are those of the definition
  pub end_named :
      {ts : List Tier} {d lash-tension athwart vertical lee windward : List ℕ} {racking : List ℤ} {compression tension : List ℕ} →
      LashesFigured m ls d lash-tension athwart vertical →
      VerticalsOn lee_part ls d lee →
      VerticalsOn windward_part ls d windward →
      LevelsFigured n k heights d weights lee windward racking compression tension →
      TiersMeasured n ts heights weights →
      Fitting (figures_at n k ts ls d) →
      record {
        racking = racking;
        compression = compression;
        tension = tension;
        pull = lash-tension;
        athwart = athwart;
        vertical = vertical;
      }
      ≡ figures_at n k ts ls d
  unfolding figures_at compression_figure tension_figure
  end_named {ts} {d} {lash-tension} {athwart} {vertical} {lee} {windward} {racking} {compression} {tension} u x y l w fits =
      rw (
        filled_padded (λ i. racking_figure (racking_part (get_or k i 0) d i)) (pos 0) 10 n racking h.few l.racking_is,
        filled_padded (compression_figure k ts ls d) 0 11 (suc n) compression (omega (arith, h.few))
            (refilled (λ i q. rw (w.vmax_is i, moment i, lees.pressing i (omega arith), windwards.pressing i (omega arith))
            (whole_word (pressed_fits n k ts ls d fits i q))) l.compression_is),
        filled_padded (tension_figure k ts ls d) 0 10 n tension h.few
            (refilled (λ i q. rw (w.vmin_is i, moment i, lees.pulling i q, windwards.pulling i q)
            (whole_word (tensed_fits n k ts ls d fits i q))) l.tension_is),
        filled_padded (λ j. pull_figure d (get_or ls j blank_lash)) 0 8 (length ls) lash-tension (omega (arith, h.few_lashes))
            (rw counted u.lash_tension_is),
        filled_padded (λ j. athwart_figure d (get_or ls j blank_lash)) 0 8 (length ls) athwart (omega (arith, h.few_lashes))
            (rw counted u.athwart_is),
        filled_padded (λ j. vertical_figure d (get_or ls j blank_lash)) 0 8 (length ls) vertical (omega (arith, h.few_lashes))
            (rw counted u.vertical_is),
      ) refl
    where
      moment : (i : ℕ) → moment_by k d (drop i (take n heights)) i ≡ moment_part k d (drop i ts) i
      moment i = rw (w.heights_are, drop_map (λ (t : Tier). t.height) ts i) (moment_by_lem k d (drop i ts) i)

      lees : ByCorner lee_part n d ls lee
      lees = by_corner lee_part n d ls lee (omega (arith, h.few, x.long)) (record { at = h.each }) x.each

      windwards : ByCorner windward_part n d ls windward
      windwards = by_corner windward_part n d ls windward (omega (arith, h.few, y.long)) (record { at = h.each }) y.each

-- the stiffnesses by level, as an array of ten
pub stiffnesses_named : (ls : List Lash) {κ : List ℕ} → length κ ≡ 10 → LevelStiffnesses ls κ → κ ≡ stiffnesses_of ls
unfolding stiffnesses_of
stiffnesses_named ls {κ} long s =
    ext_get_or 0 κ (map (λ i. level_stiffness ls (suc i)) (below 10)) (long ∙ sym (length_entries (λ i. level_stiffness ls (suc i)) 0 10))
    (λ i q. s i ∙ sym (entry_at (λ i. level_stiffness ls (suc i)) 0 10 i (omega (arith, q, long))))

-- the figures at shifts that were solved from the stiffnesses κ by level
pub end_solved :
    (e : End) (t : Sheet) (k κ ω : List ℕ) {d : List ℕ} {f : EndFigures} →
    length κ ≡ 10 →
    LevelStiffnesses (lashes_of e t) κ →
    d ≡ solved t.ntiers k κ ω →
    f ≡ figures_at t.ntiers k (tiers_of t) (lashes_of e t) d →
    f ≡ end_figures e t k ω
end_solved e t k κ ω long levels ed ef =
    ef
    ∙ ap (λ (d : List ℕ). figures_at t.ntiers k (tiers_of t) (lashes_of e t) d)
    (ed ∙ ap (λ (κ : List ℕ). solved t.ntiers k κ ω) (stiffnesses_named (lashes_of e t) long levels))

-- .. which fit if the end's do
pub end_fits :
    (e : End) (t : Sheet) (k κ ω : List ℕ) {d : List ℕ} →
    length κ ≡ 10 →
    LevelStiffnesses (lashes_of e t) κ →
    d ≡ solved t.ntiers k κ ω →
    Fitting (end_figures e t k ω) →
    Fitting (figures_at t.ntiers k (tiers_of t) (lashes_of e t) d)
end_fits e t k κ ω long levels ed = subst Fitting (sym (end_solved e t k κ ω long levels ed refl))

-- an end's figures may be computed, and fit
module _ {t : Sheet} (f : SheetLimits t) (e : End) where
  pub named_fits :
      {c : LoadRule} {rule : Rule} {k ω : List ℕ} →
      StandsFor c rule →
      k ≡ springs_of e (tiers_of t) →
      ω ≡ loads_of c (tiers_of t) →
      Fitting (end_figures e t k ω)
  named_fits stands ek eω = subst Fitting (sym (ap₂ (end_figures e t) ek eω)) (end_figured stands e f).fits

  pub workable :
      (rule : LoadRule) (m : ℕ) (heights ω weights : List ℕ) →
      m ≤ 8 →
      Loaded rule t.ntiers (tiers_of t) ω →
      TiersMeasured t.ntiers (tiers_of t) heights weights →
      Workable t.ntiers (springs_of e (tiers_of t)) heights m (lashes_of e t) ω weights
  workable rule m heights ω weights few l v =
      record {
        few = f.few;
        springs = λ i h. rw (spring_at_lem i h) (spring_least e (tier i), spring_most e (tier i));
        heights = λ i h. rw (height_at i h) (f.each i h).height;
        few_lashes = few;
        each = (f.ends e).each;
        each_level = (f.ends e).each_level;
        loaded = l.small;
        vmax_light = v.most_light;
        vmin_light = v.least_light;
      }
    where
      tier : ℕ → Tier
      tier i = get_or (tiers_of t) i blank_tier

      height_at : (i : ℕ) → i < t.ntiers → get_or heights i 0 ≡ (tier i).height
      height_at i h =
          sym (get_or-take t.ntiers heights i 0 h)
          ∙ ap (λ (l : List ℕ). get_or l i 0) v.heights_are
          ∙ get_or-map (λ (t : Tier). t.height) (tiers_of t) i blank_tier

      spring_at_lem : (i : ℕ) → i < t.ntiers → get_or (springs_of e (tiers_of t)) i 0 ≡ spring_of e (tier i)
      spring_at_lem i h = entry_at (λ i. spring_of e (tier i)) 0 10 i (omega (arith, f.few))

-- the figures of a sheet, end by end, are its figures
module _ (c : LoadRule) (t : Sheet) {d e : EndFigures} (p : d ≡ end_figures_by c door t) (q : e ≡ end_figures_by c closed t) where
  pub both_ends : ◌≡◌ {A = Figures} (record { door = d; closed = e }) (figures_by c t)
  unfolding figures_by
  both_ends = λ i. record { door = p i; closed = q i }
