-- The exact forces of an end of a taken sheet are bounded, so that figures close to them fit the answer's four bytes.
use mathlib.Core.Path.{◌≡◌, sym, ◌∙◌}
use mathlib.Core.Bool.{Bool}
use mathlib.Core.List.{List}
use Prim.Native.Nat.{ℕ, suc, ◌*◌, ◌^◌, ◌≤◌, ◌<◌}
use native.Mathlib.Decide.{dec_lt}
use native.Mathlib.Omega.{arith}
use lib.ListN.{get_or, length, drop, length-drop}
use lib.IntN.{pos}
use Rattle.sheet.specs.Layout.{blank_lash}
use Rattle.arith.specs.Fractions.{Frac, nat, ◌-q◌, ◌/q◌, sumq}
use Rattle.arith.proofs.Polynomials.{v, kn, ⊖◌}
use Rattle.arith.proofs.Rings.{∀₅, by_cert, to, times, ◌⊞◌, ◌⊠◌}
use Rattle.arith.proofs.Rationals.{ℚR, ℚ, mk, ◌-ℚ◌, ◌*ℚ◌, ◌≤ℚ◌, of-⊑}
use Rattle.arith.proofs.RationalTerms.{qq}
use Rattle.arith.proofs.FractionsInRationals.{mk_int, mk_sub, of-≈}
use Rattle.springs.specs.Equations as S
use Rattle.springs.proofs.Chain.{natℚ}
use Rattle.springs.proofs.Levels.{springs, shifts, mk_racking, deck, spring_nn}
use Rattle.sheet.specs.declared.Tier.{Tier}
use Rattle.sheet.specs.declared.Lash.{Lash}
use Rattle.sheet.specs.declared.Sheet.{Sheet}
use Rattle.statics.specs.declared.EndFigures.{EndFigures}
use Rattle.statics.specs.declared.LoadRule.{LoadRule}
use Rattle.statics.specs.Loads.{Rule, StandsFor}
use Rattle.statics.specs.Lashes.{pull, athwart_part, vertical_part}
use Rattle.statics.specs.Ends.{EndSolved, end_tiers, end_lashes}
use Rattle.sheet.specs.Ends.{End, tiers_of, lashes_of}
use Rattle.statics.specs.Posts.{athwart_of, moment, weight_above, in_compression, in_tension, on_lee, on_windward, lee, windward}
use Rattle.statics.specs.Posts.{compression, tension, greater, lower, at_most}
use Rattle.statics.specs.Forces as F
use Rattle.statics.specs.Forces.{lash_force}
use Rattle.statics.specs.Reported.{reported_size, EndReported, Fitting, EndFigured}
use Rattle.sheet.specs.Inner.Limits.{TierLimits, SheetLimits}
use Rattle.statics.proofs.EndChain.{tier_limits, end_each, end_length, end_stiff}
use Rattle.statics.proofs.OneSolution.{solution_of, exists, leeward}
use Rattle.statics.proofs.LoadsGrow.{stands_proper}
use Rattle.statics.proofs.Within.{UpTo, Within, up_none, up_more, within_up, within_less, within_neg, within_sum, within_more}
use Rattle.statics.proofs.Within.{within_same, within_over, within_choice, reported_below}
use Rattle.statics.proofs.LoadBounds.{each_drop, weight_up, tier_up, turning_up}
use Rattle.statics.proofs.LashBounds.{part_up, all_least, one_part, from_part, all_from, pull_part, vertical_part_lem, verticals_part}
use Rattle.statics.proofs.LashBounds.{arms_part, keeps_lee, keeps_windward}

module _ {rule : Rule} {c : LoadRule} (stands : StandsFor c rule) (e : End) {t : Sheet} (f : SheetLimits t) where
  few : length (tiers_of t) ≤ 10
  few = omega (arith, f.tiers, f.few)

  load_up : (i : ℕ) → UpTo 2440000 (S.tier_at (end_tiers rule e t) i).Q
  load_up i =
      up_more (omega (arith, few))
      (tier_up rule c stands e (tiers_of t) (tier_limits f) i)

  module _ {Ds : List Frac} (s : EndSolved rule e t Ds) where
    lee_q : (i : ℕ) → natℚ 0 ≤ℚ mk (S.shift Ds i)
    lee_q i = rw (mk_int (pos 0)) at (of-⊑ (nat 0) (S.shift Ds i) (leeward rule e f (stands_proper stands) Ds s i))

    abbrev parts : Frac
    parts = sumq (athwart_of Ds) (lashes_of e t)

    balance :
        (i : ℕ) →
        i < t.ntiers →
        mk (S.racking (end_tiers rule e t) Ds i) ≡ mk ((S.tier_at (end_tiers rule e t) i).Q -q S.athwart_from (end_lashes e t) Ds (suc i))
    balance i h =
        of-≈ (S.racking (end_tiers rule e t) Ds i) ((S.tier_at (end_tiers rule e t) i).Q -q S.athwart_from (end_lashes e t) Ds (suc i))
        (s.solves.balance i (omega (arith, end_length rule e t f)))

    -- the lashes hold no more than the load of the lowest tier
    pub parts_up : UpTo 2440000 parts
    parts_up =
        record {
          least = all_least t.ntiers Ds lee_q (lashes_of e t) (end_each e f);
          most =
              rw (all_from t.ntiers Ds lee_q (lashes_of e t) (end_each e f))
              (go (springs (end_tiers rule e t) 0) (shifts Ds 1) (shifts Ds 0) (mk (S.tier_at (end_tiers rule e t) 0).Q)
              (mk (S.athwart_from (end_lashes e t) Ds 1))
              (sym (mk_racking (end_tiers rule e t) Ds 0)
              ∙ balance 0 f.some
              ∙ mk_sub (S.tier_at (end_tiers rule e t) 0).Q (S.athwart_from (end_lashes e t) Ds 1))
              (spring_nn (end_tiers rule e t) (end_lashes e t) (end_stiff rule e t f) 0) (lee_q 1) (deck Ds) (load_up 0).most);
        }
      where
        go : (K d p Q A : ℚ) →
            K *ℚ (d -ℚ p) ≡ Q -ℚ A →
            natℚ 0 ≤ℚ K →
            natℚ 0 ≤ℚ d →
            p ≡ natℚ 0 →
            Q ≤ℚ natℚ 2440000 →
            A ≤ℚ natℚ 2440000
        go = ∀₅ ℚR _ λ ρ. simp qq λ e k d p h. by_cert (to h ⊞ to k ⊠ to d ⊞ times (kn 0) e ⊞ times (⊖ v 0) p) tt

    pub racking_within : (i : ℕ) → i < t.ntiers → Within 2440000 (S.racking (end_tiers rule e t) Ds i)
    racking_within i h =
        within_same (balance i h)
        (within_less (load_up i) (part_up parts_up (from_part t.ntiers Ds lee_q (lashes_of e t) (end_each e f) (suc i))))

    module _ (j : ℕ) (h : j < length (lashes_of e t)) where
      pub athwart_up : UpTo 2440000 (lash_force athwart_part (lashes_of e t) Ds j)
      athwart_up = part_up parts_up (one_part t.ntiers Ds lee_q (lashes_of e t) (end_each e f) j h)

      pub pull_up : UpTo (42 * 2440000) (lash_force pull (lashes_of e t) Ds j)
      pull_up = part_up athwart_up (pull_part t.ntiers Ds lee_q (get_or (lashes_of e t) j blank_lash) ((f.ends e).each j h))

      pub vertical_up : UpTo (40 * 2440000) (lash_force vertical_part (lashes_of e t) Ds j)
      vertical_up = part_up athwart_up (vertical_part_lem t.ntiers Ds lee_q (get_or (lashes_of e t) j blank_lash) ((f.ends e).each j h))

    pub moment_within : (i : ℕ) → Within (28960 * 2440000) (moment rule (tiers_of t) (lashes_of e t) Ds i)
    unfolding moment
    moment_within i =
        within_less
        (turning_up rule c stands (drop i (tiers_of t)) (each_drop (tiers_of t) (tier_limits f) i)
        (omega (arith, few, length-drop i (tiers_of t))))
        (part_up parts_up (arms_part t.ntiers Ds lee_q (tiers_of t) (tier_limits f) few i (lashes_of e t) (end_each e f)))

    -- the two sums at a level, and the greater or lower of them
    module _ (acceleration : Tier → ℕ) (limit : (u : Tier) → TierLimits u → acceleration u ≤ 3000) (counts : ℕ → Lash → Bool) (i : ℕ) where
      weight_within : Within 2300000 (weight_above acceleration (tiers_of t) i /q nat 2)
      weight_within = within_over 2 (omega arith) (within_up (weight_up acceleration limit (tiers_of t) (tier_limits f) few i))

      turned_within : Within 31300000 (moment rule (tiers_of t) (lashes_of e t) Ds i /q nat 2259)
      turned_within = within_over 2259 (omega arith) (within_more (omega arith) (moment_within i))

      lee_within : Within 200000000 (lee rule (tiers_of t) (lashes_of e t) Ds i acceleration counts)
      lee_within =
          within_more (omega arith)
          (within_sum (within_sum weight_within turned_within)
          (within_up (part_up parts_up (verticals_part t.ntiers Ds lee_q on_lee keeps_lee (counts i) (lashes_of e t) (end_each e f)))))

      windward_within : Within 200000000 (windward rule (tiers_of t) (lashes_of e t) Ds i acceleration counts)
      windward_within =
          within_more (omega arith)
          (within_sum (within_sum weight_within (within_neg turned_within))
          (within_up
          (part_up parts_up (verticals_part t.ntiers Ds lee_q on_windward keeps_windward (counts i) (lashes_of e t) (end_each e f)))))

    nothing : Within 200000000 (nat 0)
    nothing = within_up (up_more (omega arith) up_none)

    greater_within : {x y : Frac} → Within 200000000 x → Within 200000000 y → Within 200000000 (greater x y)
    greater_within {x} {y} u w = within_choice (at_most x y) w u

    lower_within : {x y : Frac} → Within 200000000 x → Within 200000000 y → Within 200000000 (lower x y)
    lower_within {x} {y} u w = within_choice (at_most x y) u w

    pub compression_within : (i : ℕ) →
        Within 200000000 (compression rule (tiers_of t) (lashes_of e t) Ds i)
    unfolding compression
    compression_within i =
        greater_within {x = nat 0} nothing
        (greater_within (lee_within (λ u. u.aVmax) (λ u h. h.aVmax) in_compression i)
        (windward_within (λ u. u.aVmax) (λ u h. h.aVmax) in_compression i))

    pub tension_within : (i : ℕ) →
        Within 200000000 (tension rule (tiers_of t) (lashes_of e t) Ds i)
    unfolding tension
    tension_within i =
        greater_within {x = nat 0} nothing
        (within_neg
        (lower_within (lee_within (λ u. u.aVmin) (λ u h. omega (arith, h.aVmin)) in_tension i)
        (windward_within (λ u. u.aVmin) (λ u h. omega (arith, h.aVmin)) in_tension i)))

    -- every exact force is within 200,000,000 N
    force_within : (x : F.Force) (i : ℕ) → i < F.entry_count x e t → Within 200000000 (F.exact_force x rule e t Ds i)
    force_within F.racking i h = within_more (omega arith) (racking_within i h)
    force_within F.compression i h = compression_within i
    force_within F.tension i h = tension_within i
    force_within F.lash_tension j h = within_more (omega arith) (within_up (pull_up j h))
    force_within F.lash_athwart j h = within_more (omega arith) (within_up (athwart_up j h))
    force_within F.lash_vertical j h = within_more (omega arith) (within_up (vertical_up j h))

    -- figures that report these forces, with 0 behind the counts, fit four bytes
    pub fitting : {m : ℕ} {g : EndFigures} →
        m ≤ 100 →
        EndReported m rule e t Ds g →
        ((x : F.Force) (i : ℕ) → F.entry_count x e t ≤ i → reported_size x g i ≡ 0) →
        Fitting g
    fitting {m} {g} m100 r blank = record { small = λ x i. at x i (dec_lt i (F.entry_count x e t)) }
      where
        at : (x : F.Force) (i : ℕ) → Dec (i < F.entry_count x e t) → reported_size x g i < 2 ^ 31
        at x i (yes h) = omega (arith, reported_below (force_within x i h) (r.forces x i h), m100)
        at x i (no h) = omega (arith, blank x i (omega arith))

-- the figures of an end, from what they report at every solution: there is one
pub figured : {rule : Rule} {c : LoadRule} (stands : StandsFor c rule) (e : End) {t : Sheet} (f : SheetLimits t) {m : ℕ} {g : EndFigures} →
    m ≤ 100 →
    ((Ds : List Frac) → EndSolved rule e t Ds → EndReported m rule e t Ds g) →
    ((x : F.Force) (i : ℕ) → F.entry_count x e t ≤ i → reported_size x g i ≡ 0) →
    EndFigured m rule e t g
figured {rule} stands e {t} f m100 reports blank =
    record {
      reports = reports;
      fits = fitting stands e f (exists rule e f) m100 (reports (solution_of rule e t) (exists rule e f)) blank;
    }
