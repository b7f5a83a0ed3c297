-- Every figure of an end reports its force, less than 9 N above it, from what the solver promises of the shifts.
use mathlib.Core.Path.{◌≡◌, refl, ap, ap₂, subst, ◌∙◌}
use mathlib.Core.Bool.{Bool}
use mathlib.Core.List.{List}
use Prim.Native.Nat.{ℕ, suc, ◌+◌, ◌^◌, ◌≤◌, ◌<◌}
use native.Mathlib.Omega.{arith}
use lib.Dec.{lit≤}
use lib.ListN.{drop, length, get_or, length-drop}
use lib.Seq.{get_or-drop}
use lib.IntN.{ℤ, pos}
use Rattle.sheet.specs.Lashings.{level_of}
use Rattle.sheet.specs.Layout.{blank_lash, blank_tier}
use Rattle.arith.specs.Fractions.{Frac, nat, ◌-q◌, ◌*q◌, ◌/q◌, absq, ◌⊑◌, sumq}
use Rattle.arith.proofs.FractionLaws.{⊑_trans}
use Rattle.arith.proofs.Rationals.{mk, int, ◌-ℚ◌, ◌*ℚ◌, recipℚ, absℚ, ◌≤ℚ◌, of-⊑}
use Rattle.arith.proofs.RationalOrder.{≤ℚ-trans}
use Rattle.arith.proofs.FractionsInRationals.{mk_int, mk_sub, mk_mul, mk_abs, of-≈}
use Rattle.springs.specs.Equations as S
use Rattle.springs.specs.Equations.{shift}
use Rattle.springs.specs.Inner.Promise as P
use Rattle.springs.specs.Inner.Promise.{found}
use Rattle.springs.proofs.Chain.{natℚ}
use Rattle.sheet.specs.declared.Tier.{Tier}
use Rattle.sheet.specs.declared.Lash.{Lash}
use Rattle.sheet.specs.declared.Sheet.{Sheet}
use Rattle.statics.specs.declared.EndFigures.{EndFigures}
use Rattle.statics.specs.Loads.{Rule}
use Rattle.statics.specs.Lashes.{pull, athwart_part, vertical_part}
use Rattle.statics.specs.Ends.{spring_of, end_tiers, end_lashes, EndSolved}
use Rattle.sheet.specs.Ends.{End, tiers_of, lashes_of}
use Rattle.statics.specs.Posts.{weight_above, moment, verticals, on_lee, on_windward, in_compression, in_tension, lee, windward}
use Rattle.statics.specs.Posts.{compression, tension}
use Rattle.statics.specs.Forces as F
use Rattle.statics.specs.Reported.{Reported, reported_size, EndReported}
use Rattle.statics.specs.Inner.WholeNumbers.{racking_part, half_weight, moment_part, upwards, lee_part, windward_part, lee_found}
use Rattle.statics.specs.Inner.WholeNumbers.{windward_found, compression_figure, tension_figure, pull_figure, athwart_figure}
use Rattle.statics.specs.Inner.WholeNumbers.{vertical_figure, racking_figure}
use Rattle.statics.specs.Inner.Computed.{springs_of, figures_at}
use Rattle.sheet.specs.Inner.Limits.{SheetLimits}
use Rattle.statics.proofs.Errors.{Off}
use Rattle.statics.proofs.Arrays.{entry_at, padded_at}
use Rattle.statics.proofs.EndChain.{end_each, end_spring}
use Rattle.statics.proofs.Scales.{newtons}
use Rattle.statics.proofs.Pads.{shift_error_bound, most_held, force_bound, rounded_racking_error, tier_error, post_error}
use Rattle.statics.proofs.LashFigures.{athwart_reported, pull_reported, vertical_reported}
use Rattle.statics.proofs.EachLash.{Each}
use Rattle.statics.proofs.ShiftErrors.{shift_errorq, shift_error_at, shift_errors, shift_errors_q, shift_error_le}
use Rattle.statics.proofs.Verticals.{Held, verticals_off, lee_post, windward_post}
use Rattle.statics.proofs.Weights.{weight_off}
use Rattle.statics.proofs.Moment.{moment_is}
use Rattle.statics.specs.Theorems.{racking_moment}
use Rattle.statics.proofs.Racking.{racking_off, racking_reported, racking_directed}
use Rattle.statics.proofs.PostSums.{moment_off, lee_off, windward_off}
use Rattle.statics.proofs.PostFigures.{compression_reported, tension_reported}

-- the shifts d, found for an end, are close to the solution Ds of its equations
pub record Close (rule : Rule) (e : End) (t : Sheet) (d : List ℕ) (Ds : List Frac) : Type 0 where
  pub far : (i : ℕ) → get_or d i 0 ≤ 2 ^ 40
  pub lashes : sumq (shift_errorq d Ds) (end_lashes e t) ⊑ nat 5 /q nat 100
  pub rackings :
      (i : ℕ) →
      i < t.ntiers →
      absq ((S.tier_at (end_tiers rule e t) i).K *q (found d (suc i) -q found d i) -q S.racking (end_tiers rule e t) Ds i)
      ⊑ nat 5 /q nat 100

-- the solver's promise says so, where its two constants are no more than these
pub promised_close :
    (rule : Rule) (e : End) (t : Sheet) (k κ ω d : List ℕ) (Ds : List Frac) →
    P.lash_error ⊑ nat 5 /q nat 100 →
    P.racking_error ⊑ nat 5 /q nat 100 →
    P.Promised t.ntiers k κ ω d →
    P.Near t.ntiers k κ ω (end_tiers rule e t) (end_lashes e t) →
    EndSolved rule e t Ds →
    Close rule e t d Ds
promised_close rule e t k κ ω d Ds a b p n s =
    record {
      far = p.far;
      lashes =
          ⊑_trans (sumq (shift_errorq d Ds) (end_lashes e t)) P.lash_error (nat 5 /q nat 100)
          (p.lashes (end_tiers rule e t) (end_lashes e t) Ds n s.solves) a;
      rackings =
          λ i h.
          ⊑_trans
          (absq ((S.tier_at (end_tiers rule e t) i).K *q (found d (suc i) -q found d i) -q S.racking (end_tiers rule e t) Ds i))
          P.racking_error
          (nat 5 /q nat 100)
          (p.rackings (end_tiers rule e t) (end_lashes e t) Ds n s.solves i h)
          b;
    }

shift_error_bound_lem : mk (nat 5 /q nat 100) ≡ shift_error_bound
unfolding ◌*ℚ◌ recipℚ int
shift_error_bound_lem = refl

force_bound_lem : mk (nat 5 /q nat 100) ≡ force_bound
unfolding ◌*ℚ◌ recipℚ int
force_bound_lem = refl

module _
    (rule : Rule) (e : End) (t : Sheet) (d : List ℕ) (Ds : List Frac) (limits : SheetLimits t) (solved : EndSolved rule e t Ds)
    (near : Close rule e t d Ds)
    (held : (j : ℕ) → j < length (lashes_of e t) → mk (F.lash_force athwart_part (lashes_of e t) Ds j) ≤ℚ natℚ most_held) where
  abbrev ts : List Tier
  ts = tiers_of t

  abbrev ls : List Lash
  ls = lashes_of e t

  abbrev k : List ℕ
  k = springs_of e ts

  abbrev R : ℕ → Frac
  R i = S.racking (end_tiers rule e t) Ds i

  abbrev M : ℕ → Frac
  M i = moment rule ts ls Ds i

  abbrev moment_found : ℕ → ℤ
  moment_found i = moment_part k d (drop i ts) i

  each : Each t.ntiers ls
  each = end_each e limits

  shift_errors_small : shift_errors d Ds ls ≤ℚ shift_error_bound
  shift_errors_small =
      rw (shift_errors_q d Ds ls, shift_error_bound_lem) at (of-⊑ (sumq (shift_errorq d Ds) (end_lashes e t)) (nat 5 /q nat 100) near.lashes)

  shift_error_small : (j : ℕ) → j < length ls → shift_error_at d Ds (get_or ls j blank_lash) ≤ℚ shift_error_bound
  shift_error_small j h =
      ≤ℚ-trans (shift_error_at d Ds (get_or ls j blank_lash)) (shift_errors d Ds ls) shift_error_bound (shift_error_le d Ds ls each j h)
      shift_errors_small

  lashes_held : Held d Ds ls
  lashes_held = record { small = shift_error_small; held = held }

  racking_near : (i : ℕ) → i < t.ntiers → Off rounded_racking_error (newtons (racking_part (get_or k i 0) d i)) (mk (R i))
  racking_near i h =
      let own = spring_of e (get_or ts i blank_tier) in
      let same : get_or k i 0 ≡ own = entry_at (λ i. spring_of e (get_or ts i blank_tier)) 0 10 i (omega (arith, limits.few)) in
      let K = (S.tier_at (end_tiers rule e t) i).K in
      let x = found d (suc i) -q found d i in
      let spring = ap mk (end_spring rule e t limits i h) ∙ mk_int (pos own) in
      let force = mk_mul K x ∙ ap₂ ◌*ℚ◌ spring (mk_sub (found d (suc i)) (found d i)) in
      let error = mk_abs (K *q x -q R i) ∙ ap absℚ (mk_sub (K *q x) (R i) ∙ ap (λ y. y -ℚ mk (R i)) force) in
      rw same
      (racking_off own d i (mk (R i))
      (subst (λ y. y ≤ℚ force_bound) error (rw force_bound_lem at (of-⊑ (absq (K *q x -q R i)) (nat 5 /q nat 100) (near.rackings i h)))))

  -- level i
  module _ (i : ℕ) (h : i ≤ t.ntiers) where
    inside : (j : ℕ) → j < length (drop i ts) → i + j < t.ntiers
    inside j l = omega (arith, limits.tiers, rw length-drop at l)

    few_above : length (drop i ts) ≤ 10
    few_above = rw length-drop (omega (arith, limits.tiers, limits.few))

    moment_near : Off (natℚ (length (drop i ts)) *ℚ tier_error) (newtons (moment_found i)) (mk (M i))
    moment_near =
        rw (of-≈ (M i) (racking_moment R (drop i ts) i) (moment_is rule e ts ls Ds solved.solves i))
        (moment_off k d R (drop i ts) i low (λ j m e l. racking_near m (omega (arith, inside j l))))
      where
        low : (j : ℕ) → j < length (drop i ts) → (get_or (drop i ts) j blank_tier).height ≤ 2896
        low j l = rw (get_or-drop i ts j blank_tier) (limits.each (i + j) (inside j l)).height

    -- its two sums, with either acceleration and the lashes that count
    module _ (acceleration : Tier → ℕ) (counts : ℕ → Lash → Bool) where
      abbrev half : ℕ
      half = half_weight acceleration ts i

      lee_near :
          Off post_error
          (newtons (lee_found half (moment_found i) (upwards lee_part (counts i) d ls)))
          (mk (lee rule ts ls Ds i acceleration counts))
      lee_near =
          lee_off (length (drop i ts)) half (upwards lee_part (counts i) d ls) (moment_found i)
          (weight_above acceleration ts i) (M i) (verticals on_lee (counts i) ls Ds)
          few_above (weight_off acceleration ts i) moment_near
          (verticals_off d Ds near.far lee_post (counts i) ls each lashes_held (limits.ends e).few shift_errors_small)

      windward_near :
          Off post_error
          (newtons (windward_found half (moment_found i) (upwards windward_part (counts i) d ls)))
          (mk (windward rule ts ls Ds i acceleration counts))
      windward_near =
          windward_off (length (drop i ts)) half (upwards windward_part (counts i) d ls) (moment_found i)
          (weight_above acceleration ts i) (M i) (verticals on_windward (counts i) ls Ds)
          few_above (weight_off acceleration ts i) moment_near
          (verticals_off d Ds near.far windward_post (counts i) ls each lashes_held (limits.ends e).few shift_errors_small)

    compressed : Reported 9 (compression rule ts ls Ds i) (compression_figure k ts ls d i)
    unfolding compression compression_figure
    compressed =
        compression_reported 9 (lit≤ tt) _ _ _ _ (lee_near (λ u. u.aVmax) in_compression) (windward_near (λ u. u.aVmax) in_compression)

    tensed : Reported 9 (tension rule ts ls Ds i) (tension_figure k ts ls d i)
    unfolding tension tension_figure
    tensed = tension_reported 9 (lit≤ tt) _ _ _ _ (lee_near (λ u. u.aVmin) in_tension) (windward_near (λ u. u.aVmin) in_tension)

  -- lash j
  module _ (j : ℕ) (h : j < length (lashes_of e t)) where
    abbrev lash : Lash
    lash = get_or ls j blank_lash

    abbrev D : Frac
    D = shift Ds (level_of lash)

    pulled : Reported 9 (pull lash D) (pull_figure d lash)
    pulled = pull_reported d lash D (each.at j h) (near.far (level_of lash)) (shift_error_small j h) (held j h) 9 (lit≤ tt)

    athwart : Reported 9 (athwart_part lash D) (athwart_figure d lash)
    athwart = athwart_reported d lash D (each.at j h) (near.far (level_of lash)) (shift_error_small j h) (held j h) 9 (lit≤ tt)

    raised : Reported 9 (vertical_part lash D) (vertical_figure d lash)
    raised = vertical_reported d lash D (each.at j h) (near.far (level_of lash)) (shift_error_small j h) (held j h) 9 (lit≤ tt)

  -- the figures of the end, force by force
  abbrev figures : EndFigures
  figures = figures_at t.ntiers k ts ls d

  forces : (x : F.Force) (i : ℕ) → i < F.entry_count x e t → Reported 9 (F.exact_force x rule e t Ds i) (reported_size x figures i)
  unfolding figures_at
  forces F.racking i h =
      rw (padded_at (λ i. racking_figure (racking_part (get_or k i 0) d i)) (pos 0) 10 t.ntiers i h)
      (racking_reported 9 (lit≤ tt) (racking_part (get_or k i 0) d i) (R i) (racking_near i h))
  forces F.compression i h = rw (padded_at (compression_figure k ts ls d) 0 11 (suc t.ntiers) i h) (compressed i (omega arith))
  forces F.tension i h = rw (padded_at (tension_figure k ts ls d) 0 10 t.ntiers i h) (tensed i (omega arith))
  forces F.lash_tension j h = rw (padded_at (λ j. pull_figure d (get_or ls j blank_lash)) 0 8 (length ls) j h) (pulled j h)
  forces F.lash_athwart j h = rw (padded_at (λ j. athwart_figure d (get_or ls j blank_lash)) 0 8 (length ls) j h) (athwart j h)
  forces F.lash_vertical j h = rw (padded_at (λ j. vertical_figure d (get_or ls j blank_lash)) 0 8 (length ls) j h) (raised j h)

  pub reported : EndReported 9 rule e t Ds figures
  unfolding figures_at
  reported =
      record {
        forces = forces;
        ways =
            λ i h.
            rw (padded_at (λ i. racking_figure (racking_part (get_or k i 0) d i)) (pos 0) 10 t.ntiers i h)
            (racking_directed 9 (lit≤ tt) (racking_part (get_or k i 0) d i) (R i) (racking_near i h));
      }
