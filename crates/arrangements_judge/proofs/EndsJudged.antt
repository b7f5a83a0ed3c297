-- A stack with the same lashes at both ends: what an end's figures take, and that its findings are those of the check.
use Prim.Native.Nat.{ℕ, ◌≤◌}
use mathlib.Core.Bool.{Bool, true, false, not, ◌&&◌}
use mathlib.Core.List.{List}
use mathlib.Core.Path.{◌≡◌, refl, sym, ap, ap₂, subst, ◌∙◌}
use native.Mathlib.Omega.{arith}
use lib.Dec.{eqb}
use lib.ListN.{length, get_or}
use lib.Seq.{get_or-take}
use Rattle.sheet.specs.declared.Lash.{Lash}
use Rattle.sheet.specs.declared.Sheet.{Sheet}
use Rattle.sheet.specs.Fits.{Fits}
use Rattle.sheet.specs.Layout.{blank_lash}
use Rattle.sheet.specs.Ends.{End, door, closed, tiers_of, lashes_of}
use Rattle.sheet.proofs.Bools.{not_true, not_false}
use Rattle.sheet.proofs.Limits.{lash_wider}
use Rattle.sheet.proofs.SheetLimits.{sheet_limits}
use Rattle.springs.specs.Inner.Promise.{Solvable}
use Rattle.statics.specs.declared.EndFigures.{EndFigures}
use Rattle.statics.specs.declared.Figures.{Figures}
use Rattle.statics.specs.Reported.{Fitting}
use Rattle.statics.specs.Inner.Computed.{springs_of, end_figures_by, figures_by, load_rule_of}
use Rattle.statics.proofs.EndChain.{rule_stands}
use Rattle.figures_lashes.specs.Inner.Lashes.{LashesMeasured, LevelStiffnesses}
use Rattle.figures.specs.Inner.Ends.{Workable, figures_with}
use Rattle.figures.proofs.EndLaws.{each_ten, end_solvable, workable, named_fits}
use Rattle.limits.specs.declared.PullLimit.{PullLimit}
use Rattle.answer.specs.Findings.{end_code, figures_of, named, end_findings}
use Rattle.answer_findings.proofs.FindingLaws.{end_none, ends_accepted}
use Rattle.end_verdict.specs.Inner.NoneOver.{none_found}
use Rattle.end_verdict.proofs.NoneFound.{none_found_lem}
use Rattle.gear.specs.Gear.{with_lashes}
use Rattle.gear.specs.declared.Gear.{Gear}
use Rattle.chosen_lashes.specs.Inner.Gathered.{Held, held_in, held_of}
use Rattle.chosen_lashes.proofs.Held.{lashes_held, held_measured, held_levels}
use Rattle.arrangements_judge.specs.Inner.Judged.{lashes_in, EndGiven, no_finding, StackGiven, accepted_with}

-- an end that is given: its shifts can be solved
module _ {n : ℕ} {k hs : List ℕ} {m : ℕ} {ls : List Lash} {κ ω weights : List ℕ}
    (e : EndGiven n k hs m ls κ ω weights) where
  levels : LevelStiffnesses ls κ
  levels =
      let few : length ls ≤ 8 = omega (arith, e.counted, e.works.few_lashes) in
      rw e.levelled (held_levels ls few (λ j q. each_ten e.works e.counted j (omega (arith, e.counted))))

  pub given_solvable : Solvable n k κ ω
  given_solvable = end_solvable e.works e.counted levels

-- a stack that is given, with lashes with which it fits
module _ {t : Sheet} {pull : PullLimit} {k h hs ω weights : List ℕ} (given : StackGiven t pull k h hs ω weights) {g : Gear}
    {lengths stiffs κ : List ℕ}
    (held : held_in g lengths stiffs κ ≡ held_of (lashes_in g))
    (fits : Fits (with_lashes (lashes_in g) t)) where
  abbrev with_them : Sheet
  with_them = with_lashes (lashes_in g) t

  abbrev figures : Figures
  figures = figures_by (load_rule_of t) with_them

  abbrev springs : End → List ℕ
  springs door = k
  springs closed = h

  springs_are : (e : End) → springs e ≡ springs_of e (tiers_of t)
  springs_are door = given.door_springs
  springs_are closed = given.closed_springs

  same : (e : End) → lashes_in g ≡ lashes_of e with_them
  same door = ap lashes_held held
  same closed = ap lashes_held held

  counted : g.count ≡ length (lashes_in g)
  counted = ap (λ (x : Held). x.count) held

  pub end_given : (e : End) → EndGiven t.ntiers (springs e) hs g.count (lashes_in g) κ ω weights
  end_given e =
      record {
        works = rw (springs_are e, same e) works;
        counted = sym counted;
        levelled = ap (λ (x : Held). x.levels) held;
      }
    where
      works : Workable t.ntiers (springs_of e (tiers_of t)) hs g.count (lashes_of e with_them) ω weights
      works =
          workable (sheet_limits fits) e (load_rule_of t) g.count hs ω weights (omega (arith, counted, fits.door.few)) given.loaded
          given.measured

  pub given_measured : LashesMeasured g.count (lashes_in g) lengths stiffs
  given_measured =
      subst (λ (x : Held). LashesMeasured x.count (lashes_in g) x.lengths x.stiffnesses) (sym held)
      (held_measured (lashes_in g) few (λ j q. lash_wider works.few (works.each j q)))
    where
      works : Workable t.ntiers (springs door) hs g.count (lashes_in g) ω weights
      works = (end_given door).works

      few : length (lashes_in g) ≤ 8
      few = omega (arith, counted, works.few_lashes)

  -- an end's figures by its springs, its lashes and the loads
  abbrev by : List ℕ → List Lash → List ℕ → EndFigures
  by k ls ω = figures_with t.ntiers k (tiers_of t) ls ω

  pub given_fits : (e : End) → Fitting (by (springs e) (lashes_in g) ω)
  given_fits e =
      let limits = sheet_limits fits in
      subst (λ (ls : List Lash). Fitting (by (springs e) ls ω)) (sym (same e))
      (named_fits limits e (rule_stands limits) (springs_are e) given.loaded.named)

  by_name : (e : End) → end_figures_by (load_rule_of t) e with_them ≡ figures_of e figures
  unfolding figures_by
  by_name door = refl
  by_name closed = refl

  end_figures : (e : End) → by (springs e) (lashes_in g) ω ≡ figures_of e figures
  end_figures e =
      ap (λ (k : List ℕ). by k (lashes_in g) ω) (springs_are e)
      ∙ ap₂ (λ (ls : List Lash) (ω : List ℕ). by (springs_of e (tiers_of t)) ls ω) (same e) given.loaded.named
      ∙ by_name e

  pub end_judged :
      (e : End) →
      no_finding t.ntiers (springs e) (tiers_of t) g.lashes g.count pull ω ≡ eqb (length (end_findings named with_them figures e)) 0
  end_judged e =
      ap (λ (f : EndFigures). none_found t.ntiers pull g.lashes g.count f) (end_figures e)
      ∙ sym (none_found_lem (end_code e) t.ntiers pull g.lashes g.count (figures_of e figures))
      ∙ end_none with_them figures e g.lashes g.count (sym (ap length (same e)) ∙ sym counted)
      (λ j q. ap (λ (l : List Lash). get_or l j blank_lash) (sym (same e)) ∙ get_or-take g.count g.lashes j blank_lash q)
      given.lower

  -- accepted where neither end has a finding
  ends_are :
      {a b : Bool} →
      a ≡ no_finding t.ntiers k (tiers_of t) g.lashes g.count pull ω →
      b ≡ no_finding t.ntiers h (tiers_of t) g.lashes g.count pull ω →
      a && b ≡ accepted_with (lashes_in g) t
  ends_are p q = ap₂ (λ x y. x && y) (p ∙ end_judged door) (q ∙ end_judged closed) ∙ sym (ends_accepted with_them figures)

  pub door_found :
      {a : Bool} →
      a ≡ no_finding t.ntiers k (tiers_of t) g.lashes g.count pull ω →
      not a ≡ true →
      false ≡ accepted_with (lashes_in g) t
  door_found {a} p e = ends_are (sym (not_true a e) ∙ p) refl

  pub door_clear :
      {a b : Bool} →
      a ≡ no_finding t.ntiers k (tiers_of t) g.lashes g.count pull ω →
      not a ≡ false →
      b ≡ no_finding t.ntiers h (tiers_of t) g.lashes g.count pull ω →
      b ≡ accepted_with (lashes_in g) t
  door_clear {a} p e q = ends_are (sym (not_false a e) ∙ p) q
