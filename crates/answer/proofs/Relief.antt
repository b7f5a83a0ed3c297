-- Document 02's relief of the lock by a bottom hook, computed from the definitions.
use mathlib.Core.Bool.{true, false}
use mathlib.Core.List.{List, [], ◌∷◌}
use mathlib.Core.Path.{◌≡◌, refl, sym}
use Prim.Native.Nat.{ℕ, zero, suc, ◌<◌}
use native.Mathlib.Omega.{arith}
use lib.Dec.{lit≤}
use lib.ListN.{length}
use Rattle.arith.specs.Fractions.{Frac, nat, ◌-q◌, ◌/q◌, recip, sumq, ◌≈◌, ◌⊏◌}
use Rattle.sheet.specs.declared.Sheet.{Sheet}
use Rattle.sheet.specs.Layout.{tier_fits, breaking_fits, lash_fits}
use Rattle.sheet.specs.Refusals.{off_tiers}
use Rattle.sheet.specs.Fits.{tier_at, lash_at, EndFits, Fits}
use Rattle.sheet.specs.Lashings.{level_of}
use Rattle.sheet.specs.Ends.{End, door, closed, tiers_of, lashes_of}
use Rattle.sheet.proofs.SheetLimits.{sheet_limits}
use Rattle.springs.specs.Equations as S
use Rattle.springs.specs.Equations.{shift}
use Rattle.statics.specs.Loads.{weight, transverse, vertical_force, wind, load, rule_of}
use Rattle.statics.specs.Lashes.{lash_length, pull, athwart_part, vertical_part}
use Rattle.statics.specs.Ends.{chain_tiers, chain_lash, end_tiers, end_lashes, EndSolved}
use Rattle.statics.specs.Posts.{level_height, turning, moment, at_most, tension}
use Rattle.statics.proofs.EndChain.{end_stiff}
use Rattle.statics.proofs.LashLength.{length_is}
use Rattle.answer.specs.Limits.{corner_tension_limit}
use Rattle.answer.specs.Relief.{side_rod, lashed_by, by_bottom, by_top, unrelieved, relief, Relief}
use Rattle.answer.proofs.Solutions.{every_tension}
use Rattle.answer.proofs.Table.{least_root}

length_rod : (tier hook : ℕ) → lash_length (side_rod tier hook) ≡ 3250
length_rod tier hook = sym (length_is (side_rod tier hook) 3250 (least_root 10562500 3249 (lit≤ tt) (lit≤ tt)))

-- a sheet with one lash is within the limits
module _ (tier hook : ℕ) (on : off_tiers 3 (side_rod tier hook) ≡ false) (fit : lash_fits (side_rod tier hook) ≡ true) where
  abbrev sheet : Sheet
  sheet = lashed_by (side_rod tier hook)

  end_fits : EndFits 3 sheet.door 1
  end_fits = record { few = omega arith; fits = fits; placed = placed; ordered = λ k h. absurd (omega arith) }
    where
      fits : (k : ℕ) → k < 1 → lash_fits (lash_at sheet.door k) ≡ true
      fits zero h = fit
      fits (suc k) h = absurd (omega arith)

      placed : (k : ℕ) → k < 1 → off_tiers 3 (lash_at sheet.door k) ≡ false
      placed zero h = on
      placed (suc k) h = absurd (omega arith)

  tiers_fit : (k : ℕ) → k < 3 → (tier_fits (tier_at sheet.tiers k) ≡ true) × ((tier_at sheet.tiers k).size ≡ 40)
  unfolding tier_fits
  tiers_fit zero h = (refl, refl)
  tiers_fit (suc zero) h = (refl, refl)
  tiers_fit (suc (suc zero)) h = (refl, refl)
  tiers_fit (suc (suc (suc k))) h = absurd (omega arith)

  sheet_fits : Fits sheet
  unfolding breaking_fits
  sheet_fits =
      record {
        rule = refl;
        zero = refl;
        route = omega arith;
        lock = omega arith;
        breaking = refl;
        some = omega arith;
        few = omega arith;
        tiers = λ k h. (tiers_fit k h).0;
        sizes = λ k h. (tiers_fit k h).1;
        door = end_fits;
        closed = end_fits;
      }

bottom_fits : Fits by_bottom
unfolding off_tiers lash_fits breaking_fits
bottom_fits = sheet_fits 2 1 refl refl

top_fits : Fits by_top
unfolding off_tiers lash_fits breaking_fits
top_fits = sheet_fits 1 0 refl refl

same_equations : (e : End) → end_lashes e by_bottom ≡ end_lashes e by_top
unfolding chain_lash level_of athwart_part pull
same_equations door = rw (length_rod 2 1, length_rod 1 0) refl
same_equations closed = rw (length_rod 2 1, length_rod 1 0) refl

-- by a top hook the shifts do not enter
top_tension : (e : End) (Ds : List Frac) → tension (rule_of by_top) (tiers_of by_top) (lashes_of e by_top) Ds 1 ≈ unrelieved
unfolding tension at_most moment turning transverse vertical_force weight wind sumq recip level_height level_of
top_tension door Ds = record { cross = refl }
top_tension closed Ds = record { cross = refl }

-- the shifts by a bottom hook
abbrev shifts : End → List Frac
shifts door = (nat 3940677 /q nat 672980) ∷ (nat 5504833431 /q nat 125510770) ∷ (nat 3792221289 /q nat 62755385) ∷ []
shifts closed = (nat 1313559 /q nat 327980) ∷ (nat 1118373027 /q nat 85766770) ∷ (nat 728104413 /q nat 42883385) ∷ []

abbrev Balanced : End → ℕ → Type 0
Balanced e i =
    let ts = end_tiers (rule_of by_bottom) e by_bottom in
    S.racking ts (shifts e) i ≈ (S.tier_at ts i).Q -q S.athwart_from (end_lashes e by_bottom) (shifts e) (suc i)

balanced : (e : End) (i : ℕ) → i < 3 → Balanced e i
unfolding shift sumq recip chain_tiers load transverse weight wind chain_lash athwart_part pull level_of
balanced door zero h = rw (length_rod 2 1) (record { cross = refl })
balanced door (suc zero) h = record { cross = refl }
balanced door (suc (suc zero)) h = record { cross = refl }
balanced closed zero h = rw (length_rod 2 1) (record { cross = refl })
balanced closed (suc zero) h = record { cross = refl }
balanced closed (suc (suc zero)) h = record { cross = refl }
balanced e (suc (suc (suc i))) h = absurd (omega arith)

levels : (e : End) → length (shifts e) ≡ length (end_tiers (rule_of by_bottom) e by_bottom)
unfolding chain_tiers
levels door = refl
levels closed = refl

solved : (e : End) → EndSolved (rule_of by_bottom) e by_bottom (shifts e)
unfolding chain_tiers
solved e = record { solves = record { levels = levels e; balance = balanced e } }

bottom_tension : (e : End) → tension (rule_of by_bottom) (tiers_of by_bottom) (lashes_of e by_bottom) (shifts e) 1 ≈ unrelieved -q relief e
unfolding tension at_most moment turning transverse vertical_force weight wind sumq recip level_height level_of shift vertical_part pull
bottom_tension door = rw (length_rod 2 1) (record { cross = refl })
bottom_tension closed = rw (length_rod 2 1) (record { cross = refl })

above : nat corner_tension_limit ⊏ unrelieved
unfolding recip
above = record { cross = record { lt = tt } }

below : (e : End) → unrelieved -q relief e ⊏ nat corner_tension_limit
unfolding recip
below door = record { cross = record { lt = tt } }
below closed = record { cross = record { lt = tt } }

pub relieved : Relief
relieved =
    let rule = rule_of by_bottom in
    record {
      bottom_fits = bottom_fits;
      top_fits = top_fits;
      same_equations = same_equations;
      top = λ e Ds s. top_tension e Ds;
      above = above;
      bottom =
          λ e.
          every_tension rule e by_bottom (end_stiff rule e by_bottom (sheet_limits bottom_fits)) (shifts e) (solved e) 1
          (unrelieved -q relief e) (bottom_tension e);
      below = below;
    }
