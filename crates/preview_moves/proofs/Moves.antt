-- The answer to a decoded sheet with a new mass: 17, then 7 for the mass, then the sheet with the mass put in, which is within its limits.
use Rattle.std.specs.Prelude.{Ok, Err}
use Prim.Native.Nat.{ℕ, ◌+◌, ◌*◌, ◌-◌, ◌<◌, ◌≤◌}
use mathlib.Core.Bool.{Bool, true, false, not, ◌||◌, true≢false}
use mathlib.Core.List.{List}
use mathlib.Core.Path.{◌≡◌, refl, sym, ap, ap₂, subst, ◌∙◌}
use native.Mathlib.Nat.{lt_of_not-le}
use native.Mathlib.Omega.{arith}
use borrow.Author.Tests.{eqb-true, eqb-false}
use lib.Dec.{eqb, ltb}
use lib.ListN.{length, get_or-eq_default}
use lib.Seq.{get_or-set_same, get_or-set_other}
use Rattle.sheet.specs.Refusals.{Reading}
use Rattle.sheet.specs.declared.Sheet.{Sheet}
use Rattle.sheet.specs.declared.Tier.{Tier}
use Rattle.sheet.specs.Layout.{tier_fits, within, blank_tier}
use Rattle.sheet.specs.Fits.{Fits, tier_at}
use Rattle.sheet.specs.Inner.Changed.{with_tiers}
use Rattle.sheet.proofs.OtherTiers.{with_tiers_fit}
use Rattle.sheet.proofs.Rows.{row_holds, row_passed}
use Rattle.statics.specs.declared.LoadRule.{LoadRule}
use Rattle.statics.specs.Inner.Computed.{load_rule_of}
use Rattle.answer.specs.Outcomes.{Outcome}
use Rattle.answer.specs.Checked.{room_for}
use Rattle.answer.specs.Inner.Named.{answer_by, returned_as, written_as}
use Rattle.preview_moves.specs.Inner.Moved.{weighing, moved, moved_refusal, moved_bytes, Answers}
use Rattle.preview_moves.proofs.Copies.{mass_decides}
use Rattle.preview_moves.proofs.Order.{stack_has}
use Rattle.sheet.specs.Refusals.{numbers}

-- a tier within its limits is there
tier_there : (tiers : List Tier) (k : ℕ) → tier_fits (tier_at tiers k) ≡ true → k < length tiers
unfolding tier_fits
tier_there tiers k e = lt_of_not-le (λ h. true≢false (sym e ∙ ap tier_fits (get_or-eq_default tiers blank_tier h)))

-- the sheet with a mass that fits is within its limits
module _ {t : Sheet} (f : Fits t) (k mass : ℕ) (h : k < t.ntiers) where
  abbrev old : Tier
  old = tier_at t.tiers k

  abbrev new : Tier
  new = weighing mass old

  abbrev now : ℕ → Tier
  now j = tier_at (moved k mass t).tiers j

  -- what holds of the new tier and of each old one holds of all
  each : (P : Tier → Type 0) (j : ℕ) → P new → P (tier_at t.tiers j) → P (now j)
  each P j a b = go (eqb j k) refl
    where
      go : (same : Bool) → eqb j k ≡ same → P (now j)
      go true q =
          rw (eqb-true j k q)
          (subst P (sym (get_or-set_same t.tiers k new blank_tier (tier_there t.tiers k (f.tiers k h)))) a)
      go false q = subst P (sym (get_or-set_other t.tiers k j new blank_tier (eqb-false j k q))) b

  one_size : (j : ℕ) → j < t.ntiers → (now j).size ≡ (tier_at t.tiers 0).size
  one_size j q = each (λ x. x.size ≡ (tier_at t.tiers 0).size) j (f.sizes k h) (f.sizes j q)

  pub moved_fits : within 1 30480 mass ≡ true → Fits (moved k mass t)
  moved_fits e =
      with_tiers_fit f (moved k mass t).tiers
      (λ j q. each (λ x. tier_fits x ≡ true) j (mass_decides mass old (f.tiers k h) ∙ e) (f.tiers j q))
      (λ j q. one_size j q ∙ sym (one_size 0 f.some))

-- a decoded sheet, moved
module _ (t : Sheet) (tier mass : ℕ) (before : List ℕ) where
  abbrev no_tier : Bool
  no_tier = eqb tier 0 || ltb t.ntiers tier

  abbrev fits : Bool
  fits = within 1 30480 mass

  by_refusal :
      {q : Reading} {after : List ℕ} {r : Outcome} →
      moved_refusal t tier mass (length before) ≡ q →
      r ≡ returned_as q (moved_bytes t tier mass) →
      after ≡ written_as q (moved_bytes t tier mass) before →
      Answers t tier mass before after r
  by_refusal e g h = (
    g ∙ ap (λ (q : Reading). returned_as q (moved_bytes t tier mass)) (sym e),
    h ∙ ap (λ (q : Reading). written_as q (moved_bytes t tier mass) before) (sym e),
  )

  pub without_tier : no_tier ≡ true → Answers t tier mass before before (Err (numbers 17 tier))
  without_tier e = by_refusal (row_holds _ _ e) refl refl

  module _ (e : no_tier ≡ false) where
    pub some : 1 ≤ tier
    some = (stack_has t.ntiers tier e).0

    pub below : tier - 1 < t.ntiers
    below = omega (arith, some, (stack_has t.ntiers tier e).1)

    pub without_mass : not fits ≡ true → Answers t tier mass before before (Err (numbers 7 (9 + 12 * (tier - 1))))
    without_mass g = by_refusal (row_passed _ _ e ∙ row_holds _ _ g) refl refl

    pub with_mass :
        not fits ≡ false →
        {c : LoadRule} {tiers : List Tier} {after : List ℕ} {r : Outcome} →
        c ≡ load_rule_of t →
        tiers ≡ (moved (tier - 1) mass t).tiers →
        (r ≡ returned_as (room_for (length before)) (answer_by c (with_tiers tiers t)))
        × (after ≡ written_as (room_for (length before)) (answer_by c (with_tiers tiers t)) before) →
        Answers t tier mass before after r
    with_mass g {c} {tiers} rule is (u, v) =
        by_refusal (row_passed _ _ e ∙ row_passed _ _ g)
        (u ∙ ap (returned_as (room_for (length before))) bytes)
        (v ∙ ap (λ (b : List ℕ). written_as (room_for (length before)) b before) bytes)
      where
        bytes : answer_by c (with_tiers tiers t) ≡ moved_bytes t tier mass
        bytes = ap₂ (λ (c : LoadRule) (ts : List Tier). answer_by c (with_tiers ts t)) rule is
