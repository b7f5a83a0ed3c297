-- Bytes to bytes: two runs of the check, two by a forecast, and a check with a preview.
use Rattle.std.specs.Prelude.{Ok, Err}
use Prim.Native.Nat.{ℕ, ◌+◌, ◌-◌, ◌<◌, ◌≤◌}
use mathlib.Core.Bool.{Bool, true, false}
use mathlib.Core.List.{List, []}
use mathlib.Core.Logic.{◌≢◌}
use mathlib.Core.Path.{◌≡◌, refl, sym, ap, subst, ◌∙◌}
use native.Mathlib.Decide.{dec_lt}
use native.Mathlib.Omega.{arith}
use lib.Dec.{lit≤}
use lib.ListN.{length, drop}
use Rattle.arith.specs.Bytes.{byte_at, le2}
use Rattle.arith.specs.Fractions.{Frac}
use Rattle.sheet.specs.Refusals.{Reading}
use Rattle.sheet.specs.declared.Sheet.{Sheet}
use Rattle.sheet.specs.Layout.{tier_count, sheet_of}
use Rattle.sheet.specs.Fits.{Fits}
use Rattle.sheet.specs.Ends.{End}
use Rattle.sheet.specs.Refusals.{first, sheet_rows, decoded, longest_answer, refusal}
use Rattle.sheet.proofs.Results.{err_not_ok}
use Rattle.sheet.proofs.CallRefusals.{sheet_taken_of}
use Rattle.sheet.proofs.SheetLimits.{sheet_limits}
use Rattle.sheet.proofs.TakenSheets.{taken_fits}
use Rattle.statics.specs.Loads.{Rule, rule_of}
use Rattle.statics.specs.Ends.{EndSolved}
use Rattle.statics.specs.Theorems.{Proper}
use Rattle.statics.proofs.LoadsGrow.{stands_proper}
use Rattle.statics.proofs.RuleNumbers.{by_number}
use Rattle.answer.specs.Outcomes.{Outcome}
use Rattle.answer.specs.Checked.{AnswerTo, Answered, AnsweredAs, Checked, kept}
use Rattle.answer.proofs.Consequences.{answered}
use Rattle.preview_moves.specs.Previews.{mass_place, with_mass, move_refusal, UnlessTurnedBack, Previewed}
use Rattle.preview_moves.specs.Theorems.{CopyOf}
use Rattle.preview_moves.proofs.Copies.{copies}
use Rattle.preview_moves.proofs.Order.{stack_has, lacking, lacks_tier}
use Rattle.forecast.specs.Forecasts.{forecast_rule}
use Rattle.forecast.proofs.Named.{stands, within}
use Rattle.heavier.specs.Heavier.{HeavierSheet, mass_at, HeavierBytes, ExactNotLower, ReportedNotLower, NotLower}
use Rattle.heavier.specs.Theorems.{ByRuleNumber, OfChecks, OfForecasts, OfPreview}
use Rattle.heavier.proofs.Exact.{exact}
use Rattle.heavier.proofs.Reported.{reported}
use Rattle.heavier.proofs.OfBytes.{bytes_hold}

-- less than 9 N is less than 100
wider : {m n : ℕ} → m ≤ n → {t u : Sheet} {s c : List ℕ} → ReportedNotLower m t u s c → ReportedNotLower n t u s c
wider l h = record { forces = λ e x of j b. omega (arith, l, h.forces e x of j b) }

-- what the loads go by is the same: the heads are
same_rule : {t u : Sheet} → HeavierSheet t u → rule_of u ≡ rule_of t
same_rule h = ap rule_of h.same

same_forecast : (h b : ℕ) {t u : Sheet} → HeavierSheet t u → forecast_rule h b u ≡ forecast_rule h b t
same_forecast h b g = ap (forecast_rule h b) g.same

-- two sheets that differ only in masses, whose loads go by the same
module _ (by : Sheet → Rule) {t u : Sheet} (h : HeavierSheet t u) (same : by u ≡ by t) (proper : Proper (by t)) (f : Fits t)
    (g : Fits u) where
  exactly : (e : End) (Ds Es : List Frac) → EndSolved (by t) e t Ds → EndSolved (by u) e u Es → ExactNotLower (by t) e t u Ds Es
  exactly e Ds Es s r = exact (by t) proper t u f g h e Ds Es s (subst (λ (rule : Rule). EndSolved rule e u Es) same r)

  -- and are answered
  module _ {before₁ after₁ before₂ after₂ : List ℕ} {r₁ r₂ : Outcome}
      (a : Answered kept (by t) t before₁ after₁ r₁) (b : Answered kept (by u) u before₂ after₂ r₂) where
    as_reported : ReportedNotLower kept t u after₁ after₂
    as_reported =
        rw (a.written, b.written)
        (reported kept (by t) proper t u f g h a.bytes b.bytes (drop (length a.bytes) before₁)
        (drop (length b.bytes) before₂) a.answer (subst (λ (rule : Rule). AnswerTo kept rule u b.bytes) same b.answer))

    not_lower : NotLower by t u after₁ after₂
    not_lower = record { exact = exactly; within_kept = as_reported; within_demanded = wider (lit≤ tt) as_reported }

pub by_rule_number : ByRuleNumber
by_rule_number t u f g h = exactly rule_of h (same_rule h) (by_number (sheet_limits f)).proper f g

-- a sheet that the check takes is within the limits
sheet_taken : (s : List ℕ) (room : ℕ) → refusal s room ≡ Ok tt → first (sheet_rows s) ≡ Ok tt
unfolding refusal
sheet_taken s room e = sheet_taken_of s [] longest_answer room e

checked_fits : (s : List ℕ) (room : ℕ) → refusal s room ≡ Ok tt → Fits (sheet_of s)
checked_fits s room e = taken_fits s (sheet_taken s room e)

pub of_checks : OfChecks
of_checks s c h before₁ after₁ before₂ after₂ r₁ r₂ q₁ q₂ k₁ k₂ =
    let held = bytes_hold s c h in
    let fits = checked_fits s (length before₁) q₁ in
    not_lower rule_of held (same_rule held) (by_number (sheet_limits fits)).proper fits
    (checked_fits c (length before₂) q₂) (answered q₁ k₁) (answered q₂ k₂)

-- by a forecast
taken_answer :
    {q : Reading} {rule : Rule} {t : Sheet} {before after : List ℕ} {r : Outcome} →
    q ≡ Ok tt →
    AnsweredAs q kept rule t before after r →
    Answered kept rule t before after r
taken_answer {q} {rule} {t} {before} {after} {r} e = subst (λ (z : Reading). AnsweredAs z kept rule t before after r) e

pub of_forecasts : OfForecasts
of_forecasts s c g h b hours₁ hours₂ before₁ after₁ before₂ after₂ r₁ r₂ q₁ q₂ k₁ k₂ =
    let held = bytes_hold s c g in
    let fits = within s h b hours₁ before₁ q₁ in
    not_lower (forecast_rule h b) held (same_forecast h b held) (stands_proper (stands fits h b)) fits
    (within c h b hours₂ before₂ q₂) (taken_answer q₁ k₁.holds) (taken_answer q₂ k₂.holds)

-- the copy of a preview with a mass that is no lower
module _ (s : List ℕ) (tier mass : ℕ) (copied : CopyOf s tier mass) (more : le2 s (mass_place tier) ≤ mass) where
  abbrev copy : List ℕ
  copy = with_mass tier mass s

  -- a mass of another tier is not touched
  mass_before : (k : ℕ) → k < tier - 1 → le2 copy (mass_at k) ≡ le2 s (mass_at k)
  mass_before k l = rw (copied.before (mass_at k) (omega arith), copied.before (mass_at k + 1) (omega arith))

  mass_behind : (k : ℕ) → tier - 1 < k → le2 copy (mass_at k) ≡ le2 s (mass_at k)
  mass_behind k l = rw (copied.behind (mass_at k) (omega arith), copied.behind (mass_at k + 1) (omega arith))

  none_less : (k : ℕ) → le2 s (mass_at k) ≤ le2 copy (mass_at k)
  none_less k = at (dec_lt k (tier - 1)) (dec_lt (tier - 1) k)
    where
      at : Dec (k < tier - 1) → Dec (tier - 1 < k) → le2 s (mass_at k) ≤ le2 copy (mass_at k)
      at (yes l) d = omega (arith, mass_before k l)
      at (no n) (yes l) = omega (arith, mass_behind k l)
      at (no n) (no m) =
          let here : k ≡ tier - 1 = omega (arith, n, m) in
          rw here (omega (arith, more, copied.put))

  copy_heavier : 1 ≤ tier → tier ≤ tier_count s → HeavierBytes s copy
  copy_heavier some has =
      record {
        size = copied.size;
        same = λ i off. elsewhere i (off (tier - 1) (omega arith)) (dec_lt i (mass_place tier));
        masses = λ k _. none_less k;
      }
    where
      elsewhere : (i : ℕ) → (i ≢ mass_at (tier - 1)) × (i ≢ mass_at (tier - 1) + 1) → Dec (i < mass_place tier) → byte_at copy i ≡ byte_at s i
      elsewhere i off (yes l) = copied.before i l
      elsewhere i off (no n) = copied.behind i (omega (arith, n, off.0, off.1))

-- a preview that is not turned back names a tier that the stack has
tier_there : (s : List ℕ) (tier : ℕ) → first (sheet_rows s) ≡ Ok tt → move_refusal s tier ≡ Ok tt → (1 ≤ tier) × (tier ≤ tier_count s)
tier_there s tier taken e = go (lacking s tier) refl
  where
    go : (b : Bool) → lacking s tier ≡ b → (1 ≤ tier) × (tier ≤ tier_count s)
    go true q = err_not_ok (sym (lacks_tier s tier taken q) ∙ e)
    go false q = stack_has (tier_count s) tier q

previewed :
    {margin : ℕ} {s : List ℕ} {tier mass : ℕ} {before after : List ℕ} {r : Outcome} →
    move_refusal s tier ≡ Ok tt →
    Previewed margin s tier mass before after r →
    Checked margin (with_mass tier mass s) before after r
previewed {margin} {s} {tier} {mass} {before} {after} {r} e k =
    subst (λ (q : Reading). UnlessTurnedBack q before after r (Checked margin (with_mass tier mass s) before after r)) e k.holds

pub of_preview : OfPreview
of_preview s tier mass small more before₁ after₁ before₂ after₂ r₁ r₂ q₁ move q₂ k₁ k₂ =
    let taken = sheet_taken s (length before₁) q₁ in
    let there = tier_there s tier taken move in
    of_checks s (with_mass tier mass s)
    (copy_heavier s tier mass (copies s tier mass taken there.0 there.1 small) more there.0 there.1) before₁ after₁ before₂
    after₂ r₁ r₂ q₁ q₂ k₁ (previewed move k₂)
