-- What `check` and `answer_to` give is what Named names: by the refusals in their order, then the answer.
use Rattle.std.specs.Prelude.{Ok, Err}
use mathlib.Core.Path.{◌≡◌, refl, sym, ap, ap₂, ◌∙◌}
use mathlib.Core.List.{List, ◌++◌}
use Prim.Native.Nat.{ℕ, ◌≤◌, ◌<◌}
use borrow.Author.Tests.{lt-ltb, le-ltb}
use lib.ListN.{drop, length}
use Rattle.sheet.specs.Refusals.{Reading}
use Rattle.sheet.specs.declared.Sheet.{Sheet}
use Rattle.sheet.specs.declared.Tier.{Tier}
use Rattle.sheet.specs.Layout.{sheet_of}
use Rattle.sheet.specs.Refusals.{first, sheet_rows, refusal}
use Rattle.sheet.specs.Fits.{Fits}
use Rattle.sheet.specs.Inner.Changed.{with_tiers}
use Rattle.sheet.proofs.CallRefusals.{sheet_refused, room_last}
use Rattle.statics.specs.declared.LoadRule.{LoadRule}
use Rattle.statics.specs.declared.Figures.{Figures}
use Rattle.statics.specs.Inner.Computed.{figures_by, load_rule_of}
use Rattle.answer.specs.Outcomes.{Outcome}
use Rattle.answer.specs.Answers.{answer_bytes}
use Rattle.answer.specs.Checked.{AnsweredBy, room_for, Checked, kept}
use Rattle.answer.specs.Inner.Named.{answer_by, check_bytes, returned_as, written_as, returned, written}
use Rattle.answer.proofs.Named.{answer_by_named, check_named}
use Rattle.sheet.specs.declared.Refusal.{Refusal}
use Rattle.sheet.specs.Refusals.{numbers}

-- a decoded sheet
module _ (c : LoadRule) (t : Sheet) (before : List ℕ) where
  abbrev ByName : List ℕ → Outcome → Type 0
  ByName after r =
      (r ≡ returned_as (room_for (length before)) (answer_by c t))
      × (after ≡ written_as (room_for (length before)) (answer_by c t) before)

  pub short_room : length before < 834 → ByName before (Err (numbers 13 834))
  unfolding first
  short_room h = simp (lt-ltb (length before) 834 h) (refl, refl)

  pub answered :
      {f : Figures} {n : ℕ} {after : List ℕ} →
      834 ≤ length before →
      f ≡ figures_by c t →
      n ≡ length (answer_bytes t f) →
      after ≡ answer_bytes t f ++ drop (length (answer_bytes t f)) before →
      ByName after (Ok n)
  unfolding first
  answered {f} h e size stored =
      simp (le-ltb (length before) 834 h) (
        ap Ok (size ∙ ap (λ (g : Figures). length (answer_bytes t g)) e),
        stored ∙ ap (λ (g : Figures). answer_bytes t g ++ drop (length (answer_bytes t g)) before) e,
      )

  pub by_rule : {after : List ℕ} {r : Outcome} → Fits t → ByName after r → AnsweredBy kept c t before after r
  by_rule f (e, g) = record { holds = λ rule stands. rw (e, g) (answer_by_named stands f before) }

-- a sheet's bytes
module _ (s before : List ℕ) where
  abbrev Checks : List ℕ → Outcome → Type 0
  Checks after r =
      Checked kept s before after r × ((r ≡ returned s (length before)) × (after ≡ written s before))

  by_name : {after : List ℕ} {r : Outcome} → r ≡ returned s (length before) → after ≡ written s before → Checks after r
  by_name e g = (rw (e, g) (check_named s before), (e, g))

  by_refusal :
      (q : Reading) {after : List ℕ} {r : Outcome} →
      refusal s (length before) ≡ q →
      r ≡ returned_as q (check_bytes s) →
      after ≡ written_as q (check_bytes s) before →
      Checks after r
  unfolding returned written
  by_refusal q e g h =
      by_name
      (g ∙ ap (λ (q : Reading). returned_as q (check_bytes s)) (sym e))
      (h ∙ ap (λ (q : Reading). written_as q (check_bytes s) before) (sym e))

  pub refused : {why : Refusal} → first (sheet_rows s) ≡ Err why → Checks before (Err why)
  refused {why} e = by_refusal (Err why) (sheet_refused s (length before) e) refl refl

  pub taken :
      first (sheet_rows s) ≡ Ok tt →
      {c : LoadRule} {tiers : List Tier} {after : List ℕ} {r : Outcome} →
      c ≡ load_rule_of (sheet_of s) →
      tiers ≡ (sheet_of s).tiers →
      ByName c (with_tiers tiers (sheet_of s)) before after r →
      Checks after r
  taken e {c} {tiers} rule same (g, h) =
      let bytes : answer_by c (with_tiers tiers (sheet_of s)) ≡ check_bytes s =
      ap₂ (λ (c : LoadRule) (ts : List Tier). answer_by c (with_tiers ts (sheet_of s))) rule same in
      by_refusal (room_for (length before)) (room_last s (length before) e)
      (g ∙ ap (λ (b : List ℕ). returned_as (room_for (length before)) b) bytes)
      (h ∙ ap (λ (b : List ℕ). written_as (room_for (length before)) b before) bytes)
