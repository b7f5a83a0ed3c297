-- What `preview` gives is what Previewed and AsChecked say: the sheet's refusals, 17, then the check of the copy.
use Rattle.std.specs.Prelude.{Ok, Err}
use Prim.Native.Nat.{ℕ, ◌<◌, ◌≤◌}
use mathlib.Core.Bool.{Bool, true, false}
use mathlib.Core.List.{List}
use mathlib.Core.Path.{◌≡◌, refl, sym, ap, subst, ◌∙◌}
use lib.ListN.{length}
use Rattle.sheet.specs.Refusals.{Reading}
use Rattle.sheet.specs.declared.Sheet.{Sheet}
use Rattle.sheet.specs.Layout.{tier_count, sheet_of}
use Rattle.sheet.specs.Refusals.{first, sheet_rows, refusal}
use Rattle.sheet.proofs.Rows.{row_holds, row_passed}
use Rattle.statics.specs.Inner.Computed.{load_rule_of}
use Rattle.answer.specs.Outcomes.{Outcome}
use Rattle.answer.specs.Checked.{Checked, kept}
use Rattle.answer.specs.Inner.Named.{answer_by, check_bytes, returned_as, written_as, returned, written}
use Rattle.answer.proofs.Named.{check_named}
use Rattle.preview_moves.specs.Previews.{with_mass, move_refusal, UnlessTurnedBack, Previewed}
use Rattle.preview_moves.specs.Inner.Moved.{AsChecked, moved_refusal, moved_bytes, Answers}
use Rattle.preview_moves.proofs.Copies.{copy_holds}
use Rattle.preview_moves.proofs.Order.{stack_has, lacking, sheet_first, lacks_tier, has_tier, copy_refusal}
use Rattle.sheet.specs.declared.Refusal.{Refusal}

-- a sheet's bytes s
module _ (s : List ℕ) (tier mass : ℕ) (before : List ℕ) where
  abbrev copy : List ℕ
  copy = with_mass tier mass s

  abbrev Previews : List ℕ → Outcome → Type 0
  Previews after r = Previewed kept s tier mass before after r × AsChecked s tier mass before after r

  -- what the check says holds where the outcome is the check's by name
  by_name : {after : List ℕ} {r : Outcome} → AsChecked s tier mass before after r → Previews after r
  by_name {after} {r} h = (record { holds = go (move_refusal s tier) h }, h)
    where
      go :
          (q : Reading) →
          UnlessTurnedBack q before after r ((r ≡ returned copy (length before)) × (after ≡ written copy before)) →
          UnlessTurnedBack q before after r (Checked kept copy before after r)
      go (Err why) h = h
      go (Ok _) (e, g) = rw (e, g) (check_named copy before)

  by_refusal :
      {q : Reading} {after : List ℕ} {r : Outcome} →
      move_refusal s tier ≡ q →
      UnlessTurnedBack q before after r ((r ≡ returned copy (length before)) × (after ≡ written copy before)) →
      Previews after r
  by_refusal {q} {after} {r} e h =
      by_name
      (subst (λ q. UnlessTurnedBack q before after r ((r ≡ returned copy (length before)) × (after ≡ written copy before))) (sym e) h)

  pub refused : {why : Refusal} → first (sheet_rows s) ≡ Err why → Previews before (Err why)
  refused e = by_refusal (sheet_first s tier e) (record { refused = refl; untouched = refl })

  module _ (taken : first (sheet_rows s) ≡ Ok tt) where
    -- the check of the copy, where the stack has the tier
    module _ (small : mass < 65536) (some : 1 ≤ tier) (has : tier ≤ tier_count s) where
      returned_as_lem :
          {q : Reading} → refusal copy (length before) ≡ q → returned copy (length before) ≡ returned_as q (check_bytes copy)
      unfolding returned
      returned_as_lem e = ap (λ (q : Reading). returned_as q (check_bytes copy)) e

      written_as_lem : {q : Reading} → refusal copy (length before) ≡ q → written copy before ≡ written_as q (check_bytes copy) before
      unfolding written
      written_as_lem e = ap (λ (q : Reading). written_as q (check_bytes copy) before) e

      bytes_are : check_bytes copy ≡ moved_bytes (sheet_of s) tier mass
      bytes_are = ap (λ (t : Sheet). answer_by (load_rule_of t) t) (copy_holds s taken tier mass some has small)

    -- what the sheet with the new mass is answered is what the check answers to the copy
    module _ {after : List ℕ} {r : Outcome} (small : mass < 65536) (h : Answers (sheet_of s) tier mass before after r) where
      abbrev bytes : List ℕ
      bytes = moved_bytes (sheet_of s) tier mass

      by :
          {q : Reading} →
          moved_refusal (sheet_of s) tier mass (length before) ≡ q →
          (r ≡ returned_as q bytes) × (after ≡ written_as q bytes before)
      by e = subst (λ q. (r ≡ returned_as q bytes) × (after ≡ written_as q bytes before)) e h

      without : lacking s tier ≡ true → Previews after r
      unfolding sheet_of
      without q =
          let a = by (row_holds _ _ q) in
          by_refusal (lacks_tier s tier taken q) (record { refused = a.0; untouched = a.1 })

      within_stack : lacking s tier ≡ false → Previews after r
      unfolding sheet_of
      within_stack q =
          let (some, has) = stack_has (tier_count s) tier q in
          let c = copy_refusal s taken tier mass some has small (length before) in
          let a = by (row_passed _ _ q ∙ sym c) in
          let e = bytes_are small some has in
          by_refusal (has_tier s tier taken q) (
            a.0 ∙ ap (returned_as (refusal copy (length before))) (sym e) ∙ sym (returned_as_lem small some has refl),
            a.1
                ∙ ap (λ (b : List ℕ). written_as (refusal copy (length before)) b before) (sym e)
                ∙ sym (written_as_lem small some has refl),
          )

      pub answered : Previews after r
      answered = go (lacking s tier) refl
        where
          go : (b : Bool) → lacking s tier ≡ b → Previews after r
          go true q = without q
          go false q = within_stack q
