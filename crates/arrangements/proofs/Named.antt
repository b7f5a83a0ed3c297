-- What is listed by name is what the call must say; and what the call returns and writes.
use Rattle.std.specs.Prelude.{Ok, Err}
use Prim.Native.Nat.{ℕ}
use mathlib.Core.List.{List, ◌∷◌, ◌++◌}
use mathlib.Core.Path.{◌≡◌, refl, sym, ap, subst, ◌∙◌}
use lib.ListN.{length, drop}
use Rattle.sheet.specs.Refusals.{sheet_rows, Reading}
use Rattle.sheet.specs.declared.Sheet.{Sheet}
use Rattle.sheet.specs.Fits.{Fits}
use Rattle.sheet.specs.Layout.{sheet_of}
use Rattle.sheet.specs.Refusals.{Row, first, decoded}
use Rattle.sheet.proofs.Clear.{clear}
use Rattle.sheet.proofs.CallRefusals.{decoded_taken, decoded_refused, refusal_of_lem, refused_by_sheet, sheet_taken_of, own_taken_of}
use Rattle.sheet.proofs.Rows.{or_else, row_passed}
use Rattle.sheet.proofs.SheetLimits.{sheet_limits}
use Rattle.sheet.proofs.TakenSheets.{taken_fits, decoded_fits}
use Rattle.statics.specs.Loads.{rule_of}
use Rattle.statics.proofs.EndChain.{rule_stands}
use Rattle.answer.specs.Outcomes.{Outcome}
use Rattle.answer.specs.Checked.{AnswerTo, kept}
use Rattle.answer.specs.Inner.Named.{returned_as, written_as}
use Rattle.answer.proofs.Named.{answer_named}
use Rattle.gear.specs.Gear.{gear_count, gear_lashes, row24, gear_rows}
use Rattle.gear.proofs.Section.{as_counted}
use Rattle.gear.proofs.Subsets.{no_choice_refused}
use Rattle.arrangements.specs.Arrangements.{own_rows, longest_list, list_refusal, with_choice, list_bytes, ListedAs, Listed}
use Rattle.arrangements.specs.Inner.Named.{answer_with, list_for, gear_reading, Settled, list_returned, list_written}
use Rattle.sheet.specs.declared.Refusal.{Refusal}

-- where no row holds, none of the later ones does
first_rest : (r : Row) (rs : List Row) → first (r ∷ rs) ≡ Ok tt → first rs ≡ Ok tt
first_rest r rs e = sym (row_passed r rs (clear (r ∷ rs) e).0) ∙ e

-- a sheet and a gear section that are taken
module _ (s g : List ℕ) (room : ℕ) (e : list_refusal s g room ≡ Ok tt) where
  pub sheet_is_taken : first (sheet_rows s) ≡ Ok tt
  sheet_is_taken = sheet_taken_of s (own_rows (sheet_of s) g) longest_list room e

  pub sheet_within : Fits (sheet_of s)
  sheet_within = taken_fits s sheet_is_taken

  pub gear_is_taken : first (gear_rows (sheet_of s).ntiers g) ≡ Ok tt
  gear_is_taken =
      first_rest (row24 (sheet_of s)) (gear_rows (sheet_of s).ntiers g)
      (own_taken_of s (own_rows (sheet_of s) g) longest_list room sheet_is_taken e)

  pub choice_fits : (c : ℕ) → Fits (with_choice s g c)
  choice_fits c = no_choice_refused (sheet_of s) g c sheet_within gear_is_taken

  pub choice_answered : (c : ℕ) → AnswerTo kept (rule_of (with_choice s g c)) (with_choice s g c) (answer_with (sheet_of s) (gear_lashes g) c)
  choice_answered c = answer_named (rule_stands (sheet_limits (choice_fits c))) (choice_fits c)

pub list_by_count : (s g : List ℕ) → list_for (sheet_of s) (gear_lashes g) ≡ list_bytes (answer_with (sheet_of s) (gear_lashes g)) (gear_count g)
list_by_count s g = ap (list_bytes (answer_with (sheet_of s) (gear_lashes g))) (as_counted g)

pub list_named : (s g before : List ℕ) → Listed kept s g before (list_written s g before) (list_returned s g (length before))
unfolding list_written list_returned
list_named s g before = record { holds = go (list_refusal s g (length before)) refl }
  where
    go :
        (q : Reading) →
        list_refusal s g (length before) ≡ q →
        ListedAs q kept s g before (written_as q (list_for (sheet_of s) (gear_lashes g)) before) (returned_as q (list_for (sheet_of s) (gear_lashes g)))
    go (Err why) e = record { refused = refl; untouched = refl }
    go (Ok _) e =
        record {
          answer = answer_with (sheet_of s) (gear_lashes g);
          answers = λ c h. choice_answered s g (length before) e c;
          taken = ap (λ (b : List ℕ). Ok (length b)) (list_by_count s g);
          written = ap (λ (b : List ℕ). b ++ drop (length b) before) (list_by_count s g);
        }

-- what `list` returns and writes
module _ (s g before : List ℕ) where
  abbrev Lists : List ℕ → Outcome → Type 0
  Lists after r =
      Listed kept s g before after r × ((r ≡ list_returned s g (length before)) × (after ≡ list_written s g before))

  by_name :
      {after : List ℕ} {r : Outcome} →
      Settled (list_refusal s g (length before)) (list_for (sheet_of s) (gear_lashes g)) before after r →
      Lists after r
  unfolding list_returned list_written
  by_name h = (rw (h.returns, h.writes) (list_named s g before), (h.returns, h.writes))

  pub sheet_refused : {why : Refusal} → decoded s ≡ Err why → Lists before (Err why)
  sheet_refused {why} e =
      by_name (subst (λ (q : Reading). Settled q (list_for (sheet_of s) (gear_lashes g)) before before (Err why))
      (sym (refused_by_sheet s (own_rows (sheet_of s) g) longest_list (length before) (decoded_refused s e)))
      (record { returns = refl; writes = refl }))

  module _ {t : Sheet} (e : decoded s ≡ Ok t) where
    past_sheet : list_refusal s g (length before) ≡ gear_reading (sheet_of s) g (length before)
    past_sheet =
        refusal_of_lem s (own_rows (sheet_of s) g) longest_list (length before)
        ∙ ap (λ (q : Reading). or_else q (gear_reading (sheet_of s) g (length before))) (decoded_taken s e).0

    pub sheet_taken :
        {after : List ℕ} {r : Outcome} →
        Settled (gear_reading t g (length before)) (list_for t (gear_lashes g)) before after r →
        Lists after r
    sheet_taken {after} {r} h =
        let held =
        subst (λ (t : Sheet). Settled (gear_reading t g (length before)) (list_for t (gear_lashes g)) before after r)
        (sym (decoded_taken s e).1) h in
        by_name (subst (λ (q : Reading). Settled q (list_for (sheet_of s) (gear_lashes g)) before after r) (sym past_sheet) held)
