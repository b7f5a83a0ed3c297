-- What the check answers by name is what it must say: of a sheet within the limits, by any rule; and of a sheet's bytes.
use Rattle.std.specs.Prelude.{Ok, Err}
use mathlib.Core.Path.{◌≡◌, refl}
use mathlib.Core.List.{List}
use Prim.Native.Nat.{ℕ}
use lib.ListN.{length}
use Rattle.sheet.specs.Refusals.{Reading}
use Rattle.sheet.specs.declared.Sheet.{Sheet}
use Rattle.sheet.specs.Ends.{End, door, closed}
use Rattle.sheet.specs.Fits.{Fits}
use Rattle.sheet.specs.Layout.{sheet_of}
use Rattle.sheet.specs.Refusals.{refusal}
use Rattle.sheet.proofs.CallRefusals.{sheet_taken}
use Rattle.sheet.proofs.SheetLimits.{sheet_limits}
use Rattle.sheet.proofs.TakenSheets.{taken_fits}
use Rattle.statics.specs.declared.LoadRule.{LoadRule}
use Rattle.statics.specs.Loads.{Rule, rule_of, StandsFor}
use Rattle.statics.specs.Reported.{EndFigured}
use Rattle.statics.specs.Inner.Computed.{figures_by}
use Rattle.statics.proofs.EndChain.{rule_stands}
use Rattle.statics.proofs.Figured.{end_figured}
use Rattle.statics.proofs.OneSolution.{one_solution}
use Rattle.answer.specs.Findings.{figures_of}
use Rattle.answer.specs.Checked.{AnswerTo, AnsweredAs, room_for, Checked, kept}
use Rattle.answer.specs.Inner.Named.{answer_by, check_bytes, returned_as, written_as, returned, written}

module _ {c : LoadRule} {rule : Rule} {t : Sheet} (stands : StandsFor c rule) (f : Fits t) where
  figured : (e : End) → EndFigured kept rule e t (figures_of e (figures_by c t))
  unfolding figures_by
  figured door = end_figured stands door (sheet_limits f)
  figured closed = end_figured stands closed (sheet_limits f)

  pub answer_named : AnswerTo kept rule t (answer_by c t)
  answer_named =
      record {
        figures = figures_by c t;
        encoded = refl;
        reports = figured;
        one = λ e. one_solution rule e (sheet_limits f);
      }

  -- with a buffer that held `before`
  pub answer_by_named :
      (before : List ℕ) →
      AnsweredAs (room_for (length before)) kept rule t before
      (written_as (room_for (length before)) (answer_by c t) before)
      (returned_as (room_for (length before)) (answer_by c t))
  answer_by_named before = go (room_for (length before))
    where
      go : (q : Reading) → AnsweredAs q kept rule t before (written_as q (answer_by c t) before) (returned_as q (answer_by c t))
      go (Err why) = record { refused = refl; untouched = refl }
      go (Ok _) = record { bytes = answer_by c t; answer = answer_named; taken = refl; written = refl }

pub check_named : (s before : List ℕ) → Checked kept s before (written s before) (returned s (length before))
unfolding written returned
check_named s before = record { holds = go (refusal s (length before)) refl }
  where
    go :
        (q : Reading) →
        refusal s (length before) ≡ q →
        AnsweredAs q kept (rule_of (sheet_of s)) (sheet_of s) before (written_as q (check_bytes s) before) (returned_as q (check_bytes s))
    go (Err why) e = record { refused = refl; untouched = refl }
    go (Ok _) e =
        let fits = taken_fits s (sheet_taken s (length before) e) in
        record { bytes = check_bytes s; answer = answer_named (rule_stands (sheet_limits fits)) fits; taken = refl; written = refl }
