-- The theorems of specs/Theorems hold.
use Rattle.std.specs.Prelude.{Ok, Err}
use mathlib.Core.Path.{◌≡◌, sym, subst}
use mathlib.Core.List.{List}
use Prim.Native.Nat.{ℕ, ◌≤◌}
use lib.Dec.{lit≤}
use lib.ListN.{length, drop}
use Rattle.sheet.specs.Refusals.{Reading}
use Rattle.sheet.specs.declared.Sheet.{Sheet}
use Rattle.sheet.specs.Layout.{sheet_of}
use Rattle.sheet.specs.Refusals.{refusal}
use Rattle.statics.proofs.Margins.{figured_wider}
use Rattle.statics.specs.Loads.{Rule, rule_of}
use Rattle.answer.specs.Outcomes.{Outcome}
use Rattle.answer.specs.Checked.{AnswerTo, AnsweredAs, Checked, kept, demanded}
use Rattle.answer.specs.Consequences.{AnswerSays}
use Rattle.answer.specs.Theorems.{DemandThree, Theorems}
use Rattle.answer.proofs.Consequences as C
use Rattle.answer.proofs.Consequences.{answered}
use Rattle.answer.proofs.Named.{answer_named, check_named}
use Rattle.answer.proofs.Table.{table}
use Rattle.answer.proofs.SafeLoads.{safe_loads}
use Rattle.answer.proofs.Turned.{turned}
use Rattle.answer.proofs.Relief.{relieved}
use Rattle.answer.proofs.FleetStandard.{fleet_standard}
use Rattle.answer.proofs.OnePull.{one_pull}

module _ {m n : ℕ} (wider : m ≤ n) where
  pub answer_wider : {rule : Rule} {t : Sheet} {bytes : List ℕ} → AnswerTo m rule t bytes → AnswerTo n rule t bytes
  answer_wider a =
      record {
        figures = a.figures;
        encoded = a.encoded;
        reports = λ e. figured_wider wider (a.reports e);
        one = a.one;
      }

  pub checked_wider : {s before after : List ℕ} {r : Outcome} → Checked m s before after r → Checked n s before after r
  checked_wider {s} {before} {after} {r} c = record { holds = go (refusal s (length before)) c.holds }
    where
      go :
          (q : Reading) →
          AnsweredAs q m (rule_of (sheet_of s)) (sheet_of s) before after r →
          AnsweredAs q n (rule_of (sheet_of s)) (sheet_of s) before after r
      go (Err why) h = h
      go (Ok _) h = record { bytes = h.bytes; answer = answer_wider h.answer; taken = h.taken; written = h.written }

demand_three :
    {s before after : List ℕ} {r : Outcome} →
    refusal s (length before) ≡ Ok tt →
    Checked kept s before after r →
    DemandThree (sheet_of s) after
demand_three {s} {before} {after} e c =
    let a = answered e (checked_wider (lit≤ tt) c) in
    record {
      one = a.answer.one;
      says =
          subst (λ (l : List ℕ). AnswerSays demanded (rule_of (sheet_of s)) (sheet_of s) l) (sym a.written)
          (C.says a.answer (drop (length a.bytes) before));
    }

pub theorems : Theorems
theorems =
    record {
      answer_named = λ c rule t stands f. answer_named stands f;
      check_named = check_named;
      answer_wider = λ m n h rule t bytes a. answer_wider h a;
      checked_wider = λ m n h s before after r c. checked_wider h c;
      read_back = λ margin rule t bytes rest a. C.read_back a rest;
      says = λ margin rule t bytes rest a. C.says a rest;
      demand_three = λ s before after r e c. demand_three e c;
      table = table;
      safe_loads = safe_loads;
      turned = turned;
      relief = relieved;
      fleet_standard = fleet_standard;
      one_pull = one_pull;
    }
