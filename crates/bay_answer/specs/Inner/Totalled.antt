-- Contracts of inner functions; nothing here need be believed.
use Rattle.std.specs.Prelude.{ℕ, ◌+◌, ◌*◌, ◌≤◌, ◌^◌, List, nat_abs, length}
use Rattle.arith.specs.Bytes.{signed4}
use Rattle.sheet.specs.declared.Sheet.{Sheet}
use Rattle.statics.specs.Inner.Computed.{load_rule_of}
use Rattle.answer.specs.Places.{entry_place}
use Rattle.answer.specs.Inner.Named.{answer_by}
use Rattle.bay_wind.specs.Sums.{larger, greatest_of}
use Rattle.bay_answer.specs.declared.Totals.{Totals}
use Rattle.bay_answer.specs.Rows.{accepted_in, mass_of, racking_in}

-- the answer to a row's sheet, by name, and what is said of the row
abbrev pub answer_of : Sheet → List ℕ
answer_of t = answer_by (load_rule_of t) t

abbrev pub row_totals : Sheet → List ℕ → Totals
row_totals t answer =
    record {
      length = 2 + length answer;
      accepted = accepted_in answer;
      mass = mass_of t;
      racking = racking_in t answer;
    }

-- the greatest size among n rackings whose count stands at `at`; and among those of both ends, by the tiers and the door end's lashes
abbrev pub greatest_at : List ℕ → ℕ → ℕ → ℕ
greatest_at answer at n = greatest_of (λ i. nat_abs (signed4 answer (entry_place at 4 i))) n

abbrev pub greatest_with : List ℕ → ℕ → ℕ → ℕ
greatest_with answer n lashes = larger (greatest_at answer 1 n) (greatest_at answer (9 + 12 * n + 12 * lashes) n)

abbrev pub totals_with : List ℕ → ℕ → ℕ → ℕ → Totals
totals_with answer n lashes mass =
    record {
      length = 2 + length answer;
      accepted = accepted_in answer;
      mass = mass;
      racking = greatest_with answer n lashes;
    }

-- what is said of k rows is at most
pub record Bounded (k : ℕ) (r : Totals) : Type 0 where
  pub length : r.length ≤ 836 * k
  pub accepted : r.accepted ≤ k
  pub mass : r.mass ≤ 655350 * k
  pub racking : r.racking ≤ 2 ^ 31
