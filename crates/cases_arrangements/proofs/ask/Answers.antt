-- `cases_arrangements::ask`: a list begins with its count of choices in two bytes.
use mathlib.Core.List.{List}
use mathlib.Core.Path.{◌≡◌, sym, ◌∙◌}
use Prim.Native.Nat.{ℕ, ◌≤◌}
use native.Mathlib.Omega.{arith}
use Rattle.std.specs.Prelude.{Ok, Err, take, length}
use Rattle.std.proofs.Math.Seq.{take-append_seam}
use Rattle.sheet.specs.Refusals.{Reading}
use Rattle.sheet.proofs.Results.{ok_is, err_not_ok}
use Rattle.answer.specs.Outcomes.{Outcome}
use Rattle.arrangements.specs.Arrangements.{list_bytes, ListedAs}
use Rattle.cases_arrangements.proofs.ask.Goals as goal

two : (answer : ℕ → List ℕ) (m : ℕ) → 2 ≤ length (list_bytes answer m)
unfolding list_bytes
two answer m = omega arith

taken :
    (q : Reading) (margin : ℕ) (s g before after : List ℕ) {n : ℕ} {r : Outcome} →
    ListedAs q margin s g before after r →
    r ≡ Ok n →
    2 ≤ length (take n after)
taken (Err why) margin s g before after h e = err_not_ok (sym h.refused ∙ e)
taken (Ok _) margin s g before after h e =
    rw (← ok_is (sym h.taken ∙ e), h.written, take-append_seam) (two h.answer _)

pub tell_taken-requires : goal.tell_taken-requires
tell_taken-requires g c = taken _ _ _ _ _ _ c.list.ensures.listed.holds c.in-Ok.is
