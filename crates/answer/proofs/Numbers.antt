-- The two numbers that a call returns which answers as a check does: its refusals', or 0 and at most 834. Those of a check: 0 to 13.
use Rattle.std.specs.Prelude.{Ok, Err}
use Prim.Native.Nat.{ℕ, ◌≤◌}
use mathlib.Core.Bool.{Bool, true, false, cond}
use mathlib.Core.List.{List, [], ◌∷◌, ◌++◌}
use mathlib.Core.Path.{◌≡◌, refl}
use native.Mathlib.Omega.{arith}
use lib.ListN.{length, take, length-take}
use Rattle.sheet.specs.declared.Lash.{Lash}
use Rattle.sheet.specs.declared.Sheet.{Sheet}
use Rattle.sheet.specs.Refusals.{Reading, numbers, Row, first, refusal}
use Rattle.sheet.specs.Fits.{Fits}
use Rattle.sheet.proofs.Numbers.{check_numbers}
use Rattle.sheet.proofs.CallRefusals.{sheet_taken}
use Rattle.sheet.proofs.TakenSheets.{taken_fits}
use Rattle.sheet.specs.Ends.{End, door, closed, lashes_of}
use Rattle.statics.specs.Loads.{Rule}
use Rattle.answer.specs.Outcomes.{Outcome}
use Rattle.answer.specs.Checked.{number, second, AnsweredAs, Checked}
use Rattle.answer.proofs.Longest.{answer_most}
use Rattle.sheet.specs.declared.Refusal.{Refusal}

pub record Numbers (most : ℕ) (r : Outcome) : Type 0 where
  pub first : number r ≤ most
  pub next : second r ≤ 834

-- rows whose numbers are from 1 to `most` and whose second numbers are at most 834: so are those of the first that holds
abbrev pub Small : ℕ → Reading → Type 0
Small most (Ok _) = Unit {0}
Small most (Err why) = (1 ≤ why.number) × (why.number ≤ most) × (why.second ≤ 834)

abbrev pub Each : ℕ → List Row → Type 0
Each most [] = Unit {0}
Each most (r ∷ rs) = Small most (Err (numbers r.number r.second)) × Each most rs

pub first_small : (most : ℕ) (rs : List Row) → Each most rs → Small most (first rs)
unfolding first
first_small most [] each = tt
first_small most (r ∷ rs) (here, rest) = go r.holds (first_small most rs rest)
  where
    go : (x : Bool) → Small most (first rs) → Small most (cond x (Err (numbers r.number r.second)) (first rs))
    go true later = here
    go false later = later

pub each_join : (most : ℕ) (a b : List Row) → Each most a → Each most b → Each most (a ++ b)
each_join most [] b h k = k
each_join most (r ∷ rs) b (here, rest) k = (here, each_join most rs b rest k)

at_most : (ls : List Lash) (n : ℕ) → n ≤ 8 → length (take n ls) ≤ 8
at_most ls n h = rw (length-take n ls) (omega arith)

lashes : {t : Sheet} → Fits t → (e : End) → length (lashes_of e t) ≤ 8
lashes {t} f door = at_most t.door t.ndoor f.door.few
lashes {t} f closed = at_most t.closed t.nclosed f.closed.few

-- by cases on a refusal, whose number is at most `most`
pub answered_numbers :
    (most : ℕ) (q : Reading) (margin : ℕ) (rule : Rule) (t : Sheet) (before after : List ℕ) {r : Outcome} →
    ((why : Refusal) → q ≡ Err why → (1 ≤ why.number) × (why.number ≤ most) × (why.second ≤ 834)) →
    (q ≡ Ok tt → Fits t) →
    AnsweredAs q margin rule t before after r →
    Numbers most r
answered_numbers most (Err why) margin rule t before after small fits h =
    let b = small why refl in
    rw h.refused (record { first = b.1; next = b.2 })
answered_numbers most (Ok _) margin rule t before after small fits h =
    let f = fits refl in
    let short = answer_most t h.answer.figures f.few (lashes f) in
    rw h.taken (record { first = omega arith; next = rw h.answer.encoded (omega (arith, short)) })

pub two_numbers : {margin : ℕ} {s before after : List ℕ} {r : Outcome} → Checked margin s before after r → Numbers 13 r
two_numbers {margin} {s} {before} {after} c =
    answered_numbers 13 (refusal s (length before)) margin _ _ before after (λ _ e. check_numbers s (length before) e)
    (λ e. taken_fits s (sheet_taken s (length before) e)) c.holds
