-- How great the two numbers of a preview are, and its margin.
use Rattle.std.specs.Prelude.{Ok, Err}
use Prim.Native.Nat.{ℕ, ◌<◌, ◌^◌}
use mathlib.Core.Bool.{Bool, true, false}
use mathlib.Core.List.{List}
use mathlib.Core.Path.{◌≡◌, refl, subst}
use native.Mathlib.Omega.{arith}
use Rattle.sheet.specs.Refusals.{Reading}
use Rattle.sheet.specs.Refusals.{first, sheet_rows}
use Rattle.sheet.proofs.Numbers.{sheet_numbers}
use Rattle.answer.specs.Outcomes.{Outcome}
use Rattle.answer.specs.Checked.{number, second, Checked}
use Rattle.answer.proofs.Numbers.{two_numbers}
use Rattle.answer.proofs.Theorems.{theorems}
use Rattle.preview_moves.specs.Previews.{with_mass, move_refusal, UnlessTurnedBack, Previewed}
use Rattle.preview_moves.specs.Theorems.{Wider}
use Rattle.preview_moves.proofs.Order.{lacking, sheet_first, lacks_tier, has_tier}
use Rattle.sheet.specs.declared.Refusal.{Refusal}
use Rattle.sheet.specs.Refusals.{numbers}

-- the two numbers: 0 to 17, and at most 834 or a tier number of 32 bits
module _ {margin : ℕ} {s before after : List ℕ} {tier mass : ℕ} {r : Outcome} (small : tier < 2 ^ 32)
    (c : Previewed margin s tier mass before after r) where
  abbrev Fitting : Type 0
  Fitting = (number r < 256) × (second r < 2 ^ 56)

  turned_back : {why : Refusal} → move_refusal s tier ≡ Err why → why.number < 256 → why.second < 2 ^ 56 → Fitting
  turned_back e h k =
      let t = subst (λ q. UnlessTurnedBack q before after r (Checked margin (with_mass tier mass s) before after r)) e c.holds in
      rw t.refused (h, k)

  checked : move_refusal s tier ≡ Ok tt → Fitting
  checked e =
      let k = subst (λ q. UnlessTurnedBack q before after r (Checked margin (with_mass tier mass s) before after r)) e c.holds in
      (omega (arith, (two_numbers k).first), omega (arith, (two_numbers k).next))

  pub fitting : Fitting
  fitting = go (first (sheet_rows s)) refl
    where
      of_tier : first (sheet_rows s) ≡ Ok tt → (b : Bool) → lacking s tier ≡ b → Fitting
      of_tier taken true e = turned_back (lacks_tier s tier taken e) (omega arith) (omega arith)
      of_tier taken false e = checked (has_tier s tier taken e)

      go : (q : Reading) → first (sheet_rows s) ≡ q → Fitting
      go (Err why) e =
          let b = sheet_numbers s e in
          turned_back (sheet_first s tier e) (omega (arith, b.1)) (omega (arith, b.2))
      go (Ok _) e = of_tier e (lacking s tier) refl

pub wider : Wider
wider m n h s tier mass before after r c = record { holds = go (move_refusal s tier) c.holds }
  where
    go :
        (q : Reading) →
        UnlessTurnedBack q before after r (Checked m (with_mass tier mass s) before after r) →
        UnlessTurnedBack q before after r (Checked n (with_mass tier mass s) before after r)
    go (Err why) k = k
    go (Ok _) k = theorems.checked_wider m n h (with_mass tier mass s) before after r k
