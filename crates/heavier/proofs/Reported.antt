-- Reported: within a margin of forces that are not lower, no force that is read back is lower by the margin or more.
use mathlib.Core.Bool.{true, false≢true}
use mathlib.Core.List.{List, ◌++◌}
use mathlib.Core.Path.{◌≡◌, sym, ap, subst}
use Prim.Native.Nat.{ℕ, ◌+◌, ◌<◌, ◌≤◌}
use native.Mathlib.Omega.{arith}
use native.Mathlib.Decide.{dec_lt}
use lib.IntN.{ℤ, pos, nat_abs}
use lib.ListN.{length}
use Rattle.arith.specs.Fractions.{Frac, nat, absq, ◌+q◌, ◌⊑◌}
use Rattle.arith.proofs.FractionLaws.{≈-sym, ⊑_trans, ≈⊑, +q-mono, int-+q}
use Rattle.arith.proofs.FractionsInRationals.{mk_int}
use Rattle.arith.proofs.OrderedField.{⊏-not, absq_is, absq_ge}
use Rattle.arith.proofs.RationalOrder.{nat_q}
use Rattle.arith.proofs.Rationals.{to-⊑}
use Rattle.sheet.specs.declared.Lash.{Lash}
use Rattle.sheet.specs.declared.Sheet.{Sheet}
use Rattle.sheet.specs.Ends.{End}
use Rattle.sheet.proofs.SheetLimits.{sheet_limits}
use Rattle.statics.specs.Loads.{Rule}
use Rattle.statics.specs.Reported as S
use Rattle.statics.specs.Forces.{Force, racking, compression, tension, lash_tension, lash_athwart, lash_vertical, entry_count, exact_force}
use Rattle.statics.proofs.OneSolution.{leeward}
use Rattle.answer.specs.Checked.{AnswerTo}
use Rattle.answer.proofs.Consequences.{read_back}
use Rattle.heavier.specs.Heavier.{HeavierSheet, of_lash, newtons}
use Rattle.heavier.specs.Theorems.{ReportedForces}
use Rattle.heavier.proofs.Exact.{lashes_same, forces_leeward, exact}

nat_in : (m n : ℕ) → m ≤ n → nat m ⊑ nat n
nat_in m n h = to-⊑ (nat m) (nat n) (rw (mk_int (pos m), mk_int (pos n)) (nat_q m n h))

-- two reports, of forces that are not below zero, the first not above the second
module _ {margin : ℕ} {x y : Frac} {m n : ℕ} (r : S.Reported margin x m) (q : S.Reported margin y n) (h : nat 0 ⊑ x) (l : x ⊑ y) where
  sizes : absq x ⊑ nat n
  sizes =
      ⊑_trans (absq x) x (nat n) (≈⊑ (absq x) x (absq_is x h))
      (⊑_trans x y (nat n) l (⊑_trans y (absq y) (nat n) (absq_ge y) q.enough))

  less_than : m < n + margin
  less_than = at (dec_lt m (n + margin))
    where
      most : n + margin ≤ m → absq x +q nat margin ⊑ nat m
      most k =
          ⊑_trans (absq x +q nat margin) (nat n +q nat margin) (nat m) (+q-mono (absq x) (nat n) (nat margin) sizes)
          (⊑_trans (nat n +q nat margin) (nat (n + margin)) (nat m)
          (≈⊑ (nat n +q nat margin) (nat (n + margin)) (≈-sym (nat (n + margin)) (nat n +q nat margin) (int-+q (pos n) (pos margin))))
          (nat_in (n + margin) m k))

      at : Dec (m < n + margin) → m < n + margin
      at (yes k) = k
      at (no k) = absurd (⊏-not (nat m) (absq x +q nat margin) r.close (most (omega (arith, k))))

-- as many lash forces
entries_same : {t u : Sheet} → HeavierSheet t u → (e : End) (x : Force) → of_lash x ≡ true → entry_count x e u ≡ entry_count x e t
entries_same h e racking q = absurd (false≢true q)
entries_same h e compression q = absurd (false≢true q)
entries_same h e tension q = absurd (false≢true q)
entries_same h e lash_tension q = ap (length {A = Lash}) (lashes_same h e)
entries_same h e lash_athwart q = ap (length {A = Lash}) (lashes_same h e)
entries_same h e lash_vertical q = ap (length {A = Lash}) (lashes_same h e)

-- what is read back reports the exact force
back :
    {margin : ℕ} {rule : Rule} {t : Sheet} {s : List ℕ} (a : AnswerTo margin rule t s) (rest : List ℕ) (e : End) (x : Force) (j : ℕ) →
    j < entry_count x e t →
    S.Reported margin (exact_force x rule e t (a.one e).shifts j) (newtons t e (s ++ rest) x j)
back {margin} {rule} {t} a rest e x j h =
    let Ds = (a.one e).shifts in
    subst (λ (n : ℤ). S.Reported margin (exact_force x rule e t Ds j) (nat_abs n)) (sym (((read_back a rest).ends e).forces x j h))
    (((a.reports e).reports Ds (a.one e).exists).forces x j h)

pub reported : ReportedForces
reported margin rule p t u f g h s c restₛ rest a b = record { forces = each }
  where
    each :
        (e : End) (x : Force) → of_lash x ≡ true → (j : ℕ) → j < entry_count x e t →
        newtons t e (s ++ restₛ) x j < newtons u e (c ++ rest) x j + margin
    each e x of j l =
        let Ds = (a.one e).shifts in
        let Es = (b.one e).shifts in
        less_than (back a restₛ e x j l) (back b rest e x j (rw (entries_same h e x of) l))
        (forces_leeward rule e t Ds (leeward rule e (sheet_limits f) p Ds (a.one e).exists) x of j)
        ((exact rule p t u f g h e Ds Es (a.one e).exists (b.one e).exists).forces x of j)
