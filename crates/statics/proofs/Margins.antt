-- A report within a margin is one within any wider margin.
use Prim.Native.Nat.{ℕ, ◌≤◌}
use lib.IntN.{ℤ, pos}
use Rattle.arith.specs.Fractions.{Frac, nat, negq, ◌+q◌, absq, ◌⊑◌, ◌⊏◌}
use Rattle.arith.proofs.Rings.{∀₄, by_cert, to, ◌⊞◌}
use Rattle.arith.proofs.FractionLaws.{⊑_trans}
use Rattle.arith.proofs.Rationals.{ℚR, ℚ, mk, ◌+ℚ◌, ◌≤ℚ◌, to-⊑}
use Rattle.arith.proofs.RationalTerms.{qq}
use Rattle.arith.proofs.RationalOrder.{lt_of, lt_not, nat_q}
use Rattle.arith.proofs.FractionsInRationals.{mk_int, mk_neg, mk_add, of-⊏, to-⊏}
use Rattle.springs.proofs.Chain.{natℚ}
use Rattle.sheet.specs.declared.Sheet.{Sheet}
use Rattle.statics.specs.declared.EndFigures.{EndFigures}
use Rattle.statics.specs.Loads.{Rule}
use Rattle.sheet.specs.Ends.{End}
use Rattle.statics.specs.Reported.{Reported, Directed, EndReported, EndFigured}
use Rattle.statics.proofs.Errors.{turn_le}
use mathlib.Core.List.{List}

module _ {m n : ℕ} (wider : m ≤ n) where
  wide : nat m ⊑ nat n
  wide = to-⊑ (nat m) (nat n) (rw (mk_int (pos m), mk_int (pos n)) (nat_q m n wider))

  wide_back : negq (nat n) ⊑ negq (nat m)
  wide_back =
      to-⊑ (negq (nat n)) (negq (nat m))
      (rw (mk_neg (nat n), mk_neg (nat m), mk_int (pos m), mk_int (pos n)) (turn_le (natℚ m) (natℚ n) (nat_q m n wider)))

  above : (s x : Frac) → s ⊏ x +q nat m → s ⊏ x +q nat n
  above s x h =
      to-⊏ s (x +q nat n)
      (rw (mk_add x (nat n), mk_int (pos n))
      (lt_of (mk s) (mk x +ℚ natℚ n)
      (λ l.
      lt_not (rw (mk_add x (nat m), mk_int (pos m)) at (of-⊏ s (x +q nat m) h)) (go (mk s) (mk x) (natℚ m) (natℚ n) (nat_q m n wider) l))))
    where
      go : (s x m n : ℚ) → m ≤ℚ n → x +ℚ n ≤ℚ s → x +ℚ m ≤ℚ s
      go = ∀₄ ℚR _ λ ρ. simp qq λ h l. by_cert (to h ⊞ to l) tt

  pub reported_wider : {x : Frac} {s : ℕ} → Reported m x s → Reported n x s
  reported_wider {x} {s} r = record { enough = r.enough; close = above (nat s) (absq x) r.close }

  pub directed_wider : {x : Frac} {s : ℤ} → Directed m x s → Directed n x s
  directed_wider {x} {s} r =
      record {
        leeward = λ h. r.leeward (⊑_trans (nat m) (nat n) x wide h);
        windward = λ h. r.windward (⊑_trans x (negq (nat n)) (negq (nat m)) h wide_back);
      }

  module _ {rule : Rule} {e : End} {t : Sheet} {f : EndFigures} where
    pub end_wider : {Ds : List Frac} → EndReported m rule e t Ds f → EndReported n rule e t Ds f
    end_wider r = record { forces = λ x i h. reported_wider (r.forces x i h); ways = λ i h. directed_wider (r.ways i h) }

    pub figured_wider : EndFigured m rule e t f → EndFigured n rule e t f
    figured_wider r = record { reports = λ Ds s. end_wider (r.reports Ds s); fits = r.fits }
