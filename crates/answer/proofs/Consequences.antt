-- An answer's bytes say by themselves what the exact forces are: the forces read back report them, and findings and verdict are the rule's.
use Rattle.std.specs.Prelude.{Ok, Err}
use mathlib.Core.Path.{◌≡◌, refl, sym, ap, ap₂, subst, ◌∙◌}
use mathlib.Core.Bool.{Bool, cond}
use mathlib.Core.List.{List, [], ◌∷◌, ◌++◌, flat_map, Memᴰ}
use Prim.Native.Nat.{ℕ, zero, suc, ◌+◌, ◌-◌, ◌≤◌, ◌<◌}
use native.Mathlib.Omega.{arith}
use lib.IntN.{ℤ, pos, nat_abs}
use lib.ListN.{get_or, length}
use Rattle.arith.specs.Fractions.{Frac}
use Rattle.sheet.specs.Refusals.{Reading}
use Rattle.sheet.specs.declared.Sheet.{Sheet}
use Rattle.sheet.specs.Ends.{End, door, closed}
use Rattle.sheet.specs.Layout.{sheet_of}
use Rattle.sheet.specs.Refusals.{refusal}
use Rattle.statics.specs.declared.EndFigures.{EndFigures}
use Rattle.statics.specs.declared.Figures.{Figures}
use Rattle.statics.specs.Loads.{Rule, rule_of}
use Rattle.statics.specs.Forces as F
use Rattle.statics.specs.Reported.{Reported, Directed, reported_number, EndReported}
use Rattle.statics.proofs.Arrays.{entry_at}
use Rattle.answer.specs.Outcomes.{Outcome}
use Rattle.answer.specs.Findings.{Kind, racking, compression, corner_tension, lock_tension, lash_tension, lash_vertical, lash_athwart}
use Rattle.answer.specs.Findings.{kinds}
use Rattle.answer.specs.Findings.{Finding, end_code, kind_code, figures_of, first_index, index_count, size_at, named, findings_from}
use Rattle.answer.specs.Findings.{end_findings, findings_by, findings}
use Rattle.answer.specs.Checked.{AnswerTo, Answered, AnsweredAs, Checked}
use Rattle.answer.specs.Places.{EndReadBack, no_finding, ReadBack, force_in, reported_in, figures_in}
use Rattle.answer.specs.Consequences.{CheckedAt, Justified, AnswerSays}
use Rattle.answer.proofs.TwoLimits.{named_same}
use Rattle.answer.proofs.Accepted as A
use Rattle.answer.proofs.ReadBack as R

-- findings depend on the sizes at the checked indexes alone
module _ (t : Sheet) where
  from_same :
      (e : End) (f g : EndFigures) (k : Kind) (i n : ℕ) →
      ((j : ℕ) → i ≤ j → j < i + n → size_at f k j ≡ size_at g k j) →
      findings_from named e t f k i n ≡ findings_from named e t g k i n
  unfolding findings_from
  from_same e f g k i zero h = refl
  from_same e f g k i (suc n) h =
      let x : Finding = record { end = end_code e; kind = kind_code k; index = i } in
      ap₂
      (λ (b : Bool) (rest : List Finding). cond b (x ∷ rest) rest)
      (named_same e t f g k i (h i (omega arith) (omega arith)))
      (from_same e f g k (suc i) n (λ j l u. h j (omega arith) (omega arith)))

  kinds_same : (f g : Kind → List Finding) (ks : List Kind) → ((k : Kind) → f k ≡ g k) → flat_map f ks ≡ flat_map g ks
  unfolding flat_map
  kinds_same f g [] h = refl
  kinds_same f g (k ∷ ks) h = ap₂ (λ (a b : List Finding). a ++ b) (h k) (kinds_same f g ks h)

  findings_same :
      (f g : Figures) →
      ((e : End) (k : Kind) (i : ℕ) → CheckedAt e t k i → size_at (figures_of e f) k i ≡ size_at (figures_of e g) k i) →
      findings t f ≡ findings t g
  unfolding findings_by
  findings_same f g h = ap₂ (λ (a b : List Finding). a ++ b) (end door) (end closed)
    where
      end : (e : End) → end_findings named t f e ≡ end_findings named t g e
      end e =
          kinds_same _ _ kinds
          (λ k.
          from_same e (figures_of e f) (figures_of e g) k (first_index k) (index_count e t k)
          (λ j l u. h e k j (record { least = l; most = u })))

-- a finding of the list, by its place in it
member : (xs : List Finding) (k : ℕ) → k < length xs → Memᴰ (get_or xs k no_finding) xs
member [] k h = absurd (none h)
  where
    none : k < 0 → ⊥
    none h = omega arith
member (x ∷ xs) zero h = Memᴰ.head refl
member (x ∷ xs) (suc k) h = Memᴰ.tail (member xs k (omega arith))

-- the figures read back are those that were written
module _ (t : Sheet) (f : Figures) (s : List ℕ) (b : ReadBack t f s) where
  module _ (e : End) where
    -- the sizes that are read back
    size_back : (x : F.Force) (i : ℕ) → i < F.entry_count x e t → nat_abs (force_in t e s x i) ≡ nat_abs (reported_number x (figures_of e f) i)
    size_back x i h = ap nat_abs ((b.ends e).forces x i h)

    back : (x : F.Force) (i : ℕ) → i < F.entry_count x e t → reported_number x (reported_in t e s) i ≡ reported_number x (figures_of e f) i
    back F.racking i h = entry_at (force_in t e s F.racking) (pos 0) t.ntiers i h ∙ (b.ends e).forces F.racking i h
    back F.compression i h =
        ap pos (entry_at (λ i. nat_abs (force_in t e s F.compression i)) 0 (F.entry_count F.compression e t) i h ∙ size_back F.compression i h)
    back F.tension i h =
        ap pos (entry_at (λ i. nat_abs (force_in t e s F.tension i)) 0 (F.entry_count F.tension e t) i h ∙ size_back F.tension i h)
    back F.lash_tension i h =
        ap pos (entry_at (λ i. nat_abs (force_in t e s F.lash_tension i)) 0 (F.entry_count F.lash_tension e t) i h ∙ size_back F.lash_tension i h)
    back F.lash_athwart i h =
        ap pos (entry_at (λ i. nat_abs (force_in t e s F.lash_athwart i)) 0 (F.entry_count F.lash_athwart e t) i h ∙ size_back F.lash_athwart i h)
    back F.lash_vertical i h =
        ap pos
        (entry_at (λ i. nat_abs (force_in t e s F.lash_vertical i)) 0 (F.entry_count F.lash_vertical e t) i h ∙ size_back F.lash_vertical i h)

    pub reported_back :
        {margin : ℕ} {rule : Rule} (Ds : List Frac) →
        EndReported margin rule e t Ds (figures_of e f) →
        EndReported margin rule e t Ds (reported_in t e s)
    reported_back {margin} {rule} Ds r =
        record {
          forces =
              λ x i h. subst (λ (z : ℤ). Reported margin (F.exact_force x rule e t Ds i) (nat_abs z)) (sym (back x i h)) (r.forces x i h);
          ways =
              λ i h. subst (λ (z : ℤ). Directed margin (F.exact_force F.racking rule e t Ds i) z) (sym (back F.racking i h)) (r.ways i h);
        }

    size_at_lem : (k : Kind) (i : ℕ) → CheckedAt e t k i → size_at (reported_in t e s) k i ≡ size_at (figures_of e f) k i
    size_at_lem racking i c = ap nat_abs (back F.racking (i - 1) (omega (arith, c.least, c.most)))
    size_at_lem compression i c = ap nat_abs (back F.compression i (omega (arith, c.most)))
    size_at_lem corner_tension i c = ap nat_abs (back F.tension i (omega (arith, c.most)))
    size_at_lem lock_tension i c = ap nat_abs (back F.tension i (omega (arith, c.most)))
    size_at_lem lash_tension i c = ap nat_abs (back F.lash_tension i (omega (arith, c.most)))
    size_at_lem lash_vertical i c = ap nat_abs (back F.lash_vertical i (omega (arith, c.most)))
    size_at_lem lash_athwart i c = ap nat_abs (back F.lash_athwart i (omega (arith, c.most)))

    end_ruled : EndReadBack t e (reported_in t e s) s
    end_ruled = record { counts = (b.ends e).counts; forces = λ x i h. (b.ends e).forces x i h ∙ sym (back x i h) }

  same_findings : findings t (figures_in t s) ≡ findings t f
  same_findings = findings_same t (figures_in t s) f same
    where
      same : (e : End) (k : Kind) (i : ℕ) → CheckedAt e t k i → size_at (figures_of e (figures_in t s)) k i ≡ size_at (figures_of e f) k i
      same door = size_at_lem door
      same closed = size_at_lem closed

  ruled_back : ReadBack t (figures_in t s) s
  ruled_back =
      record {
        verdict = rw same_findings b.verdict;
        ends = ends;
        count = rw same_findings b.count;
        finding = rw same_findings b.finding;
      }
    where
      ends : (e : End) → EndReadBack t e (figures_of e (figures_in t s)) s
      ends door = end_ruled door
      ends closed = end_ruled closed

-- what an answer's bytes say, whatever stands behind them
module _ {margin : ℕ} {rule : Rule} {t : Sheet} {bytes : List ℕ} (a : AnswerTo margin rule t bytes) (rest : List ℕ) where
  abbrev f : Figures
  f = a.figures

  pub read_back : ReadBack t f (bytes ++ rest)
  read_back =
      subst (λ (l : List ℕ). ReadBack t f (l ++ rest)) (sym a.encoded) (R.read_back t f (λ e. (a.reports e).fits) rest)

  pub says : AnswerSays margin rule t (bytes ++ rest)
  says =
      let s = bytes ++ rest in
      record {
        reported = λ e Ds z. reported_back t f s read_back e Ds ((a.reports e).reports Ds z);
        ruled = ruled_back t f s read_back;
        accepted = λ z. A.accepted t f a.reports (sym read_back.verdict ∙ z);
        found =
            λ k h.
            let g : k < length (findings t f) = rw read_back.count at h in
            subst (λ (x : Finding). Justified margin rule t x) (sym (read_back.finding k g))
            (A.found t f a.reports (get_or (findings t f) k no_finding) (member (findings t f) k g));
      }

-- a check that does not refuse answers
pub answered :
    {margin : ℕ} {s before after : List ℕ} {r : Outcome} →
    refusal s (length before) ≡ Ok tt →
    Checked margin s before after r →
    Answered margin (rule_of (sheet_of s)) (sheet_of s) before after r
answered {margin} {s} {before} {after} {r} e c =
    subst (λ (q : Reading). AnsweredAs q margin (rule_of (sheet_of s)) (sheet_of s) before after r) e c.holds
