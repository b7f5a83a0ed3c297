-- The longest answer: 108 findings, which fit their count's byte, and 774 bytes, within the 834 that refusal 13 asks for.
use mathlib.Core.Path.{◌≡◌}
use mathlib.Core.Bool.{Bool, true, false, cond, ◌&&◌, true≢false}
use mathlib.Core.List.{List, ◌∷◌, flat_map}
use Prim.Native.Nat.{ℕ, zero, suc, ◌+◌, ◌*◌, ◌≤◌}
use native.Mathlib.Omega.{arith}
use lib.ListN.{length, length-append}
use Rattle.sheet.specs.declared.Sheet.{Sheet}
use Rattle.statics.specs.declared.EndFigures.{EndFigures}
use Rattle.statics.specs.declared.Figures.{Figures}
use Rattle.sheet.specs.Ends.{End, door, closed, lashes_of}
use Rattle.answer.specs.Findings.{Kind, racking, compression, corner_tension, lock_tension, lash_tension, lash_vertical, lash_athwart}
use Rattle.answer.specs.Findings.{Finding, end_code, kind_code, figures_of, named, findings_from, end_findings, findings_by, findings}
use Rattle.answer.specs.Answers.{answer_bytes}
use Rattle.answer.proofs.TwoLimits.{never_both}
use Rattle.answer.proofs.ReadBack.{end_length, bytes_length}

-- how many findings there can be: one an index, and of corner and lock one a level
module _ (e : End) (t : Sheet) (f : EndFigures) where
  abbrev at : Kind → ℕ → Finding
  at k i = record { end = end_code e; kind = kind_code k; index = i }

  abbrev these : Kind → ℕ → ℕ → List Finding
  these k i n = findings_from named e t f k i n

  few : (k : Kind) (i n : ℕ) → length (these k i n) ≤ n
  unfolding findings_from
  few k i zero = omega arith
  few k i (suc n) = go (named e t f k i) (few k (suc i) n)
    where
      go : (b : Bool) → length (these k (suc i) n) ≤ n → length (cond b (at k i ∷ these k (suc i) n) (these k (suc i) n)) ≤ suc n
      go true h = omega arith
      go false h = omega arith

  few_pulls : (i n : ℕ) → length (these corner_tension i n) + length (these lock_tension i n) ≤ n
  unfolding findings_from
  few_pulls i zero = omega arith
  few_pulls i (suc n) = go (named e t f corner_tension i) (named e t f lock_tension i) (never_both e t f i) (few_pulls (suc i) n)
    where
      corners : List Finding
      corners = these corner_tension (suc i) n

      locks : List Finding
      locks = these lock_tension (suc i) n

      go :
          (a b : Bool) →
          a && b ≡ false →
          length corners + length locks ≤ n →
          length (cond a (at corner_tension i ∷ corners) corners) + length (cond b (at lock_tension i ∷ locks) locks) ≤ suc n
      go true true q h = absurd (true≢false q)
      go true false q h = omega arith
      go false true q h = omega arith
      go false false q h = omega arith

module _ (t : Sheet) (f : Figures) where
  end_few : (e : End) → length (end_findings named t f e) ≤ 3 * t.ntiers + 3 * length (lashes_of e t)
  unfolding flat_map
  end_few e =
      let g = figures_of e f in
      let n = t.ntiers in
      let m = length (lashes_of e t) in
      simp length-append
      (omega (
        arith,
        few e t g racking 1 n,
        few e t g compression 1 n,
        few_pulls e t g 0 n,
        few e t g lash_tension 0 m,
        few e t g lash_vertical 0 m,
        few e t g lash_athwart 0 m,
      ))

  module _ (few : t.ntiers ≤ 10) (lashes : (e : End) → length (lashes_of e t) ≤ 8) where
    pub findings_most : length (findings t f) ≤ 108
    unfolding findings_by
    findings_most =
        rw (length-append (end_findings named t f door) (end_findings named t f closed))
        (omega (arith, end_few door, end_few closed, lashes door, lashes closed))

    pub answer_most : length (answer_bytes t f) ≤ 774
    unfolding answer_bytes
    answer_most =
        simp length-append
        (omega (
          arith,
          end_length t door f.door,
          end_length t closed f.closed,
          findings_most,
          bytes_length (findings t f),
          lashes door,
          lashes closed,
        ))
