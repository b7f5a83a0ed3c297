-- The answer's bytes as the code writes them: the verdict, the two ends, the findings behind their count.
use mathlib.Core.Path.{◌≡◌, refl, sym, ap, ◌∙◌}
use mathlib.Core.Bool.{cond, true≢false}
use native.Mathlib.Nat.{lt_of_not-le}
use mathlib.Core.List.{List, [], ◌∷◌, flat_map}
use Prim.Native.Nat.{ℕ, zero, suc, ◌<◌, ◌+◌, ◌≤◌}
use native.Mathlib.Numerals.{add-one}
use native.Mathlib.Omega.{arith}
use borrow.Author.Tests.{ne_eqb}
use lib.Dec.{eqb}
use lib.ListN.{length, take, length-take, get_or-eq_default}
use lib.Seq.{sets}
use Rattle.sheet.specs.declared.Lash.{Lash}
use Rattle.sheet.specs.declared.Sheet.{Sheet}
use Rattle.sheet.specs.Layout.{blank_lash, lash_fits}
use Rattle.sheet.specs.Fits.{EndFits, Fits}
use Rattle.statics.specs.declared.EndFigures.{EndFigures}
use Rattle.statics.specs.declared.Figures.{Figures}
use Rattle.sheet.specs.Ends.{End, door, closed, lashes_of}
use Rattle.answer.specs.Findings.{Finding, findings, verdict}
use Rattle.answer.specs.Answers.{end_bytes, answer_bytes}
use Rattle.answer_put.specs.Inner.Puts.{word_bytes}
use Rattle.answer_findings.specs.Inner.Findings.{PutFindings, Sized}
use Rattle.answer_write.specs.Inner.Encoding.{Wrote, end_bytes_of}
use Rattle.answer_write.proofs.Stores.{run, then}

-- an end's bytes, by its counts
pub end_is : (t : Sheet) (e : End) (f : EndFigures) (m : ℕ) → length (lashes_of e t) ≡ m → end_bytes t e f ≡ end_bytes_of t.ntiers m f
unfolding end_bytes end_bytes_of
end_is t e f m few = rw (few, add-one t.ntiers) refl

-- the verdict, by the count of findings
verdict_is : (fs : List Finding) → cond (eqb (length fs) 0) 0 1 ≡ verdict fs
verdict_is [] = refl
verdict_is (x ∷ xs) = rw (ne_eqb (suc (length xs)) 0 some) refl
  where
    some : suc (length xs) ≡ 0 → ⊥
    some e = omega arith

module _ (t : Sheet) (f : Figures) (s : Sized t) {before held : List ℕ} {count : ℕ} (p : PutFindings t f before held count) where
  -- the verdict, the two ends, the count and the findings, one behind another
  pub whole :
      {l k m n o z : List ℕ} {at q r v : ℕ} →
      k ≡ sets l 0 (v ∷ []) →
      v ≡ cond (eqb count 0) 0 1 →
      Wrote k 1 (end_bytes_of t.ntiers t.ndoor f.door) m at →
      Wrote m at (end_bytes_of t.ntiers t.nclosed f.closed) n q →
      o ≡ sets n q (count ∷ []) →
      Wrote o (q + 1) (flat_map word_bytes (take count held)) z r →
      Wrote l 0 (answer_bytes t f) z r
  unfolding answer_bytes flat_map
  whole {v = v} e g a b d h =
      let u : v ≡ verdict (findings t f) = g ∙ ap (λ (x : ℕ). cond (eqb x 0) 0 1) p.counts ∙ verdict_is (findings t f) in
      let mark = run {bytes = verdict (findings t f) ∷ []} {next = 1} (rw u at e) refl in
      let number = run {bytes = length (findings t f) ∷ []} (rw p.counts at d) refl in
      rw (end_is t door f.door t.ndoor s.door_lashes, end_is t closed f.closed t.nclosed s.closed_lashes)
      (then (then (then mark a) b) (then number (rw p.put.stored at h)))

-- an end has as many lashes as are counted: the last is none that is blank
module _ {n : ℕ} {lashes : List Lash} {count : ℕ} (f : EndFits n lashes count) where
  last : (k : ℕ) → count ≡ suc k → k < length lashes
  unfolding lash_fits
  last k e = lt_of_not-le (λ h. true≢false (sym (f.fits k (omega arith)) ∙ ap lash_fits (get_or-eq_default lashes blank_lash h)))

  lashes_full : length (take count lashes) ≡ count
  lashes_full = omega (arith, length-take count lashes, all count refl)
    where
      all : (k : ℕ) → count ≡ k → k ≤ length lashes
      all zero e = omega arith
      all (suc k) e = last k e

-- a sheet within document 01's limits
pub sized : {t : Sheet} → Fits t → Sized t
sized f =
    record {
      tiers = f.few;
      door_few = f.door.few;
      closed_few = f.closed.few;
      door_lashes = lashes_full f.door;
      closed_lashes = lashes_full f.closed;
    }
