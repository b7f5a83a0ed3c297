-- Document 01, "The answer sheet": its bytes.
use mathlib.Core.List.{List, [], ◌∷◌, ◌++◌, flat_map}
use Rattle.std.specs.Prelude.{ℕ, suc, pos, get_or, length}
use Rattle.arith.specs.Bytes.{bytes4, twos}
use Rattle.arith.specs.Lists.{counted}
use Rattle.sheet.specs.declared.Sheet.{Sheet}
use Rattle.statics.specs.declared.EndFigures.{EndFigures}
use Rattle.statics.specs.declared.Figures.{Figures}
use Rattle.sheet.specs.Ends.{End, door, closed, lashes_of}
use Rattle.answer.specs.Findings.{Finding, figures_of, findings, verdict}

-- an end: count n, racking per tier; count n + 1, compressions; count n, tensions; lash count, then tension, athwart, vertical per lash
unfoldable pub end_bytes : Sheet → End → EndFigures → List ℕ
end_bytes t e f =
    counted t.ntiers (λ i. bytes4 (twos (get_or f.racking i (pos 0))))
    ++ counted (suc t.ntiers) (λ i. bytes4 (get_or f.compression i 0))
    ++ counted t.ntiers (λ i. bytes4 (get_or f.tension i 0))
    ++ counted (length (lashes_of e t))
    (λ j. bytes4 (get_or f.pull j 0) ++ bytes4 (get_or f.athwart j 0) ++ bytes4 (get_or f.vertical j 0))

-- a finding: end, kind, index
abbrev pub finding_bytes : Finding → List ℕ
finding_bytes x = x.end ∷ x.kind ∷ x.index ∷ []

-- verdict byte; door end, closed end; last a count of findings, 3 bytes each
unfoldable pub answer_bytes : Sheet → Figures → List ℕ
answer_bytes t f =
    (verdict (findings t f) ∷ [])
    ++ end_bytes t door (figures_of door f)
    ++ end_bytes t closed (figures_of closed f)
    ++ (length (findings t f) ∷ flat_map finding_bytes (findings t f))
