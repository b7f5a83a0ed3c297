-- Document 01, "The answer sheet": where each number of an answer lies, and what is read back from there. Entries are counted from 0.
use Rattle.std.specs.Prelude.{◌≡◌, List, map, ℕ, suc, ◌+◌, ◌*◌, ◌<◌, ℤ, pos, nat_abs, get_or, length}
use Rattle.arith.specs.Bytes.{byte_at, le4, signed4}
use Rattle.sheet.specs.declared.Sheet.{Sheet}
use Rattle.statics.specs.declared.EndFigures.{EndFigures}
use Rattle.statics.specs.declared.Figures.{Figures}
use Rattle.sheet.specs.Ends.{End, door, closed, lashes_of}
use Rattle.statics.specs.Forces.{Force, racking, compression, tension, lash_tension, lash_athwart, lash_vertical, entry_count}
use Rattle.statics.specs.Reported.{reported_number}
use Rattle.answer.specs.Findings.{Finding, figures_of, findings, verdict}
use Rattle.arith.specs.Lists.{below}

-- a section: a count of one byte, then n entries of `size` bytes
abbrev pub section_size : ℕ → ℕ → ℕ
section_size size n = 1 + size * n

abbrev pub entry_place : ℕ → ℕ → ℕ → ℕ
entry_place section size i = section + 1 + size * i

-- an end's four sections: rackings, compressions, tensions, lashes
abbrev pub end_size : Sheet → End → ℕ
end_size t e =
    section_size 4 t.ntiers
    + section_size 4 (suc t.ntiers)
    + section_size 4 t.ntiers
    + section_size 12 (length (lashes_of e t))

-- the door end follows the verdict byte; the closed end follows it, and the findings follow the closed end
abbrev pub end_place : Sheet → End → ℕ
end_place t door = 1
end_place t closed = 1 + end_size t door

abbrev pub findings_place : Sheet → ℕ
findings_place t = 1 + end_size t door + end_size t closed

-- an end's sections, each a count and entries of 4 bytes, those of a lash of 12: where the section of a force begins, how far its entries
-- lie apart, and where in an entry it stands
module _ (t : Sheet) (e : End) where
  abbrev pub lashes_place : ℕ
  lashes_place = end_place t e + section_size 4 t.ntiers + section_size 4 (suc t.ntiers) + section_size 4 t.ntiers

  abbrev pub section_place : Force → ℕ
  section_place racking = end_place t e
  section_place compression = end_place t e + section_size 4 t.ntiers
  section_place tension = end_place t e + section_size 4 t.ntiers + section_size 4 (suc t.ntiers)
  section_place lash_tension = lashes_place
  section_place lash_athwart = lashes_place
  section_place lash_vertical = lashes_place

abbrev pub stride : Force → ℕ
stride racking = 4
stride compression = 4
stride tension = 4
stride lash_tension = 12
stride lash_athwart = 12
stride lash_vertical = 12

abbrev pub offset : Force → ℕ
offset racking = 0
offset compression = 0
offset tension = 0
offset lash_tension = 0
offset lash_athwart = 4
offset lash_vertical = 8

-- a number of an answer's bytes: racking in two's complement
abbrev pub number_in : Force → List ℕ → ℕ → ℤ
number_in racking s at = signed4 s at
number_in compression s at = pos (le4 s at)
number_in tension s at = pos (le4 s at)
number_in lash_tension s at = pos (le4 s at)
number_in lash_athwart s at = pos (le4 s at)
number_in lash_vertical s at = pos (le4 s at)

-- the force that is read back from the bytes s
abbrev pub force_in : Sheet → End → List ℕ → Force → ℕ → ℤ
force_in t e s x i = number_in x s (entry_place (section_place t e x) (stride x) i + offset x)

-- finding k
abbrev pub finding_in : Sheet → List ℕ → ℕ → Finding
finding_in t s k =
    record {
      end = byte_at s (entry_place (findings_place t) 3 k);
      kind = byte_at s (entry_place (findings_place t) 3 k + 1);
      index = byte_at s (entry_place (findings_place t) 3 k + 2);
    }

abbrev pub no_finding : Finding
no_finding = record { end = 0; kind = 0; index = 0 }

-- the counts of an end and its figures f, read back from the bytes s
pub record EndReadBack (t : Sheet) (e : End) (f : EndFigures) (s : List ℕ) : Type 0 where
  pub counts : (x : Force) → byte_at s (section_place t e x) ≡ entry_count x e t
  pub forces : (x : Force) (i : ℕ) → i < entry_count x e t → force_in t e s x i ≡ reported_number x f i

-- all numbers of an answer
pub record ReadBack (t : Sheet) (f : Figures) (s : List ℕ) : Type 0 where
  pub verdict : byte_at s 0 ≡ verdict (findings t f)
  pub ends : (e : End) → EndReadBack t e (figures_of e f) s
  pub count : byte_at s (findings_place t) ≡ length (findings t f)
  pub finding : (k : ℕ) → k < length (findings t f) → finding_in t s k ≡ get_or (findings t f) k no_finding

-- the reported forces: the figures that are read back
abbrev pub sizes_in : Sheet → End → List ℕ → Force → List ℕ
sizes_in t e s x = map (λ i. nat_abs (force_in t e s x i)) (below (entry_count x e t))

abbrev pub reported_in : Sheet → End → List ℕ → EndFigures
reported_in t e s =
    record {
      racking = map (force_in t e s racking) (below t.ntiers);
      compression = sizes_in t e s compression;
      tension = sizes_in t e s tension;
      pull = sizes_in t e s lash_tension;
      athwart = sizes_in t e s lash_athwart;
      vertical = sizes_in t e s lash_vertical;
    }

abbrev pub figures_in : Sheet → List ℕ → Figures
figures_in t s = record { door = reported_in t door s; closed = reported_in t closed s }
