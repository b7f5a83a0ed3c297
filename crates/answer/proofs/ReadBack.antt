-- The numbers read back from an answer's bytes are the counts, figures, findings and verdict that they were written from.
use mathlib.Core.Path.{◌≡◌, refl, sym, ap, ap₂, ◌∙◌}
use mathlib.Core.List.{List, [], ◌∷◌, ◌++◌, flat_map, append_assoc}
use Prim.Native.Nat.{ℕ, zero, suc, ◌+◌, ◌*◌, ◌<◌, ◌^◌}
use native.Mathlib.Nat.{add-zero, zero-add}
use native.Mathlib.Omega.{arith}
use lib.IntN.{ℤ, pos, negsuc, nat_abs}
use lib.ListN.{get_or, length, length-append}
use mir.Syntax.{w32}
use mir.Val.{SFits}
use Rattle.arith.specs.Bytes.{le4, bytes4, twos, signed4, byte_at}
use Rattle.arith.proofs.ByteLaws.{get_d_behind, le4_back, signed_back}
use Rattle.sheet.specs.declared.Sheet.{Sheet}
use Rattle.statics.specs.declared.EndFigures.{EndFigures}
use Rattle.statics.specs.declared.Figures.{Figures}
use Rattle.sheet.specs.Ends.{End, door, closed, lashes_of}
use Rattle.answer.specs.Findings.{Finding, figures_of, findings, verdict}
use Rattle.answer.specs.Answers.{end_bytes, finding_bytes, answer_bytes}
use Rattle.arith.specs.Lists.{counted, from, below}
use Rattle.statics.specs.Forces as F
use Rattle.statics.specs.Reported.{reported_number, reported_size, Fitting}
use Rattle.answer.specs.Places.{section_size, entry_place, end_size, end_place, findings_place, lashes_place, section_place, force_in}
use Rattle.answer.specs.Places.{no_finding, EndReadBack, ReadBack}

-- xs stands in l from `at` on
pub record Stands (l : List ℕ) (at : ℕ) (xs : List ℕ) : Type 0 where
  pub front : List ℕ
  pub back : List ℕ
  pub split : l ≡ front ++ (xs ++ back)
  pub place : length front ≡ at

module _ {l : List ℕ} {at : ℕ} where
  pub first_part : (xs ys : List ℕ) → Stands l at (xs ++ ys) → Stands l at xs
  first_part xs ys s =
      record {
        front = s.front;
        back = ys ++ s.back;
        split = s.split ∙ ap (λ (m : List ℕ). s.front ++ m) (append_assoc xs ys s.back);
        place = s.place;
      }

  pub second_part : (xs ys : List ℕ) → Stands l at (xs ++ ys) → Stands l (at + length xs) ys
  second_part xs ys s =
      record {
        front = s.front ++ xs;
        back = s.back;
        split =
            s.split ∙ ap (λ (m : List ℕ). s.front ++ m) (append_assoc xs ys s.back) ∙ sym (append_assoc s.front xs (ys ++ s.back));
        place = length-append s.front xs ∙ ap (λ (n : ℕ). n + length xs) s.place;
      }

  pub first_byte : (x : ℕ) (xs : List ℕ) → Stands l at (x ∷ xs) → byte_at l at ≡ x
  first_byte x xs s =
      rw s.split (rw (add-zero at) at (get_d_behind s.front (x ∷ xs ++ s.back) at 0 s.place))

  behind : (x : ℕ) (xs : List ℕ) → Stands l at (x ∷ xs) → Stands l (at + 1) xs
  behind x xs s = second_part (x ∷ []) xs s

  pub number : (v : ℕ) → v < 2 ^ 32 → Stands l at (bytes4 v) → le4 l at ≡ v
  number v h s = rw s.split (le4_back v s.front s.back at s.place h)

  signed : (z : ℤ) → SFits w32 z → Stands l at (bytes4 (twos z)) → signed4 l at ≡ z
  signed z h s = rw s.split (signed_back z h s.front s.back at s.place)

-- entries of one size, one after another
module _ (entry : ℕ → List ℕ) (size : ℕ) (wide : (i : ℕ) → length (entry i) ≡ size) where
  entries_length : (a n : ℕ) → length (flat_map entry (from a n)) ≡ size * n
  unfolding flat_map from
  entries_length a zero = omega arith
  entries_length a (suc n) =
      let e : size * suc n ≡ size + size * n = omega arith in
      length-append (entry a) (flat_map entry (from (suc a) n)) ∙ ap₂ (λ (x y : ℕ). x + y) (wide a) (entries_length (suc a) n) ∙ sym e

  one_entry : {l : List ℕ} (at a n i : ℕ) → i < n → Stands l at (flat_map entry (from a n)) → Stands l (at + size * i) (entry (a + i))
  unfolding flat_map from
  one_entry at a zero i h s = absurd (none h)
    where
      none : i < 0 → ⊥
      none h = omega arith
  one_entry {l} at a (suc n) zero h s =
      let e : at + size * 0 ≡ at = omega arith in
      rw (e, add-zero a) (first_part (entry a) (flat_map entry (from (suc a) n)) s)
  one_entry {l} at a (suc n) (suc i) h s =
      let r = rw (wide a) at (second_part (entry a) (flat_map entry (from (suc a) n)) s) in
      let e : at + size * suc i ≡ at + size + size * i = omega arith in
      let g : a + suc i ≡ suc a + i = omega arith in
      rw (e, g) (one_entry (at + size) (suc a) n i (omega arith) r)

  pub section_length : (n : ℕ) → length (counted n entry) ≡ section_size size n
  section_length n = ap suc (entries_length 0 n) ∙ omega arith

  -- the count and entry i of a section
  module _ {l : List ℕ} (at n : ℕ) (s : Stands l at (counted n entry)) where
    pub the_count : byte_at l at ≡ n
    the_count = first_byte n (flat_map entry (below n)) s

    pub the_entry : (i : ℕ) → i < n → Stands l (entry_place at size i) (entry i)
    the_entry i h =
        let e : 0 + i ≡ i = omega arith in
        rw e at (one_entry (at + 1) 0 n i h (behind n (flat_map entry (below n)) s))

-- a number below 2^31 in size fits 32 bits in two's complement
fits_signed : (z : ℤ) → nat_abs z < 2 ^ 31 → SFits w32 z
fits_signed (pos n) h = record { sfits = omega arith }
fits_signed (negsuc n) h = record { sfits = omega arith }

-- the four sections of an end
module _ (t : Sheet) (e : End) (f : EndFigures) where
  abbrev racked : ℕ → List ℕ
  racked i = bytes4 (twos (get_or f.racking i (pos 0)))

  abbrev pressed : ℕ → List ℕ
  pressed i = bytes4 (get_or f.compression i 0)

  abbrev drawn : ℕ → List ℕ
  drawn i = bytes4 (get_or f.tension i 0)

  abbrev pulled : ℕ → List ℕ
  pulled j = bytes4 (get_or f.pull j 0)

  abbrev athwarted : ℕ → List ℕ
  athwarted j = bytes4 (get_or f.athwart j 0)

  abbrev raised : ℕ → List ℕ
  raised j = bytes4 (get_or f.vertical j 0)

  abbrev lashed : ℕ → List ℕ
  lashed j = pulled j ++ athwarted j ++ raised j

  abbrev n : ℕ
  n = t.ntiers

  abbrev m : ℕ
  m = length (lashes_of e t)

  abbrev two : List ℕ
  two = counted n racked ++ counted (suc n) pressed

  abbrev three : List ℕ
  three = two ++ counted n drawn

  two_length : length two ≡ section_size 4 n + section_size 4 (suc n)
  two_length =
      length-append (counted n racked) (counted (suc n) pressed)
      ∙ ap₂ (λ (x y : ℕ). x + y) (section_length racked 4 (λ i. refl) n) (section_length pressed 4 (λ i. refl) (suc n))

  three_length : length three ≡ section_size 4 n + section_size 4 (suc n) + section_size 4 n
  three_length =
      length-append two (counted n drawn) ∙ ap₂ (λ (x y : ℕ). x + y) two_length (section_length drawn 4 (λ i. refl) n)

  pub end_length : length (end_bytes t e f) ≡ end_size t e
  unfolding end_bytes
  end_length =
      omega (arith, length-append three (counted m lashed), three_length, section_length lashed 12 (λ j. refl) m)

  module _ {l : List ℕ} (fits : Fitting f) (s : Stands l (end_place t e) (end_bytes t e f)) where
    abbrev at : ℕ
    at = end_place t e

    rackings_there : Stands l at (counted n racked)
    unfolding end_bytes
    rackings_there =
        first_part (counted n racked) (counted (suc n) pressed) (first_part two (counted n drawn) (first_part three (counted m lashed) s))

    compressions_there : Stands l (section_place t e F.compression) (counted (suc n) pressed)
    unfolding end_bytes
    compressions_there =
        rw (section_length racked 4 (λ i. refl) n) at
        (second_part (counted n racked) (counted (suc n) pressed)
        (first_part two (counted n drawn) (first_part three (counted m lashed) s)))

    tensions_there : Stands l (section_place t e F.tension) (counted n drawn)
    unfolding end_bytes
    tensions_there =
        let p : at + length two ≡ section_place t e F.tension = omega (arith, two_length) in
        rw p at (second_part two (counted n drawn) (first_part three (counted m lashed) s))

    lashes_there : Stands l (lashes_place t e) (counted m lashed)
    unfolding end_bytes
    lashes_there =
        let p : at + length three ≡ lashes_place t e = omega (arith, three_length) in
        rw p at (second_part three (counted m lashed) s)

    counts : (x : F.Force) → byte_at l (section_place t e x) ≡ F.entry_count x e t
    counts F.racking = the_count racked 4 (λ i. refl) at n rackings_there
    counts F.compression = the_count pressed 4 (λ i. refl) (section_place t e F.compression) (suc n) compressions_there
    counts F.tension = the_count drawn 4 (λ i. refl) (section_place t e F.tension) n tensions_there
    counts F.lash_tension = the_count lashed 12 (λ j. refl) (lashes_place t e) m lashes_there
    counts F.lash_athwart = the_count lashed 12 (λ j. refl) (lashes_place t e) m lashes_there
    counts F.lash_vertical = the_count lashed 12 (λ j. refl) (lashes_place t e) m lashes_there

    -- an unsigned number of four bytes
    plain : {at : ℕ} (x : F.Force) (i : ℕ) (v : ℕ) → reported_size x f i ≡ v → Stands l at (bytes4 v) → pos (le4 l at) ≡ pos v
    plain x i v e s = ap pos (number v (omega (arith, fits.small x i)) s)

    abbrev lash : (j : ℕ) → j < m → Stands l (entry_place (lashes_place t e) 12 j) (lashed j)
    lash = the_entry lashed 12 (λ j. refl) (lashes_place t e) m lashes_there

    -- at the start of an entry
    first_at : {p : ℕ} (xs : List ℕ) → Stands l p xs → Stands l (p + 0) xs
    first_at {p} xs s = rw (add-zero p) s

    forces : (x : F.Force) (i : ℕ) → i < F.entry_count x e t → force_in t e l x i ≡ reported_number x f i
    forces F.racking i h =
        rw (add-zero (entry_place at 4 i))
        (signed (get_or f.racking i (pos 0)) (fits_signed _ (fits.small F.racking i))
        (the_entry racked 4 (λ i. refl) at n rackings_there i h))
    forces F.compression i h =
        plain F.compression i _ refl
        (first_at (pressed i) (the_entry pressed 4 (λ i. refl) (section_place t e F.compression) (suc n) compressions_there i h))
    forces F.tension i h =
        plain F.tension i _ refl (first_at (drawn i) (the_entry drawn 4 (λ i. refl) (section_place t e F.tension) n tensions_there i h))
    forces F.lash_tension j h =
        plain F.lash_tension j _ refl
        (first_at (pulled j) (first_part (pulled j) (athwarted j) (first_part (pulled j ++ athwarted j) (raised j) (lash j h))))
    forces F.lash_athwart j h =
        plain F.lash_athwart j _ refl
        (second_part (pulled j) (athwarted j) (first_part (pulled j ++ athwarted j) (raised j) (lash j h)))
    forces F.lash_vertical j h = plain F.lash_vertical j _ refl (second_part (pulled j ++ athwarted j) (raised j) (lash j h))

    end_back : EndReadBack t e f l
    end_back = record { counts = counts; forces = forces }

-- findings, three bytes each
pub bytes_length : (xs : List Finding) → length (flat_map finding_bytes xs) ≡ 3 * length xs
unfolding flat_map
bytes_length [] = refl
bytes_length (x ∷ xs) = omega (arith, bytes_length xs)

abbrev finding_from : List ℕ → ℕ → Finding
finding_from l p = record { end = byte_at l p; kind = byte_at l (p + 1); index = byte_at l (p + 2) }

one_finding :
    {l : List ℕ} (at k : ℕ) (xs : List Finding) →
    k < length xs →
    Stands l at (flat_map finding_bytes xs) →
    finding_from l (at + 3 * k) ≡ get_or xs k no_finding
unfolding flat_map
one_finding at k [] h s = absurd (none h)
  where
    none : k < 0 → ⊥
    none h = omega arith
one_finding {l} at zero (x ∷ xs) h s =
    let e : at + 3 * 0 ≡ at = omega arith in
    let g : at + 1 + 1 ≡ at + 2 = omega arith in
    let rest = flat_map finding_bytes xs in
    let b = behind x.end (x.kind ∷ x.index ∷ rest) s in
    let first = first_byte x.end (x.kind ∷ x.index ∷ rest) s in
    let second = first_byte x.kind (x.index ∷ rest) b in
    let third = rw g at (first_byte x.index rest (behind x.kind (x.index ∷ rest) b)) in
    rw e (λ i. record { end = first i; kind = second i; index = third i })
one_finding {l} at (suc k) (x ∷ xs) h s =
    let e : at + 3 * suc k ≡ at + 3 + 3 * k = omega arith in
    rw e (one_finding (at + 3) k xs (omega arith) (second_part (finding_bytes x) (flat_map finding_bytes xs) s))

-- the whole answer, whatever stands behind it
module _ (t : Sheet) (f : Figures) (fits : (e : End) → Fitting (figures_of e f)) (rest : List ℕ) where
  abbrev s : List ℕ
  s = answer_bytes t f ++ rest

  abbrev mark : List ℕ
  mark = verdict (findings t f) ∷ []

  abbrev tail : List ℕ
  tail = length (findings t f) ∷ flat_map finding_bytes (findings t f)

  abbrev both : List ℕ
  both = mark ++ end_bytes t door f.door ++ end_bytes t closed f.closed

  all_there : Stands s 0 (both ++ tail)
  unfolding answer_bytes
  all_there = record { front = []; back = rest; split = refl; place = refl }

  ends_there : Stands s 0 (mark ++ end_bytes t door f.door)
  ends_there = first_part (mark ++ end_bytes t door f.door) (end_bytes t closed f.closed) (first_part both tail all_there)

  door_there : Stands s (end_place t door) (end_bytes t door f.door)
  door_there = second_part mark (end_bytes t door f.door) ends_there

  front_length : length (mark ++ end_bytes t door f.door) ≡ end_place t closed
  front_length = length-append mark (end_bytes t door f.door) ∙ ap (λ (k : ℕ). 1 + k) (end_length t door f.door)

  closed_there : Stands s (end_place t closed) (end_bytes t closed f.closed)
  closed_there =
      let p : 0 + length (mark ++ end_bytes t door f.door) ≡ end_place t closed = zero-add _ ∙ front_length in
      rw p at (second_part (mark ++ end_bytes t door f.door) (end_bytes t closed f.closed) (first_part both tail all_there))

  findings_there : Stands s (findings_place t) tail
  findings_there =
      let p : 0 + length both ≡ findings_place t =
      zero-add _
      ∙ length-append (mark ++ end_bytes t door f.door) (end_bytes t closed f.closed)
      ∙ ap₂ (λ (j k : ℕ). j + k) front_length (end_length t closed f.closed) in
      rw p at (second_part both tail all_there)

  an_end : (e : End) → EndReadBack t e (figures_of e f) s
  an_end door = end_back t door f.door (fits door) door_there
  an_end closed = end_back t closed f.closed (fits closed) closed_there

  -- the numbers read back
  pub read_back : ReadBack t f s
  read_back =
      record {
        verdict = first_byte (verdict (findings t f)) [] (first_part mark (end_bytes t door f.door) ends_there);
        ends = an_end;
        count = first_byte (length (findings t f)) (flat_map finding_bytes (findings t f)) findings_there;
        finding =
            λ k h.
            one_finding (findings_place t + 1) k (findings t f) h
            (behind (length (findings t f)) (flat_map finding_bytes (findings t f)) findings_there);
      }
