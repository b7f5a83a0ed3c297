-- The parts of a case, cut off one after another.
use mathlib.Core.List.{List}
use mathlib.Core.Path.{◌≡◌, refl, ap, ◌∙◌}
use Prim.Native.Nat.{ℕ, ◌+◌, ◌*◌, ◌<◌}
use native.Mathlib.Omega.{arith}
use denote.Bor.{Bor}
use lib.ListN.{take, drop}
use Rattle.std.proofs.lemmas.List.{drop-drop, get_or-take}
use Rattle.arith.specs.Bytes.{byte_at, le2}
use Rattle.cases.specs.Inner.Places.{name_length, sheet_length, fields_length, IsCase}

-- numbers of the head are those of the input
byte_of : (s h : List ℕ) (i : ℕ) → h ≡ take 7 s → i < 7 → byte_at h i ≡ byte_at s i
byte_of s h i e b = rw e (get_or-take 7 s i 0 b)

le2_of : (s h : List ℕ) (i : ℕ) → h ≡ take 7 s → i + 1 < 7 → le2 h i ≡ le2 s i
le2_of s h i e b = rw (byte_of s h i e (omega arith), byte_of s h (i + 1) e b) refl

pub case_cut :
    (s : List ℕ) {h r1 r2 r3 r4 : List ℕ} {name sheet fields : Bor (List ℕ)} {a b room f : ℕ} →
    h ≡ take 7 s →
    r1 ≡ drop 7 s →
    a ≡ byte_at h 0 →
    b ≡ le2 h 1 →
    room ≡ le2 h 3 →
    f ≡ le2 h 5 →
    name.now ≡ take a r1 →
    r2 ≡ drop a r1 →
    sheet.now ≡ take b r2 →
    r3 ≡ drop b r2 →
    fields.now ≡ take (9 * f) r3 →
    r4 ≡ drop (9 * f) r3 →
    IsCase s (record { name = name; sheet = sheet; fields = fields; room = room }) r4
case_cut s {h} h0 h1 ea eb er ef n1 n2 s1 s2 f1 f2 =
    let a = ea ∙ byte_of s h 0 h0 (omega arith) in
    let b = eb ∙ le2_of s h 1 h0 (omega arith) in
    let f = ap (λ (x : ℕ). 9 * x) (ef ∙ le2_of s h 5 h0 (omega arith)) in
    let d = er ∙ le2_of s h 3 h0 (omega arith) in
    let q2 = n2 ∙ rw (a, h1) (drop-drop (name_length s) 7 s) in
    let q3 = s2 ∙ rw (b, q2) (drop-drop (sheet_length s) (7 + name_length s) s) in
    record {
      name = n1 ∙ rw (a, h1) refl;
      sheet = s1 ∙ rw (b, q2) refl;
      fields = f1 ∙ rw (f, q3) refl;
      room = d;
      rest = f2 ∙ rw (f, q3) (drop-drop (fields_length s) (7 + name_length s + sheet_length s) s);
    }
