-- Findings put into a buffer of words one behind another.
use mathlib.Core.Path.{◌≡◌, refl, sym, ap, ◌∙◌}
use mathlib.Core.Bool.{Bool, true, false, cond}
use mathlib.Core.List.{List, [], ◌∷◌, ◌++◌, flat_map, append-nil, append_assoc}
use Prim.Native.Nat.{ℕ, zero, suc, ◌+◌, ◌*◌, ◌-◌, ◌/◌, ◌%◌, ◌<◌, ◌≤◌}
use native.Mathlib.Omega.{arith}
use native.Mathlib.Numerals.{add-one}
use lib.Dec.{ltb}
use lib.ListN.{length, take, drop, set, length-append, length-set}
use lib.Seq.{drop-drop}
use mir.Val.{bool_byte}
use Rattle.arith.specs.Lists.{from}
use Rattle.answer_put.specs.Inner.Puts.{Put, word_bytes, finding_where, findings_over}
use Rattle.answer_put.proofs.Entries.{one_more}

none : (l : List ℕ) (at : ℕ) → Put l at [] l at
none l at = record { stored = sym (append-nil (flat_map word_bytes (take at l))); place = omega arith; behind = refl; room = refl }

-- lists that agree from a place on agree from any later place on
later : (l m : List ℕ) (a b : ℕ) → drop a m ≡ drop a l → a ≤ b → drop b m ≡ drop b l
later l m a b e h =
    let p : b ≡ a + (b - a) = omega arith in
    rw p (sym (drop-drop (b - a) a m) ∙ ap (drop (b - a)) e ∙ drop-drop (b - a) a l)

pub then : {l m n : List ℕ} {at p q : ℕ} {xs ys : List ℕ} → Put l at xs m p → Put m p ys n q → Put l at (xs ++ ys) n q
then {l} {m} {n} {at} {p} {q} {xs} {ys} a b =
    record {
      stored = b.stored ∙ rw a.stored (append_assoc (flat_map word_bytes (take at l)) xs ys);
      place = rw (length-append xs ys) (omega (arith, a.place, b.place));
      behind = b.behind ∙ later l m (p + 1) (q + 1) a.behind (omega (arith, b.place));
      room = b.room ∙ a.room;
    }

-- a word that is stored in any case, and counts or not
pub small : (over : Bool) → bool_byte over ≤ 1
small true = omega arith
small false = omega arith

-- the words before it stay
kept : (l : List ℕ) (at w : ℕ) → at < length l → take at (set l at w) ≡ take at l
kept [] zero w h = refl
kept [] (suc at) w h = refl
kept (x ∷ l) zero w h = refl
kept (x ∷ l) (suc at) w h = ap (λ (m : List ℕ). x ∷ m) (kept l at w (omega arith))

with_it : (l : List ℕ) (at w : ℕ) → at < length l → take (suc at) (set l at w) ≡ take at l ++ (w ∷ [])
with_it [] at w h = absurd (omega arith)
with_it (x ∷ l) zero w h = refl
with_it (x ∷ l) (suc at) w h = ap (λ (m : List ℕ). x ∷ m) (with_it l at w (omega arith))

-- and so do those behind it
rest : (l : List ℕ) (at w : ℕ) → drop (suc at) (set l at w) ≡ drop (suc at) l
rest [] zero w = refl
rest [] (suc at) w = refl
rest (x ∷ l) zero w = refl
rest (x ∷ l) (suc at) w = rest l at w

pub words_append : (xs ys : List ℕ) → flat_map word_bytes (xs ++ ys) ≡ flat_map word_bytes xs ++ flat_map word_bytes ys
unfolding flat_map
words_append [] ys = refl
words_append (x ∷ xs) ys = ap (λ (l : List ℕ). word_bytes x ++ l) (words_append xs ys)

-- the least byte of a number, and a byte
low : (byte more : ℕ) → byte < 256 → (byte + 256 * more) % 256 ≡ byte
low byte more h = omega arith

byte_is : (byte : ℕ) → byte < 256 → byte % 256 ≡ byte
byte_is byte h = omega arith

module _ (l : List ℕ) (at end kind index : ℕ) (room : at < length l) (byte : end < 256) (kinds : kind < 256) (few : index < 256) where
  abbrev word : ℕ
  word = end + 256 * kind + 65536 * index

  told : flat_map word_bytes (word ∷ []) ≡ end ∷ kind ∷ index ∷ []
  unfolding flat_map
  told =
      let a : word % 256 ≡ end = omega arith in
      let over : word / 256 ≡ kind + 256 * index = omega arith in
      let b : word / 256 % 256 ≡ kind = ap (λ (n : ℕ). n % 256) over ∙ low kind index kinds in
      let last : word / 65536 ≡ index = omega arith in
      let c : word / 65536 % 256 ≡ index = ap (λ (n : ℕ). n % 256) last ∙ byte_is index few in
      rw (a, b, c) refl

  pub stored_where : (over : Bool) → Put l at (cond over (end ∷ kind ∷ index ∷ []) []) (set l at word) (at + bool_byte over)
  stored_where true =
      record {
        stored =
            rw (add-one at)
            (ap (flat_map word_bytes) (with_it l at word room)
            ∙ words_append (take at l) (word ∷ [])
            ∙ ap (λ (m : List ℕ). flat_map word_bytes (take at l) ++ m) told);
        place = omega arith;
        behind = later l (set l at word) (suc at) (at + 1 + 1) (rest l at word) (omega arith);
        room = length-set l at word;
      }
  stored_where false =
      let e : at + 0 ≡ at = omega arith in
      record {
        stored = rw e (ap (flat_map word_bytes) (kept l at word room) ∙ sym (append-nil (flat_map word_bytes (take at l))));
        place = omega arith;
        behind = later l (set l at word) (suc at) (at + 0 + 1) (rest l at word) (omega arith);
        room = length-set l at word;
      }

-- the findings of one kind: before the first, and after one more
module _ (end kind first : ℕ) (size limit : ℕ → ℕ) where
  pub over_none : (l : List ℕ) (at : ℕ) → Put l at (findings_over end kind first size limit 0) l at
  unfolding findings_over flat_map from
  over_none l at = none l at

  module _ {l m : List ℕ} {at p : ℕ} (k : ℕ) (w : Put l at (findings_over end kind first size limit k) m p) where
    pub over_more :
        {n : List ℕ} {q index : ℕ} →
        index ≡ first + k →
        Put m p (cond (ltb (limit index) (size index)) (end ∷ kind ∷ index ∷ []) []) n q →
        Put l at (findings_over end kind first size limit (k + 1)) n q
    unfolding findings_over finding_where
    over_more e v = rw (one_more (λ j. finding_where end kind (first + j) (size (first + j)) (limit (first + j))) k) (then w (rw e at v))
