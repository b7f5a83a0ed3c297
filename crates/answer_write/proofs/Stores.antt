-- Runs of stores in a buffer: one behind another, entry after entry, finding after finding, and from the buffer's start.
use mathlib.Core.Path.{◌≡◌, refl, sym, ap, ◌∙◌}
use mathlib.Core.List.{List, [], ◌∷◌, ◌++◌, flat_map}
use Prim.Native.Nat.{ℕ, suc, ◌+◌, ◌<◌, ◌≤◌}
use native.Mathlib.Nat.{add-zero}
use native.Mathlib.Numerals.{add-one}
use native.Mathlib.Omega.{arith}
use lib.ListN.{length, get_or, set, take, drop, length-append}
use lib.Seq.{sets, sets-eq, take-suc, length-sets}
use Rattle.arith.specs.Lists.{counted, from, below}
use Rattle.answer_put.specs.Inner.Puts.{word_bytes}
use Rattle.answer_put.proofs.Entries.{one_more}
use Rattle.answer_put.proofs.Puts.{words_append}
use Rattle.answer_write.specs.Inner.Encoding.{Wrote}

sets_append : (l xs ys : List ℕ) (i : ℕ) → sets l i (xs ++ ys) ≡ sets (sets l i xs) (i + length xs) ys
sets_append l [] ys i = rw (add-zero i)
sets_append l (x ∷ xs) ys i =
    let e : i + suc (length xs) ≡ suc i + length xs = omega arith in
    rw e (sets_append (set l i x) xs ys (suc i))

-- stores as a run: none, those of a list, and one run behind another
pub none : (l : List ℕ) (at : ℕ) → Wrote l at [] l at
none l at = record { stored = refl; place = sym (add-zero at); room = refl }

pub run : {l m : List ℕ} {at : ℕ} {bytes : List ℕ} {next : ℕ} → m ≡ sets l at bytes → next ≡ at + length bytes → Wrote l at bytes m next
run {l} {m} {at} {bytes} e p = record { stored = e; place = p; room = ap length e ∙ length-sets l at bytes }

pub then : {l m n : List ℕ} {at p q : ℕ} {xs ys : List ℕ} → Wrote l at xs m p → Wrote m p ys n q → Wrote l at (xs ++ ys) n q
then {l} {m} {n} {at} {p} {q} {xs} {ys} a b =
    record {
      stored = b.stored ∙ rw (a.stored, a.place) (sym (sets_append l xs ys at));
      place = rw (length-append xs ys) (omega arith);
      room = b.room ∙ a.room;
    }

-- a run from the start
pub from_start : {l m : List ℕ} {bytes : List ℕ} {next : ℕ} → Wrote l 0 bytes m next → next ≤ length l → m ≡ bytes ++ drop (length bytes) l
from_start {l} {m} {bytes} {next} w h =
    let p = w.place in
    let g : 0 + length bytes ≤ length l = omega arith in
    let k : 0 + length bytes ≡ length bytes = omega arith in
    w.stored ∙ sets-eq bytes l 0 g ∙ ap (λ (m : ℕ). bytes ++ drop m l) k

-- entries one after another: before the first, after one more, and after the last of n
module _ (entry : ℕ → List ℕ) where
  pub entries_none : (l : List ℕ) (at : ℕ) → Wrote l at (flat_map entry (below 0)) l at
  unfolding flat_map from
  entries_none l at = none l at

  module _ {l m : List ℕ} {at p : ℕ} (i : ℕ) (w : Wrote l at (flat_map entry (below i)) m p) where
    pub entries_more : {n : List ℕ} {q : ℕ} → Wrote m p (entry i) n q → Wrote l at (flat_map entry (below (i + 1))) n q
    entries_more v = rw (one_more entry i) (then w v)

    entries_all : (n : ℕ) → i ≤ n → n ≤ i → Wrote l at (flat_map entry (below n)) m p
    entries_all n h g =
        let e : n ≡ i = omega arith in
        rw e w

  -- a count stored first, then n entries
  pub counted_all :
      {l k m : List ℕ} {at p : ℕ} (i n : ℕ) →
      k ≡ sets l at (n ∷ []) →
      Wrote k (at + 1) (flat_map entry (below i)) m p →
      i ≤ n →
      n ≤ i →
      Wrote l at (counted n entry) m p
  counted_all i n e w h g = then (run {bytes = n ∷ []} e refl) (entries_all i w n h g)

-- the first findings of a list of words: none, and one more
module _ (s : List ℕ) where
  abbrev first : ℕ → List ℕ
  first n = flat_map word_bytes (take n s)

  pub words_none : (l : List ℕ) (at : ℕ) → Wrote l at (first 0) l at
  unfolding flat_map
  words_none l at = none l at

  module _ {l m : List ℕ} {at p : ℕ} (i : ℕ) (w : Wrote l at (first i) m p) where
    pub words_more : {n : List ℕ} {q : ℕ} → i < length s → Wrote m p (word_bytes (get_or s i 0)) n q → Wrote l at (first (i + 1)) n q
    unfolding flat_map
    words_more h v =
        let e : first (suc i) ≡ first i ++ word_bytes (get_or s i 0) =
        ap (flat_map word_bytes) (take-suc s i 0 h) ∙ words_append (take i s) (get_or s i 0 ∷ []) in
        rw (add-one i, e) (then w v)
