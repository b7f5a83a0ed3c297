-- An array of blanks, set entry by entry from the front, is the entries and then blanks; the counted bytes of its entries.
use Prim.Native.Nat.{ℕ, zero, suc, ◌+◌, ◌-◌, ◌<◌, ◌≤◌}
use mathlib.Core.Bool.{Bool, true, false}
use mathlib.Core.List.{List, [], ◌∷◌, ◌++◌, map, flat_map, append_assoc}
use mathlib.Core.Logic.{◌≢◌}
use mathlib.Core.Path.{◌≡◌, refl, sym, ap, ap₂, ◌∙◌}
use native.Mathlib.Nat.{add-zero, add-suc, suc-add, zero-add}
use native.Mathlib.Numerals.{add-one}
use native.Mathlib.Omega.{arith}
use borrow.Author.Tests.{eqb-true, eqb-false}
use lib.Dec.{eqb}
use lib.ListN.{length, get_or, get_or-append, set, take, replicate, length-append, length-map, length-replicate, length-take, length-set}
use lib.Seq.{set_at, set-append_left, get_or-set_same, get_or-set_other, ext_get_or, get_or-take}
use Rattle.arith.specs.Lists.{from, below, padded, counted}

pub length_from : (i n : ℕ) → length (from i n) ≡ n
unfolding from
length_from i zero = refl
length_from i (suc n) = ap suc (length_from (suc i) n)

module _ {A : Type 0} (f : ℕ → A) (b : A) where
  pub length_entries : (n : ℕ) → length (map f (below n)) ≡ n
  length_entries n = length-map (from 0 n) f ∙ length_from 0 n

  entries_more : (i n : ℕ) → map f (from i (suc n)) ≡ map f (from i n) ++ (f (i + n) ∷ [])
  unfolding from
  entries_more i zero = rw add-zero
  entries_more i (suc n) =
      ap {B = List A} (λ l. f i ∷ l)
      (entries_more (suc i) n ∙ ap {B = List A} (λ m. map f (from (suc i) n) ++ (f m ∷ [])) (suc-add i n ∙ sym (add-suc i n)))

  pub entry : (i n k : ℕ) → k < n → get_or (map f (from i n)) k b ≡ f (i + k)
  unfolding from
  entry i zero k h = absurd (omega (arith, h))
  entry i (suc n) zero h = ap f (sym (add-zero i))
  entry i (suc n) (suc k) h = entry (suc i) n k (omega (arith, h)) ∙ ap f (suc-add i k ∙ sym (add-suc i k))

  pub entry_at : (n size k : ℕ) → k < n → get_or (padded size b (map f (below n))) k b ≡ f k
  entry_at n size k h =
      get_or-append (map f (below n)) (replicate (size - length (map f (below n))) b) b k (rw (length_entries n) h)
      ∙ entry 0 n k h
      ∙ ap f (zero-add k)

  pub entries_are : (l : List A) (n : ℕ) → length l ≡ n → ((k : ℕ) → k < n → f k ≡ get_or l k b) → map f (below n) ≡ l
  entries_are l n e h =
      ext_get_or b (map f (below n)) l (length_entries n ∙ sym e)
      (λ k q.
      let r : k < n = rw (length_entries n) at q in
      entry 0 n k r ∙ ap f (zero-add k) ∙ h k r)

  pub one_more :
      (size n : ℕ) →
      n < size →
      set (padded size b (map f (below n))) n (f n) ≡ padded size b (map f (below (n + 1)))
  one_more size n h =
      rw (length_entries n, length_entries (n + 1), rest, add-one n)
      (set_at (map f (below n)) b (replicate (size - (suc n)) b) (f n) n (length_entries n)
      ∙ sym (append_assoc (map f (below n)) (f n ∷ []) (replicate (size - (suc n)) b))
      ∙ ap {B = List A} (λ l. l ++ replicate (size - (suc n)) b) (sym more))
    where
      rest : size - n ≡ suc (size - suc n)
      rest = omega arith

      more : map f (below (suc n)) ≡ map f (below n) ++ (f n ∷ [])
      more = entries_more 0 n ∙ ap {B = List A} (λ m. map f (below n) ++ (f m ∷ [])) (zero-add n)

-- entries of which the k-th alone is other
pub one_other :
    {A : Type 0} (f g : ℕ → A) (b : A) (size n k : ℕ) →
    k < n →
    ((j : ℕ) → j < n → j ≢ k → g j ≡ f j) →
    padded size b (map g (below n)) ≡ set (padded size b (map f (below n))) k (g k)
one_other {A} f g b size n k h same =
    ap₂ (λ (l : List A) (m : ℕ). l ++ replicate (size - m) b) entries (length_entries g b n ∙ sym (length_entries f b n))
    ∙ sym (set-append_left (map f (below n)) (replicate (size - length (map f (below n))) b) k (g k) (rw (length_entries f b n) h))
  where
    each : (j : ℕ) → j < n → g j ≡ get_or (set (map f (below n)) k (g k)) j b
    each j q = go (eqb j k) refl
      where
        go : (same_place : Bool) → eqb j k ≡ same_place → g j ≡ get_or (set (map f (below n)) k (g k)) j b
        go true e = rw (eqb-true j k e) (sym (get_or-set_same (map f (below n)) k (g k) b (rw (length_entries f b n) h)))
        go false e =
            let ne = eqb-false j k e in
            same j q ne ∙ sym (get_or-set_other (map f (below n)) k j (g k) b ne ∙ entry f b 0 n j q ∙ ap f (zero-add j))

    entries : map g (below n) ≡ set (map f (below n)) k (g k)
    entries =
        entries_are g b (set (map f (below n)) k (g k)) n (length-set (map f (below n)) k (g k) ∙ length_entries f b n) each

length_padded : {A : Type 0} (size : ℕ) (b : A) (l : List A) → length l ≤ size → length (padded size b l) ≡ size
length_padded size b l h = simp (length-append, length-replicate) (omega arith)

-- the entries of an array that is blank behind its count are as many as the count
pub full : {A : Type 0} (size : ℕ) (b : A) (l : List A) (n : ℕ) → l ≡ padded size b (take n l) → n ≤ size → length (take n l) ≡ n
full size b l n e h =
    let short : length (take n l) ≤ n = rw (length-take n l) (omega arith) in
    let whole : length l ≡ size = ap length e ∙ length_padded size b (take n l) (omega arith) in
    length-take n l ∙ rw whole (omega arith)

-- the counted bytes of a list's entries, by the list
flat_map_lem : {A : Type 0} (bytes : A → List ℕ) (f : ℕ → A) (ns : List ℕ) → flat_map (λ k. bytes (f k)) ns ≡ flat_map bytes (map f ns)
unfolding flat_map
flat_map_lem bytes f [] = refl
flat_map_lem bytes f (n ∷ ns) = ap {B = List ℕ} (λ l. bytes (f n) ++ l) (flat_map_lem bytes f ns)

pub counted_entries :
    {A : Type 0} (bytes : A → List ℕ) (b : A) (l : List A) (n : ℕ) →
    length (take n l) ≡ n →
    counted n (λ k. bytes (get_or l k b)) ≡ n ∷ flat_map bytes (take n l)
counted_entries {A} bytes b l n e =
    let at : ℕ → A = λ k. get_or l k b in
    ap {B = List ℕ} (λ s. n ∷ s)
    (flat_map_lem bytes at (below n)
    ∙ ap {B = List ℕ} (flat_map bytes) (entries_are at b (take n l) n e (λ k q. sym (get_or-take n l k b q))))
