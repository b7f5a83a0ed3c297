-- Arrays that a loop fills entry by entry, and lists that it reads entry by entry.
use Prim.Native.Nat.{ℕ, zero, suc, zero-le, ◌+◌, ◌-◌, ◌<◌, ◌≤◌}
use mathlib.Core.Path.{◌≡◌, refl, sym, ap, subst, ◌∙◌}
use mathlib.Core.List.{List, [], ◌∷◌, ◌++◌, map}
use native.Mathlib.Decide.{ℕ_discrete, dec_lt}
use native.Mathlib.Nat.{zero-add}
use native.Mathlib.Omega.{arith}
use lib.ListN.{length, get_or, set, take, drop, replicate, length-set, length-replicate, length-append}
use lib.Seq.{ext_get_or, get_or-append-add, drop-cons, drop-length, get_or-set_same, get_or-set_other, get_or-take, length-take-le}
use Rattle.arith.specs.Lists.{below, padded}
use Rattle.arith.proofs.Arrays as Entries
use Rattle.statics.specs.Inner.WholeNumbers.{Filled}

module _ {A : Type 0} where
  -- entries lo to hi - 1 of an array of this size have P, and those behind them blank
  pub record Between (blank : A) (P : ℕ → A → Type 0) (size lo hi : ℕ) (r : List A) : Type 0 where
    pub long : length r ≡ size
    pub each : (i : ℕ) → lo ≤ i → i < hi → P i (get_or r i blank)
    pub rest : (i : ℕ) → hi ≤ i → get_or r i blank ≡ blank

  pub blank_entry : (blank : A) (n i : ℕ) → get_or (replicate n blank) i blank ≡ blank
  blank_entry blank zero i = refl
  blank_entry blank (suc n) zero = refl
  blank_entry blank (suc n) (suc i) = blank_entry blank n i

  pub between_none : (blank : A) (P : ℕ → A → Type 0) (size at : ℕ) → Between blank P size at at (replicate size blank)
  between_none blank P size at =
      record {
        long = length-replicate size blank;
        each = λ i h l. absurd (omega arith);
        rest = λ i h. blank_entry blank size i;
      }

  -- the entry below those filled
  pub fill_below :
      (blank : A) (P : ℕ → A → Type 0) (size lo hi : ℕ) (r : List A) (v : A) →
      lo < hi →
      lo < size →
      P lo v →
      Between blank P size (suc lo) hi r →
      Between blank P size lo hi (set r lo v)
  fill_below blank P size lo hi r v h room e b =
      record {
        long = length-set r lo v ∙ b.long;
        each = each;
        rest = λ i l. get_or-set_other r lo i v blank (λ q. omega arith) ∙ b.rest i l;
      }
    where
      each : (i : ℕ) → lo ≤ i → i < hi → P i (get_or (set r lo v) i blank)
      each i l m =
          elim (ℕ_discrete i lo) [
            | yes q ↦ rw (q, get_or-set_same r lo v blank (omega (arith, b.long))) e
            | no ne ↦ rw (get_or-set_other r lo i v blank ne) (b.each i (omega arith) m)
          ]

  -- the entry over those filled
  pub fill_above :
      (blank : A) (P : ℕ → A → Type 0) (size lo hi : ℕ) (r : List A) (v : A) →
      hi < size →
      P hi v →
      Between blank P size lo hi r →
      Between blank P size lo (suc hi) (set r hi v)
  fill_above blank P size lo hi r v room e b =
      record {
        long = length-set r hi v ∙ b.long;
        each = each;
        rest = λ i l. get_or-set_other r hi i v blank (λ q. omega arith) ∙ b.rest i (omega arith);
      }
    where
      each : (i : ℕ) → lo ≤ i → i < suc hi → P i (get_or (set r hi v) i blank)
      each i l m =
          elim (ℕ_discrete i hi) [
            | yes q ↦ rw (q, get_or-set_same r hi v blank (omega (arith, b.long))) e
            | no ne ↦ rw (get_or-set_other r hi i v blank ne) (b.each i l (omega arith))
          ]

  pub filled : {blank : A} {f : ℕ → A} {size hi : ℕ} {r : List A} → Between blank (λ i x. x ≡ f i) size 0 hi r → Filled size blank hi f r
  filled b = record { long = b.long; each = λ i h. b.each i zero-le h; rest = b.rest }

  -- the first m entries, from entry i on
  pub peel : (l : List A) (m i : ℕ) (z : A) → i < m → m ≤ length l → drop i (take m l) ≡ get_or l i z ∷ drop (suc i) (take m l)
  peel l m i z h room =
      drop-cons (take m l) i z (omega (arith, length-take-le m l room))
      ∙ ap (λ (x : A). x ∷ drop (suc i) (take m l)) (get_or-take m l i z h)

  pub peeled_off : (l : List A) (m : ℕ) → m ≤ length l → drop m (take m l) ≡ []
  peeled_off l m room = ap (λ (k : ℕ). drop k (take m l)) (sym (length-take-le m l room)) ∙ drop-length (take m l)

-- an array made by name: an entry, an entry behind the count, and an array that a loop has filled so
module _ {A : Type 0} (f : ℕ → A) (b : A) where
  pub entry_at : (n k : ℕ) → k < n → get_or (map f (below n)) k b ≡ f k
  entry_at n k h = Entries.entry f b 0 n k h ∙ ap f (zero-add k)

  module _ (size n : ℕ) where
    pub padded_at : (k : ℕ) → k < n → get_or (padded size b (map f (below n))) k b ≡ f k
    padded_at k h = Entries.entry_at f b n size k h

    pub padded_behind : (k : ℕ) → n ≤ k → get_or (padded size b (map f (below n))) k b ≡ b
    padded_behind k h =
        let blanks = replicate (size - length (map f (below n))) b in
        subst (λ (z : ℕ). get_or (map f (below n) ++ blanks) z b ≡ b) {x = length (map f (below n)) + (k - n)} {y = k}
        (rw (Entries.length_entries f b n) (omega arith))
        (get_or-append-add (map f (below n)) blanks (k - n) b ∙ blank_entry b (size - length (map f (below n))) (k - n))

    pub filled_padded : (r : List A) → n ≤ size → Filled size b n f r → r ≡ padded size b (map f (below n))
    filled_padded r room h =
        ext_get_or b r (padded size b (map f (below n))) (h.long ∙ sym whole)
        (λ k q. elim (dec_lt k n) [
          | yes l ↦ h.each k l ∙ sym (padded_at k l)
          | no l ↦ h.rest k (omega arith) ∙ sym (padded_behind k (omega arith))
        ])
      where
        whole : length (padded size b (map f (below n))) ≡ size
        whole = simp (length-append, length-replicate, Entries.length_entries f b n) (omega arith)
