-- What holds of each lash, or from each to each later one, holds of those that are chosen; they are those whose bits are set.
use Prim.Native.Nat.{ℕ, zero, suc, ◌+◌, ◌/◌, ◌≤◌}
use mathlib.Core.Bool.{Bool, true, false, cond}
use mathlib.Core.List.{List, [], ◌∷◌, map}
use mathlib.Core.Path.{◌≡◌, refl, sym, ap, ◌∙◌}
use native.Mathlib.Nat.{add-zero, add-suc, suc-add, zero-add}
use native.Mathlib.Omega.{arith}
use lib.ListN.{length}
use Rattle.arith.specs.Lists.{from}
use Rattle.choices.specs.Choices.{uses, chosen, those}
use Rattle.choices.specs.Theorems.{ChosenByBits}
use Rattle.choices.proofs.Bits.{as_many_chosen, few_used}
use Rattle.choices.proofs.Ranked.{Each, Ranked}

pub few_chosen : {A : Type 0} (c : ℕ) (ls : List A) → length (chosen c ls) ≤ length ls
few_chosen {A} c ls = omega (arith, as_many_chosen A c ls, few_used (length ls) c)

pub each_chosen : {A : Type 0} (P : A → Type 0) (c : ℕ) (ls : List A) → Each P ls → Each P (chosen c ls)
unfolding chosen
each_chosen P c [] h = tt
each_chosen {A} P c (l ∷ ls) h = go (uses c 0) (each_chosen P (c / 2) ls h.1)
  where
    go : (b : Bool) → Each P (chosen (c / 2) ls) → Each P (cond b (l ∷ chosen (c / 2) ls) (chosen (c / 2) ls))
    go true k = (h.0, k)
    go false k = k

pub ranked_chosen : {A : Type 0} (R : A → A → Type 0) (c : ℕ) (ls : List A) → Ranked R ls → Ranked R (chosen c ls)
unfolding chosen
ranked_chosen R c [] h = tt
ranked_chosen R c (l ∷ ls) h = go (uses c 0) (ranked_chosen R (c / 2) ls h.1)
  where
    go : (b : Bool) → Ranked R (chosen (c / 2) ls) → Ranked R (cond b (l ∷ chosen (c / 2) ls) (chosen (c / 2) ls))
    go true k = (each_chosen (R l) (c / 2) ls h.0, k)
    go false k = k

pub chosen_map : {A B : Type 0} (f : A → B) (c : ℕ) (ls : List A) → chosen c (map f ls) ≡ map f (chosen c ls)
unfolding chosen
chosen_map f c [] = refl
chosen_map {A} {B} f c (l ∷ ls) = go (uses c 0) (chosen_map f (c / 2) ls)
  where
    go :
        (b : Bool) →
        chosen (c / 2) (map f ls) ≡ map f (chosen (c / 2) ls) →
        cond b (f l ∷ chosen (c / 2) (map f ls)) (chosen (c / 2) (map f ls))
        ≡ map f (cond b (l ∷ chosen (c / 2) ls) (chosen (c / 2) ls))
    go true e = ap {B = List B} (λ m. f l ∷ m) e
    go false e = e

-- lashes by their numbers, from i on: c goes on where it stands in a choice d
by_bits_from :
    (d c i m : ℕ) →
    ((k : ℕ) → uses d (i + k) ≡ uses c k) →
    chosen c (from i m) ≡ those (uses d) (from i m)
unfolding chosen those from uses
by_bits_from d c i zero h = refl
by_bits_from d c i (suc m) h =
    let first : uses d i ≡ uses c 0 = ap (uses d) (sym (add-zero i)) ∙ h 0 in
    let next : (k : ℕ) → uses d (suc i + k) ≡ uses (c / 2) k =
    λ k. ap (uses d) (suc-add i k ∙ sym (add-suc i k)) ∙ h (suc k) in
    rw (first, by_bits_from d (c / 2) (suc i) m next) refl

pub chosen_by_bits : ChosenByBits
chosen_by_bits c m = by_bits_from c c 0 m (λ k. ap (uses c) (zero-add k))
