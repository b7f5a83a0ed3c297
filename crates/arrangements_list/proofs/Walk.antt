-- The walk through all choices of eight lashes: the accepted ones before number i, and after the last.
use Prim.Native.Nat.{ℕ, zero, suc, ◌+◌, ◌^◌, ◌<◌, ◌≤◌}
use mathlib.Core.Bool.{Bool, true, false, cond, ◌&&◌}
use mathlib.Core.List.{List, [], ◌∷◌}
use mathlib.Core.Path.{◌≡◌, refl, sym, ap, subst, ◌∙◌}
use native.Mathlib.Omega.{arith}
use lib.Dec.{ltb}
use lib.ListN.{length, get_or, take}
use lib.Seq.{take_all, take_at}
use Rattle.std.proofs.lemmas.List.Elements.{filter_more}
use Rattle.std.specs.List.{filter}
use Rattle.sheet.specs.declared.Lash.{Lash}
use Rattle.sheet.specs.declared.Sheet.{Sheet}
use Rattle.answer_write.specs.Inner.Encoding.{Wrote}
use Rattle.answer_write.proofs.Stores.{then}
use Rattle.choices.specs.Choices.{chosen, choices, those}
use Rattle.choices.proofs.AmongEight.{among_eight}
use Rattle.choices.proofs.Once.{all_once}
use Rattle.gear.specs.declared.Gear.{Gear}
use Rattle.chosen_lashes.specs.Inner.Gathered.{held_in, held_of}
use Rattle.chosen_lashes.proofs.Held.{lashes_held}
use Rattle.arrangements_judge.specs.Inner.Judged.{lashes_in, accepted_with}
use Rattle.arrangements_list.specs.Inner.Listing.{accepted_choices}

-- the number of choices
pub power : (m : ℕ) → m ≤ 8 → get_or (1 ∷ 2 ∷ 4 ∷ 8 ∷ 16 ∷ 32 ∷ 64 ∷ 128 ∷ 256 ∷ []) m 0 ≡ 2 ^ m
power zero h = refl
power (suc zero) h = refl
power (suc (suc zero)) h = refl
power (suc (suc (suc zero))) h = refl
power (suc (suc (suc (suc zero)))) h = refl
power (suc (suc (suc (suc (suc zero))))) h = refl
power (suc (suc (suc (suc (suc (suc zero)))))) h = refl
power (suc (suc (suc (suc (suc (suc (suc zero))))))) h = refl
power (suc (suc (suc (suc (suc (suc (suc (suc zero)))))))) h = refl
power (suc (suc (suc (suc (suc (suc (suc (suc (suc m))))))))) h = absurd (omega (arith, h))

-- those of a list that pass two tests, one after the other
those_both : {A : Type 0} (p q : A → Bool) (l : List A) → filter (λ x. q x && p x) l ≡ those p (those q l)
unfolding those
those_both p q [] = refl
those_both p q (x ∷ l) = go (q x) (those_both p q l)
  where
    go :
        (b : Bool) →
        filter (λ x. q x && p x) l ≡ those p (those q l) →
        cond (b && p x) (x ∷ filter (λ x. q x && p x) l) (filter (λ x. q x && p x) l) ≡ those p (cond b (x ∷ those q l) (those q l))
    go true e = ap (λ l. cond (p x) (x ∷ l) l) e
    go false e = e

-- a choice that is one of m lashes and accepted
unfoldable pub is_listed : Sheet → List Lash → ℕ → ℕ → Bool
is_listed t ls m c = ltb c (2 ^ m) && accepted_with (chosen c ls) t

module _ (t : Sheet) (ls : List Lash) (m : ℕ) where
  abbrev pub up_to : ℕ → List ℕ
  up_to i = filter (is_listed t ls m) (take i (choices 8))

  eight : length (choices 8) ≡ 256
  eight = (all_once 8).many

  -- put into a buffer one behind another
  pub one_listed :
      {l x y : List ℕ} {p q : ℕ} (i : ℕ) →
      i < 256 →
      Wrote l 2 (up_to i) x p →
      {c all : ℕ} {b : Bool} →
      c ≡ get_or (choices 8) i 0 →
      all ≡ 2 ^ m →
      b ≡ ltb c all && accepted_with (chosen c ls) t →
      Wrote x p (cond b (c ∷ []) []) y q →
      Wrote l 2 (up_to (i + 1)) y q
  unfolding is_listed
  one_listed {x = x} {y} {p} {q} i h w {c} {all} {b} ec ea eb v =
      let same : b ≡ is_listed t ls m c = eb ∙ ap (λ (n : ℕ). ltb c n && accepted_with (chosen c ls) t) ea in
      let put : Wrote x p (cond (is_listed t ls m c) (c ∷ []) []) y q = subst (λ (b : Bool). Wrote x p (cond b (c ∷ []) []) y q) same v in
      rw (filter_more (is_listed t ls m) (choices 8) i 0 (omega (arith, eight)))
      (then w (subst (λ (k : ℕ). Wrote x p (cond (is_listed t ls m k) (k ∷ []) []) y q) ec put))

  pub all_passed : (i : ℕ) → 256 ≤ i → m ≤ 8 → up_to i ≡ accepted_choices t ls m
  unfolding is_listed accepted_choices
  all_passed i h few =
      ap (filter (is_listed t ls m)) (take_all i (choices 8) (omega (arith, eight)))
      ∙ those_both (λ c. accepted_with (chosen c ls) t) (λ c. ltb c (2 ^ m)) (choices 8)
      ∙ ap (those (λ c. accepted_with (chosen c ls) t)) (sym (among_eight m few))

-- lashes in arrays, read back
module _ {g : Gear} {lengths stiffs κ : List ℕ} (ls : List Lash) (e : held_in g lengths stiffs κ ≡ held_of ls) where
  pub held_back : lashes_in g ≡ ls
  held_back = ap lashes_held e ∙ take_at ls _ (length ls) refl

  pub held_by_name : held_in g lengths stiffs κ ≡ held_of (lashes_in g)
  held_by_name = e ∙ ap held_of (sym held_back)
