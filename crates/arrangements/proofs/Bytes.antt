-- The list's bytes: the accepted choices from byte 2 on, then their count in front of them.
use Prim.Native.Nat.{ℕ, suc, ◌+◌, ◌-◌, ◌≤◌}
use mathlib.Core.Bool.{Bool, cond}
use mathlib.Core.List.{List, [], ◌∷◌, ◌++◌}
use mathlib.Core.Path.{◌≡◌, refl, sym, ap, ap₂, subst, ◌∙◌}
use native.Mathlib.Omega.{arith}
use borrow.Author.Tests.{ne_eqb}
use lib.Dec.{eqb}
use lib.ListN.{length, set}
use lib.Seq.{sets}
use Rattle.arith.specs.Bytes.{byte_at, bytes2}
use Rattle.sheet.specs.declared.Lash.{Lash}
use Rattle.sheet.specs.declared.Sheet.{Sheet}
use Rattle.statics.specs.declared.Figures.{Figures}
use Rattle.answer.specs.Findings.{Finding, findings, verdict, accepted}
use Rattle.answer.specs.Answers.{answer_bytes}
use Rattle.answer_write.specs.Inner.Encoding.{Wrote}
use Rattle.answer_write.proofs.Stores.{run}
use Rattle.choices.specs.Choices.{choices, those}
use Rattle.arrangements_list.specs.Inner.Listing.{accepted_choices}
use Rattle.arrangements.specs.Arrangements.{accepted_by, list_bytes}
use Rattle.arrangements.specs.Inner.Named.{answer_with, list_for}

-- an answer's verdict is 0 where it has no finding
verdict_none : (fs : List Finding) → eqb (verdict fs) 0 ≡ eqb (length fs) 0
verdict_none [] = refl
verdict_none (x ∷ fs) = rw (ne_eqb (suc (length fs)) 0 (λ e. omega arith)) refl

pub verdict_byte : (t : Sheet) (f : Figures) → eqb (byte_at (answer_bytes t f) 0) 0 ≡ accepted t f
unfolding answer_bytes
verdict_byte t f = verdict_none (findings t f)

those_same : {A : Type 0} (p q : A → Bool) → ((x : A) → p x ≡ q x) → (l : List A) → those p l ≡ those q l
unfolding those
those_same p q e [] = refl
those_same {A} p q e (x ∷ l) = ap₂ (λ (b : Bool) (k : List A). cond b (x ∷ k) k) (e x) (those_same p q e l)

pub choices_same : (t : Sheet) (ls : List Lash) (m : ℕ) → accepted_by (answer_with t ls) m ≡ accepted_choices t ls m
unfolding accepted_choices
choices_same t ls m = those_same _ _ (λ c. verdict_byte _ _) (choices m)

-- bytes put from byte 2 on, then two in front of them
behind_first : (x : ℕ) (l : List ℕ) (i : ℕ) (xs : List ℕ) → sets (x ∷ l) (suc i) xs ≡ x ∷ sets l i xs
behind_first x l i [] = refl
behind_first x l i (y ∷ xs) = behind_first x (set l i y) (suc i) xs

in_front : (l xs : List ℕ) (a b : ℕ) → 2 ≤ length l → sets (sets l 2 xs) 0 (a ∷ b ∷ []) ≡ sets l 0 (a ∷ b ∷ xs)
in_front [] xs a b h = absurd (omega arith)
in_front (x ∷ []) xs a b h = absurd (omega arith)
in_front (x ∷ y ∷ l) xs a b h =
    ap (λ (k : List ℕ). sets k 0 (a ∷ b ∷ [])) (twice x y)
    ∙ sym (twice a b)
  where
    twice : (x y : ℕ) → sets (x ∷ y ∷ l) 2 xs ≡ x ∷ y ∷ sets l 0 xs
    twice x y = behind_first x (y ∷ l) 1 xs ∙ ap (λ (k : List ℕ). x ∷ k) (behind_first y l 0 xs)

module _ (t : Sheet) (ls : List Lash) {m : ℕ} (counted : length ls ≡ m) where
  pub list_is : bytes2 (length (accepted_choices t ls m)) ++ accepted_choices t ls m ≡ list_for t ls
  unfolding list_bytes
  list_is =
      ap (λ (cs : List ℕ). bytes2 (length cs) ++ cs)
      (sym (choices_same t ls m) ∙ ap (accepted_by (answer_with t ls)) (sym counted))

  pub whole :
      {before between after : List ℕ} {next : ℕ} →
      2 ≤ length before →
      Wrote before 2 (accepted_choices t ls m) between next →
      after ≡ sets between 0 (bytes2 (next - 2)) →
      Wrote before 0 (list_for t ls) after next
  whole {before} {between} {after} {next} h w e =
      let cs = accepted_choices t ls m in
      let n : next - 2 ≡ length cs = omega (arith, w.place) in
      let stored : after ≡ sets before 0 (bytes2 (length cs) ++ cs) =
      e ∙ ap₂ (λ (l : List ℕ) (n : ℕ). sets l 0 (bytes2 n)) w.stored n ∙ in_front before cs _ _ h in
      let place : next ≡ 0 + length (bytes2 (length cs) ++ cs) = omega (arith, w.place) in
      subst (λ (bytes : List ℕ). Wrote before 0 bytes after next) list_is (run {bytes = bytes2 (length cs) ++ cs} stored place)
