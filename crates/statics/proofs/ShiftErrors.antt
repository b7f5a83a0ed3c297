-- The shift errors of an end's lashes: the promise bounds their sum, and so each.
use mathlib.Core.Path.{◌≡◌, refl, ap, ap₂, ◌∙◌}
use mathlib.Core.List.{List, [], ◌∷◌}
use Prim.Native.Nat.{ℕ, zero, suc, ◌<◌}
use native.Mathlib.Omega.{arith}
use lib.ListN.{length, get_or}
use Rattle.sheet.specs.Lashings.{level_of}
use Rattle.sheet.specs.Layout.{blank_lash}
use Rattle.arith.specs.Fractions.{Frac, nat, ◌-q◌, ◌*q◌, absq, sumq}
use Rattle.arith.proofs.Rings.{∀₂, ∀₃, by_cert, to, ◌⊞◌}
use Rattle.arith.proofs.Rationals.{ℚR, ℚ, mk, int, ◌+ℚ◌, ◌*ℚ◌, absℚ, ◌≤ℚ◌, nn_int, nn_plus}
use Rattle.arith.proofs.RationalTerms.{qq}
use Rattle.arith.proofs.FractionsInRationals.{sumℚ, mk_add, mk_sub, mk_mul, mk_abs}
use Rattle.springs.specs.Equations as S
use Rattle.springs.specs.Equations.{shift}
use Rattle.springs.specs.Inner.Promise.{found}
use Rattle.springs.proofs.Chain.{natℚ}
use Rattle.sheet.specs.declared.Lash.{Lash}
use Rattle.statics.specs.Lashes.{athwart_part}
use Rattle.statics.specs.Ends.{chain_lash, chain_lashes}
use Rattle.sheet.specs.Inner.Limits.{LashLimits}
use Rattle.statics.proofs.EachLash.{Each, each_first, each_rest}
use Rattle.statics.proofs.LashLength.{length_above}
use Rattle.statics.proofs.LashFigures.{shift_error, shift_error_nn}

module _ (d : List ℕ) (Ds : List Frac) where
  -- a lash's shift error at the exact shifts Ds, in fractions and in ℚ
  abbrev pub shift_errorq : S.Lash → Frac
  shift_errorq l = l.stiffness *q absq (found d l.level -q shift Ds l.level)

  abbrev pub shift_error_at : Lash → ℚ
  shift_error_at l = shift_error d l (shift Ds (level_of l))

  abbrev pub shift_errors : List Lash → ℚ
  shift_errors ls = sumℚ shift_error_at ls

  shift_errorq_is : (l : Lash) → mk (shift_errorq (chain_lash l)) ≡ shift_error_at l
  unfolding chain_lash
  shift_errorq_is l =
      let x = found d (level_of l) in
      let D = shift Ds (level_of l) in
      mk_mul (athwart_part l (nat 1)) (absq (x -q D)) ∙ ap (λ z. mk (athwart_part l (nat 1)) *ℚ z) (mk_abs (x -q D) ∙ ap absℚ (mk_sub x D))

  pub shift_errors_q : (ls : List Lash) → mk (sumq shift_errorq (chain_lashes ls)) ≡ shift_errors ls
  unfolding sumq sumℚ int
  shift_errors_q [] = refl
  shift_errors_q (l ∷ ls) =
      mk_add (shift_errorq (chain_lash l)) (sumq shift_errorq (chain_lashes ls)) ∙ ap₂ ◌+ℚ◌ (shift_errorq_is l) (shift_errors_q ls)

  module _ {n : ℕ} where
    shift_error_at_nn : (l : Lash) → LashLimits n l → natℚ 0 ≤ℚ shift_error_at l
    shift_error_at_nn l f = shift_error_nn d l (shift Ds (level_of l)) (length_above f)

    shift_errors_nn : (ls : List Lash) → Each n ls → natℚ 0 ≤ℚ shift_errors ls
    unfolding sumℚ
    shift_errors_nn [] f = nn_int 0
    shift_errors_nn (l ∷ ls) f =
        nn_plus (shift_error_at l) (shift_errors ls) (shift_error_at_nn l (each_first f)) (shift_errors_nn ls (each_rest f))

    pub shift_error_le : (ls : List Lash) → Each n ls → (j : ℕ) → j < length ls → shift_error_at (get_or ls j blank_lash) ≤ℚ shift_errors ls
    unfolding sumℚ
    shift_error_le [] f j h = absurd (never h)
      where
        never : j < 0 → ⊥
        never x = omega arith
    shift_error_le (l ∷ ls) f zero h = go (shift_error_at l) (shift_errors ls) (shift_errors_nn ls (each_rest f))
      where
        go : (x y : ℚ) → natℚ 0 ≤ℚ y → x ≤ℚ x +ℚ y
        go = ∀₂ ℚR _ λ ρ. simp qq λ h. by_cert (to h) tt
    shift_error_le (l ∷ ls) f (suc j) h =
        go (shift_error_at l) (shift_errors ls) (shift_error_at (get_or ls j blank_lash)) (shift_error_at_nn l (each_first f))
        (shift_error_le ls (each_rest f) j (omega arith))
      where
        go : (x y z : ℚ) → natℚ 0 ≤ℚ x → z ≤ℚ y → z ≤ℚ x +ℚ y
        go = ∀₃ ℚR _ λ ρ. simp qq λ h l. by_cert (to h ⊞ to l) tt
