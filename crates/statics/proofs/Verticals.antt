-- The vertical parts of the lashes on a post: their sum found beside the exact one.
use mathlib.Core.Path.{◌≡◌, sym, ap, ◌∙◌}
use mathlib.Core.Bool.{Bool, true, false, cond}
use mathlib.Core.List.{List, [], ◌∷◌}
use Prim.Native.Nat.{ℕ, suc, ◌^◌, ◌<◌, ◌≤◌}
use native.Mathlib.Omega.{arith}
use native.Mathlib.Numerals.{add-one}
use lib.ListN.{length, get_or}
use lib.IntN.{pos}
use Rattle.arith.specs.Fractions.{Frac, sumq}
use Rattle.arith.proofs.Rings.{∀₅, by_ring, by_cert, to, num, ◌⊞◌, ◌⊠◌}
use Rattle.arith.proofs.Rationals.{ℚR, ℚ, mk, ◌+ℚ◌, ◌*ℚ◌, ◌≤ℚ◌, int_plus, nn_int, nn_plus, nn_times}
use Rattle.arith.proofs.RationalTerms.{qq}
use Rattle.arith.proofs.RationalOrder.{nat_q}
use Rattle.arith.proofs.FractionsInRationals.{sumℚ, mk_add}
use Rattle.springs.specs.Equations.{given, shift}
use Rattle.springs.proofs.Chain.{natℚ}
use Rattle.sheet.specs.declared.Lash.{Lash}
use Rattle.sheet.specs.declared.Lashing.{Lashing}
use Rattle.sheet.specs.declared.Lashing.TheVariants.{Cross, Side}
use Rattle.sheet.specs.Lashings.{lashing_of, level_of}
use Rattle.sheet.specs.Layout.{blank_lash}
use Rattle.statics.specs.Lashes.{athwart_part, vertical_part}
use Rattle.statics.specs.Forces.{lash_force}
use Rattle.statics.specs.Posts.{on_lee, on_windward, verticals}
use Rattle.statics.specs.Inner.WholeNumbers.{upward, upwards, lee_part, windward_part, along_middle}
use Rattle.sheet.specs.Inner.Limits.{LashLimits}
use Rattle.statics.proofs.Errors.{Off, off_nn, off_add, off_more}
use Rattle.statics.proofs.Scales.{newtons, newtons_add, newtons_nn, nothing_off}
use Rattle.statics.proofs.Pads.{shift_error_bound, most_held, vertical_error, verticals_error, verticals_room}
use Rattle.statics.proofs.LashFigures.{upward_off}
use Rattle.statics.proofs.EachLash.{Each, each_first, each_rest}
use Rattle.statics.proofs.ShiftErrors.{shift_error_at, shift_errors}

-- a post takes the same lashes found and exact
abbrev Takes : (Lashing → ℕ → ℕ) → (Lashing → Frac → Frac) → Type 0
Takes part force =
    (e : ℚ) (x : ℕ) (X : Frac) (g : Lashing) →
    Off e (newtons (pos x)) (mk X) →
    Off e (newtons (pos (part g x))) (mk (force g X))

pub record Post (part : Lashing → ℕ → ℕ) (force : Lashing → Frac → Frac) : Type 0 where
  pub takes : Takes part force

lee_takes : Takes lee_part on_lee
lee_takes e x X (Cross l) o = o
lee_takes e x X (Side l) o = nothing_off (off_nn o)

windward_takes : Takes windward_part on_windward
windward_takes e x X (Cross l) o = nothing_off (off_nn o)
windward_takes e x X (Side l) o = o

pub lee_post : Post lee_part on_lee
lee_post = record { takes = lee_takes }

pub windward_post : Post windward_part on_windward
windward_post = record { takes = windward_takes }

counted_off :
    {e : ℚ} (b : Bool) (x : ℕ) (X : Frac) →
    Off e (newtons (pos x)) (mk X) →
    Off e (newtons (pos (cond b x 0))) (mk (given b X))
counted_off true x X o = o
counted_off false x X o = nothing_off (off_nn o)

-- what rounding costs the vertical part of a lash
cost : ℚ
cost = vertical_error (natℚ 0)

cost_nn : natℚ 0 ≤ℚ cost
unfolding cost
cost_nn =
    nn_plus (natℚ 40 *ℚ (natℚ 0 +ℚ newtons (pos 257))) (newtons (pos along_middle))
    (nn_times (natℚ 40) (natℚ 0 +ℚ newtons (pos 257)) (nn_int 40) (nn_plus (natℚ 0) (newtons (pos 257)) (nn_int 0) (newtons_nn 257)))
    (newtons_nn along_middle)

-- of n lashes whose shift errors sum to s
abbrev error : ℚ → ℕ → ℚ
error s n = natℚ 40 *ℚ s +ℚ natℚ n *ℚ cost

one_more : (s t : ℚ) (n : ℕ) → error (s +ℚ t) (suc n) ≡ vertical_error s +ℚ error t n
unfolding cost
one_more s t n =
    ap (λ m. natℚ 40 *ℚ (s +ℚ t) +ℚ m *ℚ cost) (ap natℚ (sym (add-one n)) ∙ int_plus (pos n) (pos 1))
    ∙ go s t (natℚ n) (newtons (pos 257)) (newtons (pos along_middle))
  where
    go :
        (s t n c h : ℚ) →
        natℚ 40 *ℚ (s +ℚ t) +ℚ (n +ℚ natℚ 1) *ℚ (natℚ 40 *ℚ (natℚ 0 +ℚ c) +ℚ h)
        ≡ natℚ 40 *ℚ (s +ℚ c) +ℚ h +ℚ (natℚ 40 *ℚ t +ℚ n *ℚ (natℚ 40 *ℚ (natℚ 0 +ℚ c) +ℚ h))
    go = ∀₅ ℚR _ λ ρ. simp qq (by_ring tt)

-- of each lash: its shift error is small, and it holds no more than the load of the lowest tier
pub record Held (d : List ℕ) (Ds : List Frac) (ls : List Lash) : Type 0 where
  pub small : (j : ℕ) → j < length ls → shift_error_at d Ds (get_or ls j blank_lash) ≤ℚ shift_error_bound
  pub held : (j : ℕ) → j < length ls → mk (lash_force athwart_part ls Ds j) ≤ℚ natℚ most_held

held_rest : {d : List ℕ} {Ds : List Frac} {l : Lash} {ls : List Lash} → Held d Ds (l ∷ ls) → Held d Ds ls
held_rest h = record { small = λ j l. h.small (suc j) (omega arith); held = λ j l. h.held (suc j) (omega arith) }

module _
    (d : List ℕ) (Ds : List Frac) (far : (i : ℕ) → get_or d i 0 ≤ 2 ^ 40)
    {part : Lashing → ℕ → ℕ} {force : Lashing → Frac → Frac} (post : Post part force) (counts : Lash → Bool) where
  -- what a lash adds, found and exact
  abbrev added : Lash → ℕ
  added l = cond (counts l) (part (lashing_of l) (upward d l)) 0

  abbrev addedq : Lash → Frac
  addedq l = given (counts l) (force (lashing_of l) (vertical_part l (shift Ds (level_of l))))

  added_off :
      {n : ℕ} (l : Lash) {ls : List Lash} →
      LashLimits n l →
      Held d Ds (l ∷ ls) →
      Off (vertical_error (shift_error_at d Ds l)) (newtons (pos (added l))) (mk (addedq l))
  added_off l f h =
      let D = shift Ds (level_of l) in
      counted_off (counts l) (part (lashing_of l) (upward d l)) (force (lashing_of l) (vertical_part l D))
      (post.takes (vertical_error (shift_error_at d Ds l)) (upward d l) (vertical_part l D) (lashing_of l)
      (upward_off d l D f (far (level_of l)) (h.small 0 (omega arith)) (h.held 0 (omega arith))))

  all_off :
      {n : ℕ} (ls : List Lash) →
      Each n ls →
      Held d Ds ls →
      Off (error (shift_errors d Ds ls) (length ls)) (newtons (pos (upwards part counts d ls))) (mk (verticals force counts ls Ds))
  unfolding upwards sumq sumℚ
  all_off [] f h =
      nothing_off
      (nn_plus (natℚ 40 *ℚ natℚ 0) (natℚ 0 *ℚ cost) (nn_times (natℚ 40) (natℚ 0) (nn_int 40) (nn_int 0))
      (nn_times (natℚ 0) cost (nn_int 0) cost_nn))
  all_off (l ∷ ls) f h =
      let rest = upwards part counts d ls in
      rw (
        mk_add (addedq l) (verticals force counts ls Ds),
        newtons_add (pos (added l)) (pos rest),
        one_more (shift_error_at d Ds l) (shift_errors d Ds ls) (length ls),
      )
      (off_add (added_off l (each_first f) h) (all_off ls (each_rest f) (held_rest h)))

  pub verticals_off :
      {n : ℕ} (ls : List Lash) →
      Each n ls →
      Held d Ds ls →
      length ls ≤ 8 →
      shift_errors d Ds ls ≤ℚ shift_error_bound →
      Off verticals_error (newtons (pos (upwards part counts d ls))) (mk (verticals force counts ls Ds))
  unfolding cost
  verticals_off ls f h few small =
      off_more
      (go (shift_errors d Ds ls) shift_error_bound (natℚ (length ls)) cost verticals_error small
      (nat_q (length ls) 8 few) cost_nn verticals_room)
      (all_off ls f h)
    where
      go :
          (s b n c e : ℚ) →
          s ≤ℚ b →
          n ≤ℚ natℚ 8 →
          natℚ 0 ≤ℚ c →
          natℚ 40 *ℚ b +ℚ natℚ 8 *ℚ c ≤ℚ e →
          natℚ 40 *ℚ s +ℚ n *ℚ c ≤ℚ e
      go = ∀₅ ℚR _ λ ρ. simp qq λ h l z r. by_cert (num 40 ⊠ to h ⊞ to z ⊠ to l ⊞ to r) tt
