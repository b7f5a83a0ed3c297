-- Lashes chosen from an end's lashes in order are in order, and within the same limits: no choice is refused.
use Prim.Native.Nat.{ℕ, suc, ◌<◌, ◌≤◌, ◌-◌}
use mathlib.Core.Bool.{Bool, true, false, ◌&&◌, ◌||◌}
use mathlib.Core.List.{List}
use mathlib.Core.Logic.{◌⊎◌, inl, inr}
use mathlib.Core.Path.{◌≡◌, refl, sym, ap, ◌∙◌}
use native.Mathlib.Omega.{arith}
use borrow.Author.Tests.{ltb-true, eqb-true, lt-ltb, le-ltb, eq-eqb}
use lib.Dec.{ltb, eqb}
use lib.ListN.{length, get_or, take, replicate, get_or-append}
use lib.Seq.{take_at}
use Rattle.arith.specs.Lists.{padded}
use Rattle.choices.specs.Choices.{chosen}
use Rattle.choices.proofs.Ranked.{Each, Ranked, each_at, each_of, ranked_at, ranked_of}
use Rattle.choices.proofs.Chosen.{few_chosen, each_chosen, ranked_chosen}
use Rattle.sheet.specs.declared.Lash.{Lash}
use Rattle.sheet.specs.declared.Sheet.{Sheet}
use Rattle.sheet.specs.Layout.{lash_fits, blank_lash}
use Rattle.sheet.specs.Refusals.{off_tiers, later}
use Rattle.sheet.specs.Ends.{door, closed}
use Rattle.sheet.specs.Fits.{lash_at, EndFits, Fits, Padded}
use Rattle.sheet.proofs.Bools.{and_true, or_true}
use Rattle.sheet.proofs.RoundTrip.{round_trip}
use Rattle.gear.specs.Gear.{gear_lashes, with_lashes}
use Rattle.gear.specs.Theorems.{AlikeAtBothEnds, NoChoiceRefused, EachChoiceWritten}
use Rattle.gear.proofs.Section.{section_fits}

-- a number, or where two are equal something else, decides: what goes on goes on
abbrev lex : ℕ → ℕ → Bool → Bool
lex x y else = ltb x y || eqb y x && else

lex_on :
    (x y z : ℕ) (p q r : Bool) →
    (p ≡ true → q ≡ true → r ≡ true) →
    lex x y p ≡ true →
    lex y z q ≡ true →
    lex x z r ≡ true
lex_on x y z p q r on e f = go (or_true (ltb x y) _ e) (or_true (ltb y z) _ f)
  where
    below : x < z → lex x z r ≡ true
    below h = rw (lt-ltb x z h) refl

    go :
        (ltb x y ≡ true) ⊎ (eqb y x && p ≡ true) →
        (ltb y z ≡ true) ⊎ (eqb z y && q ≡ true) →
        lex x z r ≡ true
    go (inl a) (inl b) = below (omega (arith, ltb-true x y a, ltb-true y z b))
    go (inl a) (inr b) = below (omega (arith, ltb-true x y a, eqb-true z y (and_true (eqb z y) q b).0))
    go (inr a) (inl b) = below (omega (arith, eqb-true y x (and_true (eqb y x) p a).0, ltb-true y z b))
    go (inr a) (inr b) =
        let k = and_true (eqb y x) p a in
        let l = and_true (eqb z y) q b in
        let same : z ≡ x = eqb-true z y l.0 ∙ eqb-true y x k.0 in
        rw (le-ltb x z (omega (arith, same)), eq-eqb z x same, on k.1 l.1) refl

abbrev Later : Lash → Lash → Type 0
Later a b = later a b ≡ true

later_on : (a b c : Lash) → Later a b → Later b c → Later a c
unfolding later
later_on a b c =
    lex_on a.tier b.tier c.tier _ _ _
    (lex_on a.hook b.hook c.hook _ _ _
    (λ e f. lt-ltb a.kind c.kind (omega (arith, ltb-true a.kind b.kind e, ltb-true b.kind c.kind f))))

-- a lash of a stack of n tiers
record LashFits (n : ℕ) (l : Lash) : Type 0 where
  fits : lash_fits l ≡ true
  placed : off_tiers n l ≡ false

-- an end's lashes by places in its array, and by the list of them
module _ (n : ℕ) (ls : List Lash) where
  abbrev array : List Lash
  array = padded 8 blank_lash ls

  entry : (k : ℕ) → k < length ls → lash_at array k ≡ get_or ls k blank_lash
  entry k h = get_or-append ls (replicate (8 - length ls) blank_lash) blank_lash k h

  module _ (f : EndFits n array (length ls)) where
    each_fits : Each (LashFits n) ls
    each_fits =
        each_of (LashFits n) blank_lash ls
        (λ k h. record { fits = rw (← entry k h) (f.fits k h); placed = rw (← entry k h) (f.placed k h) })

    all_later : Ranked Later ls
    all_later =
        ranked_of Later blank_lash later_on ls
        (λ k h. rw (← entry k (omega (arith, h)), ← entry (suc k) h) (f.ordered k h))

  ends_fit : length ls ≤ 8 → Each (LashFits n) ls → Ranked Later ls → EndFits n array (length ls)
  ends_fit few each all =
      record {
        few = few;
        fits = λ k h. rw (entry k h) (each_at (LashFits n) blank_lash ls each k h).fits;
        placed = λ k h. rw (entry k h) (each_at (LashFits n) blank_lash ls each k h).placed;
        ordered =
            λ k h.
            rw (entry k (omega (arith, h)), entry (suc k) h) (ranked_at Later blank_lash ls all k (suc k) (omega arith) h);
      }

-- a subset of an end's lashes in order is in order
pub chosen_fit :
    (n : ℕ) (ls : List Lash) (c : ℕ) →
    EndFits n (padded 8 blank_lash ls) (length ls) →
    EndFits n (padded 8 blank_lash (chosen c ls)) (length (chosen c ls))
chosen_fit n ls c f =
    ends_fit n (chosen c ls) (omega (arith, few_chosen c ls, f.few)) (each_chosen (LashFits n) c ls (each_fits n ls f))
    (ranked_chosen Later c ls (all_later n ls f))

-- a sheet within its limits is so with other lashes that are, at both ends
pub with_lashes_fit :
    {t : Sheet} →
    Fits t →
    (ls : List Lash) →
    EndFits t.ntiers (padded 8 blank_lash ls) (length ls) →
    Fits (with_lashes ls t)
with_lashes_fit f ls e =
    record {
      rule = f.rule;
      zero = f.zero;
      route = f.route;
      lock = f.lock;
      breaking = f.breaking;
      some = f.some;
      few = f.few;
      tiers = f.tiers;
      sizes = f.sizes;
      door = e;
      closed = e;
    }

-- the array of an end with lashes ls, taken to their number, is ls
pub as_put : (ls : List Lash) → take (length ls) (padded 8 blank_lash ls) ≡ ls
as_put ls = take_at ls (replicate (8 - length ls) blank_lash) (length ls) refl

pub alike_at_both_ends : AlikeAtBothEnds
alike_at_both_ends t ls door = as_put ls
alike_at_both_ends t ls closed = as_put ls

pub with_lashes_padded : {t : Sheet} → Padded t → (ls : List Lash) → Padded (with_lashes ls t)
with_lashes_padded p ls = record { tiers = p.tiers; door = blanks; closed = blanks }
  where
    blanks : padded 8 blank_lash ls ≡ padded 8 blank_lash (take (length ls) (padded 8 blank_lash ls))
    blanks = ap {B = List Lash} (padded 8 blank_lash) (sym (as_put ls))

pub no_choice_refused : NoChoiceRefused
no_choice_refused t g c f e =
    with_lashes_fit f (chosen c (gear_lashes g)) (chosen_fit t.ntiers (gear_lashes g) c (section_fits t.ntiers g e))

pub each_choice_written : EachChoiceWritten
each_choice_written t g c f p e =
    round_trip (with_lashes (chosen c (gear_lashes g)) t) (no_choice_refused t g c f e) (with_lashes_padded p (chosen c (gear_lashes g)))
