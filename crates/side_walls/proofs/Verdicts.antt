-- What the verdict says of reported rackings and of exact ones, and the share by the rule number.
use Prim.Native.Nat.{ℕ, zero, suc, ◌+◌, ◌<◌, ◌≤◌}
use mathlib.Core.Bool.{Bool, true, false, cond, ◌||◌, false≢true}
use mathlib.Core.List.{List}
use mathlib.Core.Path.{◌≡◌, refl, sym, ap, ◌∙◌}
use native.Mathlib.Decide.{ℕ_discrete}
use native.Mathlib.Omega.{arith}
use borrow.Author.Tests.{ltb-true, ltb-false, le-ltb}
use lib.Dec.{leb→le}
use lib.IntN.{pos}
use Rattle.arith.specs.Fractions.{nat, ◌⊑◌, ◌⊏◌}
use Rattle.arith.specs.Lists.{from, below}
use Rattle.arith.proofs.Rationals.{mk, of-⊑, to-⊑}
use Rattle.arith.proofs.RationalOrder.{≤ℚ-trans, lt_of, nat_q}
use Rattle.arith.proofs.FractionsInRationals.{mk_int, to-⊏}
use Rattle.sheet.specs.declared.Sheet.{Sheet}
use Rattle.sheet.specs.Layout.{◌above◌}
use Rattle.sheet.proofs.Bools.{or_false}
use Rattle.side_walls.specs.SideWalls.{side_racking, reported_racking, side_limit, any_of, side_verdict}
use Rattle.side_walls.specs.Theorems.{AllByRule, Exceeded, AllJudged}
use Rattle.side_walls.proofs.Exact.{reports}

-- a number of a list of numbers one behind another, for which a test holds
record Found (f : ℕ → Bool) (i left : ℕ) : Type 0 where
  at : ℕ
  least : i ≤ at
  most : at < i + left
  holds : f at ≡ true

none_holds :
    (f : ℕ → Bool) (i left : ℕ) → any_of f (from i left) ≡ false → (j : ℕ) → i ≤ j → j < i + left → f j ≡ false
unfolding any_of from
none_holds f i zero e j l h = absurd (omega (arith, l, h))
none_holds f i (suc left) e j l h =
    let p = or_false (f i) (any_of f (from (suc i) left)) e in
    elim (ℕ_discrete i j) [
      | yes q ↦ ap f (sym q) ∙ p.0
      | no q ↦ none_holds f (suc i) left p.1 j (omega arith) (omega arith)
    ]

all_fail : (f : ℕ → Bool) (i left : ℕ) → ((j : ℕ) → i ≤ j → j < i + left → f j ≡ false) → any_of f (from i left) ≡ false
unfolding any_of from
all_fail f i zero h = refl
all_fail f i (suc left) h =
    rw (h i (omega arith) (omega arith)) (all_fail f (suc i) left (λ j l m. h j (omega arith) (omega arith)))

some_holds : (f : ℕ → Bool) (i left : ℕ) → any_of f (from i left) ≡ true → Found f i left
unfolding any_of from
some_holds f i zero e = absurd (false≢true e)
some_holds f i (suc left) e = go (f i) refl e (some_holds f (suc i) left)
  where
    go :
        (b : Bool) →
        f i ≡ b →
        (b || any_of f (from (suc i) left)) ≡ true →
        (any_of f (from (suc i) left) ≡ true → Found f (suc i) left) →
        Found f i (suc left)
    go true is e later = record { at = i; least = omega arith; most = omega arith; holds = is }
    go false is e later =
        let r = later e in
        record { at = r.at; least = omega (arith, r.least); most = omega (arith, r.most); holds = r.holds }

module _ (t : Sheet) (p : List ℕ) where
  abbrev over : ℕ → Bool
  over i = reported_racking t p i above side_limit

  -- a racking beside the limit, which is a whole number
  exact_within : (i : ℕ) → reported_racking t p i ≤ side_limit → side_racking t p i ⊑ nat side_limit
  exact_within i h =
      let r = reported_racking t p i in
      to-⊑ (side_racking t p i) (nat side_limit)
      (≤ℚ-trans (mk (side_racking t p i)) (mk (nat r)) (mk (nat side_limit))
      (of-⊑ (side_racking t p i) (nat r) (reports t p i).racking.not_below)
      (rw (mk_int (pos r), mk_int (pos side_limit)) (nat_q r side_limit h)))

  exact_above : (i : ℕ) → side_limit < reported_racking t p i → nat side_limit ⊏ side_racking t p i
  exact_above i h =
      to-⊏ (nat side_limit) (side_racking t p i)
      (lt_of (mk (nat side_limit)) (mk (side_racking t p i))
      (λ k. clash (leb→le _ _ ((reports t p i).racking.least (pos side_limit) (to-⊑ (side_racking t p i) (nat side_limit) k)).le)))
    where
      clash : reported_racking t p i ≤ side_limit → ⊥
      clash k = omega arith

  judged : (b : Bool) → any_of over (below t.ntiers) ≡ b → side_verdict t p ≡ cond b 1 0
  unfolding side_verdict
  judged b e = rw e refl

  within_all : any_of over (below t.ntiers) ≡ false → (i : ℕ) → i < t.ntiers → reported_racking t p i ≤ side_limit
  within_all e i h = ltb-false side_limit (reported_racking t p i) (none_holds over 0 t.ntiers e i (omega arith) (omega arith))

  none_over : side_verdict t p ≡ 0 → any_of over (below t.ntiers) ≡ false
  none_over e = go (any_of over (below t.ntiers)) refl
    where
      go : (b : Bool) → any_of over (below t.ntiers) ≡ b → b ≡ false
      go true q = absurd (omega (arith, sym e ∙ judged true q))
      go false q = refl

  pub found : ¬ (side_verdict t p ≡ 0) → (side_verdict t p ≡ 1) × Exceeded t p
  found ne = go (any_of over (below t.ntiers)) refl
    where
      go : (b : Bool) → any_of over (below t.ntiers) ≡ b → (side_verdict t p ≡ 1) × Exceeded t p
      go false q = absurd (ne (judged false q))
      go true q =
          let r = some_holds over 0 t.ntiers q in (
            judged true q,
            record {
              tier = r.at;
              stacked = omega (arith, r.most);
              above = exact_above r.at (ltb-true side_limit (reported_racking t p r.at) r.holds);
            },
          )

pub all_judged : AllJudged
all_judged t p =
    record {
      reported = λ e. within_all t p (none_over t p e);
      none =
          λ h.
          judged t p false
          (all_fail (over t p) 0 t.ntiers (λ i l m. le-ltb side_limit (reported_racking t p i) (h i (omega arith))));
      exact = λ e i h. exact_within t p i (within_all t p (none_over t p e) i h);
      exceeded = found t p;
    }

pub all_by_rule : AllByRule
unfolding side_racking
all_by_rule t p i = record { class_rule = λ e. rw e refl; fleet = λ e. rw e refl }
