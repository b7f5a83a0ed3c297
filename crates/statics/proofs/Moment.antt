-- The moment of document 01 at a level, of F, P and athwart lash parts by their heights over it, is the sum of height × racking of the
-- tiers above.
use mathlib.Core.Path.{◌≡◌, refl, sym, ap, ap₂, fun_ext, ◌∙◌}
use mathlib.Core.Bool.{Bool, true, false}
use mathlib.Core.List.{List, [], ◌∷◌}
use Prim.Native.Nat.{ℕ, zero, suc, ◌+◌, ◌<◌}
use native.Mathlib.Omega.{arith}
use lib.Dec.{leb, ltb}
use lib.ListN.{drop, length, length-drop}
use lib.Seq.{get_or-drop}
use Rattle.sheet.specs.Lashings.{level_of}
use Rattle.arith.specs.Fractions.{Frac, nat, ◌+q◌, ◌-q◌, ◌*q◌, sumq}
use Rattle.arith.proofs.Rationals.{ℚ, mk, int, ◌+ℚ◌, ◌-ℚ◌, ◌*ℚ◌, negℚ}
use Rattle.arith.proofs.FractionsInRationals.{sumℚ, mk_sum, mk_sub, mk_add, mk_mul, to-≈, of-≈}
use Rattle.springs.specs.Equations as S
use Rattle.springs.specs.Equations.{given, shift}
use Rattle.springs.proofs.Chain.{natℚ}
use Rattle.springs.proofs.Lashes.{givenℚ}
use Rattle.sheet.specs.declared.Tier.{Tier}
use Rattle.sheet.specs.declared.Lash.{Lash}
use Rattle.statics.specs.Loads.{half, transverse, wind, load, Rule}
use Rattle.statics.specs.Lashes.{athwart_part}
use Rattle.statics.specs.Ends.{chain_tiers, chain_lash, chain_lashes}
use Rattle.sheet.specs.Ends.{End}
use Rattle.statics.specs.Theorems.{racking_moment, MomentByRackings}
use Rattle.statics.specs.Posts.{level_height, turning, athwart_of, moment}
use Rattle.statics.proofs.EndChain.{chain_length}
use Rattle.statics.proofs.LashForces.{athwart_is}
use Rattle.statics.proofs.Arms.{Q, held, turns, racked, turned_back, balance}

mk_given : (b : Bool) (x : Frac) → mk (given b x) ≡ givenℚ b (mk x)
unfolding int
mk_given true x = refl
mk_given false x = refl

module _ (rule : Rule) (Ds : List Frac) where
  F : Tier → ℚ
  F t = mk (transverse rule.factor t)

  P : Tier → ℚ
  P t = mk (wind t)

  athwart : Lash → ℚ
  athwart l = mk (athwart_of Ds l)

  -- document 01's sums in ℚ
  turning_q :
      (foot : Frac) (ts : List Tier) → mk (turning rule foot ts) ≡ turns F P athwart (mk rule.share) (mk half) (mk foot) ts
  unfolding turning turns F P ◌+ℚ◌ ◌*ℚ◌ int
  turning_q foot [] = refl
  turning_q foot (t ∷ above) =
      let own = transverse rule.factor t *q (foot +q rule.share *q nat t.height) +q wind t *q (foot +q half *q nat t.height) in
      ap (λ y. mk own +ℚ y) (turning_q (foot +q nat t.height) above)

  lash_moment : List Tier → ℕ → Lash → Frac
  lash_moment ts i l =
      given (ltb i (level_of l)) (athwart_of Ds l *q (nat (level_height ts (level_of l)) -q nat (level_height ts i)))

  turned_q :
      (ts : List Tier) (i : ℕ) (l : Lash) →
      mk (lash_moment ts i l)
      ≡ givenℚ (ltb i (level_of l)) (athwart l *ℚ (natℚ (level_height ts (level_of l)) -ℚ natℚ (level_height ts i)))
  unfolding lash_moment athwart int ◌+ℚ◌ ◌*ℚ◌ negℚ
  turned_q ts i l =
      mk_given (ltb i (level_of l)) (athwart_of Ds l *q (nat (level_height ts (level_of l)) -q nat (level_height ts i)))

  moment_q :
      (ts : List Tier) (ls : List Lash) (i : ℕ) →
      mk (moment rule ts ls Ds i)
      ≡ turns F P athwart (mk rule.share) (mk half) (natℚ 0) (drop i ts) -ℚ turned_back F P athwart (mk rule.share) (mk half) ls ts i
  unfolding moment turned_back lash_moment int
  moment_q ts ls i =
      mk_sub (turning rule (nat 0) (drop i ts)) (sumq (lash_moment ts i) ls)
      ∙ ap₂ ◌-ℚ◌ (turning_q (nat 0) (drop i ts)) (mk_sum (lash_moment ts i) ls ∙ ap (λ f. sumℚ f ls) (fun_ext (turned_q ts i)))

  load_q : (t : Tier) (above : List Tier) → mk (load rule t above) ≡ Q F P athwart (mk rule.share) (mk half) t above
  unfolding load Q F P ◌+ℚ◌ ◌*ℚ◌
  load_q t above =
      ap (λ y. mk (rule.share *q transverse rule.factor t +q half *q wind t) +ℚ y)
      (mk_sum (λ u. transverse rule.factor u +q wind u) above)

  held_q : (ls : List Lash) (i : ℕ) → mk (S.athwart_from (chain_lashes ls) Ds i) ≡ held F P athwart (mk rule.share) (mk half) ls i
  unfolding held athwart sumq sumℚ chain_lash int
  held_q [] i = refl
  held_q (l ∷ ls) i =
      let D = shift Ds (level_of l) in
      let k = athwart_part l (nat 1) in
      let b = leb i (level_of l) in
      mk_add (given b (k *q D)) (S.athwart_from (chain_lashes ls) Ds i)
      ∙ ap₂ ◌+ℚ◌ (mk_given b (k *q D) ∙ ap (givenℚ b) (mk_mul k D ∙ sym (athwart_is l D))) (held_q ls i)

  -- the rackings R balance the tiers from number i + 1 on
  module _ (e : End) (ls : List Lash) (R : ℕ → Frac) where
    Balanced : List Tier → ℕ → Type 0
    Balanced ts i =
        (j k : ℕ) →
        i + j ≡ k →
        j < length ts →
        mk (R k) ≡ mk ((S.tier_at (chain_tiers rule e ts) j).Q -q S.athwart_from (chain_lashes ls) Ds (suc k))

    racked_q :
        (ts : List Tier) (i : ℕ) →
        Balanced ts i →
        racked F P athwart (mk rule.share) (mk half) ls ts i ≡ mk (racking_moment R ts i)
    unfolding Balanced racked racking_moment chain_tiers int
    racked_q [] i b = refl
    racked_q (t ∷ ts) i b =
        let h = nat t.height in
        let A = S.athwart_from (chain_lashes ls) Ds (suc i) in
        let rest = racking_moment R ts (suc i) in
        let own = b 0 i (omega arith) (omega arith) ∙ mk_sub (load rule t ts) A ∙ ap₂ ◌-ℚ◌ (load_q t ts) (held_q ls (suc i)) in
        ap₂ (λ x y. natℚ t.height *ℚ x +ℚ y) (sym own) (racked_q ts (suc i) (λ j k e h. b (suc j) k (omega arith) (omega arith)))
        ∙ sym (mk_add (h *q R i) rest ∙ ap (λ y. y +ℚ mk rest) (mk_mul h (R i)))

module _ (rule : Rule) (e : End) where
  chain_drop : (i : ℕ) (ts : List Tier) → chain_tiers rule e (drop i ts) ≡ drop i (chain_tiers rule e ts)
  unfolding chain_tiers
  chain_drop zero ts = refl
  chain_drop (suc i) [] = refl
  chain_drop (suc i) (t ∷ ts) = chain_drop i ts

  module _
      (ts : List Tier) (ls : List Lash) (Ds : List Frac) (s : S.Solves (chain_tiers rule e ts) (chain_lashes ls) Ds) (i : ℕ) where
    abbrev chain : List S.Tier
    chain = chain_tiers rule e ts

    above : Balanced rule Ds e ls (S.racking chain Ds) (drop i ts) i
    unfolding Balanced
    above j k h l =
        of-≈ (S.racking chain Ds k) ((S.tier_at chain k).Q -q S.athwart_from (chain_lashes ls) Ds (suc k)) (s.balance k inside)
        ∙ ap (λ (t : S.Tier). mk (t.Q -q S.athwart_from (chain_lashes ls) Ds (suc k))) (sym here)
      where
        inside : k < length chain
        inside = rw (chain_length rule e ts) (omega (arith, rw length-drop at l))

        here : S.tier_at (chain_tiers rule e (drop i ts)) j ≡ S.tier_at chain k
        here = ap (λ c. S.tier_at c j) (chain_drop i ts) ∙ get_or-drop i chain j S.no_tier ∙ ap (S.tier_at chain) h

    -- M of a level, at any solution of an end's equations and for any share
    pub moment_is : MomentByRackings rule e ts ls Ds i
    moment_is =
        to-≈ (moment rule ts ls Ds i) (racking_moment (S.racking chain Ds) (drop i ts) i)
        (moment_q rule Ds ts ls i
        ∙ balance (F rule Ds) (P rule Ds) (athwart rule Ds) (mk rule.share) (mk half) i ts ls
        ∙ racked_q rule Ds e ls (S.racking chain Ds) (drop i ts) i above)
