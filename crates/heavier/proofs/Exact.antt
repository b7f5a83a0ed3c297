-- Exact: under heavier boxes no level of an end shifts less, so no lash of it pulls less.
use mathlib.Core.Bool.{true, false≢true}
use mathlib.Core.List.{List}
use mathlib.Core.Path.{◌≡◌, refl, ap, subst}
use Prim.Native.Nat.{ℕ, ◌*◌, ◌<◌}
use native.Mathlib.Decide.{dec_lt}
use native.Mathlib.Omega.{arith}
use lib.ListN.{get_or, length-take, get_or-eq_default}
use lib.Seq.{get_or-take}
use Rattle.arith.specs.Fractions.{Frac, nat, recip, ◌*q◌, ◌/q◌, ◌≈◌, ◌⊑◌}
use Rattle.arith.proofs.FractionLaws.{≈-refl, ⊑_trans, *q-mono, *q-comm, ≈⊑, nn-*q, nn_intq, recip_nnq}
use Rattle.springs.specs.Equations as S
use Rattle.springs.specs.Equations.{shift}
use Rattle.springs.specs.Theorems as G
use Rattle.springs.proofs.Growth.{growth}
use Rattle.sheet.specs.declared.Tier.{Tier}
use Rattle.sheet.specs.declared.Lash.{Lash}
use Rattle.sheet.specs.declared.Sheet.{Sheet}
use Rattle.sheet.specs.Layout.{blank_tier, blank_lash}
use Rattle.sheet.specs.Lashings.{level_of}
use Rattle.sheet.specs.Ends.{End, door, closed, tiers_of, lashes_of}
use Rattle.sheet.specs.Fits.{Fits}
use Rattle.sheet.proofs.SheetLimits.{sheet_limits}
use Rattle.statics.specs.Loads.{Rule}
use Rattle.statics.specs.Lashes.{lash_length, pull, athwart_part, vertical_part}
use Rattle.statics.specs.Ends.{spring_of, chain_lashes, end_tiers, end_lashes, EndSolved}
use Rattle.statics.specs.Forces.{Force, racking, compression, tension, lash_tension, lash_athwart, lash_vertical, lash_force, exact_force}
use Rattle.statics.specs.Theorems.{Proper, HeavierTier, HeavierTiers}
use Rattle.statics.proofs.EndChain.{end_length, end_spring, end_stiff}
use Rattle.statics.proofs.LoadsGrow.{loads_grow}
use Rattle.heavier.specs.Heavier.{HeavierSheet, of_lash}
use Rattle.heavier.specs.Theorems.{ExactForces}

module _ {t u : Sheet} (h : HeavierSheet t u) where
  pub count_same : u.ntiers ≡ t.ntiers
  count_same = ap (λ (x : Sheet). x.ntiers) h.same

  pub lashes_same : (e : End) → lashes_of e u ≡ lashes_of e t
  lashes_same door = ap (λ (x : Sheet). lashes_of door x) h.same
  lashes_same closed = ap (λ (x : Sheet). lashes_of closed x) h.same

  -- tier by tier; behind the last, both are blank
  tiers_heavier : HeavierTiers (tiers_of t) (tiers_of u)
  tiers_heavier i = at (dec_lt i t.ntiers)
    where
      past : (x : Sheet) → ¬ (i < t.ntiers) → x.ntiers ≡ t.ntiers → get_or (tiers_of x) i blank_tier ≡ blank_tier
      past x n e = get_or-eq_default (tiers_of x) blank_tier (omega (arith, n, e, length-take x.ntiers x.tiers))

      at : Dec (i < t.ntiers) → HeavierTier (get_or (tiers_of t) i blank_tier) (get_or (tiers_of u) i blank_tier)
      at (yes l) =
          rw (get_or-take t.ntiers t.tiers i blank_tier l, get_or-take u.ntiers u.tiers i blank_tier (omega (arith, l, count_same)))
          (h.tiers i l)
      at (no n) = rw (past t n refl, past u n count_same) (record { same = refl; mass = omega arith })

  spring_same : (e : End) {p q : Tier} → HeavierTier p q → spring_of e q ≡ spring_of e p
  spring_same door g = ap (λ (x : Tier). spring_of door x) g.same
  spring_same closed g = ap (λ (x : Tier). spring_of closed x) g.same

  -- the chains of an end: the same springs and lashes, and no level's load is less
  module _ (rule : Rule) (p : Proper rule) (f : Fits t) (g : Fits u) (e : End) where
    heavier : G.Heavier (end_tiers rule e t) (end_tiers rule e u)
    heavier =
        let tall = end_length rule e t (sheet_limits f) in
        let tallᵤ = end_length rule e u (sheet_limits g) in
        record {
          tiers = omega (arith, tall, tallᵤ, count_same);
          springs = λ i l. springs i (omega (arith, l, tall));
          loads = λ i _. loads_grow rule p e (tiers_of t) (tiers_of u) tiers_heavier i;
        }
      where
        springs : (i : ℕ) → i < t.ntiers → (S.tier_at (end_tiers rule e u) i).K ≈ (S.tier_at (end_tiers rule e t) i).K
        springs i l =
            rw (
              end_spring rule e t (sheet_limits f) i l,
              end_spring rule e u (sheet_limits g) i (omega (arith, l, count_same)),
              spring_same e (tiers_heavier i),
            )
            (≈-refl (nat (spring_of e (get_or (tiers_of t) i blank_tier))))

    pub shifts_grow : (Ds Es : List Frac) → EndSolved rule e t Ds → EndSolved rule e u Es → (i : ℕ) → shift Ds i ⊑ shift Es i
    shifts_grow Ds Es s r =
        growth (end_tiers rule e t) (end_tiers rule e u) (end_lashes e t) Ds Es (end_stiff rule e t (sheet_limits f)) heavier s.solves
        (subst (λ (ls : List Lash). S.Solves (end_tiers rule e u) (chain_lashes ls) Es) (lashes_same e) r.solves)

-- a lash's forces grow with the shift
times_grows : (x y z : Frac) → nat 0 ⊑ z → x ⊑ y → z *q x ⊑ z *q y
times_grows x y z n h =
    ⊑_trans (z *q x) (x *q z) (z *q y) (≈⊑ (z *q x) (x *q z) (*q-comm z x))
    (⊑_trans (x *q z) (y *q z) (z *q y) (*q-mono x y z n h) (≈⊑ (y *q z) (z *q y) (*q-comm y z)))

module _ (l : Lash) where
  pub pull_grows : (D E : Frac) → D ⊑ E → pull l D ⊑ pull l E
  unfolding pull
  pull_grows D E h =
      let a = nat l.modulus in
      let b = nat l.area in
      let c = nat l.ly in
      let d = nat (lash_length l * lash_length l) in
      *q-mono (a *q b *q c *q D) (a *q b *q c *q E) (recip d) (recip_nnq d)
      (times_grows D E (a *q b *q c) (nn-*q (a *q b) c (nn-*q a b (nn_intq l.modulus) (nn_intq l.area)) (nn_intq l.ly)) h)

  part_grows : (side : ℕ) (D E : Frac) → D ⊑ E → pull l D *q nat side /q nat (lash_length l) ⊑ pull l E *q nat side /q nat (lash_length l)
  part_grows side D E h =
      let d = nat (lash_length l) in
      *q-mono (pull l D *q nat side) (pull l E *q nat side) (recip d) (recip_nnq d)
      (*q-mono (pull l D) (pull l E) (nat side) (nn_intq side) (pull_grows D E h))

  athwart_grows : (D E : Frac) → D ⊑ E → athwart_part l D ⊑ athwart_part l E
  unfolding athwart_part
  athwart_grows = part_grows l.ly

  vertical_grows : (D E : Frac) → D ⊑ E → vertical_part l D ⊑ vertical_part l E
  unfolding vertical_part
  vertical_grows = part_grows l.lz

-- and none is below zero where no shift is
part_leeward : (x : Frac) (side d : ℕ) → nat 0 ⊑ x → nat 0 ⊑ x *q nat side /q nat d
part_leeward x side d h = nn-*q (x *q nat side) (recip (nat d)) (nn-*q x (nat side) h (nn_intq side)) (recip_nnq (nat d))

pull_leeward : (l : Lash) (D : Frac) → nat 0 ⊑ D → nat 0 ⊑ pull l D
unfolding pull
pull_leeward l D h =
    let a = nat l.modulus in
    let b = nat l.area in
    let c = nat l.ly in
    let d = nat (lash_length l * lash_length l) in
    nn-*q (a *q b *q c *q D) (recip d)
    (nn-*q (a *q b *q c) D (nn-*q (a *q b) c (nn-*q a b (nn_intq l.modulus) (nn_intq l.area)) (nn_intq l.ly)) h) (recip_nnq d)

athwart_leeward : (l : Lash) (D : Frac) → nat 0 ⊑ D → nat 0 ⊑ athwart_part l D
unfolding athwart_part
athwart_leeward l D h = part_leeward (pull l D) l.ly (lash_length l) (pull_leeward l D h)

vertical_leeward : (l : Lash) (D : Frac) → nat 0 ⊑ D → nat 0 ⊑ vertical_part l D
unfolding vertical_part
vertical_leeward l D h = part_leeward (pull l D) l.lz (lash_length l) (pull_leeward l D h)

pub forces_leeward :
    (rule : Rule) (e : End) (t : Sheet) (Ds : List Frac) →
    ((i : ℕ) → nat 0 ⊑ shift Ds i) →
    (x : Force) →
    of_lash x ≡ true →
    (j : ℕ) →
    nat 0 ⊑ exact_force x rule e t Ds j
forces_leeward rule e t Ds h racking q j = absurd (false≢true q)
forces_leeward rule e t Ds h compression q j = absurd (false≢true q)
forces_leeward rule e t Ds h tension q j = absurd (false≢true q)
forces_leeward rule e t Ds h lash_tension q j = pull_leeward (get_or (lashes_of e t) j blank_lash) _ (h _)
forces_leeward rule e t Ds h lash_athwart q j = athwart_leeward (get_or (lashes_of e t) j blank_lash) _ (h _)
forces_leeward rule e t Ds h lash_vertical q j = vertical_leeward (get_or (lashes_of e t) j blank_lash) _ (h _)

pub forces_grow :
    (rule : Rule) (e : End) {t u : Sheet} →
    HeavierSheet t u →
    (Ds Es : List Frac) →
    ((i : ℕ) → shift Ds i ⊑ shift Es i) →
    (x : Force) →
    of_lash x ≡ true →
    (j : ℕ) →
    exact_force x rule e t Ds j ⊑ exact_force x rule e u Es j
forces_grow rule e {t} {u} h Ds Es grow x of j = at x of
  where
    each : (force : Lash → Frac → Frac) → ((l : Lash) (D E : Frac) → D ⊑ E → force l D ⊑ force l E) →
        lash_force force (lashes_of e t) Ds j ⊑ lash_force force (lashes_of e u) Es j
    each force grows =
        rw (lashes_same h e)
        (grows (get_or (lashes_of e t) j blank_lash) _ _ (grow (level_of (get_or (lashes_of e t) j blank_lash))))

    at : (x : Force) → of_lash x ≡ true → exact_force x rule e t Ds j ⊑ exact_force x rule e u Es j
    at racking q = absurd (false≢true q)
    at compression q = absurd (false≢true q)
    at tension q = absurd (false≢true q)
    at lash_tension q = each pull pull_grows
    at lash_athwart q = each athwart_part athwart_grows
    at lash_vertical q = each vertical_part vertical_grows

pub exact : ExactForces
exact rule p t u f g h e Ds Es s r =
    let grow = shifts_grow h rule p f g e Ds Es s r in
    record { shifts = grow; forces = forces_grow rule e h Ds Es grow }
