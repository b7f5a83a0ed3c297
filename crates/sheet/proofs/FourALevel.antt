-- At an end within its limits at most four lashes hook at one level and two at the top level: a level has a top hook of the tier under it
-- and a bottom hook of the tier over it, each of two kinds, and the order of the lashes lets none stand twice.
use Prim.Native.Nat.{ℕ, zero, suc, ◌+◌, ◌*◌, ◌-◌, ◌<◌, ◌≤◌}
use mathlib.Core.Bool.{Bool, true, false, cond, ◌&&◌, ◌||◌}
use mathlib.Core.List.{List, [], ◌∷◌, map}
use mathlib.Core.Logic.{◌⊎◌, inl, inr}
use mathlib.Core.Path.{◌≡◌, refl, sym, ◌∙◌}
use native.Mathlib.Omega.{arith}
use borrow.Author.Tests.{ltb-true, eqb-true, eq-eqb, ne_eqb}
use lib.Dec.{ltb, eqb}
use lib.ListN.{length, take}
use Rattle.sheet.specs.declared.Lash.{Lash}
use Rattle.sheet.specs.Refusals.{later}
use Rattle.sheet.specs.Lashings.{level_of}
use Rattle.sheet.specs.Inner.Limits.{at_level, LashLimits}
use Rattle.sheet.specs.Fits.{EndFits, lash_at}
use Rattle.sheet.proofs.Bools.{and_true, or_true}
use Rattle.sheet.proofs.Limits.{lash_limits, code, level_top, level_bottom}

-- tier, then hook, then kind, as one number
abbrev key : Lash → ℕ
key l = 4 * l.tier + 2 * l.hook + l.kind

-- 1 where two numbers are equal, else 0; how often a number stands in a list
unfoldable match : ℕ → ℕ → ℕ
match a b = cond (eqb a b) 1 0

unfoldable count : ℕ → List ℕ → ℕ
count a [] = 0
count a (b ∷ bs) = match a b + count a bs

same_counts : (a b : ℕ) → a ≡ b → match a b ≡ 1
unfolding match
same_counts a b e = simp (eq-eqb a b e)

other_counts : (a b : ℕ) → a < b → match a b ≡ 0
unfolding match
other_counts a b h = simp (ne_eqb a b (λ e. omega (arith, h, e)))

-- each number of the list is at least m, and above the one before it
abbrev Rising : ℕ → List ℕ → Type 0
Rising m [] = Unit {0}
Rising m (b ∷ bs) = (m ≤ b) × Rising (suc b) bs

none : (a m : ℕ) (bs : List ℕ) → a < m → Rising m bs → count a bs ≡ 0
unfolding count
none a m [] h r = refl
none a m (b ∷ bs) h r = omega (arith, other_counts a b (omega (arith, r.0)), none a (suc b) bs (omega (arith, r.0)) r.1)

once : (a m : ℕ) (bs : List ℕ) → Rising m bs → count a bs ≤ 1
unfolding count match
once a m [] r = omega arith
once a m (b ∷ bs) r = go (eqb a b) refl (once a (suc b) bs r.1)
  where
    go : (t : Bool) → eqb a b ≡ t → count a bs ≤ 1 → cond t 1 0 + count a bs ≤ 1
    go true e h = omega (arith, none a (suc b) bs (omega (arith, eqb-true a b e)) r.1)
    go false e h = omega (arith, h)

-- how often the numbers of W stand in a list: at most once each where the list rises
unfoldable counts : List ℕ → List ℕ → ℕ
counts [] bs = 0
counts (a ∷ W) bs = count a bs + counts W bs

counts_rising : (W : List ℕ) (m : ℕ) (bs : List ℕ) → Rising m bs → counts W bs ≤ length W
unfolding counts
counts_rising [] m bs r = omega arith
counts_rising (a ∷ W) m bs r = omega (arith, once a m bs r, counts_rising W m bs r)

counts_more : (W : List ℕ) (b : ℕ) (bs : List ℕ) → counts W (b ∷ bs) ≡ counts W (b ∷ []) + counts W bs
unfolding counts count
counts_more [] b bs = refl
counts_more (a ∷ W) b bs = omega (arith, counts_more W b bs)

-- a later lash has the greater key
later_key : {n : ℕ} (a b : Lash) → LashLimits n a → LashLimits n b → later a b ≡ true → key a < key b
unfolding later
later_key a b p q e = by_tier (or_true (ltb a.tier b.tier) _ e)
  where
    by_kind : (eqb b.hook a.hook && ltb a.kind b.kind ≡ true) → b.tier ≡ a.tier → key a < key b
    by_kind r t =
        let z = and_true (eqb b.hook a.hook) (ltb a.kind b.kind) r in
        omega (arith, eqb-true b.hook a.hook z.0, ltb-true a.kind b.kind z.1, t)

    by_hook :
        (ltb a.hook b.hook ≡ true) ⊎ (eqb b.hook a.hook && ltb a.kind b.kind ≡ true) →
        b.tier ≡ a.tier →
        key a < key b
    by_hook (inl r) t = omega (arith, ltb-true a.hook b.hook r, t, p.kind)
    by_hook (inr r) t = by_kind r t

    by_tier :
        (ltb a.tier b.tier ≡ true)
        ⊎ (eqb b.tier a.tier && (ltb a.hook b.hook || eqb b.hook a.hook && ltb a.kind b.kind) ≡ true) →
        key a < key b
    by_tier (inl r) = omega (arith, ltb-true a.tier b.tier r, p.hook, p.kind)
    by_tier (inr r) =
        let z = and_true (eqb b.tier a.tier) _ r in
        by_hook (or_true (ltb a.hook b.hook) _ z.1) (eqb-true b.tier a.tier z.0)

-- what holds of each of the first c lashes
abbrev Each : (Lash → Type 0) → List Lash → ℕ → Type 0
Each P ls c = (k : ℕ) → k < c → P (lash_at ls k)

keys_rise :
    {n : ℕ} (ls : List Lash) (c m : ℕ) →
    Each (LashLimits n) ls c →
    ((k : ℕ) → suc k < c → later (lash_at ls k) (lash_at ls (suc k)) ≡ true) →
    (0 < c → m ≤ key (lash_at ls 0)) →
    Rising m (map key (take c ls))
keys_rise ls zero m f o h = tt
keys_rise [] (suc c) m f o h = tt
keys_rise (l ∷ ls) (suc c) m f o h = (
  h (omega arith),
  keys_rise ls c (suc (key l)) (λ k q. f (suc k) (omega (arith, q))) (λ k q. o (suc k) (omega (arith, q)))
      (λ q. later_key l (lash_at ls 0) (f 0 (omega arith)) (f 1 (omega (arith, q))) (o 0 (omega (arith, q)))),
)

-- where each lash at level i has a key of W, there are at most as many as the keys in a list
within_keys :
    (i : ℕ) (W : List ℕ) (ls : List Lash) (c : ℕ) →
    Each (λ l. level_of l ≡ i → 1 ≤ counts W (key l ∷ [])) ls c →
    at_level i (take c ls) ≤ counts W (map key (take c ls))
unfolding at_level
within_keys i W ls zero f = omega arith
within_keys i W [] (suc c) f = omega arith
within_keys i W (l ∷ ls) (suc c) f =
    rw (counts_more W (key l) (map key (take c ls)))
    (go (eqb i (level_of l)) refl (within_keys i W ls c (λ k q. f (suc k) (omega (arith, q)))))
  where
    go :
        (t : Bool) →
        eqb i (level_of l) ≡ t →
        at_level i (take c ls) ≤ counts W (map key (take c ls)) →
        cond t 1 0 + at_level i (take c ls) ≤ counts W (key l ∷ []) + counts W (map key (take c ls))
    go true e h = omega (arith, h, f 0 (omega arith) (sym (eqb-true i (level_of l) e)))
    go false e h = omega (arith, h)

at_most :
    (i : ℕ) (W : List ℕ) {n : ℕ} {lashes : List Lash} {c : ℕ} →
    EndFits n lashes c →
    Each (λ l. level_of l ≡ i → 1 ≤ counts W (key l ∷ [])) lashes c →
    at_level i (take c lashes) ≤ length W
at_most i W {n} {lashes} {c} e f =
    omega (
      arith,
      within_keys i W lashes c f,
      counts_rising W 0 (map key (take c lashes))
          (keys_rise lashes c 0 (λ k q. lash_limits n (lash_at lashes k) (e.placed k q) (e.fits k q)) e.ordered (λ q. omega arith)),
    )

-- the keys of a lash at level i: a top hook of tier i, a bottom hook of tier i + 1
hit : (W : List ℕ) (a b : ℕ) → a ≡ b → 1 ≤ counts (a ∷ W) (b ∷ [])
unfolding counts count
hit W a b e = omega (arith, same_counts a b e)

skip : (W : List ℕ) (a b : ℕ) → 1 ≤ counts W (b ∷ []) → 1 ≤ counts (a ∷ W) (b ∷ [])
unfolding counts
skip W a b h = omega (arith, h)

top : ℕ → List ℕ
top i = (4 * i) ∷ (4 * i + 1) ∷ []

both : ℕ → List ℕ
both i = (4 * i + 6) ∷ (4 * i + 7) ∷ top i

module _ (i : ℕ) {n : ℕ} (l : Lash) (p : LashLimits n l) where
  top_hook : l.hook ≡ 0 → level_of l ≡ i → 1 ≤ counts (top i) (key l ∷ [])
  unfolding top
  top_hook h e = go (code l.kind p.kind)
    where
      tier : l.tier ≡ i
      tier = sym (level_top l h) ∙ e

      go : (l.kind ≡ 0) ⊎ (l.kind ≡ 1) → 1 ≤ counts (top i) (key l ∷ [])
      go (inl q) = hit _ (4 * i) (key l) (omega (arith, tier, h, q))
      go (inr q) = skip _ (4 * i) (key l) (hit _ (4 * i + 1) (key l) (omega (arith, tier, h, q)))

  bottom_hook : 1 ≤ l.tier → l.hook ≡ 1 → level_of l ≡ i → 1 ≤ counts (both i) (key l ∷ [])
  unfolding both
  bottom_hook t h e = go (code l.kind p.kind)
    where
      tier : l.tier - 1 ≡ i
      tier = sym (level_bottom l h) ∙ e

      go : (l.kind ≡ 0) ⊎ (l.kind ≡ 1) → 1 ≤ counts (both i) (key l ∷ [])
      go (inl q) = hit _ (4 * i + 6) (key l) (omega (arith, tier, t, h, q))
      go (inr q) = skip _ (4 * i + 6) (key l) (hit _ (4 * i + 7) (key l) (omega (arith, tier, t, h, q)))

  either_hook : 1 ≤ l.tier → level_of l ≡ i → 1 ≤ counts (both i) (key l ∷ [])
  unfolding both
  either_hook t e = go (code l.hook p.hook)
    where
      go : (l.hook ≡ 0) ⊎ (l.hook ≡ 1) → 1 ≤ counts (both i) (key l ∷ [])
      go (inl q) = skip _ (4 * i + 6) (key l) (skip _ (4 * i + 7) (key l) (top_hook q e))
      go (inr q) = bottom_hook t q e

  at_top : l.tier ≤ i → 1 ≤ l.tier → level_of l ≡ i → 1 ≤ counts (top i) (key l ∷ [])
  at_top m t e = go (code l.hook p.hook)
    where
      go : (l.hook ≡ 0) ⊎ (l.hook ≡ 1) → 1 ≤ counts (top i) (key l ∷ [])
      go (inl q) = top_hook q e
      go (inr q) = absurd (omega (arith, m, t, sym (level_bottom l q) ∙ e))

module _ {n : ℕ} {lashes : List Lash} {c : ℕ} (e : EndFits n lashes c) where
  limits : Each (LashLimits n) lashes c
  limits k q = lash_limits n (lash_at lashes k) (e.placed k q) (e.fits k q)

  pub four_a_level : (i : ℕ) → at_level i (take c lashes) ≤ 4
  unfolding both top
  four_a_level i = at_most i (both i) e (λ k q. either_hook i (lash_at lashes k) (limits k q) (limits k q).tier)

  pub two_on_top : at_level n (take c lashes) ≤ 2
  unfolding top
  two_on_top = at_most n (top n) e (λ k q. at_top n (lash_at lashes k) (limits k q) (limits k q).tier_most (limits k q).tier)
