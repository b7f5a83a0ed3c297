-- The tests of a tier and of a lash give their limits in numbers.
use Prim.Native.Nat.{ℕ, zero, suc, ◌-◌, ◌/◌, ◌%◌, ◌≤◌}
use mathlib.Core.Bool.{Bool, true, false, ◌&&◌, ◌||◌, true≢false}
use mathlib.Core.Logic.{◌⊎◌, inl, inr, ⊎_elim}
use mathlib.Core.Path.{◌≡◌, refl, sym, ◌∙◌}
use native.Mathlib.Omega.{arith}
use borrow.Author.Tests.{ltb-false, leb-true, eqb-true, eqb-false, eq-eqb}
use lib.Dec.{leb, ltb, eqb}
use Rattle.sheet.specs.declared.Tier.{Tier}
use Rattle.sheet.specs.declared.Lash.{Lash}
use Rattle.sheet.specs.Layout.{within, up_to, rule_fits, wind_code, tier_fits, breaking_fits, lash_fits}
use Rattle.sheet.specs.Refusals.{off_tiers}
use Rattle.sheet.specs.Lashings.{level_of}
use Rattle.sheet.specs.Theorems.{WindCodes}
use Rattle.sheet.specs.Inner.Limits.{BreakingLimits, Box, TierFilled, LashLimits}
use Rattle.sheet.proofs.Bools.{and_true, or_true, or_false}

least : (lo hi x : ℕ) → within lo hi x ≡ true → lo ≤ x
least lo hi x e = leb-true lo x (and_true (leb lo x) (leb x hi) e).0

most : (lo hi x : ℕ) → within lo hi x ≡ true → x ≤ hi
most lo hi x e = leb-true x hi (and_true (leb lo x) (leb x hi) e).1

pub breaking_limits : (x : ℕ) → breaking_fits x ≡ true → BreakingLimits x
unfolding breaking_fits
breaking_limits x e = record { some = least 1 2000000 x e; most = most 1 2000000 x e }

-- one of two codes
either_code : (x a b : ℕ) → eqb x a || eqb x b ≡ true → (x ≡ a) ⊎ (x ≡ b)
either_code x a b e = ⊎_elim (λ q. inl (eqb-true x a q)) (λ q. inr (eqb-true x b q)) (or_true (eqb x a) (eqb x b) e)

pub rule_number : (x : ℕ) → rule_fits x ≡ true → (x ≡ 1) ⊎ (x ≡ 2)
rule_number x e = either_code x 1 2 e

sized : (s h z a b : ℕ) → eqb s z && (eqb h a || eqb h b) ≡ true → (s ≡ z) × ((h ≡ a) ⊎ (h ≡ b))
sized s h z a b e =
    let p = and_true (eqb s z) (eqb h a || eqb h b) e in
    (eqb-true s z p.0, either_code h a b p.1)

heights : (s h : ℕ) → Box s h → (2438 ≤ h) × (h ≤ 2896)
heights s h (inl (p, inl q)) = (omega arith, omega arith)
heights s h (inl (p, inr q)) = (omega arith, omega arith)
heights s h (inr (p, inl q)) = (omega arith, omega arith)
heights s h (inr (p, inr q)) = (omega arith, omega arith)

pub tier_filled : (t : Tier) → tier_fits t ≡ true → TierFilled t
unfolding tier_fits
tier_filled t e =
    let order = and_true _ _ e in
    let aVmin = and_true _ _ order.0 in
    let aVmax = and_true _ _ aVmin.0 in
    let at = and_true _ _ aVmax.0 in
    let mass = and_true _ _ at.0 in
    let wind = and_true _ _ mass.0 in
    let box : Box t.size t.height =
    ⊎_elim (λ q. inl (sized t.size t.height 20 2438 2591 q)) (λ q. inr (sized t.size t.height 40 2591 2896 q))
    (or_true _ _ wind.0) in
    let tall = heights t.size t.height box in
    record {
      limits =
          record {
            height = tall.1;
            mass = most 1 30480 _ mass.1;
            aT = leb-true _ _ at.1;
            aVmax = leb-true _ _ aVmax.1;
            aVmin = leb-true _ _ aVmin.1;
          };
      box = box;
      height = tall.0;
      wind = leb-true _ _ wind.1;
      mass = least 1 30480 _ mass.1;
      order = leb-true _ _ order.1;
    }

-- the four codes of the wind byte
code_of : (w : ℕ) → w ≤ 3 → w ≡ wind_code (eqb (w % 2) 1) (eqb (w / 2) 1)
code_of zero h = refl
code_of (suc zero) h = refl
code_of (suc (suc zero)) h = refl
code_of (suc (suc (suc zero))) h = refl
code_of (suc (suc (suc (suc w)))) h = absurd (omega (arith, h))

pub wind_codes : WindCodes
wind_codes t e = code_of t.wind (tier_filled t e).wind

-- a hook or kind is 0 or 1
pub code : (x : ℕ) → x ≤ 1 → (x ≡ 0) ⊎ (x ≡ 1)
code zero h = inl refl
code (suc x) h = inr (omega (arith, h))

-- the level of a top hook is its tier, of a bottom hook the tier below
pub level_top : (l : Lash) → l.hook ≡ 0 → level_of l ≡ l.tier
unfolding level_of
level_top l e = omega (arith, e)

pub level_bottom : (l : Lash) → l.hook ≡ 1 → level_of l ≡ l.tier - 1
unfolding level_of
level_bottom l e = omega (arith, e)

-- the level of a lash that row 11 passes
module _ (n : ℕ) (l : Lash) (e : off_tiers n l ≡ false) where
  tests : (eqb l.tier 0 || ltb n l.tier ≡ false) × (eqb l.tier 1 && eqb l.hook 1 ≡ false)
  unfolding off_tiers
  tests = or_false (eqb l.tier 0 || ltb n l.tier) (eqb l.tier 1 && eqb l.hook 1) e

  on : (1 ≤ l.tier) × (l.tier ≤ n)
  on =
      let b = or_false (eqb l.tier 0) (ltb n l.tier) tests.0 in
      (some (eqb-false l.tier 0 b.0), ltb-false n l.tier b.1)
    where
      some : (l.tier ≡ 0 → ⊥) → 1 ≤ l.tier
      some h = omega arith

  -- a bottom corner is not tier 1's
  bottom : l.hook ≡ 1 → 2 ≤ l.tier
  bottom h = go (eqb l.tier 1) refl tests.1
    where
      more : (l.tier ≡ 1 → ⊥) → 2 ≤ l.tier
      more r = omega (arith, on)

      go : (b : Bool) → eqb l.tier 1 ≡ b → b && eqb l.hook 1 ≡ false → 2 ≤ l.tier
      go true q r = absurd (true≢false (sym (eq-eqb l.hook 1 h) ∙ r))
      go false q r = more (eqb-false l.tier 1 q)

  level : l.hook ≤ 1 → (1 ≤ level_of l) × (level_of l ≤ n)
  level h = go (code l.hook h)
    where
      go : (l.hook ≡ 0) ⊎ (l.hook ≡ 1) → (1 ≤ level_of l) × (level_of l ≤ n)
      go (inl q) = rw (level_top l q) on
      go (inr q) = rw (level_bottom l q) (omega (arith, bottom q), omega (arith, on))

  pub lash_limits : lash_fits l ≡ true → LashLimits n l
  unfolding lash_fits
  lash_limits f =
      let breaking = and_true _ _ f in
      let modulus = and_true _ _ breaking.0 in
      let area = and_true _ _ modulus.0 in
      let lz = and_true _ _ area.0 in
      let ly = and_true _ _ lz.0 in
      let lx = and_true _ _ ly.0 in
      let material = and_true _ _ lx.0 in
      let kind = and_true (up_to 1 l.hook) (up_to 1 l.kind) material.0 in
      let hook : l.hook ≤ 1 = leb-true _ _ kind.0 in
      record {
        hook = hook;
        kind = leb-true _ _ kind.1;
        material = leb-true _ _ material.1;
        lx = leb-true _ _ lx.1;
        ly = least 500 10000 _ ly.1;
        ly_most = most 500 10000 _ ly.1;
        lz = least 500 20000 _ lz.1;
        lz_most = most 500 20000 _ lz.1;
        area = least 50 1000 _ area.1;
        area_most = most 50 1000 _ area.1;
        modulus = least 10000 200000 _ modulus.1;
        modulus_most = most 10000 200000 _ modulus.1;
        breaking = breaking_limits l.breakingLoad breaking.1;
        tier = on.0;
        tier_most = on.1;
        raised = (level hook).0;
        inside = (level hook).1;
      }

-- of more tiers than the lash's stack has
pub lash_wider : {n m : ℕ} {l : Lash} → n ≤ m → LashLimits n l → LashLimits m l
lash_wider h f =
    record {
      hook = f.hook;
      kind = f.kind;
      material = f.material;
      lx = f.lx;
      ly = f.ly;
      ly_most = f.ly_most;
      lz = f.lz;
      lz_most = f.lz_most;
      area = f.area;
      area_most = f.area_most;
      modulus = f.modulus;
      modulus_most = f.modulus_most;
      breaking = f.breaking;
      tier = f.tier;
      tier_most = omega (arith, f.tier_most);
      raised = f.raised;
      inside = omega (arith, f.inside);
    }
