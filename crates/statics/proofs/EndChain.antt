-- The exact chain of an end of a taken sheet: its springs and lashes are stiffer than zero, its level loads those of the whole numbers.
use mathlib.Core.Bool.{Bool, true, false, cond}
use mathlib.Core.Path.{◌≡◌, refl, sym, ap, subst, ◌∙◌}
use mathlib.Core.List.{List, [], ◌∷◌}
use Prim.Native.Nat.{ℕ, zero, suc, ◌^◌, ◌≤◌, ◌<◌}
use native.Mathlib.Decide.{dec_lt}
use native.Mathlib.Omega.{arith}
use lib.Dec.{eqb}
use lib.ListN.{get_or, length, get_or-eq_default}
use lib.IntN.{pos}
use Rattle.sheet.specs.Layout.{turned, blank_tier}
use Rattle.arith.specs.Fractions.{nat, recip, ◌*q◌, ◌/q◌, ◌≈◌, ◌⊏◌}
use Rattle.springs.specs.Equations as S
use Rattle.springs.specs.Equations.{load_at}
use Rattle.springs.specs.Inner.Promise.{Rounded}
use Rattle.sheet.specs.declared.Tier.{Tier}
use Rattle.sheet.specs.declared.Lash.{Lash}
use Rattle.sheet.specs.declared.Sheet.{Sheet}
use Rattle.sheet.specs.Routes.{route_percent}
use Rattle.sheet.proofs.Routes.{percent_range}
use Rattle.statics.specs.declared.LoadRule.{LoadRule}
use Rattle.statics.specs.Loads.{half, Rule, rule_of, StandsFor}
use Rattle.statics.specs.Ends.{spring_of, chain_tiers, chain_lash, chain_lashes, end_tiers, end_lashes}
use Rattle.sheet.specs.Ends.{End, door, closed, tiers_of, lashes_of}
use Rattle.statics.specs.Inner.WholeNumbers.{level_load}
use Rattle.statics.specs.Inner.Computed.{load_rule_of}
use Rattle.sheet.specs.Inner.Limits.{TierLimits, SheetLimits}
use Rattle.statics.proofs.LashStiffness.{stiffness_above}
use Rattle.statics.proofs.EachLash.{Each, each_first, each_rest}
use Rattle.statics.proofs.LevelLoads.{load_rounded}

-- the route factor's percent is at most 100
pub percent_most : {t : Sheet} → SheetLimits t → route_percent t.head.route ≤ 100
percent_most {t} f = (percent_range t.head.route (omega (arith, f.route))).1

-- the limits of the tier over a level, also where there is none
pub tier_limits : {t : Sheet} → SheetLimits t → (i : ℕ) → TierLimits (get_or (tiers_of t) i blank_tier)
tier_limits {t} f i = go (dec_lt i t.ntiers)
  where
    none : TierLimits blank_tier
    none = omega arith

    go : Dec (i < t.ntiers) → TierLimits (get_or (tiers_of t) i blank_tier)
    go (yes h) = f.each i h
    go (no h) = subst TierLimits (sym (get_or-eq_default (tiers_of t) blank_tier (omega (arith, f.tiers)))) none

-- the chain's tiers and lashes, entry by entry
module _ (rule : Rule) (e : End) where
  pub chain_length : (ts : List Tier) → length (chain_tiers rule e ts) ≡ length ts
  unfolding chain_tiers
  chain_length [] = refl
  chain_length (t ∷ ts) = ap suc (chain_length ts)

  chain_spring : (ts : List Tier) (i : ℕ) →
      i < length ts →
      (S.tier_at (chain_tiers rule e ts) i).K ≡ nat (spring_of e (get_or ts i blank_tier))
  unfolding chain_tiers
  chain_spring [] i h = absurd (off h)
    where
      off : i < 0 → ⊥
      off x = omega arith
  chain_spring (t ∷ ts) zero h = refl
  chain_spring (t ∷ ts) (suc i) h = chain_spring ts i (omega arith)

abbrev no_link : S.Lash
no_link = record { level = 0; stiffness = nat 0 }

chain_stiff : {n : ℕ} (ls : List Lash) →
    Each n ls →
    (j : ℕ) →
    j < length (chain_lashes ls) →
    nat 0 ⊏ (get_or (chain_lashes ls) j no_link).stiffness
unfolding chain_lash
chain_stiff [] f j h = absurd (off h)
  where
    off : j < 0 → ⊥
    off x = omega arith
chain_stiff (l ∷ ls) f zero h = stiffness_above l (each_first f)
chain_stiff (l ∷ ls) f (suc j) h = chain_stiff ls (each_rest f) j (omega arith)

-- what holds of a box's two springs holds of the one that an end shows
pub either : (P : ℕ → Type 0) (b : Bool) {x y : ℕ} → P x → P y → P (cond b x y)
either P true p q = p
either P false p q = q

spring_above : (e : End) (u : Tier) → nat 0 ⊏ nat (spring_of e u)
spring_above door u =
    either (λ k. nat 0 ⊏ nat k) (turned u) (record { cross = record { lt = tt } }) (record { cross = record { lt = tt } })
spring_above closed u =
    either (λ k. nat 0 ⊏ nat k) (turned u) (record { cross = record { lt = tt } }) (record { cross = record { lt = tt } })

pub end_each : (e : End) {t : Sheet} → SheetLimits t → Each t.ntiers (lashes_of e t)
end_each e f = record { at = (f.ends e).each }

-- the exact chain of an end
module _ (rule : Rule) (e : End) (t : Sheet) where
  module _ (f : SheetLimits t) where
    pub end_length : length (end_tiers rule e t) ≡ t.ntiers
    end_length = chain_length rule e (tiers_of t) ∙ f.tiers

    pub end_spring : (i : ℕ) → i < t.ntiers → (S.tier_at (end_tiers rule e t) i).K ≡ nat (spring_of e (get_or (tiers_of t) i blank_tier))
    end_spring i h = chain_spring rule e (tiers_of t) i (omega (arith, f.tiers))

    pub end_stiff : S.Stiff (end_tiers rule e t) (end_lashes e t)
    end_stiff =
        record {
          springs =
              λ i h.
              subst (λ z. nat 0 ⊏ z) (sym (end_spring i (omega (arith, h, end_length)))) (spring_above e (get_or (tiers_of t) i blank_tier));
          lashes = chain_stiff (lashes_of e t) (end_each e f);
        }

-- the rule of a sheet: 9 twentieths are 0.45 and 10 are half, and the factor has ten times as many thousandths as the route has percents
share_stands : (fleet : Bool) → nat 20 *q cond fleet half (nat 45 /q nat 100) ≈ nat (cond fleet 10 9)
unfolding recip
share_stands true = record { cross = refl }
share_stands false = record { cross = refl }

pub rule_stands : {t : Sheet} → SheetLimits t → StandsFor (load_rule_of t) (rule_of t)
unfolding recip
rule_stands {t} f =
    record {
      share = share_stands (eqb t.head.rule 2);
      factor = record { cross = ap pos (omega arith) };
      share_most = either (λ s. s ≤ 20) (eqb t.head.rule 2) (omega arith) (omega arith);
      factor_most = omega (arith, percent_most f);
    }

-- the rule in fractions that whole numbers stand for
abbrev pub exact_rule : LoadRule → Rule
exact_rule c = record { share = nat c.share /q nat 20; factor = nat c.factor /q nat 1000 }

pub exact_stands : {c : LoadRule} → c.share ≤ 20 → c.factor ≤ 1000 → StandsFor c (exact_rule c)
unfolding recip
exact_stands s f =
    record {
      share = record { cross = ap pos (omega arith) };
      factor = record { cross = ap pos (omega arith) };
      share_most = s;
      factor_most = f;
    }

-- the load on a level of an end
module _ (rule : Rule) (c : LoadRule) (stands : StandsFor c rule) (e : End) (t : Sheet) where
  abbrev whole_load : ℕ → ℕ
  whole_load i = level_load c.share c.factor (get_or (tiers_of t) i blank_tier) (get_or (tiers_of t) (suc i) blank_tier)

  pub end_loaded : (i : ℕ) → Rounded (2 ^ 28) 1 (whole_load i) (load_at (end_tiers rule e t) i)
  end_loaded i = load_rounded rule c stands e (tiers_of t) i
