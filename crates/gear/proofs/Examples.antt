-- Gear sections for a stack of three tiers, and what they are turned back for.
use Rattle.std.specs.Prelude.{Ok, Err}
use Prim.Native.Nat.{ℕ}
use mathlib.Core.List.{List, [], ◌∷◌, ◌++◌, map, flat_map}
use mathlib.Core.Path.{◌≡◌, refl}
use Rattle.arith.specs.Lists.{from}
use Rattle.sheet.specs.Layout.{lash_of, breaking_fits, lash_fits}
use Rattle.sheet.specs.Refusals.{Reading, numbers, off_tiers, later, not_later, first}
use Rattle.sheet.specs.Written.{lash_bytes}
use Rattle.gear.specs.Gear.{gear_rows}

-- a rod on a tier, hook and kind, of an area
abbrev rod : ℕ → ℕ → ℕ → ℕ → List ℕ
rod tier hook kind area =
    lash_bytes
    (record {
      tier = tier;
      hook = hook;
      kind = kind;
      material = 0;
      lx = 0;
      ly = 1950;
      lz = 2600;
      area = area;
      modulus = 130000;
      breakingLoad = 200000;
    })

abbrev S : ℕ → ℕ → ℕ → List ℕ
S tier hook kind = rod tier hook kind 500

abbrev eight : List ℕ
eight = S 1 0 0 ++ S 1 0 1 ++ S 2 0 0 ++ S 2 0 1 ++ S 2 1 0 ++ S 2 1 1 ++ S 3 0 0 ++ S 3 0 1

record Case : Type 0 where
  section : List ℕ
  answer : Reading

infix 1 ◌gives◌
abbrev ◌gives◌ : List ℕ → Reading → Case
g gives r = record { section = g; answer = r }

abbrev cases : List Case
cases =
    -- empty; no lashes; one byte more; a count whose lashes are missing, or the second of them
    ([] gives Err (numbers 1 0))
    ∷ (0 ∷ [] gives Ok tt)
    ∷ (0 ∷ 7 ∷ [] gives Err (numbers 2 1))
    ∷ (1 ∷ [] gives Err (numbers 1 1))
    ∷ (2 ∷ S 1 0 0 gives Err (numbers 1 21))
    -- eight lashes, and nine; bytes behind the eighth
    ∷ (8 ∷ eight gives Ok tt)
    ∷ (8 ∷ eight ++ (7 ∷ []) gives Err (numbers 2 161))
    ∷ (9 ∷ [] gives Err (numbers 9 0))
    -- a measure outside its limits, a tier above the stack's three, the bottom corner of tier 1, the same lash twice
    ∷ (2 ∷ S 1 0 0 ++ rod 2 0 0 49 gives Err (numbers 10 21))
    ∷ (2 ∷ S 3 0 0 ++ S 4 0 0 gives Err (numbers 11 21))
    ∷ (1 ∷ S 1 1 0 gives Err (numbers 11 1))
    ∷ (2 ∷ S 1 0 1 ++ S 1 0 1 gives Err (numbers 12 21))
    -- what is behind is not looked at: a lash turned back before the next is missed, and before bytes that are too many
    ∷ (2 ∷ S 4 0 0 gives Err (numbers 11 1))
    ∷ (1 ∷ S 4 0 0 ++ (7 ∷ []) gives Err (numbers 11 1))
    ∷ []

pub answered : map (λ c. first (gear_rows 3 c.section)) cases ≡ map (λ c. c.answer) cases
unfolding first lash_of breaking_fits lash_fits off_tiers later not_later flat_map from
answered = refl
