-- Sheets of document 01's "Run by a program", and of the points that its table leaves to be read with care, as the table answers them.
use Rattle.std.specs.Prelude.{Ok, Err}
use Prim.Native.Nat.{ℕ}
use mathlib.Core.List.{List, [], ◌∷◌, ◌++◌, map, flat_map}
use mathlib.Core.Path.{◌≡◌, refl}
use Rattle.sheet.specs.Refusals.{Reading}
use Rattle.sheet.specs.Layout.{head_of, tier_of, lash_of, tier_fits, breaking_fits, lash_fits}
use Rattle.arith.specs.Lists.{from, below}
use Rattle.sheet.specs.Refusals.{off_tiers, later, not_later, first, refusal_of, refusal}
use Rattle.sheet.specs.Written.{head_bytes, tier_bytes, lash_bytes}
use Rattle.sheet.specs.Refusals.{numbers}

-- a rule number, route 0, an ordinary lock of 400,000 N; by rule 1 where no other is named
abbrev head_by : ℕ → List ℕ
head_by rule = head_bytes (record { rule = rule; route = 0; lockMaterial = 0; zero = 0; lockBreakingLoad = 400000 })

abbrev head : List ℕ
head = head_by 1

-- a box like B, of a size, height, mass and A_Vmin
abbrev box : ℕ → ℕ → ℕ → ℕ → List ℕ
box size height mass aVmin =
    tier_bytes (record { size = size; wind = 0; height = height; mass = mass; aT = 500; aVmax = 1500; aVmin = aVmin })

-- B with a wind byte
abbrev windy : ℕ → List ℕ
windy wind = tier_bytes (record { size = 40; wind = wind; height = 2591; mass = 20000; aT = 500; aVmax = 1500; aVmin = 800 })

abbrev B : List ℕ
B = box 40 2591 20000 800

-- a rod like S on a tier, hook and kind, with LY ly
abbrev rod : ℕ → ℕ → ℕ → ℕ → List ℕ
rod tier hook kind ly =
    lash_bytes
    (record {
      tier = tier;
      hook = hook;
      kind = kind;
      material = 0;
      lx = 0;
      ly = ly;
      lz = 2600;
      area = 500;
      modulus = 130000;
      breakingLoad = 200000;
    })

abbrev S : ℕ → ℕ → ℕ → List ℕ
S tier hook kind = rod tier hook kind 1950

-- n boxes B
abbrev stack : ℕ → List ℕ
stack n = n ∷ flat_map (λ _. B) (below n)

-- eight lashes, on three tiers
abbrev eight : List ℕ
eight = S 1 0 0 ++ S 1 0 1 ++ S 2 0 0 ++ S 2 0 1 ++ S 2 1 0 ++ S 2 1 1 ++ S 3 0 0 ++ S 3 0 1

-- no lashes at an end, at both ends
abbrev bare : List ℕ
bare = 0 ∷ []

abbrev bares : List ℕ
bares = 0 ∷ 0 ∷ []

record Case : Type 0 where
  sheet : List ℕ
  room : ℕ
  answer : Reading

infix 1 ◌gives◌
abbrev ◌gives◌ : List ℕ → Reading → Case
s gives r = record { sheet = s; room = 834; answer = r }

abbrev cases : List Case
cases =
    -- empty; cut off within tier 1, told by the length and not by the tier's place; a spare byte; 10 and 11 tiers
    ([] gives Err (numbers 1 0))
    ∷ (head ++ (1 ∷ 40 ∷ []) gives Err (numbers 1 10))
    ∷ (head ++ stack 1 ++ bares ++ (7 ∷ []) gives Err (numbers 2 23))
    ∷ (head ++ stack 10 ++ bares gives Ok tt)
    ∷ (head ++ stack 11 ++ bares gives Err (numbers 6 8))
    -- rule numbers 0, 2, 3 and the greatest
    ∷ (head_by 0 ++ stack 1 ++ bares gives Err (numbers 3 0))
    ∷ (head_by 2 ++ stack 1 ++ bares gives Ok tt)
    ∷ (head_by 3 ++ stack 1 ++ bares gives Err (numbers 3 0))
    ∷ (head_by 255 ++ stack 1 ++ bares gives Err (numbers 3 0))
    -- mass 30,480 and 30,481; A_Vmin 1,000 and 1,001
    ∷ (head ++ (1 ∷ box 40 2591 30480 800) ++ bares gives Ok tt)
    ∷ (head ++ (1 ∷ box 40 2591 30481 800) ++ bares gives Err (numbers 7 9))
    ∷ (head ++ (1 ∷ box 40 2591 20000 1000) ++ bares gives Ok tt)
    ∷ (head ++ (1 ∷ box 40 2591 20000 1001) ++ bares gives Err (numbers 7 9))
    -- wind bytes 3 and 4, and the greatest
    ∷ (head ++ (2 ∷ windy 2 ++ windy 3) ++ bares gives Ok tt)
    ∷ (head ++ (2 ∷ windy 3 ++ windy 4) ++ bares gives Err (numbers 7 21))
    ∷ (head ++ (1 ∷ windy 255) ++ bares gives Err (numbers 7 9))
    -- a height is judged by the box's own size, 7, before the size is held against tier 1, 8
    ∷ (head ++ (2 ∷ B ++ box 20 2896 20000 800) ++ bares gives Err (numbers 7 21))
    ∷ (head ++ (2 ∷ B ++ box 20 2591 20000 800) ++ bares gives Err (numbers 8 21))
    -- 8 and 9 lashes; the count is told even where its lashes are missing
    ∷ (head ++ stack 3 ++ (8 ∷ eight) ++ bare gives Ok tt)
    ∷ (head ++ stack 3 ++ (9 ∷ []) gives Err (numbers 9 45))
    -- 10 does not look at the tier, 11 does; the bottom corner of tier 1
    ∷ (head ++ stack 1 ++ (1 ∷ rod 0 0 0 0) ++ bare gives Err (numbers 10 22))
    ∷ (head ++ stack 1 ++ (1 ∷ S 2 0 0) ++ bare gives Err (numbers 11 22))
    ∷ (head ++ stack 1 ++ (1 ∷ S 1 1 0) ++ bare gives Err (numbers 11 22))
    -- a cross and then a side lash on one hook are taken; the same lash twice gives 12, before the third is missed
    ∷ (head ++ stack 1 ++ (2 ∷ S 1 0 0 ++ S 1 0 1) ++ bare gives Ok tt)
    ∷ (head ++ stack 1 ++ (3 ∷ S 1 0 0 ++ S 1 0 0) gives Err (numbers 12 42))
    -- the closed end's first lash is not held against the door end's last
    ∷ (head ++ stack 1 ++ (1 ∷ S 1 0 1) ++ (1 ∷ S 1 0 0) gives Ok tt)
    -- a buffer of 833 bytes; 13 comes last
    ∷ record { sheet = head ++ stack 1 ++ bares; room = 833; answer = Err (numbers 13 834) }
    ∷ record { sheet = []; room = 0; answer = Err (numbers 1 0) }
    ∷ []

pub answered : map (λ c. refusal c.sheet c.room) cases ≡ map (λ c. c.answer) cases
unfolding refusal refusal_of first head_of tier_of lash_of tier_fits breaking_fits lash_fits off_tiers later not_later flat_map from
answered = refl
