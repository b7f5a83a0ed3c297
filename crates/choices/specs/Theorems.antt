-- What is proved of the choices of m lashes, for any m.
use Rattle.std.specs.Prelude.{ℕ, ◌/◌, ◌%◌, ◌^◌, ◌<◌, ◌≤◌, Bool, true, List, [], ◌∷◌, ◌≡◌, eqb, ltb, length, get_or}
use Rattle.arith.specs.Lists.{below}
use Rattle.choices.specs.Choices.{uses, chosen, used, choices, Before, those}

-- a number stands in a list, at some place
pub record Stands (c : ℕ) (cs : List ℕ) : Type 0 where
  pub place : ℕ
  pub listed : place < length cs
  pub there : get_or cs place 0 ≡ c

-- each of the 2^m once, and nothing else (proofs/Once)
pub record EachOnce (m : ℕ) : Type 0 where
  pub each : (c : ℕ) → c < 2 ^ m → Stands c (choices m)
  pub only : (i : ℕ) → i < length (choices m) → get_or (choices m) i 0 < 2 ^ m
  pub once : (i j : ℕ) → i < j → j < length (choices m) → get_or (choices m) i 0 ≡ get_or (choices m) j 0 → ⊥
  pub many : length (choices m) ≡ 2 ^ m

abbrev pub AllOnce : Type 0
AllOnce = (m : ℕ) → EachOnce m

-- any earlier one comes before any later one (proofs/InOrder)
abbrev pub AllInOrder : Type 0
AllInOrder = (m i j : ℕ) → i < j → j < length (choices m) → Before m (get_or (choices m) i 0) (get_or (choices m) j 0)

-- cs holds each choice of m lashes that passes a test once, nothing else, and any earlier one comes before any later one
pub record Lists (m : ℕ) (test : ℕ → Bool) (cs : List ℕ) : Type 0 where
  pub each : (c : ℕ) → c < 2 ^ m → test c ≡ true → Stands c cs
  pub only : (i : ℕ) → i < length cs → (get_or cs i 0 < 2 ^ m) × (test (get_or cs i 0) ≡ true)
  pub once : (i j : ℕ) → i < j → j < length cs → get_or cs i 0 ≡ get_or cs j 0 → ⊥
  pub ordered : (i j : ℕ) → i < j → j < length cs → Before m (get_or cs i 0) (get_or cs j 0)

-- so do those of all choices that pass it, whatever the test, such as what the check says (proofs/Those)
abbrev pub ThoseListed : Type 0
ThoseListed = (m : ℕ) (test : ℕ → Bool) → Lists m test (those test (choices m))

-- the choices of at most 8 lashes are those of 8 lashes that are below 2^m, in the same order (proofs/AmongEight)
abbrev pub AmongEight : Type 0
AmongEight = (m : ℕ) → m ≤ 8 → choices m ≡ those (λ c. ltb c (2 ^ m)) (choices 8)

-- bit k says whether c / 2^k is odd; what is chosen are the lashes whose bits are set, and they are as many as the choice uses (proofs/Bits,
-- Chosen)
abbrev pub Bits : Type 0
Bits = (c k : ℕ) → uses c k ≡ eqb (c / 2 ^ k % 2) 1

abbrev pub ChosenByBits : Type 0
ChosenByBits = (c m : ℕ) → chosen c (below m) ≡ those (uses c) (below m)

abbrev pub AsManyChosen : Type 1
AsManyChosen = (A : Type 0) (c : ℕ) (ls : List A) → length (chosen c ls) ≡ used (length ls) c

-- of 4 lashes (proofs/AmongEight)
abbrev pub OfFour : Type 0
OfFour = choices 4 ≡ 0 ∷ 1 ∷ 2 ∷ 4 ∷ 8 ∷ 3 ∷ 5 ∷ 9 ∷ 6 ∷ 10 ∷ 12 ∷ 7 ∷ 11 ∷ 13 ∷ 14 ∷ 15 ∷ []
