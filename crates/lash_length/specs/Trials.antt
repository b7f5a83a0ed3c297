-- Document 02, P2: the trial lengths that the search for L squares, and that they find it. The squares of the three sides are no trials,
-- and Newton's steps divide and square nothing.
use Rattle.std.specs.Prelude.{true, cond, List, [], ◌∷◌, ◌≡◌, ℕ, ◌+◌, ◌*◌, ◌-◌, ◌/◌, ◌<◌, ◌≤◌, max, leb, length, get_or}
use Rattle.sheet.specs.declared.Lash.{Lash}
use Rattle.sheet.specs.Layout.{lash_fits}
use Rattle.statics.specs.Lashes.{squares, lash_length}

-- the longest of the three sides, and the sum of the other two
abbrev pub longest : Lash → ℕ
longest l = max l.lx (max l.ly l.lz)

abbrev pub others : Lash → ℕ
others l = l.lx + l.ly + l.lz - longest l

-- Newton's step from x to the root of s, rounded up
abbrev pub nearer : ℕ → ℕ → ℕ
nearer s x = (x + s / x) / 2 + 1

-- a first guess, from the longest side and the sum of the others
abbrev pub guess : ℕ → ℕ → ℕ
guess m rest = m + rest * 5 / 16

-- where the search starts, two steps from the guess: at L or one above
unfoldable pub start : Lash → ℕ
start l = nearer (squares l) (nearer (squares l) (guess (longest l) (others l)))

-- the lengths that it squares: the one below
unfoldable pub trials : Lash → List ℕ
trials l = (start l - 1) ∷ []

-- what trials find, from a length x that is enough: a trial becomes the length if its square is s or more
unfoldable pub found : ℕ → ℕ → List ℕ → ℕ
found s x [] = x
found s x (trial ∷ more) = found s (cond (leb s (trial * trial)) trial x) more

-- at most 16 trials, none below the longest side, and L is what they find
pub record Searched (l : Lash) : Type 0 where
  pub few : length (trials l) ≤ 16
  pub none_below : (i : ℕ) → i < length (trials l) → longest l ≤ get_or (trials l) i 0
  pub finds : found (squares l) (start l) (trials l) ≡ lash_length l

-- for all sides within document 01's ranges (proofs/Trials)
abbrev pub TrialsFind : Type 0
TrialsFind = (l : Lash) → lash_fits l ≡ true → Searched l
