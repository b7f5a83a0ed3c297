-- Contracts of inner functions: findings put into a buffer, and the bytes of the findings of one kind. Nothing here need be believed.
use Rattle.std.specs.Prelude.{◌≡◌, cond, ℕ, ◌+◌, ◌*◌, ◌/◌, ◌%◌, ltb, get_or, length, take, drop}
use mathlib.Core.List.{List, [], ◌∷◌, ◌++◌, flat_map}
use Rattle.sheet.specs.Layout.{blank_lash}
use Rattle.sheet.specs.declared.Lash.{Lash}
use Rattle.answer.specs.Limits.{safe_load}
use Rattle.arith.specs.Lists.{below}

-- the three bytes of a finding in one word: end, kind and index, least first
abbrev pub word_bytes : ℕ → List ℕ
word_bytes w = w % 256 ∷ w / 256 % 256 ∷ w / 65536 % 256 ∷ []

-- the findings of these bytes put into a buffer of words from `at` on, and the place behind them; the one word there may have changed
pub record Put (before : List ℕ) (at : ℕ) (bytes after : List ℕ) (next : ℕ) : Type 0 where
  pub stored : flat_map word_bytes (take next after) ≡ flat_map word_bytes (take at before) ++ bytes
  pub place : 3 * next ≡ 3 * at + length bytes
  pub behind : drop (next + 1) after ≡ drop (next + 1) before
  pub room : length after ≡ length before

-- the safe load of lash j
abbrev pub lash_limit : List Lash → ℕ → ℕ
lash_limit ls j = safe_load (get_or ls j blank_lash).material (get_or ls j blank_lash).breakingLoad

-- the bytes of a finding where the size exceeds the limit, else none
unfoldable pub finding_where : ℕ → ℕ → ℕ → ℕ → ℕ → List ℕ
finding_where end kind index size limit = cond (ltb limit size) (end ∷ kind ∷ index ∷ []) []

-- the bytes of the findings of one kind, at n indexes from `first` on, with the size and the limit at an index
unfoldable pub findings_over : ℕ → ℕ → ℕ → (ℕ → ℕ) → (ℕ → ℕ) → ℕ → List ℕ
findings_over end kind first size limit n = flat_map (λ k. finding_where end kind (first + k) (size (first + k)) (limit (first + k))) (below n)
