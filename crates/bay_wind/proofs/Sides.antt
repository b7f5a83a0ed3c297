-- The nearest loaded row of a side, row by row away from the middle.
use Rattle.std.specs.Prelude.{Option, None, Some}
use Prim.Native.Nat.{ℕ, zero, suc, ◌+◌, ◌-◌, ◌<◌, ◌≤◌}
use mathlib.Core.List.{List, [], ◌∷◌, reverse, reverse_aux-append}
use mathlib.Core.Path.{◌≡◌, refl, ap, ◌∙◌}
use native.Mathlib.Omega.{arith}
use borrow.Author.Tests.{eq-eqb, ne_eqb}
use lib.ListN.{length, get_or, take, drop, drop_of_length-le}
use lib.Seq.{take-suc, drop-cons}
use Rattle.bay_wind.specs.declared.Outline.{Outline}
use Rattle.bay_wind.specs.declared.Nearest.{Nearest}
use Rattle.bay_wind.specs.Exposure.{empty_row, nearest_behind, nearest_of}

-- a loaded row behind m empty ones
abbrev pub loaded : ℕ → Outline → Option Nearest
loaded m row = Some (record { between = m; row = row })

-- one row, then the rest
module _ (m : ℕ) (row : Outline) (rows : List Outline) where
  loaded_first : (row.size ≡ 0 → ⊥) → nearest_behind m (row ∷ rows) ≡ loaded m row
  unfolding nearest_behind
  loaded_first h = rw (ne_eqb row.size 0 h)

  empty_first : row.size ≡ 0 → nearest_behind m (row ∷ rows) ≡ nearest_behind (suc m) rows
  unfolding nearest_behind
  empty_first h = rw (eq-eqb row.size 0 h)

none_left : (m : ℕ) → nearest_behind m [] ≡ None
unfolding nearest_behind
none_left m = refl

reverse_last : (l : List Outline) (k : ℕ) → k < length l → reverse (take (suc k) l) ≡ get_or l k empty_row ∷ reverse (take k l)
reverse_last l k h = ap reverse (take-suc l k empty_row h) ∙ reverse_aux-append (take k l) (get_or l k empty_row ∷ []) []

-- to port of row k, with the rows from j on passed
module _ (rows : List Outline) (k j : ℕ) (some : 0 < j) (inside : j ≤ k) (there : k ≤ length rows) where
  abbrev last : Outline
  last = get_or rows (j - 1) empty_row

  before : reverse (take j rows) ≡ last ∷ reverse (take (j - 1) rows)
  before =
      let e : j ≡ suc (j - 1) = omega arith in
      ap (λ n. reverse (take n rows)) e ∙ reverse_last rows (j - 1) (omega arith)

  pub port_loaded : (last.size ≡ 0 → ⊥) → nearest_behind (k - j) (reverse (take j rows)) ≡ loaded (k - j) last
  port_loaded h = ap (nearest_behind (k - j)) before ∙ loaded_first (k - j) last (reverse (take (j - 1) rows)) h

  pub port_empty :
      last.size ≡ 0 →
      nearest_behind (k - j) (reverse (take j rows)) ≡ nearest_behind (k - (j - 1)) (reverse (take (j - 1) rows))
  port_empty h =
      let e : suc (k - j) ≡ k - (j - 1) = omega arith in
      ap (nearest_behind (k - j)) before
      ∙ empty_first (k - j) last (reverse (take (j - 1) rows)) h
      ∙ ap (λ m. nearest_behind m (reverse (take (j - 1) rows))) e

pub port_none : (rows : List Outline) (m j : ℕ) → j ≤ 0 → nearest_behind m (reverse (take j rows)) ≡ None
port_none rows m zero h = none_left m
port_none rows m (suc j) h = absurd (omega (arith, h))

-- to starboard, where the rows before j are passed
module _ (rows : List Outline) (j : ℕ) where
  abbrev next : Outline
  next = get_or rows j empty_row

  pub starboard_loaded : j < length rows → (next.size ≡ 0 → ⊥) → nearest_behind j (drop j rows) ≡ loaded j next
  starboard_loaded h g = ap (nearest_behind j) (drop-cons rows j empty_row h) ∙ loaded_first j next (drop (suc j) rows) g

  pub starboard_empty : j < length rows → next.size ≡ 0 → nearest_behind j (drop j rows) ≡ nearest_behind (j + 1) (drop (j + 1) rows)
  starboard_empty h g =
      let f : suc j ≡ j + 1 = omega arith in
      ap (nearest_behind j) (drop-cons rows j empty_row h) ∙ empty_first j next (drop (suc j) rows) g ∙ rw f refl

  pub starboard_none : length rows ≤ j → nearest_behind j (drop j rows) ≡ None
  starboard_none h = ap (nearest_behind j) (drop_of_length-le rows h) ∙ none_left j
