-- Elimination's recursion level by level: what is handed down to a level and its shift, of those next to it; the entries of `eliminated`.
use mathlib.Core.Path.{◌≡◌, refl, sym, ap, ◌∙◌}
use mathlib.Core.Bool.{cond}
use mathlib.Core.List.{List}
use Prim.Native.Nat.{ℕ, zero, suc, ◌-◌, ◌≤◌, ◌<◌}
use native.Mathlib.Nat.{zero-add}
use native.Mathlib.Omega.{arith}
use native.Mathlib.Decide.{dec_le}
use lib.ListN.{length, get_or, get_or-eq_default}
use lib.Seq.{ext_get_or}
use borrow.Author.Tests.{lt-ltb, le-ltb}
use Rattle.arith.proofs.Arrays.{length_entries, entry}
use Rattle.springs.specs.Inner.Elimination.{stiffness_down, load_down, shift_up, stiffness_to, load_to, shift_at, eliminated}

module _ (n : ℕ) (k κ ω : List ℕ) where
  -- what is handed down to level j, and its shift
  abbrev pub x : ℕ → ℕ
  x j = stiffness_to k κ j (n - j)

  abbrev pub y : ℕ → ℕ
  y j = load_to k κ ω j (n - j)

  abbrev pub d : ℕ → ℕ
  d j = shift_at n k κ ω j

  one_more : (j : ℕ) → j < n → n - j ≡ suc (n - suc j)
  one_more j h = omega arith

  -- level n gets nothing
  pub stiffness_top : x n ≡ 0
  unfolding stiffness_to
  stiffness_top = ap (stiffness_to k κ n) {x = n - n} {y = 0} (omega arith)

  pub load_top : y n ≡ 0
  unfolding load_to
  load_top = ap (load_to k κ ω n) {x = n - n} {y = 0} (omega arith)

  pub stiffness_step : (j : ℕ) → j < n → x j ≡ stiffness_down (get_or k j 0) (get_or κ j 0) (x (suc j))
  unfolding stiffness_to
  stiffness_step j h = ap (stiffness_to k κ j) (one_more j h)

  pub load_step : (j : ℕ) → j < n → y j ≡ load_down (get_or k j 0) (get_or κ j 0) (get_or ω j 0) (x (suc j)) (y (suc j))
  unfolding load_to
  load_step j h = ap (load_to k κ ω j) (one_more j h)

  pub shift_deck : d 0 ≡ 0
  unfolding shift_at
  shift_deck = refl

  pub shift_step : (j : ℕ) → j < n → d (suc j) ≡ shift_up (get_or k j 0) (get_or κ j 0) (get_or ω j 0) (x (suc j)) (y (suc j)) (d j)
  unfolding shift_at
  shift_step j h =
      let up = shift_up (get_or k j 0) (get_or κ j 0) (get_or ω j 0) (x (suc j)) (y (suc j)) (d j) in
      ap (λ b. cond b up 0) (lt-ltb j n h)

  pub shift_behind : (j : ℕ) → n < j → d j ≡ 0
  unfolding shift_at
  shift_behind zero h = refl
  shift_behind (suc j) h =
      let up = shift_up (get_or k j 0) (get_or κ j 0) (get_or ω j 0) (x (suc j)) (y (suc j)) (d j) in
      ap (λ b. cond b up 0) (le-ltb j n (omega arith))

  -- entries
  pub length_eliminated : length (eliminated n k κ ω) ≡ 11
  unfolding eliminated
  length_eliminated = length_entries d 0 11

  pub entry_eliminated : (j : ℕ) → j < 11 → get_or (eliminated n k κ ω) j 0 ≡ d j
  unfolding eliminated
  entry_eliminated j h = entry d 0 0 11 j h ∙ ap d (zero-add j)

  -- of at most ten tiers, at every level
  pub shift_eliminated : n ≤ 10 → (j : ℕ) → get_or (eliminated n k κ ω) j 0 ≡ d j
  shift_eliminated few j = go (dec_le (suc j) 11)
    where
      go : Dec (suc j ≤ 11) → get_or (eliminated n k κ ω) j 0 ≡ d j
      go (yes h) = entry_eliminated j h
      go (no h) = get_or-eq_default (eliminated n k κ ω) 0 (omega (arith, length_eliminated)) ∙ sym (shift_behind j (omega arith))

  -- an array of the shifts is `eliminated`
  pub is_eliminated : (l : List ℕ) → length l ≡ 11 → ((j : ℕ) → get_or l j 0 ≡ d j) → l ≡ eliminated n k κ ω
  is_eliminated l e h =
      ext_get_or 0 l (eliminated n k κ ω) (e ∙ sym length_eliminated) (λ j b. h j ∙ sym (entry_eliminated j (omega (arith, e))))
