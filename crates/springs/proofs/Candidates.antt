-- Candidates level by level: what the levels over one make of it, its shift, and that none is farther than the promise allows.
use mathlib.Core.Path.{◌≡◌, refl, sym, ap, ap₂, ◌∙◌}
use mathlib.Core.Bool.{cond}
use mathlib.Core.List.{List}
use Prim.Native.Nat.{ℕ, zero, suc, ◌-◌, ◌%◌, ◌≤◌, ◌<◌}
use native.Mathlib.Nat.{zero-add, mod-lt}
use native.Mathlib.Omega.{arith}
use native.Mathlib.Decide.{dec_le}
use lib.Dec.{lit<}
use lib.Ieee.{Float, binary64, add, mul}
use lib.ListN.{length, get_or, get_or-eq_default}
use lib.Seq.{ext_get_or}
use borrow.Author.Tests.{lt-ltb, le-ltb}
use Rattle.arith.proofs.Arrays.{length_entries, entry}
use Rattle.floats.specs.Inner.Floats.{near_of}
use Rattle.springs.specs.declared.UpperChain.{UpperChain}
use Rattle.springs.specs.Inner.Promise.{farthest}
use Rattle.springs.specs.Inner.Candidate.{none, top, step_down, chain_to, float_at, candidate_at, candidate}
use Rattle.springs.specs.Inner.Candidate.{Sloped, float_in, risen_at, risen}

module _ (n : ℕ) (k κ ω : List ℕ) where
  -- the tiers over level j
  abbrev pub above : ℕ → UpperChain
  above j = chain_to k κ ω j (n - j)

  abbrev pub float : ℕ → Float
  float = float_at n k κ ω

  abbrev pub guess : ℕ → ℕ
  guess = candidate_at n k κ ω

  one_more : (j : ℕ) → j < n → n - j ≡ suc (n - suc j)
  one_more j h = omega arith

  pub above_top : above n ≡ top
  unfolding chain_to
  above_top = ap (chain_to k κ ω n) {x = n - n} {y = 0} (omega arith)

  pub above_step : (j : ℕ) → j < n → above j ≡ step_down (above (suc j)) (get_or k j 0) (get_or κ j 0) (get_or ω j 0)
  unfolding chain_to
  above_step j h = ap (chain_to k κ ω j) (one_more j h)

  pub float_deck : float 0 ≡ none
  unfolding float_at
  float_deck = refl

  pub float_step : (j : ℕ) → float (suc j) ≡ add binary64 (above j).a (mul binary64 (above j).w (float j))
  unfolding float_at
  float_step j = refl

  pub guess_deck : guess 0 ≡ 0
  unfolding candidate_at
  guess_deck = refl

  pub guess_step : (j : ℕ) → j < n → guess (suc j) ≡ near_of (float (suc j)) % 1099511627776
  unfolding candidate_at
  guess_step j h = ap (λ b. cond b (near_of (float (suc j)) % 1099511627776) 0) (lt-ltb j n h)

  pub guess_behind : (j : ℕ) → n < j → guess j ≡ 0
  unfolding candidate_at
  guess_behind zero h = refl
  guess_behind (suc j) h = ap (λ b. cond b (near_of (float (suc j)) % 1099511627776) 0) (le-ltb j n (omega arith))

  pub guess_far : (j : ℕ) → guess j ≤ farthest
  guess_far zero = omega (arith, guess_deck)
  guess_far (suc j) = go (dec_le (suc j) n)
    where
      go : Dec (suc j ≤ n) → guess (suc j) ≤ farthest
      go (yes h) = omega (arith, guess_step j h, mod-lt (near_of (float (suc j))) {m = 1099511627776} (lit< tt))
      go (no h) = omega (arith, guess_behind (suc j) (omega arith))

  -- entries
  pub length_candidate : length (candidate n k κ ω) ≡ 11
  unfolding candidate
  length_candidate = length_entries guess 0 11

  pub entry_candidate : (j : ℕ) → j < 11 → get_or (candidate n k κ ω) j 0 ≡ guess j
  unfolding candidate
  entry_candidate j h = entry guess 0 0 11 j h ∙ ap guess (zero-add j)

  -- of at most ten tiers, at every level
  pub guess_candidate : n ≤ 10 → (j : ℕ) → get_or (candidate n k κ ω) j 0 ≡ guess j
  guess_candidate few j = go (dec_le (suc j) 11)
    where
      go : Dec (suc j ≤ 11) → get_or (candidate n k κ ω) j 0 ≡ guess j
      go (yes h) = entry_candidate j h
      go (no h) = get_or-eq_default (candidate n k κ ω) 0 (omega (arith, length_candidate)) ∙ sym (guess_behind j (omega arith))

  pub candidate_far : n ≤ 10 → (j : ℕ) → get_or (candidate n k κ ω) j 0 ≤ farthest
  candidate_far few j = omega (arith, guess_candidate few j, guess_far j)

pub float_in_step :
    (a w : ℕ → Float) (i : ℕ) →
    float_in a w (suc i) ≡ add binary64 (a i) (mul binary64 (w i) (float_in a w i))
unfolding float_in
float_in_step a w i = refl

pub risen_step : (n : ℕ) (a w : ℕ → Float) (i : ℕ) → i < n → risen_at n a w (suc i) ≡ near_of (float_in a w (suc i)) % 1099511627776
unfolding risen_at
risen_step n a w i h = ap (λ b. cond b (near_of (float_in a w (suc i)) % 1099511627776) 0) (lt-ltb i n h)

pub risen_behind : (n : ℕ) (a w : ℕ → Float) (i : ℕ) → n < i → risen_at n a w i ≡ 0
unfolding risen_at
risen_behind n a w zero h = refl
risen_behind n a w (suc i) h = ap (λ b. cond b (near_of (float_in a w (suc i)) % 1099511627776) 0) (le-ltb i n (omega arith))

-- an array of these shifts is `risen`
pub is_risen : (n : ℕ) (a w : ℕ → Float) (d : List ℕ) → length d ≡ 11 → ((j : ℕ) → get_or d j 0 ≡ risen_at n a w j) → d ≡ risen n a w
unfolding risen
is_risen n a w d e h =
    ext_get_or 0 d (risen n a w) (e ∙ sym (length_entries (risen_at n a w) 0 11))
    (λ j b. h j ∙ sym (entry (risen_at n a w) 0 0 11 j (omega (arith, e)) ∙ ap (risen_at n a w) (zero-add j)))

-- what the arrays of the first loop give is the candidate
module _ (n : ℕ) (k κ ω : List ℕ) (a w : ℕ → Float) (s : Sloped 0 n k κ ω a w) where
  floats : (i : ℕ) → i ≤ n → float_in a w i ≡ float_at n k κ ω i
  unfolding float_in
  floats zero h = sym (float_deck n k κ ω)
  floats (suc i) h =
      ap₂ (λ (q : Float) (z : Float). add binary64 q z) (s.own i (omega arith) h)
      (ap₂ (mul binary64) (s.share i (omega arith) h) (floats i (omega arith)))
      ∙ sym (float_step n k κ ω i)

  entries : (j : ℕ) → risen_at n a w j ≡ candidate_at n k κ ω j
  unfolding risen_at
  entries zero = sym (guess_deck n k κ ω)
  entries (suc i) = go (dec_le (suc i) n)
    where
      go : Dec (suc i ≤ n) → risen_at n a w (suc i) ≡ candidate_at n k κ ω (suc i)
      go (yes h) =
          risen_step n a w i h
          ∙ ap (λ (z : Float). near_of z % 1099511627776) (floats (suc i) h)
          ∙ sym (guess_step n k κ ω i h)
      go (no h) = risen_behind n a w (suc i) (omega arith) ∙ sym (guess_behind n k κ ω (suc i) (omega arith))

  risen_candidate : risen n a w ≡ candidate n k κ ω
  unfolding risen candidate
  risen_candidate =
      ext_get_or 0 (risen n a w) (candidate n k κ ω) (length_entries (risen_at n a w) 0 11 ∙ sym (length_candidate n k κ ω)) (λ j b. at j b)
    where
      at : (j : ℕ) → j < length (risen n a w) → get_or (risen n a w) j 0 ≡ get_or (candidate n k κ ω) j 0
      at j b =
          let h : j < 11 = omega (arith, length_entries (risen_at n a w) 0 11) in
          entry (risen_at n a w) 0 0 11 j h
          ∙ ap (risen_at n a w) (zero-add j)
          ∙ entries j
          ∙ sym (entry_candidate n k κ ω j h)

  pub gives_candidate : (d : List ℕ) → d ≡ risen n a w → d ≡ candidate n k κ ω
  gives_candidate d e = e ∙ risen_candidate
