-- The two loops of elimination: what holds of their arrays at each turn.
use mathlib.Core.Path.{◌≡◌, sym, ap, ap₂, subst, ◌∙◌}
use mathlib.Core.List.{List}
use Prim.Native.Nat.{ℕ, suc, ◌+◌, ◌≤◌, ◌<◌}
use native.Mathlib.Omega.{arith}
use native.Mathlib.Decide.{ℕ_discrete, dec_le}
use lib.ListN.{get_or, length, set, length-set}
use lib.Seq.{get_or-set_same, get_or-set_other}
use Rattle.springs.specs.Inner.Promise.{farthest, Solvable}
use Rattle.springs.specs.Inner.Elimination.{stiffness_down, load_down, shift_up, eliminated, InRange, most_load_together, HandedDown}
use Rattle.springs.proofs.Recursion as R
use Rattle.springs.proofs.Ranges.{in_range, load_in_range, far_at}

-- what is known from level i up is known from any level over it
pub later : {i j n : ℕ} {k κ ω x y : List ℕ} → i ≤ j → HandedDown i n k κ ω x y → HandedDown j n k κ ω x y
later l h = record { stiffness = λ m b. h.stiffness m (omega arith); load = λ m b. h.load m (omega arith) }

-- from the top down: levels i and above are done
pub record Down (n : ℕ) (k κ ω x y : List ℕ) (i : ℕ) : Type 0 where
  pub within : i ≤ n
  pub long_x : length x ≡ 11
  pub long_y : length y ≡ 11
  pub done : HandedDown i n k κ ω x y

pub down_start :
    {n : ℕ} {k κ ω x y : List ℕ} →
    length x ≡ 11 →
    length y ≡ 11 →
    get_or x n 0 ≡ 0 →
    get_or y n 0 ≡ 0 →
    Down n k κ ω x y n
down_start {n} {k} {κ} {ω} {x} {y} lx ly x0 y0 = record {
  within = omega arith;
  long_x = lx;
  long_y = ly;
  done = record {
    stiffness = λ j h l. subst (λ (z : ℕ). get_or x z 0 ≡ R.x n k κ ω z) {x = n} {y = j} (omega arith) (x0 ∙ sym (R.stiffness_top n k κ ω));
    load = λ j h l. subst (λ (z : ℕ). get_or y z 0 ≡ R.y n k κ ω z) {x = n} {y = j} (omega arith) (y0 ∙ sym (R.load_top n k κ ω));
  };
}

-- a turn at tier i, of the entry j
module _ {n : ℕ} {k κ ω x y : List ℕ} {i j : ℕ} (next : i ≡ suc j) (s : Solvable n k κ ω) (d : Down n k κ ω x y i) where
  -- what is handed down to level i
  given_x : get_or x i 0 ≡ R.x n k κ ω (suc j)
  given_x = d.done.stiffness i (omega arith) d.within ∙ ap (R.x n k κ ω) next

  given_y : get_or y i 0 ≡ R.y n k κ ω (suc j)
  given_y = d.done.load i (omega arith) d.within ∙ ap (R.y n k κ ω) next

  pub down_ready : InRange (get_or k j 0) (get_or κ j 0) (get_or x i 0) × (get_or ω j 0 + get_or y i 0 ≤ most_load_together)
  down_ready =
      let l : j < n = omega (arith, d.within) in
      rw (given_x, given_y) (in_range n k κ ω s j l, load_in_range n k κ ω s j l)

  pub down_next :
      {u w : ℕ} →
      u ≡ stiffness_down (get_or k j 0) (get_or κ j 0) (get_or x i 0) →
      w ≡ load_down (get_or k j 0) (get_or κ j 0) (get_or ω j 0) (get_or x i 0) (get_or y i 0) →
      Down n k κ ω (set x j u) (set y j w) j
  down_next {u} {w} eu ew = record {
    within = omega (arith, d.within);
    long_x = length-set x j u ∙ d.long_x;
    long_y = length-set y j w ∙ d.long_y;
    done = record { stiffness = λ m h l. stiffness m h l (ℕ_discrete m j); load = λ m h l. load m h l (ℕ_discrete m j) };
  }
    where
      inside : j < n
      inside = omega (arith, d.within)

      stiffness : (m : ℕ) → j ≤ m → m ≤ n → Dec (m ≡ j) → get_or (set x j u) m 0 ≡ R.x n k κ ω m
      stiffness m h l (yes e) =
          subst (λ (z : ℕ). get_or (set x j u) z 0 ≡ R.x n k κ ω z) (sym e)
          (get_or-set_same x j u 0 (omega (arith, d.long_x, d.within, s.few))
          ∙ eu
          ∙ ap (stiffness_down (get_or k j 0) (get_or κ j 0)) given_x
          ∙ sym (R.stiffness_step n k κ ω j inside))
      stiffness m h l (no e) = get_or-set_other x j m u 0 e ∙ d.done.stiffness m (omega arith) l

      load : (m : ℕ) → j ≤ m → m ≤ n → Dec (m ≡ j) → get_or (set y j w) m 0 ≡ R.y n k κ ω m
      load m h l (yes e) =
          subst (λ (z : ℕ). get_or (set y j w) z 0 ≡ R.y n k κ ω z) (sym e)
          (get_or-set_same y j w 0 (omega (arith, d.long_y, d.within, s.few))
          ∙ ew
          ∙ ap₂ (load_down (get_or k j 0) (get_or κ j 0) (get_or ω j 0)) given_x given_y
          ∙ sym (R.load_step n k κ ω j inside))
      load m h l (no e) = get_or-set_other y j m w 0 e ∙ d.done.load m (omega arith) l

-- from the deck up: levels 0 to i are done, and behind n stand zeros
pub record Up (n : ℕ) (k κ ω d : List ℕ) (i : ℕ) : Type 0 where
  pub within : i ≤ n
  pub long : length d ≡ 11
  pub done : (j : ℕ) → j ≤ i → get_or d j 0 ≡ R.d n k κ ω j
  pub rest : (j : ℕ) → n < j → get_or d j 0 ≡ 0

pub up_start :
    {n : ℕ} {k κ ω d : List ℕ} →
    length d ≡ 11 →
    get_or d 0 0 ≡ 0 →
    ((j : ℕ) → n < j → get_or d j 0 ≡ 0) →
    Up n k κ ω d 0
up_start {n} {k} {κ} {ω} {d} e z b = record {
  within = omega arith;
  long = e;
  done = λ j h. subst (λ (m : ℕ). get_or d m 0 ≡ R.d n k κ ω m) {x = 0} {y = j} (omega arith) (z ∙ sym (R.shift_deck n k κ ω));
  rest = b;
}

-- a turn at the entry i, for level j, where x and y are handed down
module _
    {n : ℕ}
    {k κ ω x y d : List ℕ}
    {i j : ℕ}
    (next : j ≡ suc i)
    (inside : i < n)
    (s : Solvable n k κ ω)
    (h : HandedDown 1 n k κ ω x y)
    (t : Up n k κ ω d i)
  where
    taken_x : get_or x j 0 ≡ R.x n k κ ω (suc i)
    taken_x = h.stiffness j (omega arith) (omega arith) ∙ ap (R.x n k κ ω) next

    taken_y : get_or y j 0 ≡ R.y n k κ ω (suc i)
    taken_y = h.load j (omega arith) (omega arith) ∙ ap (R.y n k κ ω) next

    under : get_or d i 0 ≡ R.d n k κ ω i
    under = t.done i (omega arith)

    pub up_ready : InRange (get_or k i 0) (get_or κ i 0) (get_or x j 0) × (get_or ω i 0 + get_or y j 0 ≤ most_load_together) × (get_or d i 0 ≤ farthest)
    up_ready = rw (taken_x, taken_y, under) (in_range n k κ ω s i inside, load_in_range n k κ ω s i inside, far_at n k κ ω s i)

    pub up_next :
        {u : ℕ} →
        u ≡ shift_up (get_or k i 0) (get_or κ i 0) (get_or ω i 0) (get_or x j 0) (get_or y j 0) (get_or d i 0) →
        Up n k κ ω (set d j u) j
    up_next {u} e = record {
      within = omega arith;
      long = length-set d j u ∙ t.long;
      done = λ m b. done m b (ℕ_discrete m j);
      rest = λ m b. get_or-set_other d j m u 0 (λ z. omega arith) ∙ t.rest m b;
    }
      where
        here : u ≡ R.d n k κ ω j
        here =
            e
            ∙ rw (taken_x, taken_y, under) (sym (R.shift_step n k κ ω i inside))
            ∙ ap (R.d n k κ ω) (sym next)

        done : (m : ℕ) → m ≤ j → Dec (m ≡ j) → get_or (set d j u) m 0 ≡ R.d n k κ ω m
        done m b (yes z) =
            subst (λ (a : ℕ). get_or (set d j u) a 0 ≡ R.d n k κ ω a) (sym z) (get_or-set_same d j u 0 (omega (arith, t.long, s.few)) ∙ here)
        done m b (no z) = get_or-set_other d j m u 0 z ∙ t.done m (omega arith)

-- after the last turn
pub up_done : {n : ℕ} {k κ ω d : List ℕ} {i : ℕ} → i ≡ n → Up n k κ ω d i → d ≡ eliminated n k κ ω
up_done {n} {k} {κ} {ω} {d} {i} e t = R.is_eliminated n k κ ω d t.long (λ j. go j (dec_le j i))
  where
    go : (j : ℕ) → Dec (j ≤ i) → get_or d j 0 ≡ R.d n k κ ω j
    go j (yes h) = t.done j h
    go j (no h) = t.rest j (omega arith) ∙ sym (R.shift_behind n k κ ω j (omega arith))
