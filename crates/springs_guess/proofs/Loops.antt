-- The two loops that find a candidate: what holds of their arrays at each turn.
use mathlib.Core.Path.{◌≡◌, refl, sym, ap, ap₂, subst, ◌∙◌}
use mathlib.Core.List.{List}
use Prim.Native.Nat.{ℕ, zero, suc, ◌%◌, ◌≤◌, ◌<◌}
use native.Mathlib.Omega.{arith}
use native.Mathlib.Decide.{ℕ_discrete, dec_le}
use lib.Ieee.{Float, nan, binary64, add, mul}
use lib.ListN.{get_or, length, set, replicate, length-set}
use lib.Seq.{get_or-set_same, get_or-set_other}
use Rattle.floats.specs.Inner.Floats.{near_of}
use Rattle.springs.specs.declared.UpperChain.{UpperChain}
use Rattle.springs.specs.Inner.Candidate.{none, top, step_down, Sloped, float_in, risen_at, risen, by_level}
use Rattle.springs.proofs.Candidates as C
use Rattle.springs.proofs.Candidates.{float_in_step, risen_step, risen_behind, is_risen}

-- a new array holds zeros
pub zeros : (m j : ℕ) → ◌≡◌ {A = ℕ} (get_or (replicate m 0) j 0) 0
zeros zero j = refl
zeros (suc m) zero = refl
zeros (suc m) (suc j) = zeros m j

-- from the top down: the levels over i are done
pub record Down (n : ℕ) (k κ ω : List ℕ) (a w : ℕ → Float) (upper : UpperChain) (i : ℕ) : Type 0 where
  pub within : i ≤ n
  pub here : upper ≡ C.above n k κ ω i
  pub done : Sloped i n k κ ω a w

pub down_start : {n : ℕ} {k κ ω : List ℕ} {a w : ℕ → Float} → Down n k κ ω a w top n
down_start {n} {k} {κ} {ω} = record {
  within = omega arith;
  here = sym (C.above_top n k κ ω);
  done = record { own = λ j h l. absurd (omega arith); share = λ j h l. absurd (omega arith) };
}

-- a float stored for the level over tier j, where those over the tiers above stay
pub record Stored (a a' : ℕ → Float) (j : ℕ) (x : Float) : Type 0 where
  pub same : a' j ≡ x
  pub others : (m : ℕ) → j < m → a' m ≡ a m

-- a turn at level i, over the tier of entry j
pub down_next :
    {n : ℕ} {k κ ω : List ℕ} {a w a' w' : ℕ → Float} {upper next : UpperChain} {i j : ℕ} →
    i ≡ suc j →
    Down n k κ ω a w upper i →
    next ≡ step_down upper (get_or k j 0) (get_or κ j 0) (get_or ω j 0) →
    Stored a a' j next.a →
    Stored w w' j next.w →
    Down n k κ ω a' w' next j
down_next {n} {k} {κ} {ω} {a' = a'} {w' = w'} {next = next} {j = j} e t en sa sw = record {
  within = omega (arith, t.within);
  here = now;
  done = record { own = λ m h l. own m h l (ℕ_discrete m j); share = λ m h l. share m h l (ℕ_discrete m j) };
}
  where
    now : next ≡ C.above n k κ ω j
    now =
        en
        ∙ ap (λ (z : UpperChain). step_down z (get_or k j 0) (get_or κ j 0) (get_or ω j 0)) (t.here ∙ ap (C.above n k κ ω) e)
        ∙ sym (C.above_step n k κ ω j (omega (arith, t.within)))

    own : (m : ℕ) → j ≤ m → m < n → Dec (m ≡ j) → a' m ≡ (C.above n k κ ω m).a
    own m h l (yes z) = ap a' z ∙ sa.same ∙ ap (λ (q : UpperChain). q.a) (now ∙ ap (C.above n k κ ω) (sym z))
    own m h l (no z) =
        let more : j < m = omega arith in
        sa.others m more ∙ t.done.own m (omega arith) l

    share : (m : ℕ) → j ≤ m → m < n → Dec (m ≡ j) → w' m ≡ (C.above n k κ ω m).w
    share m h l (yes z) = ap w' z ∙ sw.same ∙ ap (λ (q : UpperChain). q.w) (now ∙ ap (C.above n k κ ω) (sym z))
    share m h l (no z) =
        let more : j < m = omega arith in
        sw.others m more ∙ t.done.share m (omega arith) l

-- after the last turn
pub down_done :
    {n : ℕ} {k κ ω : List ℕ} {a w : ℕ → Float} {upper : UpperChain} {i : ℕ} →
    i ≤ 0 →
    Down n k κ ω a w upper i →
    Sloped 0 n k κ ω a w
down_done h t = record {
  own = λ j b l. t.done.own j (omega arith) l;
  share = λ j b l. t.done.share j (omega arith) l;
}

-- in an array of an end's own, at the level's number
pub stored : (l : List Float) (i j : ℕ) (x : Float) → i ≡ suc j → i < length l → Stored (by_level l) (by_level (set l i x)) j x
stored l i j x e room = record {
  same = ap (λ (q : ℕ). get_or (set l i x) q nan) (sym e) ∙ get_or-set_same l i x nan room;
  others = λ m h. get_or-set_other l i (suc m) x nan (λ q. omega arith);
}

-- from the deck up: levels 0 to i are done, and behind them stand zeros
pub record Up (n : ℕ) (a w : ℕ → Float) (d : List ℕ) (x : Float) (i : ℕ) : Type 0 where
  pub within : i ≤ n
  pub long : length d ≡ 11
  pub here : x ≡ float_in a w i
  pub done : (j : ℕ) → j ≤ i → get_or d j 0 ≡ risen_at n a w j
  pub rest : (j : ℕ) → i < j → get_or d j 0 ≡ 0

pub up_start : {n : ℕ} {a w : ℕ → Float} {d : List ℕ} → d ≡ replicate 11 0 → Up n a w d none 0
unfolding float_in risen_at
up_start {n} {a} {w} {d} e = record {
  within = omega arith;
  long = ap length e;
  here = refl;
  done = λ j h. empty j ∙ sym (ap (risen_at n a w) {x = j} {y = 0} (omega arith));
  rest = λ j h. empty j;
}
  where
    empty : (j : ℕ) → get_or d j 0 ≡ 0
    empty j = ap (λ (z : List ℕ). get_or z j 0) e ∙ zeros 11 j

-- a turn for level j, the next over i
pub up_next :
    {n : ℕ} {a w : ℕ → Float} {d : List ℕ} {x own share : Float} {i j r : ℕ} →
    j ≡ suc i →
    i < n →
    n ≤ 10 →
    Up n a w d x i →
    own ≡ a i →
    share ≡ w i →
    r ≡ near_of (add binary64 own (mul binary64 share x)) →
    Up n a w (set d j (r % 1099511627776)) (add binary64 own (mul binary64 share x)) j
up_next {n} {a} {w} {d} {x} {own} {share} {i} {j} {r} e inside few t eo es er = record {
  within = omega arith;
  long = length-set d j (r % 1099511627776) ∙ t.long;
  here = now;
  done = λ m b. done m b (ℕ_discrete m j);
  rest = λ m b. get_or-set_other d j m (r % 1099511627776) 0 (λ z. omega arith) ∙ t.rest m (omega arith);
}
  where
    now : add binary64 own (mul binary64 share x) ≡ float_in a w j
    now =
        ap₂ (λ (q : Float) (z : Float). add binary64 q z) eo (ap₂ (mul binary64) es t.here)
        ∙ sym (float_in_step a w i)
        ∙ ap (float_in a w) (sym e)

    value : r % 1099511627776 ≡ risen_at n a w j
    value =
        ap (λ (z : ℕ). z % 1099511627776) (er ∙ ap near_of now)
        ∙ ap (λ (z : ℕ). near_of (float_in a w z) % 1099511627776) e
        ∙ sym (risen_step n a w i inside)
        ∙ ap (risen_at n a w) (sym e)

    done : (m : ℕ) → m ≤ j → Dec (m ≡ j) → get_or (set d j (r % 1099511627776)) m 0 ≡ risen_at n a w m
    done m b (yes z) =
        subst (λ (q : ℕ). get_or (set d j (r % 1099511627776)) q 0 ≡ risen_at n a w q) (sym z)
        (get_or-set_same d j (r % 1099511627776) 0 (omega (arith, t.long)) ∙ value)
    done m b (no z) = get_or-set_other d j m (r % 1099511627776) 0 z ∙ t.done m (omega arith)

-- after the last turn
pub up_done : {n : ℕ} {a w : ℕ → Float} {d : List ℕ} {x : Float} {i : ℕ} → i ≡ n → Up n a w d x i → d ≡ risen n a w
up_done {n} {a} {w} {d} {i = i} e t = is_risen n a w d t.long (λ j. go j (dec_le j i))
  where
    go : (j : ℕ) → Dec (j ≤ i) → get_or d j 0 ≡ risen_at n a w j
    go j (yes h) = t.done j h
    go j (no h) = t.rest j (omega arith) ∙ sym (risen_behind n a w j (omega arith))
