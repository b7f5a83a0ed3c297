-- Which numbers are enough: all from some number on. So there is a least one, and one that is kept within 600 and 1,000.
use Prim.Native.Nat.{ℕ, zero, suc, ◌+◌, ◌-◌, ◌*◌, ◌≤◌, ◌<◌, max, min}
use mathlib.Core.Bool.{Bool, true, false, cond, true≢false}
use mathlib.Core.Path.{◌≡◌, refl, sym, subst, ◌∙◌}
use native.Mathlib.Decide.{dec_lt}
use native.Mathlib.Nat.{mul-le-mul, mul-le-mul_left, mul-le-mul_right}
use native.Mathlib.Omega.{arith}
use lib.Dec.{leb}
use borrow.Author.Tests.{leb-true, le-leb}
use Rattle.forecast_factor.specs.Factor.{enough, first_enough, least_enough, factor}
use Rattle.forecast_factor.specs.Theorems.{Least, Kept}

pub clash : {A : Type 0} {x : Bool} → x ≡ true → x ≡ false → A
clash e f = absurd (true≢false (sym e ∙ f))

module _ (h b : ℕ) where
  -- what is enough stays enough
  pub grows : (t s : ℕ) → enough h b t ≡ true → t ≤ s → enough h b s ≡ true
  unfolding enough
  grows t s e l =
      let less : t - 400 ≤ s - 400 = omega arith in
      let more : 2500 * (h * h) ≤ (s - 400) * (s - 400) * b =
      omega (arith, leb-true (2500 * (h * h)) _ e, mul-le-mul_right b (mul-le-mul less less)) in
      le-leb _ _ more

  pub not_before : (t s : ℕ) → enough h b s ≡ false → t ≤ s → enough h b t ≡ false
  not_before t s e l = go (enough h b t) refl
    where
      go : (x : Bool) → enough h b t ≡ x → enough h b t ≡ false
      go true f = clash (grows t s f l) e
      go false f = f

  -- the first of `more` numbers from t on, where the one behind them is enough
  record First (t found : ℕ) : Type 0 where
    pub low : t ≤ found
    pub reached : enough h b found ≡ true
    pub none_less : (s : ℕ) → t ≤ s → s < found → enough h b s ≡ false

  none_before : (t s : ℕ) → t ≤ s → s < t → ⊥
  none_before t s l u = omega arith

  here : (t : ℕ) → enough h b t ≡ true → First t t
  here t e = record { low = omega arith; reached = e; none_less = λ s l u. absurd (none_before t s l u) }

  later : (t found : ℕ) → enough h b t ≡ false → First (suc t) found → First t found
  later t found e rest = record { low = omega (arith, rest.low); reached = rest.reached; none_less = λ s l u. at s u (dec_lt t s) }
    where
      at : (s : ℕ) → s < found → Dec (t < s) → enough h b s ≡ false
      at s u (yes k) = rest.none_less s (omega arith) u
      at s u (no k) = not_before s t e (omega arith)

  first : (t more : ℕ) → enough h b (t + more) ≡ true → First t (first_enough h b t more)
  unfolding first_enough
  first t zero e =
      let same : t + 0 ≡ t = omega arith in
      here t (subst (λ (x : ℕ). enough h b x ≡ true) same e)
  first t (suc more) e =
      let same : t + suc more ≡ suc t + more = omega arith in
      go (enough h b t) refl (first (suc t) more (subst (λ (x : ℕ). enough h b x ≡ true) same e))
    where
      go : (x : Bool) → enough h b t ≡ x → First (suc t) (first_enough h b (suc t) more) → First t (cond x t (first_enough h b (suc t) more))
      go true f rest = here t f
      go false f rest = later t _ f rest

  module _ (positive : 0 < b) where
    -- 400 + 50 × H is enough
    far : enough h b (400 + 50 * h) ≡ true
    unfolding enough
    far = go (400 + 50 * h - 400) (omega arith)
      where
        go : (u : ℕ) → u ≡ 50 * h → leb (2500 * (h * h)) (u * u * b) ≡ true
        go u e = rw e (le-leb _ _ most)
          where
            most : 2500 * (h * h) ≤ 50 * h * (50 * h) * b
            most = omega (arith, mul-le-mul_left (50 * h * (50 * h)) positive)

    pub least : Least h b (least_enough h b)
    least =
        let found = first 400 (50 * h) far in
        record { from_400 = found.low; reached = found.reached; none_less = found.none_less }

    pub kept : Kept h b (factor h b)
    unfolding factor
    kept = go (least_enough h b) least
      where
        go : (t : ℕ) → Least h b t → Kept h b (max 600 (min 1000 t))
        go t found =
            record {
              low = omega arith;
              high = omega arith;
              reached = λ l. grows t _ found.reached (omega arith);
              none_less = λ s l u. found.none_less s (omega arith) (omega arith);
            }

  -- no two numbers are kept
  not_two : (t s : ℕ) → Kept h b t → Kept h b s → t < s → ⊥
  not_two t s k l u = clash (k.reached (omega (arith, l.high))) (l.none_less t k.low u)

  pub same : (t s : ℕ) → Kept h b t → Kept h b s → t ≡ s
  same t s k l = omega (arith, not_two t s k l, not_two s t l k)

pub factor_most : (h b : ℕ) → factor h b ≤ 1000
unfolding factor
factor_most h b = omega arith
