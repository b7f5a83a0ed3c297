-- An accepted stack exceeds no checked limit, and every finding stands for a force above its limit or less than the margin short of it.
use mathlib.Core.Path.{◌≡◌, refl, sym, ap, ap₂, subst, ◌∙◌}
use mathlib.Core.Bool.{Bool, true, false, cond, ◌||◌}
use mathlib.Core.List.Memᴰ
use mathlib.Core.List.{List, [], ◌∷◌, ◌++◌, flat_map, Memᴰ}
use mathlib.Core.Logic.{⊎_elim}
use Prim.Native.Nat.{ℕ, zero, suc, ◌+◌, ◌-◌, ◌≤◌, ◌<◌}
use native.Mathlib.Nat.{eq-or-lt_of_le}
use native.Mathlib.Omega.{arith}
use borrow.Author.Tests.{ltb-true, ltb-false}
use lib.IntN.{pos}
use Rattle.arith.specs.Fractions.{Frac, nat, ◌+q◌, absq, ◌⊑◌, ◌⊏◌}
use Rattle.arith.proofs.FractionLaws.{⊑_trans}
use Rattle.arith.proofs.Rationals.{to-⊑}
use Rattle.arith.proofs.RationalOrder.{≤ℚ-<ℚ-trans, nat_q}
use Rattle.arith.proofs.FractionsInRationals.{mk_int, of-⊏, to-⊏}
use Rattle.sheet.specs.declared.Sheet.{Sheet}
use Rattle.sheet.proofs.Bools.{or_false}
use Rattle.statics.specs.declared.EndFigures.{EndFigures}
use Rattle.statics.specs.declared.Figures.{Figures}
use Rattle.sheet.specs.Ends.{End, door, closed}
use Rattle.statics.specs.Loads.{Rule}
use Rattle.statics.specs.Forces as F
use Rattle.statics.specs.Reported.{Reported, EndReported, EndFigured}
use Rattle.answer.specs.Findings.{Kind, racking, compression, corner_tension, lock_tension, lash_tension, lash_vertical, lash_athwart}
use Rattle.answer.specs.Findings.{kinds, Finding, end_code, kind_code, figures_of, first_index, index_count, size_at, limit_at, exact_at}
use Rattle.answer.specs.Findings.{Said, exceeded, named, findings_from, end_findings, findings_by, findings, verdict}
use Rattle.answer.specs.Consequences.{CheckedAt, WithinLimits, Justified}
use Rattle.answer.proofs.TwoLimits.{one, named_exceeded}

-- what the report says of a checked force
reported :
    {margin : ℕ} {rule : Rule} {e : End} {t : Sheet} {Ds : List Frac} {f : EndFigures} →
    EndReported margin rule e t Ds f →
    (k : Kind) (i : ℕ) →
    CheckedAt e t k i →
    Reported margin (exact_at rule e t Ds k i) (size_at f k i)
reported r racking i c = r.forces F.racking (i - 1) (omega (arith, c.least, c.most))
reported r compression i c = r.forces F.compression i (omega (arith, c.most))
reported r corner_tension i c = r.forces F.tension i (omega (arith, c.most))
reported r lock_tension i c = r.forces F.tension i (omega (arith, c.most))
reported r lash_tension i c = r.forces F.lash_tension i (omega (arith, c.most))
reported r lash_vertical i c = r.forces F.lash_vertical i (omega (arith, c.most))
reported r lash_athwart i c = r.forces F.lash_athwart i (omega (arith, c.most))

-- a reported size up to the limit, and one above it
module _ {margin : ℕ} {exact : Frac} {size limit : ℕ} (r : Reported margin exact size) where
  up_to : size ≤ limit → absq exact ⊑ nat limit
  up_to h =
      ⊑_trans (absq exact) (nat size) (nat limit) r.enough
      (to-⊑ (nat size) (nat limit) (rw (mk_int (pos size), mk_int (pos limit)) (nat_q size limit h)))

  above : limit < size → nat limit ⊏ absq exact +q nat margin
  above h =
      let l : limit ≤ size = omega arith in
      to-⊏ (nat limit) (absq exact +q nat margin)
      (≤ℚ-<ℚ-trans (rw (mk_int (pos limit), mk_int (pos size)) (nat_q limit size l))
      (of-⊏ (nat size) (absq exact +q nat margin) r.close))

-- lists of findings
pub not_none : (x : Finding) (xs : List Finding) → x ∷ xs ≡ [] → ⊥
not_none x xs e = let z : ◌≡◌ {A = ℕ} 0 1 = cc in omega arith

nil_left : (xs ys : List Finding) → xs ++ ys ≡ [] → xs ≡ []
nil_left [] ys e = refl
nil_left (x ∷ xs) ys e = absurd (not_none x (xs ++ ys) e)

nil_right : (xs ys : List Finding) → xs ++ ys ≡ [] → ys ≡ []
nil_right xs ys e = sym (ap (λ (l : List Finding). l ++ ys) (nil_left xs ys e)) ∙ e

module _ (g : Kind → List Finding) where
  none_of : (ks : List Kind) (k : Kind) → Memᴰ k ks → flat_map g ks ≡ [] → g k ≡ []
  unfolding flat_map
  none_of [] k m e = absurd (Memᴰ.not-nil m)
  none_of (j ∷ js) k m e =
      ⊎_elim (λ q. ap g q ∙ nil_left (g j) (flat_map g js) e) (λ n. none_of js k n (nil_right (g j) (flat_map g js) e))
      (Memᴰ.cases_cons m)

  all_none : (ks : List Kind) → ((k : Kind) → g k ≡ []) → flat_map g ks ≡ []
  unfolding flat_map
  all_none [] h = refl
  all_none (j ∷ js) h = ap₂ (λ (a b : List Finding). a ++ b) (h j) (all_none js h)

  one_of : (ks : List Kind) (x : Finding) → Memᴰ x (flat_map g ks) → (k : Kind) × Memᴰ x (g k)
  unfolding flat_map
  one_of [] x m = absurd (Memᴰ.not-nil m)
  one_of (j ∷ js) x m =
      ⊎_elim {C = (k : Kind) × Memᴰ x (g k)} (λ n. (j, n)) (λ n. one_of js x n) (Memᴰ.append_cases (g j) m)

every : (k : Kind) → Memᴰ k kinds
every racking = Memᴰ.head refl
every compression = Memᴰ.tail (Memᴰ.head refl)
every corner_tension = Memᴰ.tail (Memᴰ.tail (Memᴰ.head refl))
every lock_tension = Memᴰ.tail (Memᴰ.tail (Memᴰ.tail (Memᴰ.head refl)))
every lash_tension = Memᴰ.tail (Memᴰ.tail (Memᴰ.tail (Memᴰ.tail (Memᴰ.head refl))))
every lash_vertical = Memᴰ.tail (Memᴰ.tail (Memᴰ.tail (Memᴰ.tail (Memᴰ.tail (Memᴰ.head refl)))))
every lash_athwart =
    Memᴰ.tail (Memᴰ.tail (Memᴰ.tail (Memᴰ.tail (Memᴰ.tail (Memᴰ.tail (Memᴰ.head refl))))))

-- a finding of kind k at end e: its index, from i on, and what is said there
record Stands (said : Said) (e : End) (t : Sheet) (f : EndFigures) (k : Kind) (i n : ℕ) (x : Finding) : Type 0 where
  named_end : x.end ≡ end_code e
  named_kind : x.kind ≡ kind_code k
  least : i ≤ x.index
  most : x.index < i + n
  holds : said e t f k x.index ≡ true

module _ (said : Said) (e : End) (t : Sheet) (f : EndFigures) (k : Kind) where
  none_from : (i n : ℕ) → findings_from said e t f k i n ≡ [] → (j : ℕ) → i ≤ j → j < i + n → said e t f k j ≡ false
  unfolding findings_from
  none_from i zero q j l u = absurd (out l u)
    where
      out : i ≤ j → j < i + 0 → ⊥
      out a b = omega arith
  none_from i (suc n) q j l u = go (said e t f k i) refl q (none_from (suc i) n)
    where
      here : Finding
      here = record { end = end_code e; kind = kind_code k; index = i }

      rest : List Finding
      rest = findings_from said e t f k (suc i) n

      go :
          (b : Bool) →
          said e t f k i ≡ b →
          cond b (here ∷ rest) rest ≡ [] →
          (rest ≡ [] → (j : ℕ) → suc i ≤ j → j < suc i + n → said e t f k j ≡ false) →
          said e t f k j ≡ false
      go true h p r = absurd (not_none here rest p)
      go false h p r =
          ⊎_elim
          (λ (s : i ≡ j). subst (λ (m : ℕ). said e t f k m ≡ false) s h)
          (λ (s : i < j). r p j s (omega arith))
          (eq-or-lt_of_le l)

  pub nowhere : (i n : ℕ) → ((j : ℕ) → i ≤ j → j < i + n → said e t f k j ≡ false) → findings_from said e t f k i n ≡ []
  unfolding findings_from
  nowhere i zero h = refl
  nowhere i (suc n) h = rw (h i (omega arith) (omega arith)) (nowhere (suc i) n (λ j l u. h j (omega arith) (omega arith)))

  one_from : (i n : ℕ) (x : Finding) → Memᴰ x (findings_from said e t f k i n) → Stands said e t f k i n x
  unfolding findings_from
  one_from i zero x m = absurd (Memᴰ.not-nil m)
  one_from i (suc n) x m = go (said e t f k i) refl m (one_from (suc i) n x)
    where
      here : Finding
      here = record { end = end_code e; kind = kind_code k; index = i }

      rest : List Finding
      rest = findings_from said e t f k (suc i) n

      later : Stands said e t f k (suc i) n x → Stands said e t f k i (suc n) x
      later s =
          record {
            named_end = s.named_end;
            named_kind = s.named_kind;
            least = omega (arith, s.least);
            most = omega (arith, s.most);
            holds = s.holds;
          }

      first : said e t f k i ≡ true → x ≡ here → Stands said e t f k i (suc n) x
      first h q =
          let at : x.index ≡ i = ap (λ (y : Finding). y.index) q in
          record {
            named_end = ap (λ (y : Finding). y.end) q;
            named_kind = ap (λ (y : Finding). y.kind) q;
            least = omega arith;
            most = omega arith;
            holds = subst (λ (m : ℕ). said e t f k m ≡ true) (sym at) h;
          }

      go :
          (b : Bool) →
          said e t f k i ≡ b →
          Memᴰ x (cond b (here ∷ rest) rest) →
          (Memᴰ x rest → Stands said e t f k (suc i) n x) →
          Stands said e t f k i (suc n) x
      go true h m r = ⊎_elim (first h) (λ s. later (r s)) (Memᴰ.cases_cons m)
      go false h m r = later (r m)

-- both ends, whatever is said
module _ (said : Said) (t : Sheet) (f : Figures) where
  none_at : findings_by said t f ≡ [] → (e : End) → end_findings said t f e ≡ []
  unfolding findings_by
  none_at q door = nil_left (end_findings said t f door) (end_findings said t f closed) q
  none_at q closed = nil_right (end_findings said t f door) (end_findings said t f closed) q

  one_at : (x : Finding) → Memᴰ x (findings_by said t f) → (e : End) × Memᴰ x (end_findings said t f e)
  unfolding findings_by
  one_at x m =
      ⊎_elim {C = (e : End) × Memᴰ x (end_findings said t f e)} (λ n. (door, n)) (λ n. (closed, n))
      (Memᴰ.append_cases (end_findings said t f door) m)

  -- no finding: it is said of no checked kind
  pub none_said : findings_by said t f ≡ [] → (e : End) (k : Kind) (i : ℕ) → CheckedAt e t k i → said e t (figures_of e f) k i ≡ false
  none_said q e k i c =
      none_from said e t (figures_of e f) k (first_index k) (index_count e t k)
      (none_of (λ k. findings_from said e t (figures_of e f) k (first_index k) (index_count e t k)) kinds k (every k) (none_at q e))
      i
      c.least
      c.most

  -- and the other way
  pub none_anywhere : ((e : End) (k : Kind) (i : ℕ) → CheckedAt e t k i → said e t (figures_of e f) k i ≡ false) → findings_by said t f ≡ []
  unfolding findings_by
  none_anywhere h = ap₂ (λ (a b : List Finding). a ++ b) (end door) (end closed)
    where
      end : (e : End) → end_findings said t f e ≡ []
      end e =
          all_none (λ k. findings_from said e t (figures_of e f) k (first_index k) (index_count e t k)) kinds
          (λ k.
          nowhere said e t (figures_of e f) k (first_index k) (index_count e t k)
          (λ j l u. h e k j (record { least = l; most = u })))

-- no limit named: none exceeded, for corner and lock are checked at the same levels
module _ (t : Sheet) (f : Figures) (none : findings t f ≡ []) where
  unnamed : (e : End) (k : Kind) (i : ℕ) → CheckedAt e t k i → named e t (figures_of e f) k i ≡ false
  unnamed = none_said named t f none

  either_kept :
      (e : End) (i : ℕ) →
      CheckedAt e t corner_tension i →
      (exceeded e t (figures_of e f) corner_tension i ≡ false) × (exceeded e t (figures_of e f) lock_tension i ≡ false)
  either_kept e i c =
      let g = figures_of e f in
      let l : CheckedAt e t lock_tension i = record { least = c.least; most = c.most } in
      or_false (exceeded e t g corner_tension i) (exceeded e t g lock_tension i)
      (sym (one e t g i) ∙ ap₂ (λ (x y : Bool). x || y) (unnamed e corner_tension i c) (unnamed e lock_tension i l))

  pub unexceeded : (e : End) (k : Kind) (i : ℕ) → CheckedAt e t k i → exceeded e t (figures_of e f) k i ≡ false
  unexceeded e racking i c = unnamed e racking i c
  unexceeded e compression i c = unnamed e compression i c
  unexceeded e corner_tension i c = (either_kept e i c).0
  unexceeded e lock_tension i c = (either_kept e i (record { least = c.least; most = c.most })).1
  unexceeded e lash_tension i c = unnamed e lash_tension i c
  unexceeded e lash_vertical i c = unnamed e lash_vertical i c
  unexceeded e lash_athwart i c = unnamed e lash_athwart i c

module _ (t : Sheet) (f : Figures) where
  accepting : verdict (findings t f) ≡ 0 → findings t f ≡ []
  accepting e = go (findings t f) e
    where
      go : (fs : List Finding) → verdict fs ≡ 0 → fs ≡ []
      go [] q = refl
      go (x ∷ xs) q = absurd (never q)
        where
          never : ◌≡◌ {A = ℕ} 1 0 → ⊥
          never q = omega arith

  module _ {margin : ℕ} {rule : Rule} (figured : (e : End) → EndFigured margin rule e t (figures_of e f)) where
    -- no finding: no checked limit is exceeded, named or unnamed
    pub none_broken : findings t f ≡ [] → WithinLimits rule t
    none_broken none =
        record {
          within =
              λ e Ds s k i c.
              up_to (reported ((figured e).reports Ds s) k i c)
              (ltb-false (limit_at e t k i) (size_at (figures_of e f) k i) (unexceeded t f none e k i c));
        }

    -- verdict 0: no checked limit is exceeded
    pub accepted : verdict (findings t f) ≡ 0 → WithinLimits rule t
    accepted v = none_broken (accepting v)

    -- every finding names a force above its limit, or less than the margin short of exceeding it
    pub found : (x : Finding) → Memᴰ x (findings t f) → Justified margin rule t x
    found x m =
        let (e, n) = one_at named t f x m in
        let g = figures_of e f in
        let (k, o) = one_of (λ k. findings_from named e t g k (first_index k) (index_count e t k)) kinds x n in
        let s = one_from named e t g k (first_index k) (index_count e t k) x o in
        let c : CheckedAt e t k x.index = record { least = s.least; most = s.most } in
        let over = ltb-true (limit_at e t k x.index) (size_at g k x.index) (named_exceeded e t g x.index k s.holds) in
        record {
          end = e;
          kind = k;
          named_end = s.named_end;
          named_kind = s.named_kind;
          checked = c;
          near = λ Ds z. above (reported ((figured e).reports Ds z) k x.index c) over;
        }
