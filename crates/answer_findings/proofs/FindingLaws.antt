-- The findings in bytes, kind by kind, against document 01's list of findings.
use mathlib.Core.Path.{◌≡◌, refl, ap, ap₂, ◌∙◌}
use mathlib.Core.Bool.{Bool, true, false, cond, ◌&&◌}
use mathlib.Core.List.{List, [], ◌∷◌, ◌++◌, flat_map, append_assoc, append-nil}
use Prim.Native.Nat.{ℕ, zero, suc, ◌+◌, ◌*◌, ◌<◌, ◌≤◌}
use native.Mathlib.Nat.{add-zero, zero-add}
use native.Mathlib.Omega.{arith}
use borrow.Author.Tests.{ltb-true, ltb-false, ne_eqb}
use lib.Dec.{ltb, eqb}
use lib.ListN.{length, get_or, length-append}
use lib.Seq.{get_or-take}
use Rattle.sheet.specs.Layout.{blank_lash}
use Rattle.sheet.specs.declared.Lash.{Lash}
use Rattle.sheet.specs.declared.Sheet.{Sheet}
use Rattle.statics.specs.declared.EndFigures.{EndFigures}
use Rattle.statics.specs.declared.Figures.{Figures}
use Rattle.sheet.specs.Ends.{End, door, closed, lashes_of}
use Rattle.answer.specs.Limits.{corner_tension_limit, safe_load}
use Rattle.answer.specs.Findings.{Finding, Kind, racking, compression, corner_tension, lock_tension, lash_tension, lash_vertical, lash_athwart}
use Rattle.answer.specs.Findings.{end_code, kind_code, figures_of, first_index, index_count, size_at, limit_at, exceeded, named, findings_from}
use Rattle.answer.specs.Findings.{end_findings, findings_by, findings, accepted}
use Rattle.answer.specs.Answers.{finding_bytes}
use Rattle.arith.specs.Lists.{from}
use Rattle.limits.specs.declared.PullLimit.{PullLimit}
use Rattle.limits.specs.Inner.LowerOf.{lower_of}
use Rattle.answer_put.specs.Inner.Puts.{Put, lash_limit, finding_where, findings_over}
use Rattle.answer_put.proofs.Puts.{then}
use Rattle.answer_findings.specs.Inner.Findings.{PutFindings, Sized, tier_findings, lash_findings}
use Rattle.answer.proofs.ReadBack.{bytes_length}
use Rattle.answer.proofs.TwoLimits.{corner_passed, lock_kept, lock_passed, corner_kept}
use Rattle.answer.proofs.Accepted.{nowhere}

-- entries that agree from i on, and entries counted from another place
entries_same : (f g : ℕ → List ℕ) (i n : ℕ) → ((k : ℕ) → i ≤ k → k < i + n → f k ≡ g k) → flat_map f (from i n) ≡ flat_map g (from i n)
unfolding flat_map from
entries_same f g i zero h = refl
entries_same f g i (suc n) h =
    ap₂ (λ (a b : List ℕ). a ++ b) (h i (omega arith) (omega arith)) (entries_same f g (suc i) n (λ k l u. h k (omega arith) (omega arith)))

entries_from : (g : ℕ → List ℕ) (a i n : ℕ) → flat_map g (from (a + i) n) ≡ flat_map (λ k. g (a + k)) (from i n)
unfolding flat_map from
entries_from g a i zero = refl
entries_from g a i (suc n) =
    let e : suc (a + i) ≡ a + suc i = omega arith in
    rw e (ap (λ (l : List ℕ). g (a + i) ++ l) (entries_from g a (suc i) n))

over_same :
    (end kind first n : ℕ) (size a b : ℕ → ℕ) →
    ((i : ℕ) → i < first + n → a i ≡ b i) →
    findings_over end kind first size a n ≡ findings_over end kind first size b n
unfolding findings_over
over_same end kind first n size a b h =
    entries_same _ _ 0 n (λ k _ u. ap (λ (x : ℕ). finding_where end kind (first + k) (size (first + k)) x) (h (first + k) (omega arith)))

-- findings in bytes: of a list and a list
bytes_append : (xs ys : List Finding) → flat_map finding_bytes (xs ++ ys) ≡ flat_map finding_bytes xs ++ flat_map finding_bytes ys
unfolding flat_map
bytes_append [] ys = refl
bytes_append (x ∷ xs) ys = ap (λ (l : List ℕ). finding_bytes x ++ l) (bytes_append xs ys)

where_found :
    (b : Bool) (x : Finding) (xs : List Finding) →
    flat_map finding_bytes (cond b (x ∷ xs) xs) ≡ cond b (finding_bytes x) [] ++ flat_map finding_bytes xs
unfolding flat_map
where_found true x xs = refl
where_found false x xs = refl

-- one kind: its findings where each exceeded limit is named, and where none is
module _ (e : End) (t : Sheet) (f : EndFigures) (k : Kind) where
  abbrev entry : ℕ → List ℕ
  entry i = finding_where (end_code e) (kind_code k) i (size_at f k i) (limit_at e t k i)

  module _ (each : (i : ℕ) → named e t f k i ≡ exceeded e t f k i) where
    from_bytes : (i n : ℕ) → flat_map finding_bytes (findings_from named e t f k i n) ≡ flat_map entry (from i n)
    unfolding findings_from flat_map from finding_where
    from_bytes i zero = refl
    from_bytes i (suc n) =
        where_found (named e t f k i) (record { end = end_code e; kind = kind_code k; index = i }) (findings_from named e t f k (suc i) n)
        ∙ ap₂ (λ (b : Bool) (l : List ℕ). cond b (end_code e ∷ kind_code k ∷ i ∷ []) [] ++ l) (each i) (from_bytes (suc i) n)

    kind_bytes :
        (n : ℕ) (limit : ℕ → ℕ) →
        index_count e t k ≡ n →
        ((i : ℕ) → i < first_index k + n → limit_at e t k i ≡ limit i) →
        flat_map finding_bytes (findings_from named e t f k (first_index k) (index_count e t k)) ≡
        findings_over (end_code e) (kind_code k) (first_index k) (size_at f k) limit n
    unfolding findings_over
    kind_bytes n limit c h =
        let z : first_index k + 0 ≡ first_index k = add-zero (first_index k) in
        rw c
        (from_bytes (first_index k) n
        ∙ (rw z at (entries_from entry (first_index k) 0 n))
        ∙ over_same (end_code e) (kind_code k) (first_index k) n (size_at f k) (limit_at e t k) limit h)

  none_bytes : ((i : ℕ) → named e t f k i ≡ false) → (i n : ℕ) → flat_map finding_bytes (findings_from named e t f k i n) ≡ []
  unfolding flat_map
  none_bytes none i n = ap (flat_map finding_bytes) (nowhere named e t f k i n (λ j l u. none j))

-- kinds 3 and 4: the one with the lower limit alone
module _ (e : End) (t : Sheet) (f : EndFigures) where
  abbrev lock : ℕ
  lock = safe_load t.head.lockMaterial t.head.lockBreakingLoad

  abbrev tensions : Kind → List ℕ
  tensions k = flat_map finding_bytes (findings_from named e t f k 0 t.ntiers)

  abbrev pulls : PullLimit → List ℕ
  pulls p = findings_over (end_code e) p.kind 0 (λ i. get_or f.tension i 0) (λ i. p.limit) t.ntiers

  pulls_bytes : tensions corner_tension ++ tensions lock_tension ≡ pulls (lower_of lock)
  pulls_bytes = go (ltb lock corner_tension_limit) refl
    where
      go :
          (b : Bool) →
          ltb lock corner_tension_limit ≡ b →
          tensions corner_tension ++ tensions lock_tension ≡
          pulls (cond b (record { kind = 4; limit = lock }) (record { kind = 3; limit = corner_tension_limit }))
      go true h =
          let low = ltb-true lock corner_tension_limit h in
          ap₂ (λ (a b : List ℕ). a ++ b)
          (none_bytes e t f corner_tension (λ i. corner_passed e t f i low) 0 t.ntiers)
          (kind_bytes e t f lock_tension (λ i. lock_kept e t f i low) t.ntiers _ refl (λ i h. refl))
      go false h =
          let low = ltb-false lock corner_tension_limit h in
          ap₂ (λ (a b : List ℕ). a ++ b)
          (kind_bytes e t f corner_tension (λ i. corner_kept e t f i low) t.ntiers _ refl (λ i h. refl))
          (none_bytes e t f lock_tension (λ i. lock_passed e t f i low) 0 t.ntiers)
          ∙ append-nil _

-- a sum is 0 where both parts are, three times a number where the number is
pub sum_none : (a b : ℕ) → eqb (a + b) 0 ≡ eqb a 0 && eqb b 0
sum_none zero b = rw (zero-add b) refl
sum_none (suc a) b = rw (ne_eqb (suc a + b) 0 (λ e. omega arith), ne_eqb (suc a) 0 (λ e. omega arith)) refl

thrice_none : (a : ℕ) → eqb (3 * a) 0 ≡ eqb a 0
thrice_none zero = refl
thrice_none (suc a) = rw (ne_eqb (3 * suc a) 0 (λ e. omega arith), ne_eqb (suc a) 0 (λ e. omega arith)) refl

-- an end: kinds 1 to 7
module _ (t : Sheet) (f : Figures) (e : End) (ls : List Lash) (m : ℕ) (few : length (lashes_of e t) ≡ m)
    (each : (j : ℕ) → j < m → get_or (lashes_of e t) j blank_lash ≡ get_or ls j blank_lash) where
  pub end_bytes :
      tier_findings (end_code e) t.ntiers (lower_of (safe_load t.head.lockMaterial t.head.lockBreakingLoad)) (figures_of e f)
      ++ lash_findings (end_code e) ls m (figures_of e f)
      ≡ flat_map finding_bytes (end_findings named t f e)
  unfolding tier_findings lash_findings flat_map
  end_bytes =
      let g = figures_of e f in
      let n = t.ntiers in
      let r = kind_bytes e t g racking (λ i. refl) n _ refl (λ i h. refl) in
      let c = kind_bytes e t g compression (λ i. refl) n _ refl (λ i h. refl) in
      let s = pulls_bytes e t g in
      let p =
      kind_bytes e t g lash_tension (λ i. refl) m (lash_limit ls) few
      (λ i h. ap (λ (l : Lash). safe_load l.material l.breakingLoad) (each i (omega arith))) in
      let v = kind_bytes e t g lash_vertical (λ i. refl) m _ few (λ i h. refl) in
      let a = kind_bytes e t g lash_athwart (λ i. refl) m _ few (λ i h. refl) in
      simp (bytes_append, append-nil, append_assoc, tier_findings, lash_findings, r, c, ← s, p, v, a)

  -- the end has no finding where it has no byte of one
  pub end_none :
      {pull : PullLimit} →
      pull ≡ lower_of (safe_load t.head.lockMaterial t.head.lockBreakingLoad) →
      eqb (length (tier_findings (end_code e) t.ntiers pull (figures_of e f) ++ lash_findings (end_code e) ls m (figures_of e f))) 0
      ≡ eqb (length (end_findings named t f e)) 0
  end_none lower = rw (lower, end_bytes, bytes_length (end_findings named t f e)) (thrice_none (length (end_findings named t f e)))

-- a stack is accepted where neither end has a finding
pub ends_accepted :
    (t : Sheet) (f : Figures) → accepted t f ≡ eqb (length (end_findings named t f door)) 0 && eqb (length (end_findings named t f closed)) 0
unfolding findings_by
ends_accepted t f =
    rw (length-append (end_findings named t f door) (end_findings named t f closed))
    (sum_none (length (end_findings named t f door)) (length (end_findings named t f closed)))

-- both ends
module _ (t : Sheet) (f : Figures) (s : Sized t) (pull : PullLimit)
    (lower : pull ≡ lower_of (safe_load t.head.lockMaterial t.head.lockBreakingLoad)) where
  abbrev end_put : ℕ → List Lash → ℕ → EndFigures → List ℕ
  end_put end ls m g = tier_findings end t.ntiers pull g ++ lash_findings end ls m g

  both_bytes :
      end_put 0 t.door t.ndoor f.door ++ end_put 1 t.closed t.nclosed f.closed
      ≡ flat_map finding_bytes (findings t f)
  unfolding findings_by
  both_bytes =
      rw (lower, bytes_append)
      (ap₂
      (λ (a b : List ℕ). a ++ b)
      (end_bytes t f door t.door t.ndoor s.door_lashes (λ j h. get_or-take t.ndoor t.door j blank_lash h))
      (end_bytes t f closed t.closed t.nclosed s.closed_lashes (λ j h. get_or-take t.nclosed t.closed j blank_lash h)))

  -- put one behind the other
  pub put_both :
      {before held after : List ℕ} {p q : ℕ} →
      Put before 0 (end_put 0 t.door t.ndoor f.door) held p →
      Put held p (end_put 1 t.closed t.nclosed f.closed) after q →
      q ≤ 108 →
      PutFindings t f before after q
  put_both a b few =
      let c = then a b in
      let size = ap length both_bytes ∙ bytes_length (findings t f) in
      record { put = rw both_bytes at c; counts = omega (arith, c.place, size); few = few }

-- no findings put, none found
pub none_accepted :
    {t : Sheet} {f : Figures} {before after : List ℕ} {count : ℕ} → PutFindings t f before after count → eqb count 0 ≡ accepted t f
none_accepted {t} {f} p = ap (λ (n : ℕ). eqb n 0) p.counts
