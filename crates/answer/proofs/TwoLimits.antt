-- One pull against two limits: which of them is named at a level.
use mathlib.Core.Path.{◌≡◌, refl, ap, ap₂, ◌∙◌}
use mathlib.Core.Bool.{Bool, true, false, cond, not, ◌&&◌, ◌||◌, and-true, and-false, or-false, or_comm}
use Prim.Native.Nat.{ℕ, ◌≤◌, ◌<◌}
use native.Mathlib.Omega.{arith}
use borrow.Author.Tests.{ltb-true, ltb-false, leb-true, lt-ltb, le-ltb, le-leb, lt-leb}
use lib.Dec.{ltb, leb}
use Rattle.sheet.specs.declared.Sheet.{Sheet}
use Rattle.sheet.specs.Ends.{End}
use Rattle.sheet.proofs.Bools as B
use Rattle.statics.specs.declared.EndFigures.{EndFigures}
use Rattle.answer.specs.Findings.{Kind, racking, compression, corner_tension, lock_tension, lash_tension, lash_vertical, lash_athwart}
use Rattle.answer.specs.Findings.{limit_at, size_at, exceeded, named}
use Rattle.answer.specs.OnePull.{lock_lower, lower, other}

-- a limit that is exceeded only where another is adds nothing
adds_none : (x y : Bool) → (x ≡ true → y ≡ true) → y ≡ x || y
adds_none true y h = h refl
adds_none false y h = refl

-- a limit is passed over where the other one goes before it, which is not above it: what exceeds the one exceeds the other
passed_over :
    (limit other s : ℕ) (before : Bool) →
    (before ≡ true → other ≤ limit) →
    ltb limit s && not (ltb other s && before) ≡ ltb limit s && not before
passed_over limit other s true h = go (ltb limit s) refl
  where
    go : (x : Bool) → ltb limit s ≡ x → x && not (ltb other s && true) ≡ x && false
    go true over = rw (lt-ltb other s (omega (arith, h refl, ltb-true limit s over))) refl
    go false over = refl
passed_over limit other s false h = rw (and-false (ltb other s)) refl

pub lowest : (e : End) (t : Sheet) (i : ℕ) → limit_at e t (lower e t i) i ≤ limit_at e t (other e t i) i
lowest e t i = go (lock_lower e t i) refl
  where
    go :
        (b : Bool) →
        lock_lower e t i ≡ b →
        limit_at e t (cond b lock_tension corner_tension) i ≤ limit_at e t (cond b corner_tension lock_tension) i
    go true h = omega (arith, ltb-true (limit_at e t lock_tension i) (limit_at e t corner_tension i) h)
    go false h = ltb-false (limit_at e t lock_tension i) (limit_at e t corner_tension i) h

module _ (e : End) (t : Sheet) (f : EndFigures) (i : ℕ) where
  abbrev corner : ℕ
  corner = limit_at e t corner_tension i

  abbrev lock : ℕ
  lock = limit_at e t lock_tension i

  abbrev over : Kind → Bool
  over k = exceeded e t f k i

  -- the corner is named unless the lock's limit is lower, the lock unless the corner's is not higher
  corner_short : named e t f corner_tension i ≡ over corner_tension && not (ltb lock corner)
  corner_short =
      passed_over corner lock (size_at f corner_tension i) (ltb lock corner) (λ h. omega (arith, ltb-true lock corner h))

  lock_short : named e t f lock_tension i ≡ over lock_tension && not (leb corner lock)
  lock_short = passed_over lock corner (size_at f lock_tension i) (leb corner lock) (leb-true corner lock)

  -- a level whose lock has the lower limit, and one whose corner has it or where they are equal
  module _ (h : lock < corner) where
    pub corner_passed : named e t f corner_tension i ≡ false
    corner_passed = corner_short ∙ rw (lt-ltb lock corner h) (and-false (over corner_tension))

    pub lock_kept : named e t f lock_tension i ≡ over lock_tension
    lock_kept = lock_short ∙ rw (lt-leb corner lock h) (and-true (over lock_tension))

    lock_too : over corner_tension ≡ true → over lock_tension ≡ true
    lock_too o = lt-ltb lock (size_at f lock_tension i) (omega (arith, ltb-true corner (size_at f corner_tension i) o))

  module _ (h : corner ≤ lock) where
    pub lock_passed : named e t f lock_tension i ≡ false
    lock_passed = lock_short ∙ rw (le-leb corner lock h) (and-false (over lock_tension))

    pub corner_kept : named e t f corner_tension i ≡ over corner_tension
    corner_kept = corner_short ∙ rw (le-ltb lock corner h) (and-true (over corner_tension))

    corner_too : over lock_tension ≡ true → over corner_tension ≡ true
    corner_too o = lt-ltb corner (size_at f corner_tension i) (omega (arith, ltb-true lock (size_at f lock_tension i) o))

  -- by cases on the lower limit
  lower_by : (b : Bool) → lock_lower e t i ≡ b → named e t f (cond b lock_tension corner_tension) i ≡ over (cond b lock_tension corner_tension)
  lower_by true h = lock_kept (ltb-true lock corner h)
  lower_by false h = corner_kept (ltb-false lock corner h)

  other_by : (b : Bool) → lock_lower e t i ≡ b → named e t f (cond b corner_tension lock_tension) i ≡ false
  other_by true h = corner_passed (ltb-true lock corner h)
  other_by false h = lock_passed (ltb-false lock corner h)

  both_by : (b : Bool) → lock_lower e t i ≡ b → named e t f corner_tension i && named e t f lock_tension i ≡ false
  both_by true h = ap (λ (x : Bool). x && named e t f lock_tension i) (other_by true h)
  both_by false h = ap (λ (x : Bool). named e t f corner_tension i && x) (other_by false h) ∙ and-false (named e t f corner_tension i)

  one_by :
      (b : Bool) → lock_lower e t i ≡ b → named e t f corner_tension i || named e t f lock_tension i ≡ over corner_tension || over lock_tension
  one_by true h =
      ap₂ (λ (x y : Bool). x || y) (other_by true h) (lower_by true h)
      ∙ adds_none (over corner_tension) (over lock_tension) (lock_too (ltb-true lock corner h))
  one_by false h =
      ap₂ (λ (x y : Bool). x || y) (lower_by false h) (other_by false h)
      ∙ or-false (over corner_tension)
      ∙ adds_none (over lock_tension) (over corner_tension) (corner_too (ltb-false lock corner h))
      ∙ or_comm (over lock_tension) (over corner_tension)

  pub lower_named : named e t f (lower e t i) i ≡ exceeded e t f (lower e t i) i
  lower_named = lower_by (lock_lower e t i) refl

  pub other_unnamed : named e t f (other e t i) i ≡ false
  other_unnamed = other_by (lock_lower e t i) refl

  pub never_both : named e t f corner_tension i && named e t f lock_tension i ≡ false
  never_both = both_by (lock_lower e t i) refl

  pub one : named e t f corner_tension i || named e t f lock_tension i ≡ exceeded e t f corner_tension i || exceeded e t f lock_tension i
  one = one_by (lock_lower e t i) refl

  -- what is named is exceeded, and what is named depends on the reported size alone
  pub named_exceeded : (k : Kind) → named e t f k i ≡ true → exceeded e t f k i ≡ true
  named_exceeded racking h = h
  named_exceeded compression h = h
  named_exceeded corner_tension h = (B.and_true (over corner_tension) _ h).0
  named_exceeded lock_tension h = (B.and_true (over lock_tension) _ h).0
  named_exceeded lash_tension h = h
  named_exceeded lash_vertical h = h
  named_exceeded lash_athwart h = h

pub named_same :
    (e : End) (t : Sheet) (f g : EndFigures) (k : Kind) (i : ℕ) → size_at f k i ≡ size_at g k i → named e t f k i ≡ named e t g k i
named_same e t f g racking i h = ap (ltb (limit_at e t racking i)) h
named_same e t f g compression i h = ap (ltb (limit_at e t compression i)) h
named_same e t f g corner_tension i h =
    let c = limit_at e t corner_tension i in
    let l = limit_at e t lock_tension i in
    ap (λ (s : ℕ). ltb c s && not (ltb l s && ltb l c)) h
named_same e t f g lock_tension i h =
    let c = limit_at e t corner_tension i in
    let l = limit_at e t lock_tension i in
    ap (λ (s : ℕ). ltb l s && not (ltb c s && leb c l)) h
named_same e t f g lash_tension i h = ap (ltb (limit_at e t lash_tension i)) h
named_same e t f g lash_vertical i h = ap (ltb (limit_at e t lash_vertical i)) h
named_same e t f g lash_athwart i h = ap (ltb (limit_at e t lash_athwart i)) h
