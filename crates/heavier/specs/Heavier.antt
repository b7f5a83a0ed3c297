-- Document 02, P14: two sheets that differ only in masses, none lower in the second, and what is not lower then.
use Rattle.std.specs.Prelude.{ℕ, ◌+◌, ◌<◌, ◌≤◌, Bool, true, false, List, ◌≢◌, ◌≡◌, nat_abs, length}
use Rattle.arith.specs.Bytes.{byte_at, le2}
use Rattle.arith.specs.Fractions.{Frac, ◌⊑◌}
use Rattle.springs.specs.Equations.{shift}
use Rattle.sheet.specs.declared.Sheet.{Sheet}
use Rattle.sheet.specs.Layout.{tier_count, tier_place}
use Rattle.sheet.specs.Fits.{tier_at}
use Rattle.sheet.specs.Ends.{End}
use Rattle.statics.specs.Loads.{Rule}
use Rattle.statics.specs.Ends.{EndSolved}
use Rattle.statics.specs.Forces.{Force, racking, compression, tension, lash_tension, lash_athwart, lash_vertical, entry_count, exact_force}
use Rattle.statics.specs.Theorems.{HeavierTier}
use Rattle.answer.specs.Checked.{kept, demanded}
use Rattle.answer.specs.Places.{force_in}

-- decoded sheets: u has t's head, counts and lashes, and each of its tiers is t's but for the mass, which is no lower
pub record HeavierSheet (t u : Sheet) : Type 0 where
  pub same :
      u
      ≡ record {
        head = t.head;
        tiers = u.tiers;
        ntiers = t.ntiers;
        door = t.door;
        ndoor = t.ndoor;
        closed = t.closed;
        nclosed = t.nclosed;
      }
  pub tiers : (k : ℕ) → k < t.ntiers → HeavierTier (tier_at t.tiers k) (tier_at u.tiers k)

-- bytes: a tier's mass is the fifth and sixth of its twelve, tiers counted from 0
abbrev pub mass_at : ℕ → ℕ
mass_at k = tier_place k + 4

-- place i holds no byte of the mass of one of n tiers
abbrev pub OffMasses : ℕ → ℕ → Type 0
OffMasses n i = (k : ℕ) → k < n → (i ≢ mass_at k) × (i ≢ mass_at k + 1)

-- c has as many bytes as s, the same but for those of masses, and no mass is lower
pub record HeavierBytes (s c : List ℕ) : Type 0 where
  pub size : length c ≡ length s
  pub same : (i : ℕ) → OffMasses (tier_count s) i → byte_at c i ≡ byte_at s i
  pub masses : (k : ℕ) → k < tier_count s → le2 s (mass_at k) ≤ le2 c (mass_at k)

-- the forces of a lash: tension, athwart and vertical part. Racking and corner tension are not included (NotIncluded), nor is compression
abbrev pub of_lash : Force → Bool
of_lash racking = false
of_lash compression = false
of_lash tension = false
of_lash lash_tension = true
of_lash lash_athwart = true
of_lash lash_vertical = true

-- exact: no level's shift and no lash force of an end is lower at the shifts Es of u than at the shifts Ds of t
pub record ExactNotLower (rule : Rule) (e : End) (t u : Sheet) (Ds Es : List Frac) : Type 0 where
  pub shifts : (i : ℕ) → shift Ds i ⊑ shift Es i
  pub forces : (x : Force) → of_lash x ≡ true → (j : ℕ) → exact_force x rule e t Ds j ⊑ exact_force x rule e u Es j

-- reported: a force that is read back from an answer's bytes, in N
abbrev pub newtons : Sheet → End → List ℕ → Force → ℕ → ℕ
newtons t e s x j = nat_abs (force_in t e s x j)

-- no lash force of either end is lower by `margin` N or more in the bytes c of u's answer than in the bytes s of t's
pub record ReportedNotLower (margin : ℕ) (t u : Sheet) (s c : List ℕ) : Type 0 where
  pub forces :
      (e : End) (x : Force) → of_lash x ≡ true → (j : ℕ) → j < entry_count x e t → newtons t e s x j < newtons u e c x j + margin

-- both, where `by` is what a sheet's loads go by: exact at every solution of each end's equations, reported within the 9 N that the check
-- keeps and so within 02's 100 N
pub record NotLower (by : Sheet → Rule) (t u : Sheet) (s c : List ℕ) : Type 0 where
  pub exact : (e : End) (Ds Es : List Frac) → EndSolved (by t) e t Ds → EndSolved (by u) e u Es → ExactNotLower (by t) e t u Ds Es
  pub within_kept : ReportedNotLower kept t u s c
  pub within_demanded : ReportedNotLower demanded t u s c
