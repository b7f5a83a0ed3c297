-- Demand 3: what a reported force says of the exact one.
use Rattle.std.specs.Prelude.{List, ℕ, ◌<◌, ◌^◌, get_or, ℤ, pos, nat_abs, ◌<ℤ◌}
use Rattle.arith.specs.Fractions.{Frac, nat, negq, ◌+q◌, absq, ◌⊑◌, ◌⊏◌}
use Rattle.sheet.specs.declared.Sheet.{Sheet}
use Rattle.statics.specs.declared.EndFigures.{EndFigures}
use Rattle.statics.specs.Loads.{Rule}
use Rattle.statics.specs.Ends.{EndSolved}
use Rattle.sheet.specs.Ends.{End}
use Rattle.statics.specs.Forces.{Force, racking, compression, tension, lash_tension, lash_athwart, lash_vertical, entry_count, exact_force}

-- at least the exact force in size, and less than `margin` N above it
pub record Reported (margin : ℕ) (exact : Frac) (size : ℕ) : Type 0 where
  pub enough : absq exact ⊑ nat size
  pub close : nat size ⊏ absq exact +q nat margin

-- a racking points the right way from `margin` N on: above zero to leeward, below zero to windward
pub record Directed (margin : ℕ) (exact : Frac) (shown : ℤ) : Type 0 where
  pub leeward : nat margin ⊑ exact → pos 0 <ℤ shown
  pub windward : exact ⊑ negq (nat margin) → shown <ℤ pos 0

-- the reported number at an entry, and its size: its value without the sign
abbrev pub reported_number : Force → EndFigures → ℕ → ℤ
reported_number racking f i = get_or f.racking i (pos 0)
reported_number compression f i = pos (get_or f.compression i 0)
reported_number tension f i = pos (get_or f.tension i 0)
reported_number lash_tension f j = pos (get_or f.pull j 0)
reported_number lash_athwart f j = pos (get_or f.athwart j 0)
reported_number lash_vertical f j = pos (get_or f.vertical j 0)

abbrev pub reported_size : Force → EndFigures → ℕ → ℕ
reported_size x f i = nat_abs (reported_number x f i)

-- every force of an end, at shifts Ds of its levels
pub record EndReported (margin : ℕ) (rule : Rule) (e : End) (t : Sheet) (Ds : List Frac) (f : EndFigures) : Type 0 where
  pub forces : (x : Force) (i : ℕ) → i < entry_count x e t → Reported margin (exact_force x rule e t Ds i) (reported_size x f i)
  pub ways : (i : ℕ) → i < t.ntiers → Directed margin (exact_force racking rule e t Ds i) (reported_number racking f i)

-- the figures fit the answer's four bytes, signed or not
pub record Fitting (f : EndFigures) : Type 0 where
  pub small : (x : Force) (i : ℕ) → reported_size x f i < 2 ^ 31

-- the figures of an end report its forces at every solution of its equations
pub record EndFigured (margin : ℕ) (rule : Rule) (e : End) (t : Sheet) (f : EndFigures) : Type 0 where
  pub reports : (Ds : List Frac) → EndSolved rule e t Ds → EndReported margin rule e t Ds f
  pub fits : Fitting f
