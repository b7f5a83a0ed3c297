-- `bay_cover::cover_above`: test by test.
use Prim.Native.Nat.{ℕ, ◌<◌}
use mathlib.Core.Bool.{false}
use mathlib.Core.Path.{◌≡◌, refl}
use native.Mathlib.Omega.{arith}
use lib.Dec.{leb}
use borrow.Author.Tests.{le-leb, lt-leb}
use Rattle.bay_cover.specs.Inner.Covers.{cover_above}
use Rattle.bay_cover.proofs.cover_above.Goals as goal

pub returns-then-between-ge3 : goal.returns-then-between-ge3
unfolding cover_above
returns-then-between-ge3 c = rw (le-leb 3 c.args.between (omega (arith, c.if-between-ge3.true))) refl

-- fewer than three empty rows lie between
few : (between : ℕ) → between < 3 → leb 3 between ≡ false
few between h = lt-leb 3 between h

pub returns-then-size-row : goal.returns-then-size-row
unfolding cover_above
returns-then-size-row c = rw (few c.args.between (omega (arith, c.if-between-ge3.false))) (rw c.if-size-row.true refl)

pub returns : goal.returns
unfolding cover_above
returns c = rw (few c.args.between (omega (arith, c.if-between-ge3.false))) (rw c.if-size-row.false refl)
