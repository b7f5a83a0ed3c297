-- `lash::lash_preview` says what `preview::preview` says, with its two numbers in one.
use native.Mathlib.Omega.{arith}
use Rattle.preview_moves.proofs.TwoNumbers.{fitting}
use Rattle.packing.proofs.OneNumber.{called_both}
use Rattle.lash.proofs.lash_preview.Goals as goal

pub packed_outcome-requires : goal.packed_outcome-requires
packed_outcome-requires c = fitting (omega (arith, c.ranges.tier.fits)) c.preview-outcome.ensures.previewed

pub returns : goal.returns
returns c =
    let e = c.preview-outcome.ensures in
    let fits = fitting (omega (arith, c.ranges.tier.fits)) e.previewed in
    let p = c.packed_outcome in
    let both = called_both c.preview-outcome.result (e.previewed, e.named) fits p.result p.ensures in
    record { previewed = both.0; named = both.1 }
