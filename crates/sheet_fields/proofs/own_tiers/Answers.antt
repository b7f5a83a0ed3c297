-- `sheet_fields::own_tiers`: the tiers that a taken sheet counts, which are there.
use Rattle.sheet.specs.Layout.{sheet_of}
use Rattle.sheet.proofs.Clear.{parts, few_tiers, tiers_there}
use Rattle.sheet_fields.proofs.own_tiers.Goals as goal

pub tiers_of-requires : goal.tiers_of-requires
tiers_of-requires c =
    let s = c.args.s.now in
    let t = (parts s c.requires).tiers in
    rw c.byte_at.ensures.0 (few_tiers s t, tiers_there s t)

pub returns : goal.returns
unfolding sheet_of
returns c = rw (c.tiers_of.ensures, c.byte_at.ensures.0)
