-- `sheet_fields::sheet_of`: what a sheet holds: the counts and lengths that its parts need follow from its being taken.
-- Places: m where the closed end's lashes are counted, n where the door end's are, b where the tiers are, a at the start.
use Rattle.sheet.specs.Layout.{sheet_of}
use Rattle.sheet.proofs.Clear.{parts, head_there, few_tiers, tiers_there, few_lashes, lashes_there}
use Rattle.sheet_fields.proofs.sheet_of.Goals as goal

pub head_of-requires : goal.head_of-requires
head_of-requires c =
    let s = c.args.s.now in
    head_there s (parts s c.requires).head

pub tiers_of-requires : goal.tiers_of-requires
tiers_of-requires c =
    let s = c.args.s.now in
    let t = (parts s c.requires).tiers in
    rw c.byte_at-ntiers.ensures.0 (few_tiers s t, tiers_there s t)

pub lashes_of-requires : goal.lashes_of-requires
lashes_of-requires c =
    let s = c.args.s.now in
    let d = (parts s c.requires).door in
    rw (c.byte_at-ndoor.ensures.0, c.door_place-door.ensures.0) (few_lashes _ s _ d, lashes_there _ s _ d)

pub lashes_of-requires-2 : goal.lashes_of-requires-2
lashes_of-requires-2 c =
    let s = c.args.s.now in
    let d = (parts s c.requires).closed in
    rw (c.byte_at-nclosed.ensures.0, c.closed_place-closed.ensures.0) (few_lashes _ s _ d, lashes_there _ s _ d)

pub returns : goal.returns
unfolding sheet_of
returns c =
    rw (
      c.lashes_of-2.ensures,
      c.lashes_of.ensures,
      c.tiers_of.ensures,
      c.head_of.ensures,
      c.byte_at-nclosed.ensures.0,
      c.closed_place-closed.ensures.0,
      c.byte_at-ndoor.ensures.0,
      c.door_place-door.ensures.0,
      c.byte_at-ntiers.ensures.0,
    )
