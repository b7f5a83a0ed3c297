-- A decoded sheet in which something is other.
use Rattle.std.specs.Prelude.{List}
use Rattle.sheet.specs.declared.Tier.{Tier}
use Rattle.sheet.specs.declared.Sheet.{Sheet}

-- its tiers
abbrev pub with_tiers : List Tier → Sheet → Sheet
with_tiers tiers t =
    record {
      head = t.head;
      tiers = tiers;
      ntiers = t.ntiers;
      door = t.door;
      ndoor = t.ndoor;
      closed = t.closed;
      nclosed = t.nclosed;
    }
