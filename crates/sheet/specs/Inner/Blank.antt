-- A sheet that holds nothing; nothing here need be believed.
use Rattle.std.specs.Prelude.{replicate}
use Rattle.sheet.specs.declared.Sheet.{Sheet}
use Rattle.sheet.specs.Layout.{blank_tier, blank_lash}

unfoldable pub blank_sheet : Sheet
blank_sheet =
    record {
      head = record { rule = 0; route = 0; lockMaterial = 0; zero = 0; lockBreakingLoad = 0 };
      tiers = replicate 10 blank_tier;
      ntiers = 0;
      door = replicate 8 blank_lash;
      ndoor = 0;
      closed = replicate 8 blank_lash;
      nclosed = 0;
    }
