-- `sheet_decode::decode`: a sheet decoded, unless a row of the table turns it back.
use mathlib.Core.Path.{sym, ap, ◌∙◌}
use Rattle.std.specs.Prelude.{Ok}
use borrow.Author.Rules.{rules}
use Rattle.sheet.proofs.CallRefusals.{decoded_by, decoded_not}
use Rattle.sheet_decode.proofs.decode.Goals as goal

pub returns-in_err-test_sheet : goal.returns-in_err-test_sheet
returns-in_err-test_sheet c =
    search rules ∙ sym (decoded_not c.args.s.now (sym c.test_sheet.ensures ∙ c.in_err-test_sheet.was))

pub sheet_of-requires : goal.sheet_of-requires
sheet_of-requires c = sym c.test_sheet.ensures ∙ c.in_ok-test_sheet.was

pub returns : goal.returns
returns c = ap Ok c.sheet_of.ensures ∙ sym (decoded_by c.args.s.now (sym c.test_sheet.ensures ∙ c.in_ok-test_sheet.was))
