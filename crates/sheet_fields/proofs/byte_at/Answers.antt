-- `sheet_fields::byte_at`: a byte, or 0 past the end.
use borrow.Author.Rules.{rules}
use lib.ListN.{get_or-eq_default}
use Rattle.sheet_fields.proofs.byte_at.Goals as goal

pub returns : goal.returns
returns c = (rw (get_or-eq_default c.args.s.now 0 c.if-at-s.false), search rules)
