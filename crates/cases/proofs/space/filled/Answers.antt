-- `cases::space::filled`: each byte is what `mark` gave at its place.
use mathlib.Core.List.{map}
use mathlib.Core.Path.{ap, ◌∙◌}
use borrow.Author.Rules.{rules}
use Rattle.std.proofs.lemmas.List.FromFn.{fill_by_all}
use Rattle.cases.specs.Inner.Marks.{mark_of}
use Rattle.cases.proofs.MarkLaws.{range_from}
use Rattle.cases.proofs.space.filled.Goals as goal

pub returns : goal.returns
returns c =
    let made = c.from_fn.ensures.items in
    fill_by_all mark_of c.from_fn.result 1024 0 made.long (λ k h. let q = (made.at k 0 h).2 in search rules)
    ∙ ap (map mark_of) (range_from 0 1024)
