-- What a call returns: the length of its answer, or the two numbers of a refusal.
use Rattle.std.specs.Prelude.{ℕ, Result}
use Rattle.sheet.specs.declared.Refusal.{Refusal}

abbrev pub Outcome : Type 0
Outcome = Result ℕ Refusal
