-- What the call lash_twenties says: the judgement, packed in one number. Its first number is in the low 8 bits.
use Rattle.std.specs.Prelude.{Ok, Err, ℕ, List}
use Rattle.twenties.specs.Judgements.{Judgement, judgement}
use Rattle.packing.specs.RefusalIn.{RefusalIn}
use Rattle.packing.specs.VerdictIn.{VerdictIn}

abbrev pub In : Judgement → ℕ → Type 0
In (Ok v) r = VerdictIn v r
In (Err why) r = RefusalIn why r

abbrev pub Told : ℕ → ℕ → List ℕ → ℕ → Type 0
Told table acceleration masses r = In (judgement table acceleration masses) r
