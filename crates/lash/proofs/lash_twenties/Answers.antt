-- `lash::lash_twenties` says what `twenties::judge` says, packed in one number.
use mathlib.Core.Path.{◌≡◌, subst, sym, ◌∙◌}
use native.Mathlib.Omega.{arith}
use Rattle.twenties.specs.Judgements.{Judgement}
use Rattle.twenties.proofs.Outcomes.{Numbers, numbers}
use Rattle.lash.specs.Told.{In}
use Rattle.lash.proofs.lash_twenties.Goals as goal
use Rattle.lash.proofs.lash_twenties.Goals.{After-judge-judgement}

-- q is the case that the judgement is
small : (j : After-judge-judgement) {q : Judgement} → j.judge-judgement.result ≡ q → Numbers q
small j is =
    let a = j.args in
    subst Numbers (sym j.judge-judgement.ensures ∙ is) (numbers a.table a.acceleration a.masses.now)

pub packed_verdict-requires : goal.packed_verdict-requires
packed_verdict-requires c = small (goal.at.packed_verdict-requires c).After-judge-judgement c.in-Ok.is

pub joined-requires : goal.joined-requires
joined-requires c = small (goal.at.joined-requires c).After-judge-judgement c.in-Err.is

pub returns-in-Ok : goal.returns-in-Ok
returns-in-Ok c =
    subst (λ q. In q c.packed_verdict.result) (sym c.in-Ok.is ∙ c.judge-judgement.ensures) c.packed_verdict.ensures

pub returns-in-Err : goal.returns-in-Err
returns-in-Err c =
    let n = (small (goal.at.returns-in-Err c).After-judge-judgement c.in-Err.is).0 in
    subst (λ q. In q c.joined.result) (sym c.in-Err.is ∙ c.judge-judgement.ensures) (record { low = omega arith; above = omega arith })
