-- `answer_findings::put_end`: the seven kinds are put one behind another.
use native.Mathlib.Omega.{arith}
use Rattle.answer_findings.proofs.EndPut.{end_put}
use Rattle.answer_findings.proofs.put_end.Goals as goal

pub returns : goal.returns
returns c =
    let x = c.args in (
      end_put x.end x.n x.m x.pull x.lashes x.figures.now (omega arith) (omega arith) c.put_rackings-p.ensures.0 c.put_over-q.ensures.0
          c.put_over-r.ensures.0 c.put_pulls-s.ensures.0 c.put_over-u.ensures.0 c.put_over.ensures.0,
      omega arith,
    )
