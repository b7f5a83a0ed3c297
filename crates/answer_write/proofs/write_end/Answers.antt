-- `answer_write::write_end` writes the four sections one behind another.
use native.Mathlib.Omega.{arith}
use Rattle.answer_write.proofs.Figures.{end_written}
use Rattle.answer_write.proofs.write_end.Goals as goal

pub returns : goal.returns
returns c =
    let x = c.args in (
      end_written x.n x.m x.figures.now (omega arith) (omega arith) c.write_rackings-p.ensures.0 c.write_figures-q.ensures.0
          c.write_figures-s.ensures.0 c.write_lashes.ensures.0,
      omega arith,
    )
