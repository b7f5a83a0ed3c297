-- `lashcheck::output::reply` puts what is written for a sheet at the start of its buffer, by the cases of the check.
use native.Mathlib.Omega.{arith}
use Rattle.lashcheck.proofs.Outcomes.{answer_fits, reply_taken, reply_refused}
use Rattle.lashcheck.proofs.Text.{counts_of}
use Rattle.lashcheck.proofs.output.reply.Goals as goal

pub returns-in-Ok : goal.returns-in-Ok
returns-in-Ok c =
    let check = c.check-outcome in
    let is = c.in-Ok.is in
    record {
      prefix_len = counts_of c.in-Ok.n check.new.answer (omega (arith, answer_fits (omega arith) check.ensures.checked is));
      reply = reply_taken (omega arith) check.ensures.checked is;
    }

pub returns-in-Err : goal.returns-in-Err
returns-in-Err c =
    record {
      prefix_len = c.put_line.ensures.prefix_len;
      reply = reply_refused (omega arith) c.check-outcome.ensures.checked c.in-Err.is c.put_line.ensures.line;
    }
