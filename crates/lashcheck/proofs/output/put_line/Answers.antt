-- `lashcheck::output::put_line` puts together the line of a refusal.
use Prim.Native.Nat.{◌+◌}
use native.Mathlib.Omega.{arith}
use lib.ListN.{set, length-set}
use Rattle.lashcheck.proofs.Text.{counts_of, line_of}
use Rattle.lashcheck.proofs.output.put_line.Goals as goal

pub returns : goal.returns
returns c =
    let p = c.put_number-a in
    let q = c.put_number-b in
    record {
      prefix_len = counts_of (q.result + 1) (set q.new.out q.result 10) (simp length-set (omega arith));
      line =
          line_of c.args.number c.args.second p.result q.result c.args.out.now p.new.out q.new.out
          p.ensures (omega arith) q.ensures (omega arith);
    }
