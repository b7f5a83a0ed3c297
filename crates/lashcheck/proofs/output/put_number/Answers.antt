-- `lashcheck::output::put_number` puts the digits of its number where it says, from what io::decimal ensures.
use Prim.Native.Nat.{◌+◌, ◌-◌}
use native.Mathlib.Omega.{arith}
use Rattle.lashcheck.proofs.Text.{put_of}
use Rattle.lashcheck.proofs.output.put_number.Goals as goal

pub returns : goal.returns
returns c =
    let k = c.decimal-k.result in
    let d = c.decimal-k.ensures in
    put_of c.args.n c.args.at k (c.args.at + k - c.args.at) c.decimal-k.new.out c.args.out.now c.copy_from_slice.new.self
    c.ranges.n.fits d.in_bounds d.len d.digits c.requires (omega arith) c.copy_from_slice.ensures.after
