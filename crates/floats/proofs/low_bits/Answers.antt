-- `floats::low_bits`: what equals itself is a number, so that it has bits.
use mathlib.Core.Path.{sym, ap}
use mathlib.Core.Bool.{Bool, cond}
use Prim.Native.Nat.{◌%◌}
use native.Mathlib.Nat.{mod-lt}
use lib.Dec.{lit<}
use lib.Ieee.{binary64, to_bits}
use Rattle.floats.proofs.Patterns.{no_nan}
use Rattle.floats.proofs.low_bits.Goals as goal

pub float_to_bits-result : goal.float_to_bits-result
float_to_bits-result c = no_nan _ c.if-y.true

pub returns-then-y : goal.returns-then-y
returns-then-y c =
    let y = c.args.y in
    let b = to_bits binary64 y in
    (sym (ap (λ (q : Bool). cond q (b % 4503599627370496) 0) c.if-y.true), mod-lt b {m = 4503599627370496} (lit< tt))

pub returns : goal.returns
returns c =
    let y = c.args.y in
    (sym (ap (λ (q : Bool). cond q (to_bits binary64 y % 4503599627370496) 0) c.if-y.false), lit< tt)
