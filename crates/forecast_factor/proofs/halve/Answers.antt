-- `forecast_factor::halve`: the middle is enough or it is not (Halving); what is compared fits 64 bits.
use mathlib.Core.Path.{refl}
use native.Mathlib.Omega.{arith}
use Rattle.forecast_factor.proofs.Halving.{wave_most, above_square, above_product, lower, upper}
use Rattle.forecast_factor.proofs.halve.Goals as goal

pub overflow_mul-h : goal.overflow_mul-h
overflow_mul-h c = omega (arith, wave_most c.requires.h_bound.0)

pub overflow_mul-h-2 : goal.overflow_mul-h-2
overflow_mul-h-2 c = omega (arith, wave_most c.requires.h_bound.0)

pub overflow_mul-above : goal.overflow_mul-above
overflow_mul-above c = above_square _ (omega (arith, c.requires.between.0.high))

pub overflow_mul-above-2 : goal.overflow_mul-above-2
overflow_mul-above-2 c = above_product _ _ (omega (arith, c.requires.between.0.high)) c.requires.h_bound.1

pub returns-then-h-above : goal.returns-then-h-above
returns-then-h-above c =
    let p = c.requires in record {
      between_2 = lower p.h_bound.2 p.between.0 p.between.1 _ (omega arith) (omega arith) (omega arith) (omega arith);
      least_bound = (omega arith, refl);
    }

pub returns : goal.returns
returns c =
    let p = c.requires in record {
      between_2 = upper p.h_bound.2 p.between.0 p.between.1 _ (omega arith) (omega arith) (omega arith) (omega arith);
      least_bound = (omega arith, refl);
    }
