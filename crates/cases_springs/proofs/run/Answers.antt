-- `cases_springs::run` hands on numbers that are within their bounds.
use native.Mathlib.Omega.{arith}
use Rattle.cases_springs.proofs.run.Goals as goal

pub both_ways-requires : goal.both_ways-requires
both_ways-requires g c =
    record {
      n_bound = (c.requires.0, omega (arith, c.requires.1));
      k_len = (omega arith, omega arith, omega arith);
      within = (
        c.fill-springs.ensures c.if-springs.true,
        c.fill-held.ensures c.if-held.true,
        c.fill-loaded.ensures c.if-loaded.true,
      );
    }
