-- `lash_forces::forces_of`: the padded part is in range, and its length and LZ are sides.
use Rattle.statics.proofs.LashLength.{length_most}
use Rattle.lash_forces.proofs.forces_of.Goals as goal

pub figure_along-requires : goal.figure_along-requires
figure_along-requires c =
    (rw c.requires.1 (length_most c.requires.0), c.inverse_of-inv.ensures.1)

pub returns : goal.returns
returns c =
    rw (← c.requires.1, ← c.inverse_of-inv.ensures.0)
    record {
      tension_value = c.figure_along.ensures;
      athwart_value = c.ceil_div-athwart.ensures.0;
      vertical_value = c.figure_along-2.ensures;
    }
