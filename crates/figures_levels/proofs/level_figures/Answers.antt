-- `figures_levels::level_figures`: one turn goes from a level to the level under it, with the sums of what stands above (Descent).
use Prim.Native.Nat.{◌*◌, ◌-◌}
use mathlib.Core.Path.{refl, ◌∙◌}
use native.Mathlib.Numerals.{add-one}
use native.Mathlib.Omega.{arith}
use lib.Dec.{lit<, lit≤}
use lib.Seq.{get_or-take, get_or-drop}
use mir.Syntax.{w32}
use mir.ValLaws.{to_z-of_z}
use Rattle.arith.proofs.Sizes.{small_pos}
use Rattle.statics.specs.Inner.WholeNumbers.{lee_found, racking_part, windward_found}
use Rattle.figures_levels.proofs.Descent.{at_top, to_under}
use Rattle.arith.proofs.SignedWords.{held}
use Rattle.figures_levels.proofs.level_figures.Goals as goal

pub compression_of-requires : goal.compression_of-requires
compression_of-requires c =
    let n = c.args.n in
    let e = c.parts_at-highest.ensures in
    let m = c.requires.level_inputs in (
      rw (get_or-take 11 c.args.weights.now n 0 (omega (arith, m.few))) at (m.vmax_light n),
      small_pos (lit≤ tt),
      omega (arith, e.0, m.lee_small (2 * n)),
      omega (arith, e.1, m.windward_small (2 * n)),
    )

pub loop-i-init : goal.loop-i-init
unfolding lee_found windward_found
loop-i-init c =
    let e = c.parts_at-highest.ensures in
    let z = c.requires.racking_value in
    let v = simp (e.0, e.1) at c.compression_of.ensures in
    let m = c.requires.level_inputs in
    let most = get_or-take 11 c.args.weights.now c.args.n 0 (omega (arith, m.few)) in
    rw (z.0, z.1, e.0, e.1) (at_top m (omega (arith, m.few, c.requires.k_len.1)) (rw most v))

pub level_under-l-requires-clause-vmax_bound : goal.level_under-l-requires-clause-vmax_bound
level_under-l-requires-clause-vmax_bound c =
    let m = c.requires.level_inputs in
    let j = c.loop-i.i - 1 in (
      rw (get_or-take 11 c.args.weights.now j 0 (omega (arith, m.few))) at (m.vmax_light j),
      rw (get_or-drop 11 c.args.weights.now j 0) at (m.vmin_light j),
    )

pub loop-i-preserved : goal.loop-i-preserved
unfolding racking_part
loop-i-preserved c =
    let l = c.loop-i in
    let m = c.requires.level_inputs in
    let p = c.racking_part-part.ensures in
    let h = held p.1 (lit< tt) in
    let g = c.racking_figure-force in
    let q = c.parts_at-bottom.ensures in
    let s = c.parts_at-top.ensures in
    let e = c.level_under-l.ensures in
    to_under
    m
    (omega (arith, m.few, c.requires.k_len.1))
    (omega arith)
    (omega arith)
    l.invariant
    (h ∙ rw (add-one (l.i - 1)) at p.0)
    refl
    (to_z-of_z w32 g.result (record { sfits = g.type_inv }) ∙ g.ensures)
    q.0
    q.1
    s.0
    s.1
    e.moment_value
    e.lee_value
    e.windward_value
    (rw (get_or-take 11 c.args.weights.now (l.i - 1) 0 (omega (arith, m.few))) e.compression_value)
    (rw (get_or-drop 11 c.args.weights.now (l.i - 1) 0) e.tension_value)
