-- `figures_posts::couple_of`: the quotient towards zero, and its size.
use mathlib.Core.Path.{refl}
use lib.Dec.{lit<}
use Rattle.arith.proofs.Sizes.{fits64}
use Rattle.figures_posts.proofs.LevelLaws.{lean_small}
use Rattle.arith.proofs.SignedWords.{held}
use Rattle.figures_posts.proofs.couple_of.Goals as goal

pub nonzero_div-result : goal.nonzero_div-result
nonzero_div-result c = rw (held c.requires (lit< tt)) (lit< tt, fits64 (lean_small c.requires) (lit< tt))

pub returns : goal.returns
returns c =
    let l = lean_small c.requires in
    simp (held c.requires (lit< tt), held l (lit< tt)) (refl, l)
