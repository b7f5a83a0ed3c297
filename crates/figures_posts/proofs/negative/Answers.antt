-- `figures_posts::negative`: no number of this size is the least of 64 bits.
use lib.Dec.{lit<}
use Rattle.arith.proofs.Sizes.{fits64, small_neg}
use Rattle.arith.proofs.SignedWords.{held, minus}
use Rattle.figures_posts.proofs.negative.Goals as goal

pub overflow_sub-result : goal.overflow_sub-result
overflow_sub-result c = rw (held c.requires (lit< tt), minus c.args.x) (fits64 (small_neg c.requires) (lit< tt))

pub returns : goal.returns
returns c = simp (held c.requires (lit< tt), minus c.args.x, held (small_neg c.requires) (lit< tt))
