-- `figures_posts::compression_of`: the figure of the two sums, of which the moment presses one.
use lib.Dec.{lit<}
use Rattle.figures_posts.proofs.LevelLaws.{one_pressed, lee_sum, windward_sum}
use Rattle.arith.proofs.SignedWords.{held}
use Rattle.figures_posts.proofs.compression_of.Goals as goal

pub pressed_figure-requires : goal.pressed_figure-requires
pressed_figure-requires c =
    let s = simp (held c.requires.1 (lit< tt)) at c.post_sums-sums.ensures in (
      c.requires.0,
      simp (held s.lee_value.1 (lit< tt)) s.lee_value.1,
      simp (held s.windward_value.1 (lit< tt)) s.windward_value.1,
      simp (held s.lee_value.1 (lit< tt), held s.windward_value.1 (lit< tt))
          (rw (s.lee_value.0, s.windward_value.0) (one_pressed c.args.couple c.args.parts)),
    )

pub returns : goal.returns
returns c =
    let a = c.args in
    let s = simp (held c.requires.1 (lit< tt)) at c.post_sums-sums.ensures in
    let e = simp (held s.lee_value.1 (lit< tt), held s.windward_value.1 (lit< tt)) at c.pressed_figure.ensures in
    let w = rw (s.lee_value.0, s.windward_value.0, lee_sum a.weight a.couple a.parts, windward_sum a.weight a.couple a.parts) at e in
    rw (← w) c.word_of.ensures
