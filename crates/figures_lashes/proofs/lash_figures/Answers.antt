-- `figures_lashes::lash_figures`: one turn finds the figures of a lash and adds its vertical part to its post (LashLoops).
use Prim.Native.Nat.{ℕ, ◌<◌, ◌≤◌}
use mathlib.Core.Path.{◌≡◌}
use native.Mathlib.Numerals.{add-one}
use native.Mathlib.Omega.{arith}
use lib.ListN.{get_or, take}
use lib.Seq.{get_or-take}
use Rattle.sheet.specs.Inner.Limits.{LashLimits}
use Rattle.statics.proofs.LashStiffness.{stiffness_most}
use mathlib.Core.List.{List}
use Rattle.sheet.specs.declared.Lash.{Lash}
use Rattle.sheet.specs.Layout.{blank_lash}
use Rattle.statics.specs.Inner.WholeNumbers.{stiffness_of}
use Rattle.figures_lashes.specs.Inner.Lashes.{LashesMeasured}
use Rattle.figures_lashes.proofs.LashLoops.{listed, lee_kept, windward_kept, sums_fit, figured_more, verticals_on}
use Rattle.figures_lashes.proofs.lash_figures.Goals as goal

-- of the lash of a turn: its limits, and the stiffness that was found
within :
    {m j : ℕ} (lashes : List Lash) →
    j < m →
    (m ≤ 8) × ((k : ℕ) → k < m → LashLimits 10 (get_or (take m lashes) k blank_lash)) →
    LashLimits 10 (get_or lashes j blank_lash)
within {m} {j} lashes h p = rw (get_or-take m lashes j blank_lash h) at (p.1 j h)

stiff_is :
    {m j : ℕ} {lengths stiffnesses : List ℕ} (lashes : List Lash) →
    j < m →
    LashesMeasured m (take m lashes) lengths stiffnesses →
    get_or stiffnesses j 0 ≡ stiffness_of (get_or lashes j blank_lash)
stiff_is {m} {j} lashes h s = rw (get_or-take m lashes j blank_lash h) at (s.stiff.each j h)

pub hook_level-at-requires : goal.hook_level-at-requires
hook_level-at-requires c = within c.args.lashes c.loop-j-test.true c.requires.m_bound

pub hook_corner-corner-requires : goal.hook_corner-corner-requires
hook_corner-corner-requires c = within c.args.lashes c.loop-j-test.true c.requires.m_bound

pub athwart_part-part-requires : goal.athwart_part-part-requires
athwart_part-part-requires c =
    let most = stiffness_most _ (within c.args.lashes c.loop-j-test.true c.requires.m_bound) in
    (rw (stiff_is c.args.lashes c.loop-j-test.true c.requires.lashes_measured.0) most, c.requires.lashes_measured.1 c.hook_level-at.result)

pub overflow_add-lee : goal.overflow_add-lee
overflow_add-lee c =
    let own = get_or-take c.args.m c.args.lashes c.loop-j.j blank_lash c.loop-j-test.true in
    let athwart = rw (stiff_is c.args.lashes c.loop-j-test.true c.requires.lashes_measured.0) at c.athwart_part-part.ensures.0 in
    let e = c.on_posts-u.ensures in
    let s =
    sums_fit (listed c.args.lashes (omega arith) c.requires.m_bound) c.loop-j.invariant c.loop-j-test.true own
    c.hook_level-at.ensures.0 c.hook_corner-corner.ensures.0 athwart c.lashing_of.ensures e.lee_value e.windward_value in
    record { fits = s.0 }

pub overflow_add-windward : goal.overflow_add-windward
overflow_add-windward c =
    let own = get_or-take c.args.m c.args.lashes c.loop-j.j blank_lash c.loop-j-test.true in
    let athwart = rw (stiff_is c.args.lashes c.loop-j-test.true c.requires.lashes_measured.0) at c.athwart_part-part.ensures.0 in
    let e = c.on_posts-u.ensures in
    let s =
    sums_fit (listed c.args.lashes (omega arith) c.requires.m_bound) c.loop-j.invariant c.loop-j-test.true own
    c.hook_level-at.ensures.0 c.hook_corner-corner.ensures.0 athwart c.lashing_of.ensures e.lee_value e.windward_value in
    record { fits = s.1 }

pub loop-j-preserved : goal.loop-j-preserved
loop-j-preserved c =
    let l = c.loop-j in
    let own = get_or-take c.args.m c.args.lashes c.loop-j.j blank_lash c.loop-j-test.true in
    let athwart = rw (stiff_is c.args.lashes c.loop-j-test.true c.requires.lashes_measured.0) at c.athwart_part-part.ensures.0 in
    let e = c.on_posts-u.ensures in
    let q = c.forces_of-f.ensures in
    rw (e.lee_value, e.windward_value, c.lashing_of.ensures, add-one l.j)
    (figured_more (listed c.args.lashes (omega arith) c.requires.m_bound) l.invariant c.loop-j-test.true own c.hook_level-at.ensures.0
    c.hook_corner-corner.ensures.0 athwart (omega (arith, c.hook_corner-corner.ensures.1)) q.tension_value q.athwart_value q.vertical_value)

pub returns-clause-verticals_on : goal.returns-clause-verticals_on
returns-clause-verticals_on c =
    verticals_on (listed c.args.lashes (omega arith) c.requires.m_bound) lee_kept (omega arith) c.loop-j.invariant.lees

pub returns-clause-verticals_on_2 : goal.returns-clause-verticals_on_2
returns-clause-verticals_on_2 c =
    verticals_on (listed c.args.lashes (omega arith) c.requires.m_bound) windward_kept (omega arith) c.loop-j.invariant.windwards
