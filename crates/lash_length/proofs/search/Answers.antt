-- `lash_length::search`: the one trial is that of `trials`, it is not below the longest side, and what it finds is L.
use Prim.Native.Nat.{ℕ}
use mathlib.Core.Path.{◌≡◌, ◌∙◌}
use native.Mathlib.Omega.{arith}
use Rattle.sheet.specs.declared.Lash.{Lash}
use Rattle.statics.specs.Lashes.{squares}
use Rattle.lash_length.specs.Trials.{longest, others, nearer, guess, start, trials, found}
use Rattle.lash_length.proofs.Trials.{start_long, finds}
use Rattle.lash_length.proofs.search.Goals as goal

-- the start is that of `start`
begun :
    (l : Lash) {s m t r : ℕ} →
    s ≡ squares l →
    m ≡ longest l →
    t ≡ others l →
    r ≡ nearer s (nearer s (guess m t)) →
    r ≡ start l
unfolding start
begun l e f h q = rw (← h, ← f, ← e) q

pub tried-requires : goal.tried-requires
tried-requires c =
    let g = c.sides_of-g.ensures.squares_value in
    let l = c.args.l in
    let e : c.start_of-enough.result ≡ start l = begun l g.0 g.1 g.2 c.start_of-enough.ensures.value in
    (omega (arith, g.1, e, start_long c.requires), c.start_of-enough.ensures.upper_bound, omega arith)

pub returns : goal.returns
unfolding found trials
returns c =
    let g = c.sides_of-g.ensures.squares_value in
    let l = c.args.l in
    let e : c.start_of-enough.result ≡ start l = begun l g.0 g.1 g.2 c.start_of-enough.ensures.value in
    let is : c.tried.result.length ≡ found (squares l) (start l) (trials l) = rw (← g.0, ← e) c.tried.ensures.length_value in
    record { length_value = (is, c.tried.ensures.squared_value); length_value_2 = is ∙ finds c.requires }
