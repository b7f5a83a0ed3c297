-- After a read the buffer holds what it held, and behind it what the reader gave.
use Rattle.std.proofs.Common.{◌≡◌, ◌+◌, ◌-◌, ◌≤◌, ℕ, List, ◌++◌, rules, length, take, sym, ap, ◌∙◌, subst, le_refl, length-take-le}
use Rattle.std.proofs.KnownBytes.{Consumes-nil, Consumes-trans}
use Rattle.std.proofs.lemmas.List.{append-nil, take-append-le}
use Rattle.std.proofs.lemmas.Slice.{take-put_mid_below}
use Rattle.std.proofs.Math.Seq.{take-append-add}
use Rattle.std.specs.Io.KnownBytes.{Consumes}
use borrow.Rule.Slice.PartMut.{put_mid, post_of}
use Rattle.lashcheck.proofs.input.read.Goals as goal

-- the first bytes of a buffer of which a part from `at` on begins with n bytes that were read
filled :
    (at k n : ℕ) (before part : List ℕ) →
    at ≤ length before →
    n ≤ length part →
    take (at + n) (put_mid at k before part) ≡ take at before ++ take n part
filled at k n before part within fits =
    ap (λ m. take (m + n) (put_mid at k before part)) (sym (length-take-le at before within))
    ∙ take-append-add (take at before) (part ++ post_of at k before) n
    ∙ ap (λ l. take at before ++ l) (take-append-le n part (post_of at k before) fits)

pub loop-done-init : goal.loop-done-init
loop-done-init g c = (search rules, search rules, Consumes-nil (g.R.Read.remaining c.args.reader.now))

pub loop-done-preserved : goal.loop-done-preserved
loop-done-preserved g c =
    let l = c.loop-done in
    let read = filled l.done (length l.buf - l.done) c.in_ok-n.n l.buf c.read.new.buf l.invariant.0 c.in_ok-n.ensures.bound.0 in (
      search rules,
      search rules,
      subst (Consumes _ _) (sym read) (Consumes-trans _ _ _ _ _ l.invariant.2 c.in_ok-n.ensures.bytes.0),
    )

pub returns-after-loop-done-clause-bytes : goal.returns-after-loop-done-clause-bytes
returns-after-loop-done-clause-bytes g c = c.loop-done.invariant.2

pub returns-then-n-eq0-clause-bytes : goal.returns-then-n-eq0-clause-bytes
returns-then-n-eq0-clause-bytes g c =
    let l = c.loop-done in
    let same = take-put_mid_below l.done (length l.buf - l.done) l.buf c.read.new.buf l.done (le_refl l.done) l.invariant.0 in
    let all = rw c.if-n-eq0.true at (Consumes-trans _ _ _ _ _ l.invariant.2 c.in_ok-n.ensures.bytes.0) in
    subst (Consumes _ _) (append-nil (take l.done l.buf) ∙ sym same) all
