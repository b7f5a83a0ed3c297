-- `answer_encode::write_answer`: the verdict, the sections of both ends and the findings are written one behind another.
use mathlib.Core.Path.{◌∙◌}
use Prim.Native.Nat.{◌≤◌}
use native.Mathlib.Nat.{zero-add, le_trans}
use native.Mathlib.Omega.{arith}
use Rattle.statics.specs.Inner.InArrays.{both_in}
use Rattle.answer_write.proofs.Stores.{from_start}
use Rattle.answer_encode.proofs.AnswerLaws.{whole}
use borrow.Author.Rules.{rules}
use Rattle.answer_encode.proofs.write_answer.Goals as goal

pub write1-requires-2 : goal.write1-requires-2
write1-requires-2 c =
    let k = c.put_findings-count.ensures.few in
    (omega (arith, k), omega (arith, k))

pub slice_bounds-write_found-end : goal.slice_bounds-write_found-end
slice_bounds-write_found-end c =
    search (rules, c.put_findings-count.ensures.put.room)

pub write_found-requires : goal.write_found-requires
write_found-requires c =
    let f = c.put_findings-count.ensures in
    (f.few, omega (arith, f.few, f.put.room), omega (arith, f.few))

pub returns : goal.returns
returns c =
    let x = c.args in
    let z = c.requires.0 in
    let found = c.put_findings-count.ensures in
    let r = c.write_found.ensures in
    let h : c.write_found.result ≤ 834 =
    omega (arith, found.few, r.1, c.write_end-q.ensures.1, c.write_end-p.ensures.1, z.tiers, z.door_few, z.closed_few) in
    let p =
    whole x.t (both_in x.figures.now) z found c.write1.ensures c.verdict_of.ensures.0 c.write_end-p.ensures.0
    c.write_end-q.ensures.0 c.write1-2.ensures r.0 in
    (p.place ∙ zero-add _, from_start p (le_trans h c.requires.1))
