use Rattle.std.proofs.Common.{arith, length}
use Rattle.reduce.proofs.Marks.{mark-next, mark-end}
use Rattle.reduce.proofs.Search.mark_lines.Goals as goal

pub loop-next-preserved : goal.loop-next-preserved
loop-next-preserved c =
    let h = c.in-Some.ensures in
    let l = c.loop-next in
    record { within = h.within; marked = mark-next _ _ l.marks l.at _ (omega (arith, h.onward, h.within)) h l.invariant.marked }

pub returns : goal.returns
returns c = mark-end _ _ _ _ c.in_default.ensures c.loop-next.invariant.marked
