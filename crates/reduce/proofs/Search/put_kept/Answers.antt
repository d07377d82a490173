use Rattle.lists.proofs.Chain.{step, end, leftover}
use Rattle.reduce.proofs.Writing.{kept-nothing, kept-next}
use Rattle.reduce.proofs.Search.put_kept.Goals as goal

pub loop-next-preserved : goal.loop-next-preserved
loop-next-preserved c =
    let h = c.in-Some.ensures in
    record {
      within = h.within;
      left = step _ _ (leftover (kept-next _ _ _ _ h) c.loop-next.invariant.left) c.put_line-pos.ensures;
    }

pub returns : goal.returns
returns c = end (leftover (kept-nothing _ _ _ c.in_default.ensures) c.loop-next.invariant.left)
