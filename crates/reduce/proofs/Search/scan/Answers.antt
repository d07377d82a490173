use Rattle.std.proofs.Common.{arith}
use Rattle.reduce.proofs.Marks.{scan-next, scan-end}
use Rattle.reduce.proofs.Search.scan.Goals as goal

pub loop-at-preserved : goal.loop-at-preserved
loop-at-preserved c =
    let s = c.args.self.now.script.now in
    let l = c.loop-at in
    let t = c.attempt_line-cut in
    record {
      long = t.array_long;
      scan =
          scan-next _ s _ _ l.marks l.cut l.at (omega arith) (omega arith) l.invariant.scan _ _ t.ensures.value
          t.ensures.marks_after;
    }

pub returns : goal.returns
returns c = scan-end _ _ _ _ _ _ _ (omega arith) c.loop-at.invariant.scan
