use Rattle.std.proofs.Common.{refl}
use Rattle.reduce.proofs.Passed.{pass-next}
use Rattle.reduce.proofs.Search.run_to.Goals as goal

pub returns-then-take : goal.returns-then-take
returns-then-take c =
    let o = c.take.ensures in
    rw o.at (pass-next _ _ _ _ _ _ _ c.loop-run.invariant _ c.in-Some.ensures _ _ c.if-take.ensures.value o.after _ refl)

pub loop-run-preserved : goal.loop-run-preserved
loop-run-preserved c =
    let o = c.take.ensures in
    rw o.at (pass-next _ _ _ _ _ _ _ c.loop-run.invariant _ c.in-Some.ensures _ _ c.if-take.ensures.value o.after _ refl)
