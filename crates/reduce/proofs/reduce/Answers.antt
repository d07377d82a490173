use Rattle.reduce.proofs.Outcome.{no_room, ready}
use Rattle.std.proofs.Common.{sym}
use Rattle.reduce.proofs.reduce.Goals as goal

pub returns-then-script-out : goal.returns-then-script-out
returns-then-script-out c = no_room _ _ _ c.if-script-out.true

pub reduce_events-requires : goal.reduce_events-requires
reduce_events-requires c =
    let o = c.in-Ok.ensures in
    ready _ _ _ c.if-script-out.false o.value o.lines o.within

pub reduce_head-requires : goal.reduce_head-requires
reduce_head-requires c = record { fits = c.if-script-out.false; stops = sym c.in-Err.ensures.lines }
