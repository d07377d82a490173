use mathlib.Core.Path.{◌≡◌, ap}
use lib.ListN.{length}
use borrow.Author.Rules.{rules}
use Rattle.allotment.proofs.Schedules.{owners-free}
use Rattle.node.specs.Core.{bare}
use Rattle.range.proofs.Lengths.{Lengths}
use Rattle.host.proofs.Stepped.{sized}
use Rattle.host.proofs.steps.begin_area.Goals as goal

pub returns-clause-area_after : goal.returns-clause-area_after
returns-clause-area_after c =
    let w = c.step.ensures in
    let k = c.args.c in
    let f : length k.round.known ≡ 32 = search rules in
    let g : length k.counters ≡ 32 = search rules in
    let l : Lengths (bare k) = record { schedule = ap length owners-free; known = f; counters = g; determined = ap length owners-free } in
    sized c.args.area.now k l w.value c.if-not-step.false w.area_after
