use Rattle.std.proofs.Common.{◌≤◌, ◌-◌, length}
use Rattle.reduce.proofs.Marks.{MarkedTo}
use Rattle.reduce.proofs.Search.mark_lines.Given as goal

abbrev pub invariant-loop-next : goal.invariant-loop-next
invariant-loop-next l = record {
  within : l.at ≤ length l.self.script.now;
  marked : MarkedTo l.self.script.now l.self.opened.at l.marks l.at;
}

abbrev pub decreases-loop-next : goal.decreases-loop-next
decreases-loop-next l = length l.self.script.now - l.at
