use Rattle.std.proofs.Common.{◌≤◌, ◌-◌, length}
use Rattle.lists.proofs.Chain.{Left}
use Rattle.reduce.specs.Reduced.{joined_lines}
use Rattle.reduce.specs.Inner.{kept_from}
use Rattle.reduce.proofs.Search.put_kept.Given as goal

abbrev pub invariant-loop-next : goal.invariant-loop-next
invariant-loop-next l = record {
  within : l.at ≤ length l.self.script.now;
  left : Left l.initial.out l.to (joined_lines (kept_from l.self.script.now l.marks l.self.opened.at)) l.out l.pos
      (joined_lines (kept_from l.self.script.now l.marks l.at));
}

abbrev pub decreases-loop-next : goal.decreases-loop-next
decreases-loop-next l = length l.self.script.now - l.at
