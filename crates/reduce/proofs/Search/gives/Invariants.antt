use Rattle.std.proofs.Common.{◌≡◌, ◌≤◌, ◌-◌, length}
use Rattle.reduce.specs.Inner.{state_of, gives_but}
use Rattle.reduce.proofs.Search.gives.Given as goal

abbrev pub invariant-loop-next : goal.invariant-loop-next
invariant-loop-next l = record {
  within : l.run.at ≤ length l.self.script.now;
  same : gives_but l.self.number l.self.script.now l.marks l.without.start l.without.end l.initial.run.at (state_of l.initial.run)
      ≡ gives_but l.self.number l.self.script.now l.marks l.without.start l.without.end l.run.at (state_of l.run);
}

abbrev pub decreases-loop-next : goal.decreases-loop-next
decreases-loop-next l = length l.self.script.now - l.run.at
