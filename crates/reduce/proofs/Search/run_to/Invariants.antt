use Rattle.std.proofs.Common.{false, ◌-◌, length}
use Rattle.reduce.specs.Inner.{state_of, Passed}
use Rattle.reduce.proofs.Search.run_to.Given as goal

abbrev pub invariant-loop-run : goal.invariant-loop-run
invariant-loop-run l = Passed l.self.number l.self.script.now l.marks l.initial.run.at (state_of l.initial.run) false l.run.at
    (state_of l.run)

abbrev pub decreases-loop-run : goal.decreases-loop-run
decreases-loop-run l = length l.self.script.now - l.run.at
