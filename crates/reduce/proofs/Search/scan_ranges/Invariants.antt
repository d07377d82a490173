use Rattle.std.proofs.Common.{◌≡◌, true, false, ◌≤◌, ◌-◌, length}
use Rattle.reduce.specs.Inner.{state_of, opening_of, given, Passed}
use Rattle.reduce.specs.Calls.{start_state}
use Rattle.reduce.proofs.Search.scan_ranges.Given as goal

abbrev pub invariant-loop-lo : goal.invariant-loop-lo
invariant-loop-lo l = record {
  within : l.lo ≤ l.n;
  long : length l.marks ≡ 40000;
  still : given l.self.number l.self.script.now l.marks l.self.opened ≡ true;
  passed : Passed l.self.number l.self.script.now l.marks l.self.opened.at (start_state (opening_of l.self.opened)) false l.run.at
      (state_of l.run);
}

abbrev pub decreases-loop-lo : goal.decreases-loop-lo
decreases-loop-lo l = l.n - l.lo
