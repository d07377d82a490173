use Rattle.std.proofs.Common.{◌≡◌, ◌≤◌, ◌-◌, ◌+◌, length, drop}
use Rattle.text.specs.Read.{split}
use Rattle.reduce.specs.Reduced.{lines_in}
use Rattle.reduce.proofs.Writing.{first_long}
use Rattle.reduce.proofs.lines_end.Given as goal

abbrev pub invariant-loop-i : goal.invariant-loop-i
invariant-loop-i l = record {
  within : l.at ≤ length l.script;
  long : l.at + first_long (l.n - l.i) (lines_in (split 10 (drop l.at l.script))) ≡ first_long l.n (lines_in (split 10 l.script));
}
