use Rattle.std.proofs.Common.{◌≡◌, length}
use Rattle.reduce.proofs.Marks.{ScanTo}
use Rattle.reduce.proofs.Search.scan.Given as goal

abbrev pub invariant-loop-at : goal.invariant-loop-at
invariant-loop-at l = record {
  long : length l.marks ≡ 40000;
  scan : ScanTo l.self.number l.self.script.now l.self.opened l.initial.marks l.marks l.cut l.at;
}
