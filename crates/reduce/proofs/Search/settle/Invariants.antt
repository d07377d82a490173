use Rattle.std.proofs.Common.{◌≡◌, true, length}
use Rattle.reduce.specs.Inner.{given, marked_count}
use Rattle.reduce.proofs.Search.settle.Given as goal

abbrev pub invariant-loop : goal.invariant-loop
invariant-loop l = given l.self.number l.self.script.now l.marks l.self.opened ≡ true

abbrev pub decreases-loop : goal.decreases-loop
decreases-loop l = marked_count (length l.self.script.now) l.marks
