use Rattle.std.proofs.Common.{◌≡◌, true}
use Rattle.reduce.specs.Inner.{given}
use Rattle.reduce.proofs.Search.thin.Given as goal

abbrev pub invariant-loop-c : goal.invariant-loop-c
invariant-loop-c l = given l.self.number l.self.script.now l.marks l.self.opened ≡ true

abbrev pub decreases-loop-c : goal.decreases-loop-c
decreases-loop-c l = l.c
