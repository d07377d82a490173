use Rattle.std.proofs.Common.{◌≡◌, true}
use Rattle.reduce.specs.Inner.{given}
use Rattle.reduce.proofs.Search.shorten.Given as goal

abbrev pub invariant-loop-t : goal.invariant-loop-t
invariant-loop-t l = given l.self.number l.self.script.now l.marks l.self.opened ≡ true
