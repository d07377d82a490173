use Rattle.std.proofs.Common.{◌≡◌, ◌+◌, ◌*◌, drop}
use Rattle.text.specs.Read.{before}
use Rattle.text.proofs.passed.Given as goal

abbrev pub invariant-loop-block : goal.invariant-loop-block
invariant-loop-block l = (l.n ≡ 16 * l.block-index) × (before l.c l.s ≡ l.n + before l.c (drop l.n l.s))
