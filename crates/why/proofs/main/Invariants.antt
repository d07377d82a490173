-- The program asks for one part after another, and writes each; every place lies within its buffer.
use Rattle.std.proofs.Common.{length, ◌≤◌, ◌≡◌}
use Rattle.why.proofs.main.Given as goal

abbrev pub invariant-loop-j : goal.invariant-loop-j
invariant-loop-j l = (l.n ≤ length l.script) × (length l.out ≡ 160100)
