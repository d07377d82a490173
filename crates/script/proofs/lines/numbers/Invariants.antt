use Prim.Native.Nat.{◌-◌}
use Rattle.script.proofs.lines.Fields.{Read}
use Rattle.script.proofs.lines.numbers.Given as goal

-- The numbers of the whole line are those read, and then those of the pieces that are left.
abbrev pub invariant-loop-x : goal.invariant-loop-x
invariant-loop-x g l = Read g.row.N l.s l.x-index l.x-items l.pieces.count l.pieces.parts.done l.pieces.parts.rest.now

abbrev pub decreases-loop-x : goal.decreases-loop-x
decreases-loop-x g l = l.x-index-end - l.x-index
