use lib.ListN.{length, take}
use Rattle.lists.specs.Bytes.{Put}
use mathlib.Core.Path.{◌≡◌}
use Prim.Native.Nat.{◌≤◌, ◌+◌}
use Rattle.lists.proofs.put_bytes.Given as goal

abbrev pub invariant-loop-i : goal.invariant-loop-i
invariant-loop-i l = (l.i ≤ length l.s) × (length l.out ≡ length l.initial.out) × Put l.initial.out l.at (take l.i l.s) (l.at + l.i) l.out
