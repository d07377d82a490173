use mathlib.Core.List.{◌++◌}
use lib.ListN.{take, drop}
use mathlib.Core.Path.{◌≡◌}
use Prim.Native.Nat.{◌*◌}
use Rattle.lists.specs.Bytes.{flat}
use Rattle.area.proofs.put_words.Given as goal

abbrev pub invariant-loop-i : goal.invariant-loop-i
invariant-loop-i l = l.area ≡ flat (take l.i l.fn.w) ++ drop (4 * l.i) l.initial.area
