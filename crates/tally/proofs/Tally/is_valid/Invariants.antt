use mathlib.Core.Path.{◌≡◌}
use Prim.Native.Nat.{◌≤◌, ◌*◌}
use Rattle.lists.specs.All.{all_below}
use Rattle.tally.specs.Claims.{sum as summed}
use Rattle.tally.specs.Counting.{slots_at, tally_entry_ok}
use Rattle.tally.proofs.Tally.is_valid.Given as goal

abbrev pub invariant-loop-i : goal.invariant-loop-i
invariant-loop-i l = (l.sum ≤ l.i * 4294967295) × (l.ok ≡ all_below l.i (tally_entry_ok l.fn.self)) × (l.sum ≡ summed l.i (slots_at l.fn.self))
