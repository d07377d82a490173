use Rattle.std.proofs.Common.{◌≡◌}
use mathlib.Core.Bool.{true}
use Rattle.lists.specs.All.{all_below}
use Rattle.windows.specs.Windows.{entry_ok}
use Rattle.windows.proofs.entries_ok.Given as goal

abbrev pub invariant-loop-i : goal.invariant-loop-i
invariant-loop-i l = true ≡ all_below l.i (entry_ok l.nodes l.day l.ws)
