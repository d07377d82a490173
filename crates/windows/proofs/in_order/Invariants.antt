use Rattle.std.proofs.Common.{◌≡◌}
use mathlib.Core.Bool.{true}
use Rattle.lists.specs.All.{all_below}
use Rattle.windows.specs.Windows.{window_at}
use Rattle.windows.specs.Inner.{last_of, ordered_at}
use Rattle.windows.proofs.in_order.Given as goal

abbrev pub invariant-loop-w : goal.invariant-loop-w
invariant-loop-w l = (true ≡ all_below l.w-index (ordered_at l.nodes l.day (window_at l.ws))) × (l.last ≡ last_of (window_at l.ws) l.w-index)
