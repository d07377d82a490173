use mathlib.Core.Bool.{◌||◌}
use mathlib.Core.Path.{◌≡◌}
use lib.ListN.{get_or}
use lib.Dec.{leb}
use Rattle.lists.specs.All.{all_below}
use Rattle.site.specs.Load.{row_ok, no_row}
use Rattle.site.proofs.table_ok.Given as goal

abbrev pub invariant-loop-i : goal.invariant-loop-i
invariant-loop-i l = l.ok ≡ all_below l.i (λ k. leb l.fn.f.nodes k || row_ok l.fn.f k (get_or l.fn.t.rows k no_row))
