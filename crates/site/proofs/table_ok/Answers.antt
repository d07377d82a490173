use mathlib.Core.Bool.{Bool, ◌||◌}
use mathlib.Core.Path.{ap}
use native.Mathlib.Omega.{arith}
use lib.Dec.{leb}
use Rattle.lists.proofs.Laws.{all_none, all_more, all_end}
use Rattle.site.specs.Load.{table_ok}
use Rattle.site.proofs.table_ok.Goals as goal

pub loop-i-init : goal.loop-i-init
loop-i-init c = all_none _

pub loop-i-preserved : goal.loop-i-preserved
loop-i-preserved c =
    all_more _ _ _ _ c.loop-i.invariant (ap (λ (b : Bool). leb c.args.f.nodes c.loop-i.i || b) c.row_ok.ensures)

pub returns : goal.returns
unfolding table_ok
returns c = all_end _ _ _ _ c.loop-i.invariant (omega arith)
