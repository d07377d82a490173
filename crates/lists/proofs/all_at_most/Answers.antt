use Rattle.std.proofs.Common.{ℕ, ap, arith}
use lib.Dec.{leb}
use Rattle.lists.specs.All.{at_most}
use Rattle.lists.proofs.Laws.{all_none, all_more, all_end}
use Rattle.lists.proofs.all_at_most.Goals as goal

pub loop-b-init : goal.loop-b-init
loop-b-init c = all_none _

pub loop-b-preserved : goal.loop-b-preserved
loop-b-preserved c = all_more _ _ _ _ c.loop-b.invariant (ap (λ (x : ℕ). leb x c.args.top) c.from.ensures)

pub returns : goal.returns
unfolding at_most
returns c = all_end _ _ _ _ c.loop-b.invariant (omega arith)
