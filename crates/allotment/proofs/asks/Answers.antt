use native.Mathlib.Omega.{arith}
use Rattle.lists.proofs.Laws.{fill_none, fill_more, fill_end}
use Rattle.allotment.specs.Allotment.{asks}
use Rattle.allotment.proofs.asks.Goals as goal

pub loop-i-init : goal.loop-i-init
loop-i-init c = fill_none _ _

pub loop-i-preserved : goal.loop-i-preserved
loop-i-preserved c = fill_more _ _ _ _ _ (omega arith) c.loop-i.invariant c.ask.ensures

pub returns : goal.returns
unfolding asks
returns c = fill_end _ 32 _ _ _ c.loop-i.invariant (omega arith) (omega arith)
