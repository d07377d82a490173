use native.Mathlib.Omega.{arith}
use Rattle.lists.proofs.Laws.{all_none, all_more, all_end}
use Rattle.membership.specs.requests.Requests.{agree}
use Rattle.membership.proofs.requests.agree.Goals as goal

pub loop-i-init : goal.loop-i-init
loop-i-init c = all_none _

pub loop-i-preserved : goal.loop-i-preserved
loop-i-preserved c = all_more _ _ _ _ c.loop-i.invariant c.agree_at-ok.ensures

pub returns : goal.returns
unfolding agree
returns c = all_end _ _ _ _ c.loop-i.invariant (omega arith)
