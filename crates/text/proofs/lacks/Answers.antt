use mathlib.Core.Path.{refl}
use native.Mathlib.Omega.{arith}
use Rattle.lists.proofs.Laws.{all_none, all_more, all_end}
use Rattle.text.proofs.lacks.Goals as goal

pub loop-b-init : goal.loop-b-init
loop-b-init c = all_none _

pub loop-b-preserved : goal.loop-b-preserved
loop-b-preserved c = all_more _ _ _ _ c.loop-b.invariant refl

pub returns : goal.returns
returns c = all_end _ _ _ _ c.loop-b.invariant (omega arith)
