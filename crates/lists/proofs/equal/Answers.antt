use mathlib.Core.Path.{refl, sym, ◌∙◌}
use native.Mathlib.Omega.{arith}
use Rattle.lists.proofs.Laws.{all_none, all_more, all_end, same-lengths, same-all}
use Rattle.lists.proofs.equal.Goals as goal

pub returns-then-s-t : goal.returns-then-s-t
returns-then-s-t c = sym (same-lengths _ _ c.if-s-t.true)

pub loop-i-init : goal.loop-i-init
loop-i-init c = all_none _

pub loop-i-preserved : goal.loop-i-preserved
loop-i-preserved c = all_more _ _ _ _ c.loop-i.invariant refl

pub returns : goal.returns
returns c = all_end _ _ _ _ c.loop-i.invariant (omega arith) ∙ same-all c.args.s.now c.args.t.now (omega (arith, c.if-s-t.false))
