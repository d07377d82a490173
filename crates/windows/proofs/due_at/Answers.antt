use Rattle.std.proofs.Common.{arith, refl, sym, ap}
use mathlib.Core.Path.{◌∙◌}
use mathlib.Core.Bool.{not}
use Rattle.words.proofs.Tests.{hit, skip}
use Rattle.lists.proofs.Laws.{all_none, iter-none, iter-more}
use Rattle.windows.proofs.Demands.{mark-more, told_at}
use Rattle.windows.proofs.due_at.Goals as goal
use Rattle.windows.proofs.due_at.Goals.{then-is_due, else-is_due}

pub loop-w-init : goal.loop-w-init
loop-w-init c = (ap not (all_none _), iter-none _ _)

pub loop-w-preserved : goal.loop-w-preserved
loop-w-preserved c =
    let m = c.loop-w in (
      mark-more c.args.ws.now c.args.node m.w-index m.own m.invariant.0,
      iter-more _ 0 m.w-index m.due _ m.invariant.1 (elim c.if-is_due.branch [
        | then-is_due w ↦ w.due-is ∙ sym (hit _ _ _ (sym c.is_due.ensures ∙ w.if-is_due.true))
        | else-is_due w ↦ w.due-is ∙ sym (skip _ _ _ _ (sym c.is_due.ensures ∙ w.if-is_due.false) refl)
      ]),
    )

pub returns-then-own : goal.returns-then-own
returns-then-own c =
    let m = c.loop-w in
    sym (hit m.own m.due c.args.d c.if-own.true)
    ∙ told_at c.args.ws.now c.args.node c.args.epoch c.args.d m.w-index (omega arith) m.invariant.0 m.invariant.1

pub returns-else-own : goal.returns-else-own
returns-else-own c =
    let m = c.loop-w in
    sym (skip m.own m.due c.args.d c.args.d c.if-own.false refl)
    ∙ told_at c.args.ws.now c.args.node c.args.epoch c.args.d m.w-index (omega arith) m.invariant.0 m.invariant.1
