use Rattle.std.proofs.Common.{arith, ◌≡◌, ◌+◌, get_or, refl, sym}
use mathlib.Core.Path.{◌∙◌}
use mathlib.Core.Bool.{false, cond}
use lib.ListN.{length-set}
use Rattle.words.proofs.Tests.{hit, skip}
use Rattle.lists.proofs.Laws.{fill_none, fill_more, fill_end, tab-ext}
use Rattle.windows.specs.Windows.{due_all}
use Rattle.windows.proofs.Demands.{told_none, told-turn, told-all}
use Rattle.windows.proofs.due_all.Goals as goal
use Rattle.windows.proofs.due_all.Goals.{then-own-i, else-own-i}

pub loop-w-init : goal.loop-w-init
loop-w-init c = (refl, refl, told_none c.args.ws.now c.args.epoch)

pub loop-w-preserved : goal.loop-w-preserved
loop-w-preserved c =
    let m = c.loop-w in
    let r = c.entry in
    let k = c.entry_due in (
      length-set m.own r.result _ ∙ m.invariant.0,
      length-set m.due k.result _ ∙ m.invariant.1,
      told-turn m.invariant.2 r.ensures.value (omega (arith, r.ensures.upper_bound, m.invariant.0)) k.ensures.value
          (omega (arith, k.ensures.upper_bound, m.invariant.1)),
    )

pub loop-i-init : goal.loop-i-init
loop-i-init c = fill_none _ _

pub loop-i-preserved : goal.loop-i-preserved
loop-i-preserved c =
    let m = c.loop-i in
    let t = get_or c.loop-w.own (m.i + 1) false in
    let x = get_or c.loop-w.due (m.i + 1) 0 in
    let e : c.if-own-i.d ≡ cond t x c.args.demand = elim c.if-own-i.branch [
      | then-own-i w ↦ w.d-is ∙ sym (hit t x c.args.demand w.if-own-i.true)
      | else-own-i w ↦ w.d-is ∙ sym (skip t x c.args.demand c.args.demand w.if-own-i.false refl)
    ] in
    fill_more m.i _ _ _ _ (omega arith) m.invariant e

pub returns : goal.returns
unfolding due_all
returns c =
    fill_end _ 32 _ _ _ c.loop-i.invariant (omega arith) (omega arith)
    ∙ tab-ext 32 _ _ (λ k h. told-all c.loop-w.invariant.2 (omega arith) (k + 1) c.args.demand (omega arith) (omega (arith, h)))
