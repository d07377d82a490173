use mathlib.Core.Path.{◌≡◌}
use native.Mathlib.Omega.{arith}
use lib.ListN.{length, get_or}
use borrow.Author.Rules.{rules}
use mir.Val.{Fits}
use mir.Syntax.{w8}
use Rattle.allotment.proofs.Laws.{total-more, total-past}
use Rattle.allotment.proofs.total.Goals as goal

pub loop-x-init : goal.loop-x-init
loop-x-init c = (omega arith, omega arith)

pub overflow_add-sum : goal.overflow_add-sum
overflow_add-sum c =
    let f : Fits w8 (get_or c.args.wanted c.loop-x.x-index 0) = search rules in
    omega (arith, f.fits, c.from-sum.ensures)

pub loop-x-preserved : goal.loop-x-preserved
loop-x-preserved c =
    let l = c.loop-x in
    let f : Fits w8 (get_or c.args.wanted l.x-index 0) = search rules in
    let h : length c.args.wanted ≡ 32 = search rules in (
      omega (arith, f.fits, c.from-sum.ensures),
      omega (arith, l.invariant.1, c.from-sum.ensures, total-more c.args.wanted l.x-index (omega (arith, h))),
    )

pub returns : goal.returns
returns c =
    let l = c.loop-x in
    let h : length c.args.wanted ≡ 32 = search rules in
    omega (arith, l.invariant.1, total-past c.args.wanted l.x-index (omega (arith, h)))
