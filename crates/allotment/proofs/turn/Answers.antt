use mathlib.Core.Path.{refl, sym, ◌∙◌}
use native.Mathlib.Omega.{arith}
use borrow.Author.Tests.{lt-ltb, le-ltb}
use Rattle.words.proofs.Tests.{hit, skip}
use Rattle.allotment.specs.Allotment.{holding}
use Rattle.allotment.proofs.Turns.{best-all, turn-chosen, turn-next}
use Rattle.allotment.proofs.turn.Goals as goal

pub returns-then-slot-ge80 : goal.returns-then-slot-ge80
returns-then-slot-ge80 c = sym (skip _ _ _ _ (le-ltb _ _ c.if-slot-ge80.true) refl)

pub loop-i-init : goal.loop-i-init
loop-i-init c = (c.requires.0, c.requires.2)

pub returns-then-has-level : goal.returns-then-has-level
returns-then-has-level c =
    let l = c.loop-i in
    turn-chosen _ _ _ l.i l.invariant.1 (omega arith) c.if-has-level.true _ (omega arith)
    ∙ sym (hit _ _ _ (lt-ltb _ _ c.if-slot-ge80.false))

pub loop-i-preserved : goal.loop-i-preserved
loop-i-preserved c =
    let l = c.loop-i in
    let a = c.args in
    (l.invariant.0, turn-next a.target.now a.held.now _ l.i l.invariant.1 c.if-has-level.false)

pub returns : goal.returns
returns c =
    c.choose.ensures ∙ best-all _ (holding _) _ (c.requires.0, c.requires.1)
    ∙ sym (hit _ _ _ (lt-ltb _ _ c.if-slot-ge80.false))
