use mathlib.Core.Logic.{inl}
use mathlib.Core.Path.{◌≡◌, refl, sym, ap, ◌∙◌}
use mathlib.Core.Bool.{cond, ◌&&◌, ◌||◌}
use lib.Dec.{eqb, ltb}
use lib.ListN.{length, get_or, take, length-take}
use lib.Seq.{get_or-take}
use borrow.Author.Rules.{rules}
use Rattle.words.proofs.Tests.{hit, skip}
use Prim.Native.Nat.{ℕ, ◌+◌, ◌<◌}
use native.Mathlib.Omega.{arith}
use Rattle.lists.proofs.Laws.{iter-none, iter-more, iter_end}
use Rattle.allotment.proofs.Turns.{best-more}
use Rattle.allotment.proofs.choose.Goals as goal
use Rattle.allotment.proofs.choose.Goals.{then-wins, else-wins}

pub loop-i-init : goal.loop-i-init
loop-i-init c = (c.requires, iter-none _ _, inl refl)

pub loop-i-preserved : goal.loop-i-preserved
loop-i-preserved c =
    let l = c.loop-i in
    let h = c.args.held.now in
    let k : l.i < length (take c.args.n h) = omega arith in
    let e : get_or (take c.args.n h) l.i 0 ≡ get_or h l.i 0 = get_or-take c.args.n h l.i 0 (omega (arith, k, length-take c.args.n h)) in
    let p = λ (x : ℕ). ltb x (get_or c.args.target.now l.i 0) && (eqb l.best 0 || ltb x l.least) in
    let t = p (get_or h l.i 0) in
    let b : c.if-wins.best ≡ cond t (l.i + 1) l.best = elim c.if-wins.branch [
      | then-wins w ↦ w.best-is ∙ sym (hit t _ _ (sym (ap p e) ∙ w.if-wins.true))
      | else-wins w ↦ w.best-is ∙ sym (skip t _ _ _ (sym (ap p e) ∙ w.if-wins.false) refl)
    ] in
    let a : c.if-wins.least ≡ cond t (get_or h l.i 0) l.least = elim c.if-wins.branch [
      | then-wins w ↦ w.least-is ∙ e ∙ sym (hit t _ _ (sym (ap p e) ∙ w.if-wins.true))
      | else-wins w ↦ w.least-is ∙ sym (skip t _ _ _ (sym (ap p e) ∙ w.if-wins.false) refl)
    ] in
    let q = best-more _ _ _ _ _ l.invariant.2 _ _ b a in
    (l.invariant.0, iter-more _ _ _ _ _ l.invariant.1 q.0, q.1)

pub returns : goal.returns
returns c =
    let h : length c.args.held.now ≡ 32 = search rules in
    iter_end _ _ _ _ _ c.loop-i.invariant.1 (omega (arith, length-take c.args.n c.args.held.now, c.requires, h))
