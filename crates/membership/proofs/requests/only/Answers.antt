use mathlib.Core.Path.{◌≡◌, refl, sym, ap, ◌∙◌}
use Prim.Native.Nat.{ℕ, ◌-◌}
use native.Mathlib.Omega.{arith}
use mathlib.Core.Bool.{cond}
use lib.Dec.{eqb, ltb}
use borrow.Author.Tests.{eq-eqb, ne_eqb}
use Rattle.words.proofs.Tests.{hit, skip}
use Rattle.lists.specs.All.{tab}
use Rattle.lists.proofs.Laws.{fill_none, fill_more, fill_end}
use Rattle.membership.specs.requests.Requests.{none}
use Rattle.membership.proofs.requests.Laws.{only-tab}
use Rattle.membership.proofs.requests.only.Goals as goal
use Rattle.membership.proofs.requests.only.Goals.{then-k-at, else-k-at}

pub loop-k-init : goal.loop-k-init
loop-k-init c = fill_none _ _

pub loop-k-preserved : goal.loop-k-preserved
loop-k-preserved c =
    let k = c.loop-k.k in
    let at = c.byte_of-at.result in
    let e : c.if-k-at.x ≡ cond (eqb k at) c.args.request none = elim c.if-k-at.branch [
      | then-k-at w ↦ w.x-is ∙ sym (hit _ _ _ (eq-eqb k at w.if-k-at.true))
      | else-k-at w ↦ w.x-is ∙ sym (skip _ _ _ _ (ne_eqb k at w.if-k-at.false) refl)
    ] in
    fill_more k _ _ _ _ (omega arith) c.loop-k.invariant e

pub returns : goal.returns
returns c =
    let a = c.args in
    let at = c.byte_of-at.ensures ∙ ap (λ (i : ℕ). cond (ltb i 32) i none) c.index_of.ensures in
    fill_end _ 32 _ _ _ c.loop-k.invariant (omega arith) (omega arith)
    ∙ ap (λ (k : ℕ). tab 32 (λ i. cond (eqb i k) a.request none)) at ∙ only-tab (a.j - 1) a.request
