use mathlib.Core.Path.{◌≡◌, sym, ap, ap₂, ◌∙◌}
use mathlib.Core.List.{List}
use Prim.Native.Nat.{ℕ, ◌<◌}
use native.Mathlib.Omega.{arith}
use lib.ListN.{get_or, length}
use borrow.Author.Rules.{rules}
use Rattle.words.specs.Bits.{has_bit}
use Rattle.lists.proofs.Laws.{fill_none, fill_more, fill_end}
use Rattle.membership.specs.counters.Counters.{counted, plus}
use Rattle.membership.proofs.counters.Laws.{none-counted, fill-next}
use Rattle.membership.proofs.counters.count_heard.Goals as goal

pub returns-then-heard-eq0 : goal.returns-then-heard-eq0
returns-then-heard-eq0 c =
    let l = c.args.counters in
    let h : length l ≡ 32 = search rules in
    none-counted l h ∙ ap (counted l) (sym c.if-heard-eq0.true)

pub loop-i-init : goal.loop-i-init
loop-i-init c = fill_none _ _

pub loop-i-preserved : goal.loop-i-preserved
loop-i-preserved c =
    let l = c.args.counters in
    let i = c.loop-i.i in
    let n : length l ≡ 32 = search rules in
    let h : i < length l = omega (arith, n) in
    let x = ap (λ (s : List ℕ). get_or s i 0) c.loop-i.invariant ∙ fill-next i _ l h in
    fill_more i (λ j. plus (get_or l j 0) (has_bit c.args.heard j)) l _ _ h c.loop-i.invariant (c.plus.ensures ∙ ap₂ plus x c.contains.ensures)

pub returns : goal.returns
unfolding counted
returns c =
    let h : length c.args.counters ≡ 32 = search rules in
    fill_end _ 32 _ _ _ c.loop-i.invariant (omega arith) (omega (arith, h))
