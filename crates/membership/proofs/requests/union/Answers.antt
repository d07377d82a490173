use mathlib.Core.Path.{◌≡◌, ap, ◌∙◌}
use mathlib.Core.List.{List}
use Prim.Native.Nat.{ℕ, ◌<◌}
use native.Mathlib.Omega.{arith}
use lib.ListN.{get_or, length}
use borrow.Author.Rules.{rules}
use Rattle.lists.proofs.Laws.{fill_none, fill_more, fill_end}
use Rattle.membership.specs.requests.Requests.{first_known, union}
use Rattle.membership.proofs.counters.Laws.{fill-next}
use Rattle.membership.proofs.requests.union.Goals as goal

pub loop-i-init : goal.loop-i-init
loop-i-init c = fill_none _ _

pub loop-i-preserved : goal.loop-i-preserved
loop-i-preserved c =
    let l = c.args.a in
    let y = get_or c.args.b c.loop-i.i 0 in
    let i = c.loop-i.i in
    let n : length l ≡ 32 = search rules in
    let h : i < length l = omega (arith, n) in
    let x = ap (λ (s : List ℕ). get_or s i 0) c.loop-i.invariant ∙ fill-next i _ l h in
    fill_more i (λ j. first_known (get_or l j 0) (get_or c.args.b j 0)) l _ _ h c.loop-i.invariant
    (c.first_known.ensures ∙ ap (λ (z : ℕ). first_known z y) x)

pub returns : goal.returns
unfolding union
returns c =
    let h : length c.args.a ≡ 32 = search rules in
    fill_end _ 32 _ _ _ c.loop-i.invariant (omega arith) (omega (arith, h))
