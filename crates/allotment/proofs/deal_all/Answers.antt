use mathlib.Core.List.{List}
use mathlib.Core.Path.{◌≡◌, ap, ◌∙◌}
use Prim.Native.Nat.{ℕ}
use native.Mathlib.Omega.{arith}
use lib.ListN.{replicate}
use Rattle.lists.specs.All.{iter}
use Rattle.lists.proofs.Laws.{iter-none, iter-more, iter_end}
use Rattle.allotment.specs.Allotment.{top_request, deal_round, dealt}
use Rattle.allotment.proofs.Turns.{rounds-end}
use Rattle.allotment.proofs.deal_all.Goals as goal

pub loop-init : goal.loop-init
loop-init c = (omega arith, iter-none _ _)

pub deal_round-s-requires : goal.deal_round-s-requires
deal_round-s-requires c = c.requires

-- what `slots` answers is what there is to deal
from-slots : (wanted : List ℕ) (m n : ℕ) → m ≡ n → iter top_request (λ _ d. deal_round wanted d)
    (record { targets = replicate 32 0; left = m }) ≡ iter top_request (λ _ d. deal_round wanted d)
    (record { targets = replicate 32 0; left = n })
from-slots wanted m n e = ap (λ (x : ℕ). iter top_request (λ _ d. deal_round wanted d) (record { targets = replicate 32 0; left = x })) e

pub returns-then-s-left : goal.returns-then-s-left
unfolding dealt
returns-then-s-left c =
    let l = c.loop in
    let w = c.args.wanted in
    rounds-end w _ l.s _ l.counter top_request l.invariant.0 l.invariant.1 c.deal_round-s.ensures c.if-s-left.true
    ∙ from-slots w _ _ c.slots.ensures

pub loop-preserved : goal.loop-preserved
loop-preserved c = (omega arith, iter-more _ _ _ _ _ c.loop.invariant.1 c.deal_round-s.ensures)

pub returns : goal.returns
unfolding dealt
returns c = iter_end _ _ _ _ _ c.loop.invariant.1 (omega arith)
    ∙ from-slots c.args.wanted _ _ c.slots.ensures
