use mathlib.Core.Path.{◌≡◌}
use Prim.Native.Nat.{◌≤◌, ◌-◌}
use Rattle.lists.specs.All.{iter}
use Rattle.allotment.specs.Allotment.{top_request, deal_round}
use Rattle.allotment.proofs.deal_all.Given as goal

abbrev pub invariant-loop : goal.invariant-loop
invariant-loop l = (l.counter ≤ top_request) × (l.s ≡ iter l.counter (λ _ d. deal_round l.wanted d) l.initial.s)

abbrev pub decreases-loop : goal.decreases-loop
decreases-loop l = top_request - l.counter
