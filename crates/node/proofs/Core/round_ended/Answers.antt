use Rattle.node.proofs.Cores.{step_of, turned_as, turn-move}
use Rattle.node.specs.declared.Phase.TheVariants.{Negotiation}
use Rattle.node.specs.Core.{bare, end_move_by, core_round_ended}
use Rattle.node.specs.Inner.{core_request, flags_after}
use Rattle.node.specs.End.{expires}
use Rattle.node.specs.Negotiation.{opened}
use Rattle.node.specs.Figures.{is_last}
use lib.ListN.{replicate}
use mathlib.Core.Bool.{Bool, not, cond, ◌&&◌}
use mathlib.Core.Path.{ap, ap₂, ◌∙◌}
use Prim.Native.Nat.{◌+◌}
use Rattle.node.proofs.Core.round_ended.Goals as goal

pub place_after-requires : goal.place_after-requires
place_after-requires c = c.is_last-last.ensures

pub returns : goal.returns
unfolding core_round_ended
returns c =
    let n = c.args.self in
    let last = c.is_last-last.ensures in
    let expired = c.is_expired-expired.ensures
    ∙ ap (λ (t : Bool). t && expires (bare n)) last in
    let flags = c.flags_after-flags.ensures ∙ ap (flags_after n) last in
    let version = c.left-version.ensures
    ∙ ap (λ (t : Bool). cond t 0 n.version) expired in
    let request = c.request_at-request.ensures ∙ ap (core_request n) version in
    let round = c.opening.ensures
    ∙ (λ i. opened n.setup.node (version i) (flags i) (request i)) in
    let counters = c.kept.ensures ∙ ap (λ (t : Bool). cond t (replicate 32 0) n.counters) last in
    let interactions = c.left.ensures ∙ ap (λ (t : Bool). cond t 0 n.interactions) last in
    let place = c.place_after.ensures ∙ ap (λ (t : Bool). cond t 0 (n.place + 1)) last in
    let change = c.end_move.ensures ∙ ap₂ end_move_by last expired
    ∙ turn-move (is_last n.setup.config n.place) (expires (bare n)) in
    let core = (λ i. record {
      setup = n.setup;
      version = version i;
      demand = n.demand;
      request = request i;
      flags = flags i;
      round = round i;
      counters = counters i;
      interactions = interactions i;
      place = place i;
      updated = n.updated && not (last i);
      phase = Negotiation;
    })
    ∙ turned_as n (is_last n.setup.config n.place) in
    λ i. step_of (core i) (change i)
