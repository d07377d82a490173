use Rattle.node.proofs.Cores.{step_of, verdict-first, is-determines, is-repeats, closed-as}
use Rattle.node.specs.declared.Phase.TheVariants.{Distribution}
use Rattle.node.specs.Core.{bare, close_move_by, core_closed}
use Rattle.node.specs.Inner.{core_request, verdict_of}
use Rattle.node.specs.Close.{determining, repeating, due}
use Rattle.node.specs.Figures.{is_last, successor}
use mathlib.Core.Bool.{Bool, not, cond, ◌&&◌, ◌||◌}
use mathlib.Core.Path.{ap, ap₂, ◌∙◌}
use Rattle.node.proofs.Core.close.Goals as goal

pub returns : goal.returns
unfolding core_closed due
returns c =
    let n = c.args.self in
    let v = c.verdict_of-v.ensures
    ∙ ap verdict_of c.first_rule.ensures
    ∙ (verdict-first (bare n)).0 in
    let new = c.eq-determines.ensures ∙ is-determines c.verdict_of-v.result ∙ ap determining v in
    let updated = ap (λ (t : Bool). t || n.updated) new in
    let now = c.is_due-due.ensures
    ∙ ap (λ (t : Bool). is_last n.setup.config n.place && (t || n.updated)) new in
    let version = c.version_after-version.ensures
    ∙ ap (λ (t : Bool). cond t (successor n.version) n.version) now in
    let request = c.request_at.ensures ∙ ap (core_request n) version in
    let again = c.eq.ensures ∙ is-repeats c.verdict_of-v.result ∙ ap repeating v in
    let core = (λ i. record {
      setup = n.setup;
      version = version i;
      demand = n.demand;
      request = request i;
      phase = Distribution (now i || again i);
      flags = n.flags;
      round = c.no_round.ensures i;
      counters =
          c.count_heard.ensures i;
      interactions = n.interactions;
      place = n.place;
      updated = updated i && not (now i);
    }) ∙ closed-as n
    in
    λ i. step_of (core i) ((c.close_move.ensures ∙ ap₂ close_move_by now new) i)
