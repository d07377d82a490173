-- Behind the tests of a send or a hear: the node's count, then its phase.
use mathlib.Core.Path.{refl, sym, ap, ◌∙◌}
use Rattle.words.proofs.Tests.{hit, skip}
use Rattle.machine.specs.Layout.{store, site_in}
use Rattle.machine.proofs.steps.Asked.{the-phase, ready-out, send-refused, send-rest}
use Rattle.node.specs.Answers.{is_done}
use Rattle.node.specs.Negotiation.{in_negotiation}
use Rattle.node.proofs.Bare.{send-phase}
use Rattle.site.specs.Members.{member_at}
use Rattle.site.specs.Answers.{is_full}
use Rattle.site.specs.declared.SiteHeader.{SiteHeader}
use Rattle.machine.proofs.Refused.{handed}
use Rattle.machine.proofs.answers.send_answer.Goals as goal

pub returns-in_err-ready : goal.returns-in_err-ready
returns-in_err-ready c =
    let a = c.args in
    let s = store a.m.words.now a.m.bytes.now in
    handed c.from_residual.result c.from_residual.ensures.1 ∙ sym c.in_err-ready.was
    ∙ send-refused s a.j c.ready.ensures (ap is_done c.in_err-ready.was)

pub returns-then-is_full : goal.returns-then-is_full
returns-then-is_full c =
    let a = c.args in
    let s = store a.m.words.now a.m.bytes.now in
    sym (hit _ _ _ (ap (λ (x : SiteHeader). is_full x a.j) (sym c.header-k.ensures)
    ∙ sym c.is_full.ensures
    ∙ c.if-is_full.true)) ∙ send-rest s a.j c.ready.ensures (ap is_done c.in_ok-ready.was)

pub returns : goal.returns
returns c =
    let a = c.args in
    let s = store a.m.words.now a.m.bytes.now in
    let ready = c.ready.ensures in
    let done = ap is_done c.in_ok-ready.was in
    let o = ready-out s a.j ready done in
    c.negotiation_answer.ensures ∙ ap in_negotiation (the-phase s a.j o refl c.phase-phase.ensures)
    ∙ sym (send-phase (member_at (site_in s) a.j).node)
    ∙ sym (skip _ _ _ _ (ap (λ (x : SiteHeader). is_full x a.j) (sym c.header-k.ensures)
    ∙ sym c.is_full.ensures ∙ c.if-is_full.false) refl) ∙ send-rest s a.j ready done
