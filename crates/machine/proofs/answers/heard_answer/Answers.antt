-- Behind the tests of a send or a hear: the packet's number, then its bytes, then the node's own answer.
use mathlib.Core.Path.{refl, sym, ap, ◌∙◌}
use mathlib.Core.Bool.{not}
use Rattle.words.proofs.Tests.{hit, skip}
use Rattle.machine.specs.Layout.{store, site_in}
use Rattle.machine.proofs.steps.Asked.{heard-read, ready-out, hear-refused, hear-rest}
use Rattle.site.specs.Answers.{answer_part}
use Rattle.node.specs.Answers.{is_done}
use Rattle.node.specs.Negotiation.{hear_answer}
use Rattle.wire.specs.Reads.{packet_answer, part_of}
use Rattle.site.specs.Answers.{is_packet}
use Rattle.site.specs.declared.SiteHeader.{SiteHeader}
use Rattle.site.specs.Members.{member_at}
use Rattle.machine.proofs.Refused.{handed}
use Rattle.node.proofs.Answers.{answered-err, answered-ok}
use Rattle.machine.proofs.answers.heard_answer.Goals as goal

pub returns-in_err-ready : goal.returns-in_err-ready
returns-in_err-ready c =
    let a = c.args in
    let s = store a.m.words.now a.m.bytes.now in
    handed c.from_residual.result c.from_residual.ensures.1 ∙ sym c.in_err-ready.was
    ∙ hear-refused s a.j c.ready.ensures (part_of a.area.now a.at) a.p (ap is_done c.in_err-ready.was)

pub returns-then-not-is_packet : goal.returns-then-not-is_packet
returns-then-not-is_packet c =
    let a = c.args in
    let s = store a.m.words.now a.m.bytes.now in
    sym (hit _ _ _ (ap (λ (x : SiteHeader). not (is_packet x a.p)) (sym c.header-k.ensures)
    ∙ ap not (sym c.is_packet.ensures ∙ c.if-not-is_packet.true)))
    ∙ hear-rest s a.j c.ready.ensures (part_of a.area.now a.at) a.p (ap is_done c.in_ok-ready.was)

pub returns-in_err-packet : goal.returns-in_err-packet
unfolding answer_part
returns-in_err-packet c =
    let a = c.args in
    let s = store a.m.words.now a.m.bytes.now in
    let part = part_of a.area.now a.at in
    let nodes = ap (λ (x : SiteHeader). packet_answer x.config.nodes part) (sym c.header-k.ensures) in
    let e = nodes ∙ answered-err _ _ (sym c.packet_at.ensures ∙ c.in_err-packet.was) in
    handed c.from_residual-in_err-packet.result c.from_residual-in_err-packet.ensures.1 ∙ sym e
    ∙ sym (skip _ _ _ _ (ap (λ (x : SiteHeader). not (is_packet x a.p)) (sym c.header-k.ensures)
    ∙ ap not (sym c.is_packet.ensures ∙ c.if-not-is_packet.false)) (skip _ _ _ _ (ap is_done e) refl))
    ∙ hear-rest s a.j c.ready.ensures part a.p (ap is_done c.in_ok-ready.was)

pub returns : goal.returns
unfolding answer_part
returns c =
    let a = c.args in
    let s = store a.m.words.now a.m.bytes.now in
    let part = part_of a.area.now a.at in
    let nodes = ap (λ (x : SiteHeader). packet_answer x.config.nodes part) (sym c.header-k.ensures) in
    let p = answered-ok _ _ (sym c.packet_at.ensures ∙ c.in_ok-packet.was) in
    let o = ready-out s a.j c.ready.ensures (ap is_done c.in_ok-ready.was) in
    c.hear_answer.ensures ∙ heard-read s a.j o a.m.long.0 a.m.long.1 _
    ∙ ap (hear_answer (member_at (site_in s) a.j).node) p.1
    ∙ sym (skip _ _ _ _ (ap (λ (x : SiteHeader). not (is_packet x a.p)) (sym c.header-k.ensures)
    ∙ ap not (sym c.is_packet.ensures ∙ c.if-not-is_packet.false)) (hit _ _ _ (ap is_done nodes ∙ p.0)))
    ∙ hear-rest s a.j c.ready.ensures part a.p (ap is_done c.in_ok-ready.was)
