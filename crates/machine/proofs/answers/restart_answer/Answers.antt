-- The flags first, then the node's number, then whether it is down.
use mathlib.Core.Path.{refl, sym, ap, ◌∙◌}
use Rattle.words.proofs.Tests.{hit, skip}
use Rattle.machine.specs.Layout.{store}
use Rattle.machine.proofs.steps.Asked.{out, up}
use Rattle.site.specs.Answers.{site_restart}
use Rattle.node.specs.Figures.{flags_ok}
use Rattle.site.specs.Members.{setup_of}
use Rattle.site.specs.declared.SiteHeader.{SiteHeader}
use Rattle.machine.proofs.answers.restart_answer.Goals as goal

pub returns-then-not-flags_ok : goal.returns-then-not-flags_ok
unfolding site_restart
returns-then-not-flags_ok c =
    let a = c.args in
    let s = store a.m.words.now a.m.bytes.now in
    sym (skip _ _ _ _ (ap (λ (x : SiteHeader). flags_ok (setup_of x.config a.j) a.flags) (sym c.header-k.ensures)
    ∙ sym c.flags_ok.ensures ∙ c.if-not-flags_ok.true) refl)

pub returns-then-outside : goal.returns-then-outside
unfolding site_restart
returns-then-outside c =
    let a = c.args in
    let s = store a.m.words.now a.m.bytes.now in
    let o = out s c.header-k.ensures a.j c.outside.ensures c.if-outside.true in
    sym (hit _ _ _ (ap (λ (x : SiteHeader). flags_ok (setup_of x.config a.j) a.flags) (sym c.header-k.ensures)
    ∙ sym c.flags_ok.ensures
    ∙ c.if-not-flags_ok.false) ∙ hit _ _ _ o)

pub returns-then-up : goal.returns-then-up
unfolding site_restart
returns-then-up c =
    let a = c.args in
    let s = store a.m.words.now a.m.bytes.now in
    let o = out s c.header-k.ensures a.j c.outside.ensures c.if-outside.false in
    sym (hit _ _ _ (ap (λ (x : SiteHeader). flags_ok (setup_of x.config a.j) a.flags) (sym c.header-k.ensures)
    ∙ sym c.flags_ok.ensures ∙ c.if-not-flags_ok.false)
    ∙ skip _ _ _ _ o (hit _ _ _ (up s a.j o refl c.up.ensures c.if-up.true)))

pub returns : goal.returns
unfolding site_restart
returns c =
    let a = c.args in
    let s = store a.m.words.now a.m.bytes.now in
    let o = out s c.header-k.ensures a.j c.outside.ensures c.if-outside.false in
    sym (hit _ _ _ (ap (λ (x : SiteHeader). flags_ok (setup_of x.config a.j) a.flags) (sym c.header-k.ensures)
    ∙ sym c.flags_ok.ensures ∙ c.if-not-flags_ok.false)
    ∙ skip _ _ _ _ o (skip _ _ _ _ (up s a.j o refl c.up.ensures c.if-up.false) refl))
