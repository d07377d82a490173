use mathlib.Core.Path.{sym, ap, ◌∙◌}
use Rattle.words.proofs.Tests.{hit, skip}
use Rattle.node.specs.Begin.{waiting}
use Rattle.node.specs.Core.{core_of}
use Rattle.site.specs.Members.{setup_of}
use Rattle.site.specs.declared.SiteHeader.{SiteHeader}
use Rattle.node.specs.declared.Config.{Config}
use Rattle.site.specs.Model.{Member}
use Rattle.machine.specs.Inner.{core_in}
use Rattle.machine.specs.Layout.{store, config_in}
use Rattle.machine.specs.Loading.{member_read}
use Rattle.machine.proofs.Seats.{config-are, outside-as, at-node-index}
use Rattle.machine.proofs.Whole.{long-enough, stored-read}
use Rattle.machine.proofs.look.core.Goals as goal

pub returns-then-is_short : goal.returns-then-is_short
unfolding member_read
returns-then-is_short c =
    let a = c.args in
    c.restart.ensures
    ∙ ap (λ (f : Config). core_of (waiting (setup_of f a.j) 0 0 0)) c.none.ensures
    ∙ sym (ap (λ (m : Member). core_of m.node) (hit _ _ _ (sym c.is_short.ensures ∙ c.if-is_short.true)))

pub returns-then-outside : goal.returns-then-outside
unfolding member_read
returns-then-outside c =
    let a = c.args in
    let s = store a.words.now a.bytes.now in
    let k = c.header-k.ensures in
    let e = ap (λ (x : SiteHeader). x.config) k ∙ config-are s in
    let o = outside-as s a.j k c.outside.ensures c.if-outside.true in
    c.restart-then-outside.ensures
    ∙ ap (λ (f : Config). core_of (waiting (setup_of f a.j) 0 0 0)) e
    ∙ sym (ap (λ (m : Member). core_of m.node) (skip _ _ _ _ (sym c.is_short.ensures ∙ c.if-is_short.false) (hit _ _ _ o)))

pub returns : goal.returns
returns c =
    let a = c.args in
    let s = store a.words.now a.bytes.now in
    let w = long-enough s (sym c.is_short.ensures ∙ c.if-is_short.false) in
    let o = outside-as s a.j c.header-k.ensures c.outside.ensures c.if-outside.false in
    c.core.ensures ∙ ap (core_in s) (at-node-index (config_in s) a.j c.node_index.ensures.value o)
    ∙ sym (ap (λ (m : Member). core_of m.node) (stored-read s a.j w.0 w.1 o))
