use mathlib.Core.Path.{refl, sym, ap, ◌∙◌}
use Rattle.words.proofs.Tests.{hit, skip}
use Rattle.site.specs.declared.SiteHeader.{SiteHeader}
use Rattle.windows.specs.Windows.{list_ok}
use Rattle.machine.specs.Layout.{store}
use Rattle.machine.proofs.Whole.{as-header}
use Rattle.sites.proofs.turns.listed.Goals as goal

pub returns-then-list_ok : goal.returns-then-list_ok
returns-then-list_ok c =
    let a = c.args in
    let s = store a.words.now a.bytes.now in
    let k = c.header-k.ensures
    ∙ as-header s c.requires.0
    c.requires.1 in
    sym (hit _ _ _ (sym (ap (λ (x : SiteHeader). list_ok x.config.nodes a.day.length a.w.now) k)
    ∙ sym c.list_ok.ensures ∙ c.if-list_ok.true))

pub returns : goal.returns
returns c =
    let a = c.args in
    let s = store a.words.now a.bytes.now in
    let k = c.header-k.ensures
    ∙ as-header s c.requires.0
    c.requires.1 in
    sym (skip _ _ _ _ (sym (ap (λ (x : SiteHeader). list_ok x.config.nodes a.day.length a.w.now) k)
    ∙ sym c.list_ok.ensures ∙ c.if-list_ok.false) refl)
