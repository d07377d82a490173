use Rattle.site.specs.Model.{Site}
use Rattle.machine.specs.Layout.{store, site_in}
use Rattle.machine.proofs.layout.Lent.header.Goals as goal

pub returns : goal.returns
unfolding site_in
returns c =
    let a = c.args in
    let s : Site = site_in (store a.self.words.now a.self.bytes.now) in
    λ k. record { config = c.config-config.ensures k; negotiates = s.negotiates; place = s.place; sent = c.short_at-sent.ensures k }
