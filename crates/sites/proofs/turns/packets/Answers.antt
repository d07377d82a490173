use mathlib.Core.Path.{◌≡◌, ap, ◌∙◌}
use native.Mathlib.Omega.{arith}
use mir.Val.{Fits}
use mir.Syntax.{w8}
use lib.ListN.{length, get_or}
use Rattle.site.specs.Counts.{packets}
use Rattle.site.specs.declared.SiteHeader.{SiteHeader}
use Rattle.machine.specs.Layout.{store, site_in}
use Rattle.machine.proofs.Whole.{as-header}
use Rattle.sites.proofs.many.Lists.{few-sum}
use borrow.Author.Rules.{rules}
use Rattle.sites.proofs.turns.packets.Goals as goal

-- a count is a byte
pub returns : goal.returns
returns c =
    let a = c.args in
    let p = c.requires in
    let s = store a.words.now a.bytes.now in
    let k = c.header-k.result in
    let e : c.packets.result ≡ packets (site_in s).sent = c.packets.ensures
    ∙ ap (λ (x : SiteHeader). packets x.sent) (c.header-k.ensures ∙ as-header s p.0 p.1) in
    let l : length k.sent ≡ 32 = search rules in record {
      value = e;
      within = omega (arith, c.packets.ensures, l, few-sum k.sent (λ i. let f : Fits w8 (get_or k.sent i 0) = search rules in f.fits));
    }
