use mathlib.Core.Path.{ap, ◌∙◌}
use mathlib.Core.Bool.{true}
use Rattle.site.specs.declared.SiteHeader.{SiteHeader}
use Rattle.site.specs.Model.{Member}
use Rattle.machine.specs.Layout.{Store, store}
use Rattle.machine.specs.Written.{member_put}
use Rattle.machine.proofs.Whole.{at_place, stored-member}
use Rattle.machine.specs.steps.After.{restarted_store}
use Rattle.machine.proofs.steps.Acts.{waits}
use Rattle.machine.proofs.events.restart.Goals as goal

pub invariant_of-header : goal.invariant_of-header
invariant_of-header c =
    let a = c.args in
    let p = at_place (store a.words.now a.bytes.now) a.j c.requires in
    record { long = (p.0, p.1.0) }

pub returns : goal.returns
unfolding restarted_store
returns c =
    let a = c.args in
    let s = store a.words.now a.bytes.now in
    let p = at_place s a.j c.requires in
    let k = c.header-k.ensures in
    let m = waits true a.j a.flags (ap (λ (x : SiteHeader). x.config) k) (ap (λ (x : SiteHeader). x.place) k)
    c.restart-c.ensures in
    let z = stored-member s a.j p.0 p.1.0 p.1.1 _ in record {
      words_after = c.set_free.ensures.words_after ∙ ap (λ (y : Member). (member_put s a.j y).words) m
          ∙ ap (λ (x : Store). x.words) z;
      bytes_after = c.set_free.ensures.bytes_after ∙ ap (λ (y : Member). (member_put s a.j y).bytes) m
          ∙ ap (λ (x : Store). x.bytes) z;
    }
