use mathlib.Core.Path.{◌≡◌, refl, sym, ap, ◌∙◌}
use mathlib.Core.Bool.{true, false}
use Rattle.node.specs.Figures.{is_last}
use Rattle.words.proofs.Tests.{hit, skip}
use Rattle.site.specs.declared.SiteHeader.{SiteHeader}
use Rattle.site.specs.declared.Event.TheVariants.{End}
use Rattle.machine.specs.Layout.{Store, store, site_in}
use Rattle.machine.specs.timed.Timed.{in_last_round}
use Rattle.machine.specs.timed.Stored.{given_store, begun_store}
use Rattle.machine.specs.declared.Day.{Day}
use Rattle.machine.proofs.timed.begin.Goals as goal

pub returns-then-not-in_last_round : goal.returns-then-not-in_last_round
returns-then-not-in_last_round c =
    let a = c.args in
    let s = store a.words.now a.bytes.now in
    let l = c.in_last_round in
    let f : in_last_round (site_in s)
    ≡ false = sym (ap (λ (k : SiteHeader). is_last k.config k.place) c.requires) ∙ sym l.ensures
    ∙ c.if-not-in_last_round.true in
    let e : s ≡ begun_store s a.day a.area.now a.w.now End = sym (skip (in_last_round (site_in s)) _ s _ f refl) in record {
      value = sym (skip _ _ _ _ f refl);
      words_value = ap (λ (x : Store). x.words) e;
      bytes_after = ap (λ (x : Store). x.bytes) e;
    }

pub give-requires : goal.give-requires
give-requires c =
    ap (λ (k : SiteHeader). k.config.nodes) c.requires

pub returns : goal.returns
returns c =
    let a = c.args in
    let s = store a.words.now a.bytes.now in
    let l = c.in_last_round in
    let n = c.next-next in
    let o = c.give.ensures in
    let f : in_last_round (site_in s) ≡ true = sym (ap (λ (k : SiteHeader). is_last k.config k.place) c.requires) ∙ sym l.ensures
    ∙ c.if-not-in_last_round.false in
    let e : given_store a.w.now n.result.epoch a.area.now s
    ≡ begun_store s a.day a.area.now a.w.now End =
    ap (λ (x : Day). given_store a.w.now x.epoch a.area.now s) n.ensures ∙ sym (hit (in_last_round (site_in s)) _ s f)
    in record {
      value = n.ensures ∙ sym (hit _ _ _ f);
      words_value = o.words_value ∙ ap (λ (x : Store). x.words) e;
      bytes_after = o.bytes_after ∙ ap (λ (x : Store). x.bytes) e;
    }
