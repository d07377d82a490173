-- What is lent is tested first; then the event is a send, a hear or another.
use mathlib.Core.Path.{◌≡◌, sym, ap, ◌∙◌, subst}
use Rattle.node.specs.Answers.{Answer}
use Rattle.site.specs.declared.Event.{Event}
use Rattle.site.specs.declared.Event.TheVariants.{Send, Hear}
use Rattle.machine.specs.Layout.{store}
use Rattle.sites.specs.many.Memory.{lent}
use Rattle.sites.specs.many.Inner.{one_site, own_area_of, send_answer, send_store, send_places, send_area, group_hear_answer, hear_store}
use Rattle.sites.proofs.many.Events.{TurnIs, room, neither-is, room-turn, send-turn, hear-turn, unfull}
use Rattle.sites.proofs.turns.turn.Goals as goal

pub returns-then-too_few : goal.returns-then-too_few
returns-then-too_few c =
    let a = c.args in
    let x = one_site (store a.words.now a.bytes.now) a.day.now a.a a.list.now a.area.now in
    let v = lent a.w.now a.t.now a.out.now in
    let whole = room-turn x a.full v a.e (sym c.too_few.ensures ∙ c.if-too_few.true) in record {
      value = whole.0;
      day_after = whole.1.0;
      tally_after = whole.1.1.0;
      words_after = whole.1.1.1.0;
      bytes_after = whole.1.1.1.1.0;
      list_after = whole.1.1.1.1.1.0;
      area_after = whole.1.1.1.1.1.1.0;
      out_after = whole.1.1.1.1.1.1.1.0;
      site_after = whole.1.1.1.1.1.1.1.1;
    }

pub send-requires : goal.send-requires
send-requires c =
    let a = c.args in
    let p = c.requires in
    let x = one_site (store a.words.now a.bytes.now) a.day.now a.a a.list.now a.area.now in
    let v = lent a.w.now a.t.now a.out.now in
    (p.0, p.1, p.2, room x v (sym c.too_few.ensures ∙ c.if-too_few.false), p.3)

pub other-requires : goal.other-requires
other-requires c =
    let n = neither-is c.args.e c.in_default.not-Send c.in_default.not-Hear in
    (sym c.too_few.ensures ∙ c.if-too_few.false, n.0, n.1)

pub returns-in-Send : goal.returns-in-Send
returns-in-Send c =
    let a = c.args in
    let x = one_site (store a.words.now a.bytes.now) a.day.now a.a a.list.now a.area.now in
    let v = lent a.w.now a.t.now a.out.now in
    let few = sym c.too_few.ensures ∙ c.if-too_few.false in
    let j = c.in-Send.j in
    let e : Send j ≡ a.e = sym c.in-Send.is in
    let s = c.send in
    let o = s.ensures in
    let q = c.listed-o.ensures in
    let whole = subst (λ (e : Event). TurnIs x a.full v e s.result a.day.now a.t.now a.words.now s.new.bytes s.new.list s.new.area a.out.now) e
    (send-turn x v few a.full j (o.value ∙ ap (λ (z : Answer). send_answer x.store z a.full j) q)
    (o.bytes_after ∙ ap (λ (z : Answer). (send_store x.store z a.full j).bytes) q)
    (o.list_after ∙ ap (λ (z : Answer). send_places x.store z a.full j a.a a.list.now) q)
    (o.area_after ∙ ap (λ (z : Answer). send_area x.store z a.full j a.list.now a.area.now) q)) in record {
      value = whole.0;
      day_after = whole.1.0;
      tally_after = whole.1.1.0;
      words_after = whole.1.1.1.0;
      bytes_after = whole.1.1.1.1.0;
      list_after = whole.1.1.1.1.1.0;
      area_after = whole.1.1.1.1.1.1.0;
      out_after = whole.1.1.1.1.1.1.1.0;
      site_after = whole.1.1.1.1.1.1.1.1;
    }

pub returns-in-Hear : goal.returns-in-Hear
returns-in-Hear c =
    let a = c.args in
    let x = one_site (store a.words.now a.bytes.now) a.day.now a.a a.list.now a.area.now in
    let v = lent a.w.now a.t.now a.out.now in
    let few = sym c.too_few.ensures ∙ c.if-too_few.false in
    let j = c.in-Hear.j in
    let p = c.in-Hear.p in
    let e : Hear j p ≡ a.e = sym c.in-Hear.is in
    let s = c.hear in
    let o = s.ensures in
    let q = c.listed-o-in-Hear.ensures in
    let whole = subst (λ (e : Event). TurnIs x a.full v e s.result a.day.now a.t.now s.new.words s.new.bytes a.list.now a.area.now a.out.now) e
    (hear-turn x v few a.full j p
    (o.value ∙ ap (λ (z : Answer). group_hear_answer x.store (own_area_of x) z j p) q)
    (o.words_after ∙ ap (λ (z : Answer). (hear_store x.store (own_area_of x) z j p).words) q)
    (o.bytes_after ∙ ap (λ (z : Answer). (hear_store x.store (own_area_of x) z j p).bytes) q)) in record {
      value = whole.0;
      day_after = whole.1.0;
      tally_after = whole.1.1.0;
      words_after = whole.1.1.1.0;
      bytes_after = whole.1.1.1.1.0;
      list_after = whole.1.1.1.1.1.0;
      area_after = whole.1.1.1.1.1.1.0;
      out_after = whole.1.1.1.1.1.1.1.0;
      site_after = whole.1.1.1.1.1.1.1.1;
    }

pub returns-in_default : goal.returns-in_default
returns-in_default c =
    let a = c.args in
    let o = c.other.ensures in
    let x = one_site (store a.words.now a.bytes.now) a.day.now a.a a.list.now a.area.now in
    let v = lent a.w.now a.t.now a.out.now in
    let n = neither-is a.e c.in_default.not-Send c.in_default.not-Hear in
    let whole = unfull x v a.full a.e n.0
    (o.value, (o.day_after, (o.tally_after, (o.words_after, (o.bytes_after, (o.list_after, (o.area_after, (o.out_after, o.site_after)))))))) in record {
      value = whole.0;
      day_after = whole.1.0;
      tally_after = whole.1.1.0;
      words_after = whole.1.1.1.0;
      bytes_after = whole.1.1.1.1.0;
      list_after = whole.1.1.1.1.1.0;
      area_after = whole.1.1.1.1.1.1.0;
      out_after = whole.1.1.1.1.1.1.1.0;
      site_after = whole.1.1.1.1.1.1.1.1;
    }
