-- The machine's step with the lent area is the step with an area of the site's own.
use mathlib.Core.Path.{◌≡◌, refl, sym, ◌∙◌}
use mathlib.Core.Bool.{true, false, ◌&&◌}
use Rattle.words.proofs.Tests.{hit, skip, both}
use Rattle.node.specs.Answers.{is_done}
use Rattle.site.specs.Events.{is_close}
use Rattle.machine.specs.Layout.{store}
use Rattle.sites.specs.many.Memory.{lent}
use Rattle.sites.specs.many.Inner.{one_site}
use Rattle.sites.proofs.many.Events.{other-turn}
use Rattle.sites.proofs.turns.other.Goals as goal

pub returns-then-is_close-is_ok : goal.returns-then-is_close-is_ok
returns-then-is_close-is_ok c =
    let a = c.args in
    let p = c.requires in
    let x = one_site (store a.words.now a.bytes.now) a.day.now a.a a.list.now a.area.now in
    let v = lent a.w.now a.t.now a.out.now in
    let o = c.step-answer.ensures in
    let h : (is_close a.e && is_done c.step-answer.result) ≡ true = sym (both c.is_close.ensures c.is_ok.ensures.value) ∙ c.if-is_close-is_ok.true in
    let whole = other-turn x v p.0 false a.e p.1 p.2 o.value o.words_after o.bytes_after o.out_after o.kept_after
    (c.free.ensures ∙ sym (hit _ _ _ h)) in record {
      value = whole.0;
      day_after = whole.1.0;
      tally_after = whole.1.1.0;
      words_after = whole.1.1.1.0;
      bytes_after = whole.1.1.1.1.0;
      list_after = whole.1.1.1.1.1.0;
      area_after = whole.1.1.1.1.1.1.0;
      out_after = whole.1.1.1.1.1.1.1.0;
      site_after = whole.1.1.1.1.1.1.1.1;
    }

pub returns-else-is_close-is_ok : goal.returns-else-is_close-is_ok
returns-else-is_close-is_ok c =
    let a = c.args in
    let p = c.requires in
    let x = one_site (store a.words.now a.bytes.now) a.day.now a.a a.list.now a.area.now in
    let v = lent a.w.now a.t.now a.out.now in
    let o = c.step-answer.ensures in
    let h : (is_close a.e && is_done c.step-answer.result) ≡ false = sym (both c.is_close.ensures c.is_ok.ensures.value) ∙ c.if-is_close-is_ok.false in
    let whole = other-turn x v p.0 false a.e p.1 p.2 o.value o.words_after o.bytes_after o.out_after o.kept_after
    (sym (skip _ _ _ _ h refl)) in record {
      value = whole.0;
      day_after = whole.1.0;
      tally_after = whole.1.1.0;
      words_after = whole.1.1.1.0;
      bytes_after = whole.1.1.1.1.0;
      list_after = whole.1.1.1.1.1.0;
      area_after = whole.1.1.1.1.1.1.0;
      out_after = whole.1.1.1.1.1.1.1.0;
      site_after = whole.1.1.1.1.1.1.1.1;
    }
