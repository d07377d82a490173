use mathlib.Core.Path.{◌≡◌, sym, ◌∙◌, subst}
use mathlib.Core.Bool.{false}
use Rattle.site.specs.Events.{is_end}
use Rattle.site.specs.declared.Event.{Event}
use Rattle.site.specs.declared.Event.TheVariants.{End}
use Rattle.machine.specs.Layout.{store}
use Rattle.machine.proofs.timed.Laws.{end_is}
use Rattle.machine.proofs.timed.Known.{TestedIs, plain-tested}
use Rattle.machine.proofs.timed.step_tested.Goals as goal

pub returns-then-is_end : goal.returns-then-is_end
returns-then-is_end c =
    let a = c.args in
    let s = store a.words.now a.bytes.now in
    let o = c.end in
    let g : End ≡ a.e = sym (end_is a.e (sym c.is_end.ensures ∙ c.if-is_end.true)) in
    let whole = subst (λ (e : Event). TestedIs a.ok s a.day.now a.area.now a.w.now e o.result o.new.day
    o.new.words o.new.bytes o.new.area) g ((o.ensures.value, o.ensures.day_after), (o.ensures.words_after, (o.ensures.bytes_after, o.ensures.area_after))) in record {
      value = whole.0.0;
      day_after = whole.0.1;
      words_after = whole.1.0;
      bytes_after = whole.1.1.0;
      area_after = whole.1.1.1;
    }

pub returns : goal.returns
returns c =
    let a = c.args in
    let s = store a.words.now a.bytes.now in
    let o = c.step.ensures in
    let f : is_end a.e ≡ false = sym c.is_end.ensures ∙ c.if-is_end.false in
    let whole = plain-tested a.ok s a.day.now a.area.now a.w.now a.e f o.value o.words_after o.bytes_after o.area_after in record {
      value = whole.0.0;
      day_after = whole.0.1;
      words_after = whole.1.0;
      bytes_after = whole.1.1.0;
      area_after = whole.1.1.1;
    }
