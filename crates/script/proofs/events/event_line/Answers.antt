use mathlib.Core.Path.{ap₂, sym, ◌∙◌}
use Rattle.script.specs.events.Events.{made}
use Rattle.script.proofs.lines.Fields.{numbers_long}
use Rattle.script.proofs.events.Laws.{event-none, event-is, pair}
use Rattle.script.proofs.events.event_line.Goals as goal

pub returns-then-e-s : goal.returns-then-e-s
returns-then-e-s c = sym (event-none _ _ c.find-e.ensures.value c.if-e-s.true)

pub returns-in_err-x : goal.returns-in_err-x
returns-in_err-x c =
    let e = event-is _ _ c.find-e.ensures.value c.find-e.ensures.within c.if-e-s.false in
    c.from_residual.ensures ∙ sym (e ∙ ap₂ made (sym c.word_number-n.ensures) (sym c.numbers.ensures ∙ c.in_err-x.was))

pub returns : goal.returns
returns c =
    let e = event-is _ _ c.find-e.ensures.value c.find-e.ensures.within c.if-e-s.false in
    let l = numbers_long 2 _ c.in_ok-x.field-0 (sym c.numbers.ensures ∙ c.in_ok-x.was) in
    c.event_at.ensures ∙ sym (e ∙ ap₂ made (sym c.word_number-n.ensures) (sym c.numbers.ensures ∙ c.in_ok-x.was) ∙ pair _ _ l)
