use mathlib.Core.Path.{sym, ◌∙◌}
use Rattle.machine.specs.Layout.{store}
use Rattle.machine.proofs.steps.Whole.{short-storage, short-area, by-event}
use Rattle.machine.proofs.steps.answer_to.Goals as goal

pub returns-then-is_short : goal.returns-then-is_short
returns-then-is_short c =
    let a = c.args in
    short-storage (store a.words.now a.bytes.now) a.area.now a.e (sym c.is_short.ensures ∙ c.if-is_short.true)

pub returns-then-area-lt-AREA : goal.returns-then-area-lt-AREA
returns-then-area-lt-AREA c =
    let a = c.args in
    short-area (store a.words.now a.bytes.now) a.area.now a.e (sym c.is_short.ensures ∙ c.if-is_short.false) c.if-area-lt-AREA.true

pub returns : goal.returns
returns c =
    let a = c.args in
    by-event (store a.words.now a.bytes.now) a.area.now a.e (sym c.is_short.ensures ∙ c.if-is_short.false) c.if-area-lt-AREA.false
    c.answer.ensures
