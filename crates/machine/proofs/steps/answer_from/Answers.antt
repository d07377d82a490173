use mathlib.Core.Path.{sym, ◌∙◌}
use Rattle.wire.specs.Reads.{part_of}
use Rattle.machine.specs.Layout.{store}
use Rattle.machine.proofs.steps.Whole.{part-short, part-is}
use Rattle.machine.proofs.steps.answer_from.Goals as goal

pub returns-then-is_short : goal.returns-then-is_short
returns-then-is_short c =
    let a = c.args in
    part-short (store a.words.now a.bytes.now) (part_of a.area.now a.at) a.j a.p (sym c.is_short.ensures ∙ c.if-is_short.true)

pub returns : goal.returns
returns c =
    let a = c.args in
    part-is (store a.words.now a.bytes.now) (part_of a.area.now a.at) a.j a.p (sym c.is_short.ensures ∙ c.if-is_short.false)
    c.heard_answer.ensures
