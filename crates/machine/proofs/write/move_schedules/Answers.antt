use mathlib.Core.Path.{sym, ◌∙◌}
use Rattle.machine.specs.Layout.{schedules_at}
use Rattle.node.proofs.Moved.{keep-moved}
use Rattle.machine.proofs.write.move_schedules.Goals as goal

pub returns-then-keeps : goal.returns-then-keeps
returns-then-keeps c =
    let a = c.args in
    sym (keep-moved a.change a.before a.bytes.now (schedules_at a.i) (sym c.keeps.ensures ∙ c.if-keeps.true))

pub returns : goal.returns
returns c = c.move_at.ensures
