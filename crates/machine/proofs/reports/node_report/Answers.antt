use mathlib.Core.Path.{sym, ◌∙◌}
use Rattle.machine.specs.Layout.{store}
use Rattle.machine.proofs.reports.Laws.{none_told, all_told}
use Rattle.machine.proofs.reports.node_report.Goals as goal

pub returns-then-not-reports : goal.returns-then-not-reports
returns-then-not-reports c =
    let a = c.args in
    let r = c.reports in
    none_told (store a.words.now a.bytes.now) a.area.now a.e a.j
    (sym r.ensures ∙ c.if-not-reports.true)

pub returns : goal.returns
returns c =
    let a = c.args in
    let r = c.reports in
    c.tell.ensures
    ∙ all_told (store a.words.now a.bytes.now) a.area.now a.e a.j
    (sym r.ensures ∙ c.if-not-reports.false)
