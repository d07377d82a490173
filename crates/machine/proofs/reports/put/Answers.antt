use mathlib.Core.Path.{sym, ◌∙◌}
use Rattle.machine.specs.Layout.{store}
use Rattle.machine.proofs.reports.Laws.{accepts-long, no_place, no-close-put, put-there}
use Rattle.machine.proofs.reports.put.Goals as goal

pub returns-then-out-lt-SIZE : goal.returns-then-out-lt-SIZE
returns-then-out-lt-SIZE c =
    let a = c.args in
    no_place (store a.words.now a.bytes.now) a.area.now a.e a.out.now c.if-out-lt-SIZE.true

pub returns-then-not-reports : goal.returns-then-not-reports
returns-then-not-reports c =
    let a = c.args in
    let r = c.reports in
    no-close-put (store a.words.now a.bytes.now) a.area.now a.e a.out.now
    (sym r.ensures ∙ c.if-not-reports.true)

pub tell_all-requires : goal.tell_all-requires
tell_all-requires c =
    let a = c.args in
    let r = c.reports in
    accepts-long (store a.words.now a.bytes.now) a.area.now a.e (sym r.ensures ∙ c.if-not-reports.false)

pub returns : goal.returns
returns c =
    let r = c.reports in
    let a = c.args in
    put-there (store a.words.now a.bytes.now) a.area.now a.e a.out.now c.if-out-lt-SIZE.false
    (sym r.ensures ∙ c.if-not-reports.false) c.tell_all.ensures c.report_bytes-l.ensures
    c.put_bytes.ensures
