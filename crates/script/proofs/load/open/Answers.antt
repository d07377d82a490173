use Rattle.std.proofs.Common.{rules}
use Rattle.std.specs.Prelude.{Err}
use mathlib.Core.Path.{◌≡◌, ◌∙◌}
use native.Mathlib.Omega.{arith}
use Rattle.script.proofs.load.Laws.{limits, told_on, refused-names, refused-settings, refused-table, refused-rows, refused-events, opens}
use Rattle.script.proofs.load.open.Goals as goal

-- Line by line: the refusal that is passed on is that of the opening.
pub returns-in_err-a : goal.returns-in_err-a
returns-in_err-a c =
    let p : c.from_residual.result ≡ Err c.in_err-a.field-0.0 = search rules in
    let t = told_on p (refused-names _ (record { is = c.in_err-a.ensures.is; config = c.in_err-a.ensures.config ∙ c.none.ensures })) in
    record { value = t.value; lines = t.lines; within = t.within }

pub returns-in_err-config : goal.returns-in_err-config
returns-in_err-config c =
    let p : c.from_residual-in_err-config.result ≡ Err c.in_err-config.field-0.0 = search rules in
    let t = told_on p (refused-settings _ c.in_ok-a.ensures c.in_err-config.ensures.line) in
    record { value = t.value; lines = t.lines; within = t.within }

pub returns-in_err-c : goal.returns-in_err-c
returns-in_err-c c =
    let p : c.from_residual-in_err-c.result ≡ Err c.in_err-c.field-0.0 = search rules in
    let t = told_on p (refused-table _ c.in_ok-a.ensures c.in_ok-config.ensures.line c.in_err-c.ensures) in
    record { value = t.value; lines = t.lines; within = t.within }

pub rows-requires : goal.rows-requires
rows-requires c = ((limits _ c.in_ok-config.ensures.good).nodes, c.in_ok-c.ensures.within)

pub returns-in_err-table : goal.returns-in_err-table
returns-in_err-table c =
    let p : c.from_residual-in_err-table.result ≡ Err c.in_err-table.field-0.0 = search rules in
    let t = told_on p (refused-rows _ c.in_ok-a.ensures c.in_ok-config.ensures.line c.in_ok-c.ensures c.in_err-table.ensures) in
    record { value = t.value; lines = t.lines; within = t.within }

pub overflow_add-config : goal.overflow_add-config
overflow_add-config c = omega (arith, (limits _ c.in_ok-config.ensures.good).nodes)

pub returns-in_err-at : goal.returns-in_err-at
returns-in_err-at c =
    let p : c.from_residual-in_err-at.result ≡ Err c.in_err-at.field-0.0 = search rules in
    let t = told_on p (refused-events _ c.in_ok-a.ensures c.in_ok-config.ensures.line c.in_ok-c.ensures c.in_ok-table.ensures c.in_err-at.ensures) in
    record { value = t.value; lines = t.lines; within = t.within }

pub returns : goal.returns
returns c =
    let t = opens _ c.in_ok-a.ensures c.in_ok-config.ensures.line c.in_ok-c.ensures c.in_ok-table.ensures c.in_ok-at.ensures in
    record { value = t.value; lines = t.lines; within = t.within }
