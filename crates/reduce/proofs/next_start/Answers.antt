use Rattle.std.proofs.Common.{sym, arith}
use Rattle.script.proofs.lines.Lines.{whole}
use Rattle.reduce.proofs.Lines.{placed-none, next-open, next-ended}
use Rattle.reduce.proofs.next_start.Goals as goal

pub overflow_add-result : goal.overflow_add-result
overflow_add-result c =
    let w = whole _ _ _ (sym c.in-Ended.ensures) in
    omega (arith, w.within)

pub returns-in-Nothing : goal.returns-in-Nothing
returns-in-Nothing c = placed-none _ _ (sym c.in-Nothing.ensures)

pub returns-in-Open : goal.returns-in-Open
returns-in-Open c = next-open _ _ (sym c.in-Open.ensures)

pub returns-in-Ended : goal.returns-in-Ended
returns-in-Ended c = next-ended _ _ _ (sym c.in-Ended.ensures)
