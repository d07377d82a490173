use Rattle.std.proofs.Common.{arith}
use Rattle.std.proofs.lemmas.Result.{err_from_is_err_and}
use Rattle.reduce.proofs.Outcome.{refused-call, call-short, done-call}
use Rattle.reduce.proofs.hydra_reduce.Goals as goal

pub returns-in_err-length : goal.returns-in_err-length
returns-in_err-length c =
    let p = err_from_is_err_and c.from_residual.result c.from_residual.ensures.1 in
    rw (p.1, p.2) (refused-call _ _ _ _ _ c.in_err-length.ensures _)

pub overflow_cast-length : goal.overflow_cast-length
overflow_cast-length c = omega (arith, call-short _ _ _ _ _ c.in_ok-length.ensures)

pub returns : goal.returns
returns c = done-call _ _ _ _ _ c.in_ok-length.ensures _
