use mathlib.Core.Path.{sym, ap, ◌∙◌}
use Rattle.node.specs.Answers.{is_done}
use Rattle.node.specs.Core.{bare}
use Rattle.node.specs.Distribution.{take_answer}
use Rattle.node.proofs.Bare.{take-phase}
use Rattle.wire.specs.Reads.{schedule_answer}
use Rattle.host.proofs.Answers.{passed-on, then_next, then-stands}
use Rattle.host.proofs.steps.take_bytes.Goals as goal

pub returns-in_err-take_answer : goal.returns-in_err-take_answer
returns-in_err-take_answer c =
    let n = bare c.args.c in
    let y = c.take_answer.ensures ∙ sym (take-phase n) in
    let e = sym (ap is_done y) ∙ ap is_done c.in_err-take_answer.was in
    passed-on _ c.from_residual.ensures.1 ∙ sym c.in_err-take_answer.was ∙ y ∙ sym (then-stands (take_answer n) (schedule_answer n.setup c.args.bytes.now) e)

pub returns : goal.returns
returns c =
    let n = bare c.args.c in
    let y = c.take_answer.ensures ∙ sym (take-phase n) in
    let e = sym (ap is_done y) ∙ ap is_done c.in_ok-take_answer.was in
    c.schedule_answer.ensures ∙ sym (then_next (take_answer n) (schedule_answer n.setup c.args.bytes.now) e)
