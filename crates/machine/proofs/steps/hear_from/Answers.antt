use mathlib.Core.Path.{sym, ap, ◌∙◌}
use Rattle.node.specs.Answers.{is_done}
use Rattle.wire.specs.Reads.{part_of}
use Rattle.machine.specs.Layout.{store}
use Rattle.node.proofs.Answers.{done-is}
use Rattle.machine.proofs.steps.Whole.{refused-part, done-part}
use Rattle.machine.proofs.Refused.{handed}
use Rattle.machine.proofs.steps.hear_from.Goals as goal

pub returns-in_err-answer_from : goal.returns-in_err-answer_from
returns-in_err-answer_from c =
    let a = c.args in
    let d = ap is_done c.in_err-answer_from.was in
    let whole = refused-part (store a.words.now a.bytes.now) (part_of a.area.now a.at) a.j a.p
    c.answer_from.ensures d in record {
      value = handed c.from_residual.result c.from_residual.ensures.1 ∙ sym c.in_err-answer_from.was ∙ whole.0;
      words_after = whole.1.0;
      bytes_after = whole.1.1;
    }

pub hear_from-requires : goal.hear_from-requires
hear_from-requires c = sym c.answer_from.ensures ∙ done-is _ (ap is_done c.in_ok-answer_from.was)

pub returns : goal.returns
returns c =
    let a = c.args
    in
    let d = ap is_done c.in_ok-answer_from.was in
    let o = c.hear_from.ensures in
    let whole = done-part (store a.words.now a.bytes.now) (part_of a.area.now a.at) a.j a.p
    c.answer_from.ensures d o.words_after o.bytes_after in record {
      value = sym c.in_ok-answer_from.was ∙ whole.0;
      words_after = whole.1.0;
      bytes_after = whole.1.1;
    }
