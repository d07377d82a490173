use mathlib.Core.Path.{sym, ap, ◌∙◌}
use Rattle.node.specs.Answers.{is_done}
use Rattle.machine.specs.Layout.{store}
use Rattle.node.proofs.Answers.{done-is}
use Rattle.machine.proofs.steps.Whole.{into-refused, into-done}
use Rattle.machine.proofs.Refused.{handed}
use Rattle.machine.proofs.steps.send_into.Goals as goal

pub returns-in_err-answer_to : goal.returns-in_err-answer_to
returns-in_err-answer_to c =
    let a = c.args in
    let s = store a.words.now a.bytes.now in
    let d = ap is_done c.in_err-answer_to.was in
    let e = c.answer_to.ensures in
    let h = into-refused s a.area.now a.at a.j (ap is_done (sym e) ∙ d) in record {
      value = handed c.from_residual.result c.from_residual.ensures.1 ∙ sym c.in_err-answer_to.was ∙ e;
      bytes_after = h.0;
      area_after = h.1;
    }

pub send_into-requires : goal.send_into-requires
send_into-requires c = sym c.answer_to.ensures ∙ done-is _ (ap is_done c.in_ok-answer_to.was)

pub returns : goal.returns
returns c =
    let a = c.args
    in
    let s = store a.words.now a.bytes.now in
    let d = ap is_done c.in_ok-answer_to.was in
    let e = c.answer_to.ensures in
    let o = c.send_into.ensures in
    let h = into-done s a.area.now a.at a.j (ap is_done (sym e) ∙ d) o.bytes_after o.area_after in record {
      value = sym c.in_ok-answer_to.was ∙ e;
      bytes_after = h.0;
      area_after = h.1;
    }
