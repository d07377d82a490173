-- The answer decides between nothing and what the event writes; an accepted event tells that the storage is long enough.
use mathlib.Core.Path.{sym, ap, ◌∙◌}
use Rattle.node.specs.Answers.{is_done}
use Rattle.machine.specs.Layout.{store}
use Rattle.node.proofs.Answers.{done-is}
use Rattle.machine.proofs.steps.Whole.{told, refused, accepted}
use Rattle.machine.proofs.Refused.{handed}
use Rattle.machine.proofs.steps.step.Goals as goal

pub returns-in_err-answer_to : goal.returns-in_err-answer_to
returns-in_err-answer_to c =
    let a = c.args in
    let s = store a.words.now a.bytes.now in
    let l = a.area.now in
    let whole = refused s l a.e c.answer_to.ensures (ap is_done c.in_err-answer_to.was) in record {
      value = handed c.from_residual.result c.from_residual.ensures.1 ∙ sym c.in_err-answer_to.was ∙ whole.0;
      words_after = whole.1.0;
      bytes_after = whole.1.1.0;
      bytes_after_2 = whole.1.1.1.0;
      area_after = whole.1.1.1.1;
    }

pub apply-requires : goal.apply-requires
apply-requires c = sym c.answer_to.ensures ∙ done-is _ (ap is_done c.in_ok-answer_to.was)

pub returns : goal.returns
returns c =
    let a = c.args in
    let s = store a.words.now a.bytes.now in
    let l = a.area.now in
    let d = ap is_done c.in_ok-answer_to.was in
    let q = told s l a.e (ap is_done (sym c.answer_to.ensures) ∙ d) in
    let o = c.apply.ensures in
    let whole = accepted s l a.e q.0 c.answer_to.ensures d o.words_after o.bytes_after o.area_after in record {
      value = sym c.in_ok-answer_to.was ∙ whole.0;
      words_after = whole.1.0;
      bytes_after = whole.1.1.0;
      bytes_after_2 = whole.1.1.1.0;
      area_after = whole.1.1.1.1;
    }
