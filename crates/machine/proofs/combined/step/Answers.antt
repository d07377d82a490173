use mathlib.Core.Path.{sym, ap, ◌∙◌}
use mathlib.Core.Bool.{not}
use native.Mathlib.Omega.{arith}
use Rattle.node.specs.Answers.{is_done}
use Rattle.machine.specs.Layout.{store}
use Rattle.machine.proofs.Refused.{handed}
use Rattle.machine.proofs.combined.Laws.{few-short, no_room, refuses, not-counted, counted, passed-by, as-done}
use Rattle.machine.proofs.combined.step.Goals as goal

pub returns-then-too_few : goal.returns-then-too_few
returns-then-too_few c =
    let a = c.args in
    let whole = no_room (store a.words.now a.bytes.now) a.day.now a.area.now a.w.now a.t.now a.out.now a.e
    (sym c.too_few.ensures ∙ c.if-too_few.true) in record {
      value = whole.0;
      words_after = whole.1.0;
      bytes_after = whole.1.1.0;
      out_after = whole.1.1.1.0;
      kept_after = whole.1.1.1.1;
    }

pub invariant_of-objection : goal.invariant_of-objection
invariant_of-objection c =
    let a = c.args in
    record { long = few-short (store a.words.now a.bytes.now) a.area.now a.out.now (sym c.too_few.ensures ∙ c.if-too_few.false) }

pub returns-then-is_err : goal.returns-then-is_err
returns-then-is_err c =
    let a = c.args in
    let s = store a.words.now a.bytes.now in
    let whole = refuses s a.day.now a.area.now a.w.now a.t.now a.out.now a.e (sym c.too_few.ensures ∙ c.if-too_few.false)
    c.objection-o.ensures (c.is_err.ensures.negation ∙ ap not c.if-is_err.true) c.answer_to.ensures c.first_of.ensures in record {
      value = whole.0;
      words_after = whole.1.0;
      bytes_after = whole.1.1.0;
      out_after = whole.1.1.1.0;
      kept_after = whole.1.1.1.1;
    }

pub returns-in_err-step : goal.returns-in_err-step
returns-in_err-step c =
    let a = c.args in
    let s = store a.words.now a.bytes.now in
    let f = sym c.too_few.ensures ∙ c.if-too_few.false in
    let g = ap is_done (sym c.objection-o.ensures) ∙ c.is_err.ensures.negation ∙ ap not c.if-is_err.false in
    let r = c.step.ensures in
    let whole = as-done s a.day.now a.area.now a.w.now a.t.now a.out.now a.e f g
    ((r.value, r.day_after), (r.words_after, (r.bytes_after, (r.bytes_after_2, r.area_after))))
    c.put.ensures (not-counted s a.day.now a.area.now a.w.now a.t.now a.out.now a.e _ _ (ap is_done c.in_err-step.was)) in record {
      value = handed c.from_residual.result c.from_residual.ensures.1 ∙ sym c.in_err-step.was ∙ whole.0;
      words_after = whole.1.0;
      bytes_after = whole.1.1.0;
      out_after = whole.1.1.1.0;
      kept_after = whole.1.1.1.1;
    }

pub invariant_of-tally_at : goal.invariant_of-tally_at
invariant_of-tally_at c =
    let a = c.args in
    let l = few-short (store a.words.now a.bytes.now) a.area.now a.out.now
    (sym c.too_few.ensures
    ∙ c.if-too_few.false) in
    let k = c.step.auto in
    record { long = (omega (arith, k.words, l.0), omega (arith, k.bytes, l.1)) }

pub returns-then-is_end : goal.returns-then-is_end
returns-then-is_end c =
    let a = c.args in
    let s = store a.words.now a.bytes.now in
    let f = sym c.too_few.ensures ∙ c.if-too_few.false in
    let g = ap is_done (sym c.objection-o.ensures) ∙ c.is_err.ensures.negation ∙ ap not c.if-is_err.false in
    let r = c.step.ensures in
    let whole = as-done s a.day.now a.area.now a.w.now a.t.now a.out.now a.e f g
    ((r.value, r.day_after), (r.words_after, (r.bytes_after, (r.bytes_after_2, r.area_after))))
    c.put.ensures
    (c.tally_at.ensures
    ∙ counted s a.day.now a.area.now a.w.now a.t.now a.out.now a.e _ _ (ap is_done c.in_ok-step.was)
    (sym c.is_end.ensures ∙ c.if-is_end.true)) in record {
      value = sym c.in_ok-step.was ∙ whole.0;
      words_after = whole.1.0;
      bytes_after = whole.1.1.0;
      out_after = whole.1.1.1.0;
      kept_after = whole.1.1.1.1;
    }

pub returns-else-is_end : goal.returns-else-is_end
returns-else-is_end c =
    let a = c.args in
    let s = store a.words.now a.bytes.now in
    let f = sym c.too_few.ensures ∙ c.if-too_few.false in
    let g = ap is_done (sym c.objection-o.ensures) ∙ c.is_err.ensures.negation ∙ ap not c.if-is_err.false in
    let r = c.step.ensures in
    let whole = as-done s a.day.now a.area.now a.w.now a.t.now a.out.now a.e f g
    ((r.value, r.day_after), (r.words_after, (r.bytes_after, (r.bytes_after_2, r.area_after))))
    c.put.ensures
    (passed-by s a.day.now a.area.now a.w.now a.t.now a.out.now a.e _ _ (sym c.is_end.ensures ∙ c.if-is_end.false)) in record {
      value = sym c.in_ok-step.was ∙ whole.0;
      words_after = whole.1.0;
      bytes_after = whole.1.1.0;
      out_after = whole.1.1.1.0;
      kept_after = whole.1.1.1.1;
    }
