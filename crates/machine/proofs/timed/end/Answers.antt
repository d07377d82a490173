-- The refusals in their order, then the demands of the next epoch and the storage's own end.
use mathlib.Core.Path.{◌≡◌, sym, ap, ◌∙◌}
use Rattle.node.specs.Answers.{is_done}
use Rattle.site.specs.declared.Event.TheVariants.{End}
use Rattle.machine.specs.Layout.{store}
use Rattle.machine.specs.timed.Stored.{begun_store}
use Rattle.machine.proofs.Refused.{handed}
use Rattle.machine.proofs.timed.Known.{refused-plain, refused-list, accepted-header, done-tested}
use Rattle.machine.proofs.timed.end.Goals as goal

pub returns-in_err-answer_to : goal.returns-in_err-answer_to
returns-in_err-answer_to c =
    let a = c.args in
    let s = store a.words.now a.bytes.now in
    let whole = refused-plain a.ok s a.day.now a.area.now a.w.now c.answer_to.ensures (ap is_done c.in_err-answer_to.was) in record {
      value = handed c.from_residual.result c.from_residual.ensures.1 ∙ sym c.in_err-answer_to.was ∙ whole.0.0;
      day_after = whole.0.1;
      words_after = whole.1.0;
      bytes_after = whole.1.1.0;
      area_after = whole.1.1.1;
    }

pub returns-then-not-ok : goal.returns-then-not-ok
returns-then-not-ok c =
    let a = c.args in
    let s = store a.words.now a.bytes.now in
    let whole = refused-list a.ok s a.day.now a.area.now a.w.now c.answer_to.ensures (ap is_done c.in_ok-answer_to.was) c.if-not-ok.true in record {
      value = whole.0.0;
      day_after = whole.0.1;
      words_after = whole.1.0;
      bytes_after = whole.1.1.0;
      area_after = whole.1.1.1;
    }

pub begin-requires : goal.begin-requires
begin-requires c =
    let a = c.args in
    let s = store a.words.now a.bytes.now in
    accepted-header a.ok s a.day.now a.area.now a.w.now c.answer_to.ensures (ap is_done c.in_ok-answer_to.was) c.header-k.ensures

pub returns : goal.returns
returns c =
    let a = c.args in
    let s = store a.words.now a.bytes.now in
    let b = c.begin in
    let o = c.step.ensures in
    let g : store a.words.now b.new.bytes ≡ begun_store s a.day.now a.area.now a.w.now End =
    λ i. record { words = b.ensures.words_value i; bytes = b.ensures.bytes_after i } in
    let whole = done-tested a.ok s a.day.now a.area.now a.w.now c.answer_to.ensures (ap is_done c.in_ok-answer_to.was) c.if-not-ok.false
    g b.ensures.value o.words_after o.bytes_after o.area_after in record {
      value = whole.0.0;
      day_after = whole.0.1;
      words_after = whole.1.0;
      bytes_after = whole.1.1.0;
      area_after = whole.1.1.1;
    }
