use mathlib.Core.Path.{sym, ap, ◌∙◌}
use Rattle.words.proofs.Tests.{never}
use Rattle.node.specs.Answers.{is_done}
use Rattle.node.specs.declared.Refusal.TheVariants as refusal
use Rattle.machine.specs.Layout.{store}
use Rattle.machine.proofs.Refused.{handed}
use Rattle.machine.proofs.Whole.{long-enough}
use Rattle.machine.proofs.timed.Laws.{load-plain, load-bad, load-accepts}
use Rattle.machine.proofs.timed.Stored.{short-load, refused-by, loads, done-load}
use Rattle.machine.proofs.timed.load.Goals as goal

pub returns-then-is_short : goal.returns-then-is_short
returns-then-is_short c =
    let a = c.args in
    let whole = short-load (store a.words.now a.bytes.now) a.f a.t a.length a.w.now (sym c.is_short.ensures ∙ c.if-is_short.true) in record {
      value = whole.0;
      words_after = whole.1.0;
      bytes_after = whole.1.1.0;
      bytes_after_2 = whole.1.1.1;
    }

pub returns-in_err-load_answer : goal.returns-in_err-load_answer
returns-in_err-load_answer c =
    let a = c.args in
    let plain = sym c.load_answer.ensures ∙ c.in_err-load_answer.was in
    let whole = refused-by (store a.words.now a.bytes.now) a.f a.t a.length a.w.now _ (sym c.is_short.ensures ∙ c.if-is_short.false)
    (load-plain a.f a.t a.length a.w.now (ap is_done plain) ∙ plain) in record {
      value = handed c.from_residual.result c.from_residual.ensures.1 ∙ whole.0;
      words_after = whole.1.0;
      bytes_after = whole.1.1.0;
      bytes_after_2 = whole.1.1.1;
    }

pub returns-then-not-list_ok : goal.returns-then-not-list_ok
returns-then-not-list_ok c =
    let a = c.args in
    let whole = refused-by (store a.words.now a.bytes.now) a.f a.t a.length a.w.now refusal.BadWindows (sym c.is_short.ensures ∙ c.if-is_short.false)
    (load-bad a.f a.t a.length a.w.now (ap is_done (sym c.load_answer.ensures ∙ c.in_ok-load_answer.was))
    (sym c.list_ok.ensures ∙ c.if-not-list_ok.true)) in record {
      value = whole.0;
      words_after = whole.1.0;
      bytes_after = whole.1.1.0;
      bytes_after_2 = whole.1.1.1;
    }

pub given_table-requires : goal.given_table-requires
given_table-requires c = sym c.list_ok.ensures ∙ c.if-not-list_ok.false

-- what is long enough is loaded
pub returns-in_err-begin_site : goal.returns-in_err-begin_site
returns-in_err-begin_site c =
    let a = c.args in
    let done = loads (store a.words.now a.bytes.now) a.f a.t a.length a.w.now (sym c.is_short.ensures ∙ c.if-is_short.false) c.begin_site.ensures.value in
    never (sym done ∙ ap is_done c.in_err-begin_site.was)

pub returns : goal.returns
returns c =
    let a = c.args in
    let s = store a.words.now a.bytes.now in
    let o = c.begin_site.ensures in
    let whole = done-load s a.f a.t a.length a.w.now (long-enough s (sym c.is_short.ensures ∙ c.if-is_short.false))
    (load-accepts a.f a.t a.length a.w.now (ap is_done (sym c.load_answer.ensures ∙ c.in_ok-load_answer.was))
    (sym c.list_ok.ensures ∙ c.if-not-list_ok.false))
    c.given_table.ensures o.words_after o.bytes_after o.bytes_after_2 in record {
      value = whole.0;
      words_after = whole.1.0;
      bytes_after = whole.1.1.0;
      bytes_after_2 = whole.1.1.1;
    }
