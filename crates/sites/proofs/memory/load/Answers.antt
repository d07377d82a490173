-- The lengths and the number of rows are tested first; an accepted load writes its day behind the storage.
use mathlib.Core.Path.{sym, ◌∙◌}
use native.Mathlib.Omega.{arith}
use Rattle.machine.specs.Layout.{store}
use Rattle.machine.proofs.Refused.{handed}
use Rattle.sites.proofs.one.Laws.{long-words, lacks-load, bad-rows, load-refused, load-done}
use Rattle.sites.proofs.memory.load.Goals as goal

pub returns-then-lacks : goal.returns-then-lacks
returns-then-lacks c =
    let a = c.args in
    let whole = lacks-load (store a.words.now a.bytes.now) a.f a.rows.now a.length a.w.now
    (sym c.lacks.ensures ∙ c.if-lacks.true) in record {
      value = whole.0;
      words_after = whole.1.0;
      bytes_after = whole.1.1.0;
      timed_after = whole.1.1.1;
    }

pub returns-then-rows-f : goal.returns-then-rows-f
returns-then-rows-f c =
    let a = c.args in
    let whole = bad-rows (store a.words.now a.bytes.now) a.f a.rows.now a.length a.w.now
    (sym c.lacks.ensures ∙ c.if-lacks.false) c.if-rows-f.true in record {
      value = whole.0;
      words_after = whole.1.0;
      bytes_after = whole.1.1.0;
      timed_after = whole.1.1.1;
    }

pub returns-in_err-day : goal.returns-in_err-day
returns-in_err-day c =
    let a = c.args in
    let e = c.load.ensures in
    let whole = load-refused (store a.words.now a.bytes.now) a.f a.rows.now a.length a.w.now
    (sym c.lacks.ensures ∙ c.if-lacks.false)
    c.if-rows-f.false
    c.table_of.ensures
    (sym c.in_err-day.was ∙ e.value, (e.words_after, (e.bytes_after, e.bytes_after_2))) in record {
      value = handed _ c.from_residual.ensures.1 ∙ whole.0;
      words_after = whole.1.0;
      bytes_after = whole.1.1.0;
      timed_after = whole.1.1.1;
    }

pub put_day-requires : goal.put_day-requires
put_day-requires c =
    let a = c.args in
    omega (
      arith,
      c.load.auto.words,
      long-words (store a.words.now a.bytes.now)
          (sym c.lacks.ensures ∙ c.if-lacks.false),
    )

pub returns : goal.returns
returns c =
    let a = c.args in
    let s = store a.words.now a.bytes.now in
    let h = sym c.lacks.ensures ∙ c.if-lacks.false in
    let o = c.load in
    let e = o.ensures in
    let whole = load-done s a.f a.rows.now a.length a.w.now h
    c.if-rows-f.false c.table_of.ensures
    (sym c.in_ok-day.was ∙ e.value, (e.words_after, (e.bytes_after, e.bytes_after_2)))
    (omega (arith, o.auto.words, long-words s h)) c.put_day.ensures in record {
      value = whole.0;
      words_after = whole.1.0;
      bytes_after = whole.1.1.0;
      timed_after = whole.1.1.1;
    }
