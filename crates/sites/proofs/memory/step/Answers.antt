-- The machine steps with the day that is read, and the day behind the step is written.
use native.Mathlib.Omega.{arith}
use Rattle.machine.specs.Layout.{store}
use Rattle.sites.proofs.one.Laws.{long-words, in_memory}
use Rattle.sites.proofs.memory.step.Goals as goal

pub day_at-day-requires : goal.day_at-day-requires
day_at-day-requires c =
    let a = c.args in
    long-words (store a.words.now a.bytes.now) c.requires

pub put_day-requires : goal.put_day-requires
put_day-requires c =
    let a = c.args in
    omega (arith, c.step-answer.auto.words, long-words (store a.words.now a.bytes.now) c.requires)

pub returns : goal.returns
returns c =
    let a = c.args in
    let s = store a.words.now a.bytes.now in
    let h = c.requires in
    let m = c.step-answer in
    let e = m.ensures in
    let whole = in_memory s a.area.now a.w.now a.t.now a.out.now h a.e
    c.day_at-day.ensures (e.value, (e.words_after, (e.bytes_after, (e.out_after, e.kept_after))))
    (omega (arith, m.auto.words, long-words s h))
    c.put_day.ensures in record {
      value = whole.0;
      words_after = whole.1.0;
      bytes_after = whole.1.1.0;
      out_after = whole.1.1.1.0;
      kept_after = whole.1.1.1.1;
    }
