use Rattle.machine.specs.Layout.{store}
use Rattle.machine.proofs.timed.Known.{by-list}
use Rattle.machine.proofs.timed.step.Goals as goal

pub returns : goal.returns
returns c =
    let a = c.args in
    let o = c.step_tested.ensures in
    let whole = by-list (store a.words.now a.bytes.now) a.day.now a.area.now a.w.now a.e c.tested-ok.ensures
    ((o.value, o.day_after), (o.words_after, (o.bytes_after, o.area_after))) in record {
      value = whole.0.0;
      day_after = whole.0.1;
      words_after = whole.1.0;
      bytes_after = whole.1.1.0;
      bytes_after_2 = whole.1.1.1.0;
      area_after = whole.1.1.1.1;
    }
