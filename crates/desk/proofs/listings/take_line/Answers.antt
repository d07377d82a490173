-- A line that is no event is refused as 2; one that is an event is the step of the site, whose list the load has tested.
use mathlib.Core.Path.{sym, ap, ◌∙◌}
use Rattle.machine.specs.Layout.{store}
use Rattle.machine.proofs.timed.Stored.{Long, as-timed}
use Rattle.machine.proofs.timed.Known.{keeps, by-list}
use Rattle.site.specs.declared.Event.{Event}
use Rattle.std.specs.Prelude.{Option}
use Rattle.desk.specs.listings.Output.{line_answer, line_after}
use Rattle.desk.specs.listings.Inner.{run_state_in, line_node_report}
use Rattle.desk.proofs.listings.take_line.Goals as goal

pub returns-in_default : goal.returns-in_default
returns-in_default c =
    let a = c.args in
    let s = store a.words.now a.bytes.now in
    let x = run_state_in s a.day.now a.area.now in
    let e = c.in_default.is in record {
      answer = sym (ap (line_answer a.w.now x) e);
      report = sym (ap (line_node_report a.v s a.area.now) e);
      day_after = sym (ap (λ (p : Option Event). (line_after a.w.now x p).timed.day) e);
      bytes_after = sym (ap (λ (p : Option Event). (line_after a.w.now x p).timed.site) e);
      area_after = sym (ap (λ (p : Option Event). (line_after a.w.now x p).area) e);
    }

pub returns : goal.returns
returns c =
    let a = c.args in
    let s = store a.words.now a.bytes.now in
    let x = run_state_in s a.day.now a.area.now in
    let e = c.in-Some.is in
    let v = c.in-Some.e in
    let w = c.step_tested-answer.ensures in
    let m : Long s = (c.requires.0, c.requires.1) in
    let o = by-list s a.day.now a.area.now a.w.now v (keeps s a.day.now a.w.now v m c.requires.2)
    ((w.value, w.day_after), (w.words_after, (w.bytes_after, w.area_after))) in
    let t = as-timed s a.day.now a.area.now a.w.now v m in record {
      answer = o.0.0 ∙ t.0.0 ∙ sym (ap (line_answer a.w.now x) e);
      report = c.event_report-report.ensures ∙ sym (ap (line_node_report a.v s a.area.now) e);
      day_after = o.0.1 ∙ t.0.1 ∙ sym (ap (λ (p : Option Event). (line_after a.w.now x p).timed.day) e);
      bytes_after = o.1.1.1.0 ∙ t.1.0 ∙ sym (ap (λ (p : Option Event). (line_after a.w.now x p).timed.site) e);
      area_after = o.1.1.1.1 ∙ t.1.1 ∙ sym (ap (λ (p : Option Event). (line_after a.w.now x p).area) e);
    }
