-- The lengths are tested first; three numbers that make no event are answered by themselves, and an event goes to its step.
use mathlib.Core.Path.{sym, ◌∙◌}
use Rattle.machine.specs.Layout.{store}
use Rattle.script.specs.events.Events.{event_at}
use Rattle.sites.proofs.one.Laws.{lacking, no-event, an-event}
use Rattle.sites.proofs.one.hydra_site_event.Goals as goal

pub returns-then-lacks : goal.returns-then-lacks
returns-then-lacks c =
    let a = c.args in
    let whole = lacking (store a.words.now a.bytes.now) a.area.now a.windows.now a.tally.now a.reports.now (event_at a.event a.node a.with)
    (sym c.lacks.ensures ∙ c.if-lacks.true) in record {
      value = whole.0;
      words_after = whole.1.0;
      bytes_after = whole.1.1.0;
      reports_after = whole.1.1.1.0;
      kept_after = whole.1.1.1.1;
    }

pub returns-in-None : goal.returns-in-None
returns-in-None c =
    let a = c.args in
    let whole = no-event (store a.words.now a.bytes.now) a.area.now a.windows.now a.tally.now a.reports.now
    c.in-None.ensures (sym c.lacks.ensures ∙ c.if-lacks.false) c.no_event.ensures in record {
      value = whole.0;
      words_after = whole.1.0;
      bytes_after = whole.1.1.0;
      reports_after = whole.1.1.1.0;
      kept_after = whole.1.1.1.1;
    }

pub step-requires : goal.step-requires
step-requires c = sym c.lacks.ensures ∙ c.if-lacks.false

pub returns-in-Some : goal.returns-in-Some
returns-in-Some c =
    let a = c.args in
    let e = c.step.ensures in
    let whole = an-event (store a.words.now a.bytes.now) a.area.now a.windows.now a.tally.now a.reports.now _
    c.in-Some.ensures (e.value, (e.words_after, (e.bytes_after, (e.out_after, e.kept_after)))) in record {
      value = whole.0;
      words_after = whole.1.0;
      bytes_after = whole.1.1.0;
      reports_after = whole.1.1.1.0;
      kept_after = whole.1.1.1.1;
    }
