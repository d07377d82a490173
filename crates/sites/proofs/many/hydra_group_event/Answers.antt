-- Three numbers that make no event are answered by themselves; an event goes to its step.
use Rattle.script.specs.events.Events.{event_at}
use Rattle.sites.specs.many.Memory.{memory, lent}
use Rattle.sites.proofs.many.Lines.{no_line, good-line}
use Rattle.sites.proofs.many.hydra_group_event.Goals as goal

pub returns-in-None : goal.returns-in-None
returns-in-None c =
    let a = c.args in
    let m = memory a.words.now a.bytes.now a.table.now in
    let v = lent a.windows.now a.tally.now a.reports.now in
    let whole = no_line m a.area.now a.a v (event_at a.event a.node a.with) c.in-None.ensures c.no_event.ensures in record {
      value = whole.0;
      words_after = whole.1.0;
      bytes_after = whole.1.1.0;
      table_after = whole.1.1.1.0;
      area_after = whole.1.1.1.1.0;
      reports_after = whole.1.1.1.1.1.0;
      group_after = whole.1.1.1.1.1.1.0;
      tally_after = whole.1.1.1.1.1.1.1;
    }

pub returns-in-Some : goal.returns-in-Some
returns-in-Some c =
    let a = c.args in
    let e = c.step.ensures in
    let m = memory a.words.now a.bytes.now a.table.now in
    let v = lent a.windows.now a.tally.now a.reports.now in
    let whole = good-line m a.area.now a.a v (event_at a.event a.node a.with) _ c.in-Some.ensures
    (e.value, (e.words_after, (e.bytes_after, (e.table_after, (e.area_after, (e.out_after, (e.group_after, e.tally_after))))))) in record {
      value = whole.0;
      words_after = whole.1.0;
      bytes_after = whole.1.1.0;
      table_after = whole.1.1.1.0;
      area_after = whole.1.1.1.1.0;
      reports_after = whole.1.1.1.1.1.0;
      group_after = whole.1.1.1.1.1.1.0;
      tally_after = whole.1.1.1.1.1.1.1;
    }
