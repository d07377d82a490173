-- The tally is set anew where the load is accepted.
use mathlib.Core.Path.{sym, ap, ◌∙◌}
use Rattle.node.specs.Answers.{is_done}
use Rattle.machine.proofs.Refused.{handed}
use Rattle.sites.specs.one.Calls.{config_from}
use Rattle.sites.specs.many.Memory.{memory}
use Rattle.sites.proofs.many.Lines.{rows-first, rows-stay}
use Rattle.sites.proofs.many.hydra_group_load.Goals as goal

pub returns-in_err-load_rows : goal.returns-in_err-load_rows
returns-in_err-load_rows c =
    let a = c.args in
    let f = config_from a.nodes a.slots a.rounds a.heard a.split in
    let o = c.load_rows.ensures in
    let r = handed _ c.from_residual.ensures.1 in
    let v = r ∙ sym c.in_err-load_rows.was ∙ o.value in record {
      value = v;
      words_after = o.words_after;
      bytes_after = o.bytes_after;
      table_after = o.table_after;
      by_index = o.by_index;
      tally_after = rows-stay (memory a.words.now a.bytes.now a.table.now) a.a f a.rows.now a.day a.windows.now a.tally.now v (ap is_done r);
    }

pub returns : goal.returns
returns c =
    let a = c.args in
    let f = config_from a.nodes a.slots a.rounds a.heard a.split in
    let o = c.load_rows.ensures in
    let v = sym c.in_ok-load_rows.was ∙ o.value in record {
      value = v;
      words_after = o.words_after;
      bytes_after = o.bytes_after;
      table_after = o.table_after;
      by_index = o.by_index;
      tally_after = rows-first (memory a.words.now a.bytes.now a.table.now) a.a f a.rows.now a.day a.windows.now a.tally.now v c.first.ensures;
    }
