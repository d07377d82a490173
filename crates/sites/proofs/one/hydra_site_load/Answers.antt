-- The tally is set anew where the load is accepted.
use mathlib.Core.Path.{sym, ap, ◌∙◌}
use Rattle.node.specs.Answers.{is_done}
use Rattle.machine.proofs.Refused.{handed}
use Rattle.machine.specs.Layout.{store}
use Rattle.sites.specs.one.Calls.{config_from}
use Rattle.sites.proofs.one.Laws.{tally-first, tally-stays}
use Rattle.sites.proofs.one.hydra_site_load.Goals as goal

pub returns-in_err-load : goal.returns-in_err-load
returns-in_err-load c =
    let a = c.args in
    let f = config_from a.nodes a.slots a.rounds a.heard a.split in
    let o = c.load.ensures in
    let r = handed _ c.from_residual.ensures.1 in
    let v = r ∙ sym c.in_err-load.was ∙ o.value in record {
      value = v;
      words_after = o.words_after;
      bytes_after = o.bytes_after;
      timed_after = o.timed_after;
      tally_after = tally-stays (store a.words.now a.bytes.now) f a.rows.now a.day a.windows.now a.tally.now v (ap is_done r);
    }

pub returns : goal.returns
returns c =
    let a = c.args in
    let f = config_from a.nodes a.slots a.rounds a.heard a.split in
    let o = c.load.ensures in
    let v = sym c.in_ok-load.was ∙ o.value in record {
      value = v;
      words_after = o.words_after;
      bytes_after = o.bytes_after;
      timed_after = o.timed_after;
      tally_after = tally-first (store a.words.now a.bytes.now) f a.rows.now a.day a.windows.now a.tally.now v c.first.ensures;
    }
