-- What is said of the number decides first; an event of a loaded one goes to its site.
use mathlib.Core.Path.{sym, ap, ◌∙◌}
use native.Mathlib.Omega.{arith}
use Rattle.node.specs.Answers.{is_done}
use Rattle.group.proofs.Ground.{number_is}
use Rattle.machine.proofs.Refused.{handed}
use Rattle.sites.specs.many.Memory.{memory, lent}
use Rattle.sites.proofs.many.Groups.{not-loaded, loaded-here, loaded-number, loaded-lengths, loaded-event}
use Rattle.sites.proofs.many.step.Goals as goal

pub returns-in_err-loaded_answer : goal.returns-in_err-loaded_answer
returns-in_err-loaded_answer c =
    let a = c.args in
    let m = memory a.words.now a.bytes.now a.table.now in
    let v = lent a.w.now a.t.now a.out.now in
    let r = handed _ c.from_residual.ensures.1 in
    let whole = not-loaded m a.area.now a.a v a.e (ap is_done r) (r ∙ sym c.in_err-loaded_answer.was ∙ c.loaded_answer.ensures) in record {
      value = whole.0;
      words_after = whole.1.0;
      bytes_after = whole.1.1.0;
      table_after = whole.1.1.1.0;
      area_after = whole.1.1.1.1.0;
      out_after = whole.1.1.1.1.1.0;
      group_after = whole.1.1.1.1.1.1.0;
      tally_after = whole.1.1.1.1.1.1.1;
    }

pub overflow_sub-a : goal.overflow_sub-a
overflow_sub-a c =
    let a = c.args in
    let m = memory a.words.now a.bytes.now a.table.now in
    let h = loaded-here m a.a (ap is_done (sym c.loaded_answer.ensures ∙ c.in_ok-loaded_answer.was)) in
    let n = number_is a.a (loaded-number m a.a h) in
    omega (arith, n.from)

pub event_at-requires : goal.event_at-requires
event_at-requires c =
    let a = c.args in
    let m = memory a.words.now a.bytes.now a.table.now in
    let h = loaded-here m a.a (ap is_done (sym c.loaded_answer.ensures ∙ c.in_ok-loaded_answer.was)) in
    let n = number_is a.a (loaded-number m a.a h) in
    let l = loaded-lengths m a.a h in
    (l.words, l.bytes, l.table, omega (arith, n.from, n.to), n.to)

pub returns : goal.returns
returns c =
    let a = c.args in
    let m = memory a.words.now a.bytes.now a.table.now in
    let v = lent a.w.now a.t.now a.out.now in
    let h = loaded-here m a.a (ap is_done (sym c.loaded_answer.ensures ∙ c.in_ok-loaded_answer.was)) in
    let o = c.event_at.ensures in
    let z = o.sized in
    let whole = loaded-event m a.area.now a.a v a.e h z.0 z.1 z.2 o.value o.tally_after o.words_after o.bytes_after o.table_after o.area_after
    o.out_after in record {
      value = whole.0;
      words_after = whole.1.0;
      bytes_after = whole.1.1.0;
      table_after = whole.1.1.1.0;
      area_after = whole.1.1.1.1.0;
      out_after = whole.1.1.1.1.1.0;
      group_after = whole.1.1.1.1.1.1.0;
      tally_after = whole.1.1.1.1.1.1.1;
    }
