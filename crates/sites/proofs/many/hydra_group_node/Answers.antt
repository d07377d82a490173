use mathlib.Core.Path.{refl, sym, ap, ◌∙◌}
use native.Mathlib.Omega.{arith}
use Rattle.words.proofs.Tests.{hit, skip}
use Rattle.node.specs.Answers.{is_done}
use Rattle.group.proofs.Ground.{number_is}
use Rattle.machine.proofs.Refused.{handed}
use Rattle.sites.specs.many.Memory.{memory}
use Rattle.sites.specs.many.Calls.{group_node_answer, node_out}
use Rattle.sites.proofs.many.Groups.{loaded-here, loaded-number, loaded-lengths}
use Rattle.sites.proofs.many.hydra_group_node.Goals as goal

pub returns-in_err-loaded_answer : goal.returns-in_err-loaded_answer
unfolding group_node_answer node_out
returns-in_err-loaded_answer c =
    let h = ap is_done (sym c.loaded_answer.ensures ∙ c.in_err-loaded_answer.was) in record {
      value = handed _ c.from_residual.ensures.1 ∙ sym c.in_err-loaded_answer.was ∙ c.loaded_answer.ensures ∙ sym (skip _ _ _ _ h refl);
      out_after = sym (skip _ _ _ _ h refl);
    }

pub overflow_sub-a : goal.overflow_sub-a
overflow_sub-a c =
    let a = c.args in
    let m = memory a.words.now a.bytes.now a.table.now in
    let h = loaded-here m a.a (ap is_done (sym c.loaded_answer.ensures ∙ c.in_ok-loaded_answer.was)) in
    let n = number_is a.a (loaded-number m a.a h) in
    omega (arith, n.from)

pub node_at-requires : goal.node_at-requires
node_at-requires c =
    let a = c.args in
    let m = memory a.words.now a.bytes.now a.table.now in
    let h = loaded-here m a.a (ap is_done (sym c.loaded_answer.ensures ∙ c.in_ok-loaded_answer.was)) in
    let n = number_is a.a (loaded-number m a.a h) in
    let l = loaded-lengths m a.a h in
    (l.words, l.bytes, omega (arith, n.from, n.to))

pub returns : goal.returns
unfolding group_node_answer node_out
returns c =
    let a = c.args in
    let h = ap is_done (sym c.loaded_answer.ensures ∙ c.in_ok-loaded_answer.was) in
    let o = c.node_at.ensures in record {
      value = o.value ∙ sym (hit _ _ _ h);
      out_after = o.out_after ∙ sym (hit _ _ _ h);
    }
