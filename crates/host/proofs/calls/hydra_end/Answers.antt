use mathlib.Core.Path.{sym, ap, ◌∙◌}
use Rattle.node.specs.Answers.{is_done}
use Rattle.node.specs.declared.Core.{Core}
use Rattle.area.specs.Area.{decoded}
use Rattle.area.proofs.Canon.{lengths}
use Rattle.node.specs.Core.{core_ended}
use Rattle.node.specs.End.{may_end, end_answer, ended_node}
use Rattle.node.proofs.Bare.{ends-phase}
use Rattle.node.proofs.Cores.{end_moved}
use Rattle.range.proofs.Lengths.{long-end}
use Rattle.host.specs.Calls.{ending_of, after_end}
use Rattle.host.proofs.Answers.{passed-on, opened, no_node, is-node, core_is, refuses, steps}
use Rattle.host.proofs.Stepped.{gone}
use Rattle.host.proofs.calls.hydra_end.Goals as goal

pub returns-in_err-c : goal.returns-in_err-c
unfolding ending_of after_end
returns-in_err-c c =
    let z = no_node c.args.area.now (end_answer) c.read.ensures c.ok_or.ensures.value c.ok_or.ensures.ok_part c.in_err-c.was in record {
      value = passed-on _ c.from_residual.ensures.1 ∙ (z c.args.area.now c.args.area.now).0;
      area_after = (z _ _).1;
    }

pub returns-in_err-end_answer : goal.returns-in_err-end_answer
unfolding ending_of after_end
returns-in_err-end_answer c =
    let a = c.args.area.now in
    let e = opened a c.read.ensures c.ok_or.ensures.ok_part c.in_ok-c.was in
    let y = c.end_answer.ensures ∙ ap (λ (k : Core). may_end k.phase) (core_is a e) ∙ sym (ends-phase (decoded a)) in
    let z = refuses a e end_answer _ y (ap is_done c.in_err-end_answer.was) _ _ in record {
      value = passed-on _ c.from_residual-in_err-end_answer.ensures.1 ∙ sym c.in_err-end_answer.was ∙ z.0;
      area_after = z.1;
    }

pub returns : goal.returns
unfolding ending_of after_end
returns c =
    let a = c.args.area.now in
    let e = opened a c.read.ensures c.ok_or.ensures.ok_part c.in_ok-c.was in
    let n = decoded a in
    let k = core_is a e in
    let y = c.end_answer.ensures ∙ ap (λ (k : Core). may_end k.phase) k ∙ sym (ends-phase n) in
    let whole = steps a e end_answer (ended_node n) (sym y ∙ c.in_ok-end_answer.was)
    (gone a (is-node a e) core_ended (ended_node n) k c.end-ended.ensures (end_moved n) (long-end n (lengths a))
    c.step.ensures.area_after) in record {
      value = whole.0;
      area_after = whole.1;
    }
