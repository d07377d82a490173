use mathlib.Core.Path.{sym, ap, ◌∙◌}
use native.Mathlib.Omega.{arith}
use Rattle.node.specs.Answers.{is_done}
use Rattle.node.specs.Core.{bare}
use Rattle.node.specs.Begin.{starting, start_answer}
use Rattle.node.specs.declared.Setup.{Setup}
use Rattle.node.proofs.Bare.{begun-bare}
use Rattle.node.proofs.Tested.{start-asks}
use Rattle.host.specs.Calls.{is_sized, setup_from, beginning, after_begin}
use Rattle.host.proofs.Answers.{passed-on, then-stands, refusal}
use Rattle.host.proofs.Stepped.{begins}
use Rattle.host.proofs.calls.hydra_begin.Goals as goal

pub returns-in_err-start_answer : goal.returns-in_err-start_answer
unfolding beginning after_begin
returns-in_err-start_answer c =
    let a = c.args.area.now in
    let s = setup_from c.args.node c.args.nodes c.args.slots c.args.rounds c.args.heard c.args.split in
    let x = start_answer s c.args.version c.args.flags c.args.demand in
    let y = c.start_answer.ensures
    ∙ ap (λ (z : Setup). start_answer z c.args.version c.args.flags c.args.demand) c.setup_from-setup.ensures in
    let f = ap is_done c.in_err-start_answer.was in
    let z = refusal _ _ (then-stands x (is_sized a) (sym (ap is_done y) ∙ f) ∙ sym y) f _ _ in record {
      value = passed-on _ c.from_residual.ensures.1 ∙ sym c.in_err-start_answer.was ∙ z.0;
      area_after = z.1;
    }

pub overflow_cast-demand : goal.overflow_cast-demand
overflow_cast-demand c =
    let t = start-asks c.setup_from-setup.result c.args.version c.args.flags c.args.demand
    (sym c.start_answer.ensures ∙ c.in_ok-start_answer.was) in
    omega (arith, t.demand)

pub returns : goal.returns
unfolding beginning after_begin
returns c =
    let a = c.args.area.now in
    let s = setup_from c.args.node c.args.nodes c.args.slots c.args.rounds c.args.heard c.args.split in
    let k = c.setup_from-setup.ensures in
    let y = c.start_answer.ensures ∙ ap (λ (z : Setup). start_answer z c.args.version c.args.flags c.args.demand) k in
    let w = c.begin_area.ensures in
    let whole = begins a (start_answer s c.args.version c.args.flags c.args.demand)
    (starting s c.args.version c.args.flags c.args.demand) (sym y ∙ c.in_ok-start_answer.was)
    (ap bare c.start.ensures ∙ begun-bare c.setup_from-setup.result c.args.version c.args.demand c.args.demand c.args.flags
    ∙ ap (λ (z : Setup). starting z c.args.version c.args.flags c.args.demand) k) w.value w.area_after in record {
      value = whole.0;
      area_after = whole.1;
    }
