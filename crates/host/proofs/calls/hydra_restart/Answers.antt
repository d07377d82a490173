use mathlib.Core.Path.{sym, ap, ◌∙◌}
use Rattle.node.specs.Answers.{is_done}
use Rattle.node.specs.Core.{bare}
use Rattle.node.specs.Begin.{waiting, restart_answer}
use Rattle.node.specs.declared.Setup.{Setup}
use Rattle.node.proofs.Bare.{waiting-bare}
use Rattle.host.specs.Calls.{is_sized, setup_from, restarting, after_restart}
use Rattle.host.proofs.Answers.{passed-on, then-stands, refusal}
use Rattle.host.proofs.Stepped.{begins}
use Rattle.host.proofs.calls.hydra_restart.Goals as goal

pub returns-in_err-restart_answer : goal.returns-in_err-restart_answer
unfolding restarting after_restart
returns-in_err-restart_answer c =
    let a = c.args.area.now in
    let s = setup_from c.args.node c.args.nodes c.args.slots c.args.rounds c.args.heard c.args.split in
    let x = restart_answer s c.args.flags c.args.place in
    let y = c.restart_answer.ensures ∙ ap (λ (z : Setup). restart_answer z c.args.flags c.args.place) c.setup_from-setup.ensures in
    let f = ap is_done c.in_err-restart_answer.was in
    let z = refusal _ _ (then-stands x (is_sized a) (sym (ap is_done y) ∙ f) ∙ sym y) f _ _ in record {
      value = passed-on _ c.from_residual.ensures.1 ∙ sym c.in_err-restart_answer.was ∙ z.0;
      area_after = z.1;
    }

pub returns : goal.returns
unfolding restarting after_restart
returns c =
    let a = c.args.area.now in
    let s = setup_from c.args.node c.args.nodes c.args.slots c.args.rounds c.args.heard c.args.split in
    let k = c.setup_from-setup.ensures in
    let y = c.restart_answer.ensures ∙ ap (λ (z : Setup). restart_answer z c.args.flags c.args.place) k in
    let w = c.begin_area.ensures in
    let whole = begins a (restart_answer s c.args.flags c.args.place) (waiting s c.args.flags c.args.place 0)
    (sym y ∙ c.in_ok-restart_answer.was)
    (ap bare c.restart.ensures ∙ waiting-bare c.setup_from-setup.result c.args.flags c.args.place 0
    ∙ ap (λ (z : Setup). waiting z c.args.flags c.args.place 0) k) w.value w.area_after in record {
      value = whole.0;
      area_after = whole.1;
    }
