use mathlib.Core.Path.{refl, sym, ap, ◌∙◌}
use mathlib.Core.Bool.{Bool, cond}
use Rattle.node.specs.Answers.{Done, WrongPhase}
use Rattle.site.specs.Answers.{site_close}
use Rattle.machine.specs.Layout.{store}
use Rattle.machine.proofs.steps.Asked.{phase}
use Rattle.machine.proofs.answers.close_answer.Goals as goal

pub returns : goal.returns
unfolding site_close
returns c =
    let a = c.args in
    let s = store a.m.words.now a.m.bytes.now in
    c.in_phase.ensures ∙ ap (λ (b : Bool). cond b Done WrongPhase) (sym (phase s c.header-k.ensures refl))
