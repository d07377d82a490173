use mathlib.Core.Path.{◌≡◌, refl, sym, ap, ◌∙◌}
use mathlib.Core.Bool.{Bool, true, false, not, cond}
use Rattle.node.specs.Answers.{Done, WrongPhase}
use Rattle.site.specs.Answers.{site_end}
use Rattle.machine.specs.Layout.{store, site_in}
use Rattle.machine.proofs.steps.Asked.{phase}
use Rattle.machine.proofs.answers.end_answer.Goals as goal

turned-about : (t : Bool) → cond (not t) Done WrongPhase ≡ cond t WrongPhase Done
turned-about true = refl
turned-about false = refl

pub returns : goal.returns
unfolding site_end
returns c =
    let a = c.args in
    let s = store a.m.words.now a.m.bytes.now in
    c.in_phase.ensures ∙ ap (λ (b : Bool). cond (not b) Done WrongPhase) (sym (phase s c.header-k.ensures refl))
    ∙ turned-about (site_in s).negotiates
