use mathlib.Core.Path.{ap, ◌∙◌}
use Rattle.node.specs.Answers.{number}
use Rattle.hydra_c.proofs.calls.hydra_slots.Goals as goal

pub returns-clause-value : goal.returns-clause-value
returns-clause-value c = c.code.ensures ∙ ap number c.hydra_slots.ensures.value

pub returns-clause-out_after : goal.returns-clause-out_after
returns-clause-out_after c = c.hydra_slots.ensures.out_after
