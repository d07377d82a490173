use mathlib.Core.Path.{ap, ◌∙◌}
use Rattle.node.specs.Answers.{number}
use Rattle.hydra_c.proofs.calls.hydra_want.Goals as goal

pub returns-clause-value : goal.returns-clause-value
returns-clause-value c = c.code.ensures ∙ ap number c.hydra_want.ensures.value

pub returns-clause-area_after : goal.returns-clause-area_after
returns-clause-area_after c = c.hydra_want.ensures.area_after
