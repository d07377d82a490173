use mathlib.Core.Path.{ap, ◌∙◌}
use Rattle.node.specs.Answers.{number}
use Rattle.hydra_c.proofs.calls.hydra_close.Goals as goal

pub returns-clause-value : goal.returns-clause-value
returns-clause-value c = c.code.ensures ∙ ap number c.hydra_close.ensures.value

pub returns-clause-area_after : goal.returns-clause-area_after
returns-clause-area_after c = c.hydra_close.ensures.area_after

pub returns-clause-out_after : goal.returns-clause-out_after
returns-clause-out_after c = c.hydra_close.ensures.out_after

pub returns-clause-ground_after : goal.returns-clause-ground_after
returns-clause-ground_after c = c.hydra_close.ensures.ground_after
