use mathlib.Core.Path.{ap, ◌∙◌}
use Rattle.node.specs.Answers.{number}
use Rattle.hydra_desk_c.proofs.many.hydra_group_node.Goals as goal

pub returns-clause-value : goal.returns-clause-value
returns-clause-value c = c.code.ensures ∙ ap number c.hydra_group_node.ensures.value

pub returns-clause-out_after : goal.returns-clause-out_after
returns-clause-out_after c = c.hydra_group_node.ensures.out_after
