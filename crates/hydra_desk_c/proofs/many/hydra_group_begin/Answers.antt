use mathlib.Core.Path.{ap, ◌∙◌}
use Rattle.node.specs.Answers.{number}
use Rattle.hydra_desk_c.proofs.many.hydra_group_begin.Goals as goal

pub returns-clause-value : goal.returns-clause-value
returns-clause-value c = c.code.ensures ∙ ap number c.hydra_group_begin.ensures.value

pub returns-clause-table_after : goal.returns-clause-table_after
returns-clause-table_after c = c.hydra_group_begin.ensures.table_after

pub returns-clause-by_index : goal.returns-clause-by_index
returns-clause-by_index c = c.hydra_group_begin.ensures.by_index
