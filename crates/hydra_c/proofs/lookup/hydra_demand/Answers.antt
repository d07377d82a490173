use mathlib.Core.Path.{ap, ◌∙◌}
use Rattle.node.specs.Answers.{number}
use Rattle.hydra_c.proofs.lookup.hydra_demand.Goals as goal

pub returns : goal.returns
returns c = (c.code.ensures ∙ ap number c.hydra_demand.ensures.0, c.hydra_demand.ensures.1)
