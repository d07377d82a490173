use mathlib.Core.Path.{ap, ◌∙◌}
use Rattle.node.specs.Answers.{number}
use Rattle.hydra_desk_c.proofs.listings.hydra_why.Goals as goal

pub returns : goal.returns
returns c = let o = c.hydra_why.ensures in (c.code.ensures ∙ ap number o.0, o.1, o.2, o.3)
