use mathlib.Core.Path.{ap, ◌∙◌}
use Rattle.node.specs.Answers.{number}
use Rattle.hydra_desk_c.proofs.one.hydra_site_load.Goals as goal

pub returns : goal.returns
returns c =
    let o = c.hydra_site_load.ensures in
    (c.code.ensures ∙ ap number o.value, o.words_after, o.bytes_after, o.timed_after, o.tally_after)
