use mathlib.Core.Path.{ap, ◌∙◌}
use Rattle.node.specs.Answers.{number}
use Rattle.hydra_desk_c.proofs.many.hydra_group_load.Goals as goal

pub returns : goal.returns
returns c =
    let o = c.hydra_group_load.ensures in
    (c.code.ensures ∙ ap number o.value, o.words_after, o.bytes_after, o.table_after, o.by_index, o.tally_after)
