use mathlib.Core.Path.{ap, ◌∙◌}
use Rattle.node.specs.Answers.{number}
use Rattle.hydra_desk_c.proofs.many.hydra_group_event.Goals as goal

pub returns : goal.returns
returns c =
    let o = c.hydra_group_event-answer.ensures in (
      c.code.ensures ∙ ap number o.value,
      o.words_after,
      o.bytes_after,
      o.table_after,
      o.area_after,
      o.reports_after,
      o.group_after,
      o.tally_after,
    )
