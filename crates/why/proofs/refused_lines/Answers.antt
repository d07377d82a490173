use Rattle.why.proofs.Count.{counted}
use mathlib.Core.Path.{◌∙◌}
use Rattle.why.proofs.refused_lines.Goals as goal

pub returns : goal.returns
returns c = c.saturating_sub.ensures ∙ counted c.args.listing.now _ _ _ c.find-head.ensures.value c.find-end.ensures.value c.count_of.ensures
