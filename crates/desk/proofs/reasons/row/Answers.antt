use mathlib.Core.Path.{ap}
use Rattle.text.specs.Write.{decimal}
use Rattle.lists.proofs.Chain.{retry}
use Rattle.desk.proofs.reasons.Laws.{line-put}
use Rattle.desk.proofs.reasons.row.Goals as goal

pub returns : goal.returns
returns c =
    line-put _ _ c.args.g c.requires c.put_number-a.ensures c.put_byte-b.ensures c.put_number-c.ensures
    c.put_byte-d.ensures
    c.put_rule-e.ensures (retry (ap decimal c.from.ensures) c.put_number-f.ensures) c.put_byte.ensures
