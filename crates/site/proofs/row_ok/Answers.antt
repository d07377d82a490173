use mathlib.Core.Path.{sym}
use Rattle.site.proofs.Laws.{row-behind}
use Rattle.site.proofs.row_ok.Goals as goal

pub returns-then-f-i : goal.returns-then-f-i
returns-then-f-i c = sym (row-behind c.args.f c.args.i c.args.row c.if-f-i.true)
