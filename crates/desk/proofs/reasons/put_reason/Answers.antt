use mathlib.Core.Path.{sym, ◌∙◌}
use lib.Seq.{length-take-le}
use Rattle.lists.proofs.Chain.{front-is, retry}
use Rattle.desk.proofs.listing.Laws.{ends-within, tried-none}
use Rattle.desk.proofs.reasons.Laws.{line-long, reason-some, reason-none}
use Rattle.desk.proofs.reasons.put_reason.Goals as goal

pub returns-in_default : goal.returns-in_default
returns-in_default c = retry (sym (reason-none _ _ c.in_default.is)) (tried-none _ _)

pub slice_bounds-b-end : goal.slice_bounds-b-end
slice_bounds-b-end c = ends-within (line-long _ _ c.in-Some.g) c.row-n.ensures

pub slice_bounds-put_bytes-end : goal.slice_bounds-put_bytes-end
slice_bounds-put_bytes-end c = sym (length-take-le _ _ (ends-within (line-long _ _ c.in-Some.g) c.row-n.ensures))

pub returns : goal.returns
returns c = retry (front-is c.row-n.ensures ∙ reason-some _ _ c.in-Some.g c.in-Some.is) c.put_bytes.ensures
