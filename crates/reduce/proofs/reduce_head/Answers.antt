use Rattle.std.proofs.Common.{sym, ◌∙◌}
use Rattle.std.proofs.Math.Seq.{length-take-le}
use Rattle.reduce.proofs.Outcome.{head-none, head-within, head_done}
use Rattle.reduce.proofs.reduce_head.Goals as goal

pub returns-then-not-is_refusal : goal.returns-then-not-is_refusal
returns-then-not-is_refusal c = head-none _ _ _ _ c.requires (sym c.is_refusal.ensures ∙ c.if-not-is_refusal.true)

pub slice_bounds-put_bytes-end : goal.slice_bounds-put_bytes-end
slice_bounds-put_bytes-end c =
    sym (length-take-le _ _ (head-within c.args.number _ _ _ c.requires _ c.lines_end-at.ensures))

pub returns : goal.returns
returns c =
    head_done _ _ _ _ c.requires _ c.lines_end-at.ensures (sym c.is_refusal.ensures ∙ c.if-not-is_refusal.false) _ _
    c.put_bytes.ensures
