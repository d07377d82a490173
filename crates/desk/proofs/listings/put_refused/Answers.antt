use mathlib.Core.Path.{sym, ◌∙◌}
use Rattle.std.specs.Prelude.{Err}
use Rattle.desk.proofs.listings.Parts.{refused-put}
use Rattle.desk.proofs.listings.put_refused.Goals as goal

pub returns : goal.returns
returns c =
    let a = c.args in
    refused-put a.v a.split a.line (Err a.refusal) (sym c.has_head.ensures ∙ c.if-not-has_head.false) c.requires
    c.put_head-at.ensures c.put_report.ensures
