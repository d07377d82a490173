use mathlib.Core.Path.{sym, ap}
use Rattle.lists.proofs.Chain.{retry}
use Rattle.desk.specs.listings.Inner.{line_text}
use Rattle.desk.specs.declared.View.{View}
use Rattle.desk.proofs.listings.put_line.Goals as goal

pub returns-in-Refusals : goal.returns-in-Refusals
returns-in-Refusals c =
    let a = c.args in
    retry (sym (ap (λ (x : View). line_text x a.n a.a a.t) c.in-Refusals.is))
    c.put_report.ensures

pub returns-in-Reasons : goal.returns-in-Reasons
returns-in-Reasons c =
    let a = c.args in
    retry (sym (ap (λ (x : View). line_text x a.n a.a a.t) c.in-Reasons.is))
    c.put_reason.ensures
