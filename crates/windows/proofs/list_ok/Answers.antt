use mathlib.Core.Path.{◌≡◌, sym, ◌∙◌}
use mathlib.Core.Bool.{false}
use native.Mathlib.Omega.{arith}
use Rattle.windows.specs.Windows.{list_ok}
use Rattle.windows.proofs.Laws.{too_many, not_day, of-day}
use Rattle.windows.proofs.list_ok.Goals as goal

pub returns-then-ws-gt64 : goal.returns-then-ws-gt64
returns-then-ws-gt64 c = sym (too_many c.args.nodes c.args.day c.args.ws.now (omega arith))

pub returns-then-day_ok : goal.returns-then-day_ok
returns-then-day_ok c =
    c.entries_ok.ensures
    ∙ of-day c.args.nodes c.args.day c.args.ws.now (omega arith) (sym c.day_ok.ensures ∙ c.if-day_ok.true)

pub returns-else-day_ok : goal.returns-else-day_ok
returns-else-day_ok c =
    let e : false ≡ list_ok c.args.nodes c.args.day c.args.ws.now =
    not_day c.args.nodes c.args.day c.args.ws.now (sym c.day_ok.ensures ∙ c.if-day_ok.false) in
    cc
