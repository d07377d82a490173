use mathlib.Core.Path.{sym, ◌∙◌}
use Rattle.machine.specs.Layout.{store}
use Rattle.machine.proofs.Whole.{at_place, none-live, live-read}
use Rattle.machine.proofs.look.is_live.Goals as goal

pub returns-then-no_node : goal.returns-then-no_node
returns-then-no_node c =
    let a = c.args in
    sym (none-live (store a.words.now a.bytes.now) a.j (sym c.no_node.ensures ∙ c.if-no_node.true))

pub returns : goal.returns
returns c =
    let a = c.args in
    let s = store a.words.now a.bytes.now in
    let h = at_place s a.j (sym c.no_node.ensures ∙ c.if-no_node.false) in
    c.live.ensures ∙ sym (live-read s a.j h.0 h.1.0 h.1.1)
