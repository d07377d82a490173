use mathlib.Core.Path.{sym, ◌∙◌}
use Rattle.node.specs.Figures.{is_waiting}
use Rattle.site.specs.Members.{node_index}
use Rattle.machine.specs.Layout.{store, up_in, phase_in}
use Rattle.machine.proofs.Whole.{at_place, of_live, of-waiting, of-down, none-up, state-read}
use Rattle.machine.proofs.look.state.Goals as goal

pub returns-then-no_node : goal.returns-then-no_node
returns-then-no_node c =
    let a = c.args in
    sym (none-up (store a.words.now a.bytes.now) a.j (sym c.no_node.ensures ∙ c.if-no_node.true))

pub returns-then-live : goal.returns-then-live
returns-then-live c =
    let a = c.args in
    let s = store a.words.now a.bytes.now in
    let h = at_place s a.j (sym c.no_node.ensures ∙ c.if-no_node.false) in
    of_live (up_in a.bytes.now (node_index a.j)) (is_waiting (phase_in a.bytes.now (node_index a.j)))
    (sym c.live.ensures ∙ c.if-live.true) ∙ sym (state-read s a.j h.0 h.1.0 h.1.1)

pub returns-then-up : goal.returns-then-up
returns-then-up c =
    let a = c.args in
    let s = store a.words.now a.bytes.now in
    let h = at_place s a.j (sym c.no_node.ensures ∙ c.if-no_node.false) in
    of-waiting (up_in a.bytes.now (node_index a.j)) (is_waiting (phase_in a.bytes.now (node_index a.j)))
    (sym c.live.ensures ∙ c.if-live.false) (sym c.up.ensures ∙ c.if-up.true)
    ∙ sym (state-read s a.j h.0 h.1.0 h.1.1)

pub returns : goal.returns
returns c =
    let a = c.args in
    let s = store a.words.now a.bytes.now in
    let h = at_place s a.j (sym c.no_node.ensures ∙ c.if-no_node.false) in
    of-down (up_in a.bytes.now (node_index a.j)) (is_waiting (phase_in a.bytes.now (node_index a.j)))
    (sym c.up.ensures ∙ c.if-up.false) ∙ sym (state-read s a.j h.0 h.1.0 h.1.1)
