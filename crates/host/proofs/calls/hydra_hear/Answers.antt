use mathlib.Core.Bool.{false}
use mathlib.Core.Path.{◌≡◌, sym, ap, ◌∙◌}
use Rattle.node.specs.Answers.{is_done}
use Rattle.node.specs.declared.Core.{Core}
use Rattle.node.specs.declared.Packet.{Packet}
use Rattle.node.specs.Model.{Node}
use Rattle.area.specs.Area.{decoded}
use Rattle.area.proofs.Canon.{lengths}
use Rattle.node.specs.Core.{core_of, bare}
use Rattle.node.specs.Negotiation.{heard_node}
use Rattle.node.specs.declared.Move.TheVariants.{Keep}
use Rattle.node.proofs.Cores.{step_of, hear-moved}
use Rattle.range.proofs.Lengths.{long-hear}
use Rattle.wire.specs.Layout.{packet_in}
use Rattle.host.specs.Calls.{heard_answer, hearing_of, after_hear}
use Rattle.host.proofs.Answers.{passed-on, opened, no_node, is-node, core_is, refuses, steps, kept-back, given-done, given}
use Rattle.host.proofs.Stepped.{gone, heard-bare}
use Rattle.host.proofs.calls.hydra_hear.Goals as goal

pub returns-in_err-c : goal.returns-in_err-c
unfolding hearing_of after_hear
returns-in_err-c c =
    let z = no_node c.args.area.now (λ (n : Node). heard_answer n c.args.packet.now) c.read.ensures c.ok_or.ensures.value c.ok_or.ensures.ok_part c.in_err-c.was in record {
      value = passed-on _ c.from_residual.ensures.1 ∙ (z c.args.area.now c.args.area.now).0;
      area_after = (z _ _).1;
    }

pub returns-in_err-heard : goal.returns-in_err-heard
unfolding hearing_of after_hear
returns-in_err-heard c =
    let a = c.args.area.now in
    let e = opened a c.read.ensures c.ok_or.ensures.ok_part c.in_ok-c.was in
    let p = c.args.packet.now in
    let y = ap (λ (x : Core). heard_answer (bare x) p) (core_is a e) ∙ heard-bare (decoded a) p in
    let b = kept-back (heard_answer (bare c.in_ok-c.c) p) (packet_in p) c.hear_bytes.ensures c.in_err-heard.was in
    let z = refuses a e (λ (n : Node). heard_answer n p) _ y (ap is_done b) _ _ in record {
      value = passed-on _ c.from_residual-in_err-heard.ensures.1 ∙ sym b ∙ z.0;
      area_after = z.1;
    }

pub returns : goal.returns
unfolding hearing_of after_hear
returns c =
    let a = c.args.area.now in
    let e = opened a c.read.ensures c.ok_or.ensures.ok_part c.in_ok-c.was in
    let p = c.args.packet.now in
    let n = decoded a in
    let k = core_is a e in
    let o = c.in_ok-c.c in
    let y = ap (λ (x : Core). heard_answer (bare x) p) k ∙ heard-bare n p in
    let d = given-done (heard_answer (bare o) p) (packet_in p) c.hear_bytes.ensures c.in_ok-heard.was in
    let q = given (heard_answer (bare o) p) (packet_in p) c.hear_bytes.ensures c.in_ok-heard.was in
    let g = ap (λ (x : Core). step_of x Keep) (c.hear.ensures ∙ ap (λ (r : Packet). core_of (heard_node (bare o) r)) q) in
    let whole = steps a e (λ (n : Node). heard_answer n p) (heard_node n (packet_in p)) (sym y ∙ d)
    (gone a (is-node a e) (λ k. step_of (core_of (heard_node (bare k) (packet_in p))) Keep)
    (heard_node n (packet_in p)) k g (hear-moved n (packet_in p)) (long-hear n (packet_in p) (lengths a))
    c.step.ensures.area_after) in record {
      value = whole.0;
      area_after = whole.1;
    }
