use mathlib.Core.Path.{ap, ◌∙◌}
use Rattle.node.specs.declared.Core.{Core}
use Rattle.node.specs.Model.{Node}
use Rattle.area.specs.Area.{decoded}
use Rattle.node.specs.Core.{bare}
use Rattle.node.specs.Negotiation.{packet_of}
use Rattle.node.proofs.Bare.{packet-bare}
use Rattle.wire.specs.Layout.{packet_bytes}
use Rattle.host.specs.Calls.{sent_answer, sending_of, out_send}
use Rattle.host.proofs.Answers.{passed-on, opened, no_node, core_is, put-out}
use Rattle.host.proofs.Stepped.{sent-bare}
use Rattle.host.proofs.calls.hydra_send.Goals as goal

pub returns-in_err-c : goal.returns-in_err-c
unfolding sending_of out_send
returns-in_err-c c =
    let z = no_node c.args.area.now (λ (n : Node). sent_answer n c.args.out.now) c.read.ensures c.ok_or.ensures.value c.ok_or.ensures.ok_part c.in_err-c.was in record {
      value = passed-on _ c.from_residual.ensures.1 ∙ (z c.args.area.now c.args.area.now).0;
      out_after = (z _ _).1;
    }

pub returns : goal.returns
unfolding sending_of out_send
returns c =
    let a = c.args.area.now in
    let e = opened a c.read.ensures c.ok_or.ensures.ok_part c.in_ok-c.was in
    let l = c.args.out.now in
    let k = core_is a e in
    let w = c.send_into.ensures in
    let whole = put-out a e (λ (n : Node). sent_answer n l) _ (λ (n : Node). packet_bytes (packet_of n)) l
    (ap (λ (x : Core). sent_answer (bare x) l) k ∙ sent-bare (decoded a) l)
    (ap (λ (x : Core). packet_bytes (packet_of (bare x))) k ∙ ap packet_bytes (packet-bare (decoded a)))
    w.value w.out_after in record {
      value = whole.0;
      out_after = whole.1;
    }
