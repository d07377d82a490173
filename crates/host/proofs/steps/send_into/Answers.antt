use mathlib.Core.Bool.{Bool, true, false, cond}
use mathlib.Core.List.{List}
use mathlib.Core.Path.{◌≡◌, sym, ap, ◌∙◌}
use Prim.Native.Nat.{ℕ}
use Rattle.node.specs.Answers.{is_done}
use Rattle.node.specs.Core.{bare}
use Rattle.node.specs.Negotiation.{packet_of, send_answer}
use Rattle.node.specs.Answers.{Answer}
use Rattle.node.specs.Answers.{Done, NoRoom}
use Rattle.node.specs.Model.{Node}
use Rattle.node.specs.declared.Packet.{Packet}
use Rattle.node.specs.declared.Sent.{Sent}
use Rattle.node.proofs.Bare.{send-phase}
use Rattle.wire.specs.Layout.{packet_size, packet_bytes}
use Rattle.wire.specs.Reads.{placed, has_part}
use Rattle.host.specs.Calls.{room_answer, output, sent_answer}
use Rattle.host.proofs.Answers.{passed-on, then_next, then-stands, refusal, in-room}
use Rattle.host.proofs.steps.send_into.Goals as goal

-- a node's packet is refused as the node refuses it, or written where there is room
module _ (n : Node) (l : List ℕ) {y : Answer} (e : y ≡ send_answer n) where
  refused-send : is_done y ≡ false → (y ≡ sent_answer n l) × (l ≡ output (sent_answer n l) (packet_bytes (packet_of n)) l)
  refused-send f =
      let z : sent_answer n l ≡ y = then-stands (send_answer n) (room_answer packet_size l) (sym (ap is_done e) ∙ f) ∙ sym e in
      (sym z, (refusal _ _ z f _ _).1)

  sends : {u v : Bool} {m : List ℕ} {q : Packet} → is_done y ≡ true → q ≡ packet_of n → u ≡ has_part l 0
      → m ≡ cond (has_part l 0) (placed l 0 q) l → u ≡ v
      → (cond v Done NoRoom ≡ sent_answer n l) × (m ≡ output (sent_answer n l) (packet_bytes (packet_of n)) l)
  sends f g h w k =
      let z = sym (then_next (send_answer n) (room_answer packet_size l) (sym (ap is_done e) ∙ f)) in (
        ap (λ (t : Bool). cond t Done NoRoom) (sym k ∙ h) ∙ z,
        w ∙ ap (λ (x : Packet). cond (has_part l 0) (placed l 0 x) l) g ∙ in-room (has_part l 0) (packet_bytes (packet_of n)) l
            ∙ ap (λ (x : Answer). output x (packet_bytes (packet_of n)) l) z,
      )

pub returns-in_err-negotiation_answer : goal.returns-in_err-negotiation_answer
returns-in_err-negotiation_answer c =
    let whole = refused-send (bare c.args.c) c.args.out.now (c.negotiation_answer.ensures ∙ sym (send-phase (bare c.args.c)))
    (ap is_done c.in_err-negotiation_answer.was) in record {
      value = passed-on _ c.from_residual.ensures.1 ∙ sym c.in_err-negotiation_answer.was ∙ whole.0;
      out_after = whole.1;
    }

pub returns-then-not-put_packet : goal.returns-then-not-put_packet
returns-then-not-put_packet c =
    let w = c.put_packet.ensures in
    let whole = sends (bare c.args.c) c.args.out.now (c.negotiation_answer.ensures ∙ sym (send-phase (bare c.args.c)))
    (ap is_done c.in_ok-negotiation_answer.was) (ap (λ (s : Sent). s.packet) c.send.ensures) w.value w.area_after
    c.if-not-put_packet.true in record {
      value = whole.0;
      out_after = whole.1;
    }

pub returns : goal.returns
returns c =
    let w = c.put_packet.ensures in
    let whole = sends (bare c.args.c) c.args.out.now (c.negotiation_answer.ensures ∙ sym (send-phase (bare c.args.c)))
    (ap is_done c.in_ok-negotiation_answer.was) (ap (λ (s : Sent). s.packet) c.send.ensures) w.value w.area_after
    c.if-not-put_packet.false in record {
      value = whole.0;
      out_after = whole.1;
    }
