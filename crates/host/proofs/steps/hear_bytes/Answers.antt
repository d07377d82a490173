-- The phase first, then the bytes' own answer, then the node's.
use mathlib.Core.List.{List}
use mathlib.Core.Path.{◌≡◌, refl, sym, ap, ap₂, ◌∙◌}
use Prim.Native.Nat.{ℕ}
use Rattle.node.specs.Answers.{Answer, Done, answered}
use Rattle.node.specs.Core.{bare}
use Rattle.node.specs.Model.{Node}
use Rattle.node.specs.Negotiation.{send_answer, hear_answer}
use Rattle.node.proofs.Bare.{send-phase}
use Rattle.wire.specs.Layout.{packet_in}
use Rattle.wire.specs.Reads.{packet_answer}
use Rattle.host.specs.Calls.{and_then, heard_answer}
use Rattle.host.proofs.Answers.{passed-on, kept-back, given-done, given}
use Rattle.host.proofs.steps.hear_bytes.Goals as goal

-- the answer to a packet, by the three answers that it is made of
module _ (n : Node) (p : List ℕ) where
  by-parts : {x y z : Answer} → send_answer n ≡ x → packet_answer n.setup.config.nodes p ≡ y → hear_answer n (packet_in p) ≡ z
      → answered (heard_answer n p) (packet_in p) ≡ answered (and_then x (and_then y z)) (packet_in p)
  by-parts {x} {y} e f g =
      ap (λ (w : Answer). answered w (packet_in p))
      (ap₂ (λ (v w : Answer). and_then v (and_then w (hear_answer n (packet_in p)))) e f
      ∙ ap (λ (z : Answer). and_then x (and_then y z)) g)

pub returns-in_err-negotiation_answer : goal.returns-in_err-negotiation_answer
returns-in_err-negotiation_answer c =
    let n = bare c.args.c in
    let p = c.args.bytes.now in
    let e = send-phase n ∙ sym c.negotiation_answer.ensures ∙ c.in_err-negotiation_answer.was in
    passed-on _ c.from_residual.ensures.1 ∙ sym (by-parts n p e refl refl)

pub returns-in_err-packet : goal.returns-in_err-packet
returns-in_err-packet c =
    let n = bare c.args.c in
    let p = c.args.bytes.now in
    let e = send-phase n ∙ sym c.negotiation_answer.ensures ∙ c.in_ok-negotiation_answer.was in
    let f = kept-back (packet_answer n.setup.config.nodes p) (packet_in p) c.read_packet.ensures c.in_err-packet.was in
    passed-on _ c.from_residual-in_err-packet.ensures.1 ∙ sym (by-parts n p e f refl)

pub returns-in_err-hear_answer : goal.returns-in_err-hear_answer
returns-in_err-hear_answer c =
    let n = bare c.args.c in
    let p = c.args.bytes.now in
    let e = send-phase n ∙ sym c.negotiation_answer.ensures ∙ c.in_ok-negotiation_answer.was in
    let f = given-done (packet_answer n.setup.config.nodes p) (packet_in p) c.read_packet.ensures c.in_ok-packet.was in
    let q = given (packet_answer n.setup.config.nodes p) (packet_in p) c.read_packet.ensures c.in_ok-packet.was in
    let g = ap (hear_answer n) (sym q) ∙ sym c.hear_answer.ensures ∙ c.in_err-hear_answer.was in
    passed-on _ c.from_residual-in_err-hear_answer.ensures.1 ∙ sym (by-parts n p e f g)

pub returns : goal.returns
returns c =
    let n = bare c.args.c in
    let p = c.args.bytes.now in
    let e = send-phase n ∙ sym c.negotiation_answer.ensures ∙ c.in_ok-negotiation_answer.was in
    let f = given-done (packet_answer n.setup.config.nodes p) (packet_in p) c.read_packet.ensures c.in_ok-packet.was in
    let q = given (packet_answer n.setup.config.nodes p) (packet_in p) c.read_packet.ensures c.in_ok-packet.was in
    let g = ap (hear_answer n) (sym q) ∙ sym c.hear_answer.ensures ∙ c.in_ok-hear_answer.was in
    ap (answered Done) q ∙ sym (by-parts n p e f g)
