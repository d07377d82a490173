use mathlib.Core.Path.{◌≡◌, refl, sym, ap, ◌∙◌}
use mathlib.Core.Bool.{false}
use Rattle.std.specs.Prelude.{Some}
use mathlib.Core.List.{List, [], ◌∷◌}
use Prim.Native.Nat.{ℕ}
use Rattle.masks.specs.Bytes.{own_read}
use Rattle.masks.specs.declared.NodeSlots.{NodeSlots}
use Rattle.node.specs.Answers.{is_done}
use Rattle.node.specs.Core.{core_of}
use Rattle.node.specs.Negotiation.{in_negotiation, send_answer}
use Rattle.node.specs.Answers.{Answer}
use Rattle.node.specs.declared.Core.{Core}
use Rattle.node.specs.Model.{Node}
use Rattle.node.proofs.Bare.{send-phase}
use Rattle.area.specs.Area.{at_schedule, decoded}
use Rattle.area.specs.Steps.{area_read}
use Rattle.area.proofs.Masked.{own_is}
use Rattle.host.specs.Calls.{and_then, is_node_area, room_answer, output, slots_size, own_slots, output_answer, slots_answer, out_slots}
use Rattle.host.proofs.Answers.{passed-on, then-stands, opened, no_node, is-node, core_is, refuses, put-out}
use Rattle.host.proofs.Slots.{numbered}
use Rattle.host.proofs.calls.hydra_slots.Goals as goal

-- the three numbers of what is read of one node
abbrev numbers : NodeSlots → List ℕ
numbers w = w.low ∷ w.high ∷ w.count ∷ []

-- the call on the area of a node, with this output
module _ (a out : List ℕ) {k : Core} (e : area_read a ≡ Some k) where
  abbrev n : Node
  n = decoded a

  abbrev x : Node → Answer
  x m = output_answer m out

  answer-so : {y : Answer} → y ≡ in_negotiation k.phase → y ≡ send_answer n
  answer-so g = g ∙ ap (λ (c : Core). in_negotiation c.phase) (core_is a e) ∙ sym (send-phase n)

  -- the answer, and what the output holds then
  abbrev All : Answer → List ℕ → Type 0
  All r l = (r ≡ and_then (is_node_area a) (x n)) × (l ≡ output (and_then (is_node_area a) (x n)) (own_slots n) out)

  other-phase : (y : Answer) → y ≡ send_answer n → is_done y ≡ false → All y out
  other-phase y g d =
      refuses a e (λ (m : Node). output_answer m out) y
      (g ∙ sym (then-stands (send_answer n) (room_answer slots_size out) (sym (ap is_done g) ∙ d))) d _ _

  -- what is read of the node's own row is what it owns
  own-so : {w : NodeSlots} → w ≡ own_read a at_schedule k.setup.node → numbers w ≡ own_slots n
  unfolding own_slots
  own-so h =
      let v = is-node a e in
      let k = numbered a v in
      ap numbers (h ∙ ap (λ (c : Core). own_read a at_schedule c.setup.node) (core_is a e) ∙ own_is a v n.setup.node k.0 k.1)

pub returns-in_err-c : goal.returns-in_err-c
unfolding slots_answer out_slots
returns-in_err-c c =
    let z = no_node c.args.area.now (λ (n : Node). output_answer n c.args.out.now) c.read.ensures c.ok_or.ensures.value c.ok_or.ensures.ok_part c.in_err-c.was in record {
      value = passed-on _ c.from_residual.ensures.1 ∙ (z c.args.area.now c.args.area.now).0;
      out_after = (z _ _).1;
    }

pub returns-in_err-negotiation_answer : goal.returns-in_err-negotiation_answer
unfolding slots_answer out_slots
returns-in_err-negotiation_answer c =
    let a = c.args.area.now in
    let e = opened a c.read.ensures c.ok_or.ensures.ok_part c.in_ok-c.was in
    let z = other-phase a c.args.out.now e _ (answer-so a c.args.out.now e c.negotiation_answer.ensures)
    (ap is_done c.in_err-negotiation_answer.was) in record {
      value = passed-on _ c.from_residual-in_err-negotiation_answer.ensures.1 ∙ sym c.in_err-negotiation_answer.was ∙ z.0;
      out_after = z.1;
    }

pub returns : goal.returns
unfolding slots_answer out_slots
returns c =
    let a = c.args.area.now in
    let e = opened a c.read.ensures c.ok_or.ensures.ok_part c.in_ok-c.was in
    let l = c.args.out.now in
    let done = sym (answer-so a l e c.negotiation_answer.ensures) ∙ c.in_ok-negotiation_answer.was in
    let w = c.own_into.ensures in
    let whole = put-out a e (λ (n : Node). output_answer n l) (room_answer slots_size l) own_slots l
    (sym (ap (λ (q : Answer). and_then q (room_answer slots_size l)) done)) (own-so a l e c.own.ensures) w.value w.out_after in record {
      value = whole.0;
      out_after = whole.1;
    }
