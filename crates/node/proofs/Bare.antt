-- A node without its schedules answers and sends as with them, and begins with none.
-- Assumes nothing.
use mathlib.Core.Path.{◌≡◌, refl}
use mathlib.Core.Bool.{Bool, true, false, not, cond, ◌&&◌}
use Prim.Native.Nat.{ℕ}
use lib.Dec.{eqb}
use Rattle.allotment.specs.Allotment.{free}
use Rattle.membership.specs.requests.Requests.{agree}
use Rattle.node.specs.Negotiation.{in_negotiation, packet_of, merges, send_answer, hear_answer}
use Rattle.node.specs.Close.{complete, level, verdict, due, close_answer}
use Rattle.node.specs.Distribution.{may_take, take_answer}
use Rattle.node.specs.End.{may_end, end_answer}
use Rattle.node.specs.Begin.{begun, waiting}
use Rattle.node.specs.Grounds.{first_rule, rule_of, ground_of}
use Rattle.node.specs.Steps.{wanted_node}
use Rattle.node.specs.Core.{core_of, bare, moved_by}
use Rattle.node.specs.Answers.{is_done}
use Rattle.node.specs.Figures.{negotiates}
use Rattle.node.specs.Answers.{Answer}
use Rattle.node.specs.declared.Setup.{Setup}
use Rattle.node.specs.Model.{Node}
use Rattle.node.specs.declared.Packet.{Packet}
use Rattle.node.specs.Answers.{Done, WrongPhase, OwnPacket, TwoRequests}
use Rattle.node.specs.declared.Move.TheVariants.{Keep}
use Rattle.node.proofs.Answers.{test-met}

-- these answers are the phase's
pub send-phase : (n : Node) → send_answer n ≡ in_negotiation n.phase
unfolding send_answer
send-phase n = refl

pub close-phase : (n : Node) → close_answer n ≡ in_negotiation n.phase
unfolding close_answer
close-phase n = refl

pub take-phase : (n : Node) → take_answer n ≡ may_take n.phase
unfolding take_answer
take-phase n = refl

pub ends-phase : (n : Node) → end_answer n ≡ may_end n.phase
unfolding end_answer
ends-phase n = refl

-- a node's own answer to a packet tests the phase first
pub hear-first : (n : Node) (q : Packet) → cond (is_done (send_answer n)) (hear_answer n q) (send_answer n) ≡ hear_answer n q
unfolding send_answer hear_answer
hear-first n q = go (negotiates n.phase)
    (cond (eqb q.sender n.setup.node) OwnPacket (cond (merges n q && not (agree n.round.known q.requests)) TwoRequests Done))
  where
    go : (t : Bool) (own : Answer) → cond (is_done (cond t Done WrongPhase)) (cond t own WrongPhase) (cond t Done WrongPhase)
        ≡ cond t own WrongPhase
    go true own = refl
    go false own = refl

pub hear-talks : (n : Node) (q : Packet) → hear_answer n q ≡ Done → negotiates n.phase ≡ true
unfolding hear_answer
hear-talks n q h = (test-met (negotiates n.phase) _ WrongPhase refl h).0

-- and these don't look at a schedule
pub packet-bare : (n : Node) → packet_of (bare (core_of n)) ≡ packet_of n
unfolding packet_of
packet-bare n = refl

pub hear-bare : (n : Node) (q : Packet) → hear_answer (bare (core_of n)) q ≡ hear_answer n q
unfolding hear_answer merges
hear-bare n q = refl

pub ground-bare : (n : Node) → ground_of (bare (core_of n)) ≡ ground_of n
unfolding rule_of first_rule due verdict complete level
ground-bare n = refl

-- another demand moves no schedule
pub want-moved : (n : Node) (d : ℕ) → moved_by n (core_of (wanted_node (bare (core_of n)) d)) Keep ≡ wanted_node n d
unfolding wanted_node
want-moved n d = refl

-- a beginning
pub begun-bare : (s : Setup) (v demand request flags : ℕ) → bare (core_of (begun s v free demand request flags))
    ≡ begun s v free demand request flags
unfolding begun
begun-bare s v demand request flags = refl

pub waiting-bare : (s : Setup) (flags f demand : ℕ) → bare (core_of (waiting s flags f demand)) ≡ waiting s flags f demand
unfolding waiting
waiting-bare s flags f demand = refl
