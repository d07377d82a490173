-- Algorithm 1, lines 5 to 21, and specification, 3.1 Negotiation: the start of a round, sending, hearing.
-- Assumes nothing.
use Rattle.std.specs.Prelude.{Bool, not, cond, ◌&&◌, ℕ, min, max, eqb}
use Rattle.std.specs.Int.Bits
use Rattle.words.specs.Bits.{is_in}
use Rattle.membership.specs.requests.Requests.{requesters, only, union, agree}
use Rattle.node.specs.Figures.{negotiates}
use Rattle.node.specs.declared.Round.{Round}
use Rattle.node.specs.Model.{Epoch}
use Rattle.node.specs.Model.{Node}
use Rattle.node.specs.declared.Phase.{Phase}
use Rattle.node.specs.declared.Packet.{Packet}
use Rattle.node.specs.Answers.{Answer}
use Rattle.node.specs.Answers.{Done, WrongPhase, OwnPacket, TwoRequests}

-- lines 5 to 8: both versions are v, M' is M, R' has the own request and no other, C_r is empty
unfoldable pub opened : ℕ → ℕ → ℕ → ℕ → Round
opened node v flags request = record { merged = flags; known = only node request; lowest = v; highest = v; heard = 0 }

-- line 10: the packet (i, lowest, highest, M', R')
unfoldable pub packet_of : Node → Packet
packet_of n = record {
  sender = n.setup.node;
  lowest = n.round.lowest;
  highest = n.round.highest;
  flags = n.round.merged;
  requests = n.round.known;
}

-- line 16: M' has the sender, and the packet's flags have the hearer
unfoldable pub merges : Node → Packet → Bool
merges n q = is_in n.round.merged q.sender && is_in q.flags n.setup.node

-- line 14: whoever has a request in the packet enters C_r
unfoldable pub noted : Round → Packet → Round
noted r q = record {
  merged = r.merged;
  known = r.known;
  lowest = r.lowest;
  highest = r.highest;
  heard = Bits.bit_or r.heard (requesters q.requests);
}

-- lines 14 and 19 to 21: C_r as before; versions, R' and M' are merged
unfoldable pub joined : Round → Packet → Round
joined r q =
    record {
      merged = Bits.bit_or r.merged q.flags;
      known = union r.known q.requests;
      lowest = min r.lowest q.lowest;
      highest = max r.highest q.highest;
      heard = Bits.bit_or r.heard (requesters q.requests);
    }

-- line 18: those nodes also enter I_e
unfoldable pub interacted : Epoch → Packet → Epoch
interacted e q = record {
  counters = e.counters;
  interactions = Bits.bit_or e.interactions (requesters q.requests);
  place = e.place;
  updated = e.updated;
  determined = e.determined;
}

-- a node with another round, epoch and phase, and all else as it was
abbrev pub moved : Node → Round → Epoch → Phase → Node
moved n r e p = record {
  setup = n.setup;
  version = n.version;
  schedule = n.schedule;
  demand = n.demand;
  request = n.request;
  flags = n.flags;
  round = r;
  epoch = e;
  phase = p;
}

-- and in the same phase
abbrev pub within : Node → Round → Epoch → Node
within n r e = moved n r e n.phase

-- lines 12 to 21
unfoldable pub heard_node : Node → Packet → Node
heard_node n q = cond (merges n q) (within n (joined n.round q) (interacted n.epoch q)) (within n (noted n.round q) n.epoch)

-- refused as 4 outside negotiation: a send, a hear, a close
abbrev pub in_negotiation : Phase → Answer
in_negotiation p = cond (negotiates p) Done WrongPhase

unfoldable pub send_answer : Node → Answer
send_answer n = in_negotiation n.phase

-- 4; 9 for an own packet; 13 for a merge with two requests of one node
unfoldable pub hear_answer : Node → Packet → Answer
hear_answer n q =
    cond (negotiates n.phase)
    (cond (eqb q.sender n.setup.node) OwnPacket
    (cond (merges n q && not (agree n.round.known q.requests)) TwoRequests Done))
    WrongPhase
