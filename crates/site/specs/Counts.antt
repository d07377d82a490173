-- What is counted of the packets of a phase (specification, 5 Bytes on the air and 9 Refusals): for each node, how many it has sent.
-- The 32 counts stand in a list, that of node j at index j - 1. Packets are numbered from 1 in the order in which they are sent, whoever
-- sends them.
-- Assumes nothing.
use Rattle.std.specs.Prelude.{List, ℕ, ◌+◌, ◌-◌, get_or, set, replicate}
use Rattle.allotment.specs.Allotment.{total}

-- the packets that one node may send in a phase, and those of 32 nodes
abbrev pub top_sent : ℕ
top_sent = 8

abbrev pub top_packets : ℕ
top_packets = 256

-- the packets that node j has sent in this phase
abbrev pub sent_of : List ℕ → ℕ → ℕ
sent_of l j = get_or l (j - 1) 0

-- the packets of this phase, all nodes together
abbrev pub packets : List ℕ → ℕ
packets l = total l

-- nobody has sent one
abbrev pub none_sent : List ℕ
none_sent = replicate 32 0

-- node j has sent one more, and no other count changes
abbrev pub one_more : List ℕ → ℕ → List ℕ
one_more l j = set l (j - 1) (sent_of l j + 1)
