-- What a node does at its place in storage: the packet that it sends, its answer to one, and what a hear, a want and a take write.
-- Assumes nothing.
use Rattle.std.specs.Prelude.{Bool, cond, ◌||◌, ℕ, ◌-◌, replicate}
use Rattle.node.specs.Negotiation.{packet_of, hear_answer, heard_node}
use Rattle.node.specs.Answers.{Answer, NoSuchNode}
use Rattle.node.specs.declared.Packet.{Packet}
use Rattle.site.specs.Members.{outside, with_node}
use Rattle.machine.specs.Layout.{Store, too_short, config_in, node_in, stored_in}
use Rattle.machine.specs.Written.{written_front, demanded, taken_at}

-- storage that is too short, or a number of none of the N nodes: such a node has no packet, hears as no node does, and writes nothing
abbrev pub no_node_at : Store → ℕ → Bool
no_node_at s j = too_short s || outside (config_in s) j

abbrev pub no_packet : Packet
no_packet = record { sender = 0; lowest = 0; highest = 0; flags = 0; requests = replicate 32 0 }

unfoldable pub packet_sent : Store → ℕ → Packet
packet_sent s j = cond (no_node_at s j) no_packet (packet_of (node_in s (j - 1)))

unfoldable pub hear_read : Store → ℕ → Packet → Answer
hear_read s j q = cond (no_node_at s j) NoSuchNode (hear_answer (node_in s (j - 1)) q)

-- a hear moves no schedule, and a want nothing but the demand
unfoldable pub heard_put : Store → ℕ → Packet → Store
heard_put s j q = cond (no_node_at s j) s (written_front s (j - 1) (with_node (stored_in s (j - 1)) (heard_node (node_in s (j - 1)) q)))

unfoldable pub wanted_put : Store → ℕ → ℕ → Store
wanted_put s j d = cond (no_node_at s j) s (demanded s (j - 1) d)

unfoldable pub taken_put : Store → ℕ → ℕ → Store
taken_put s j g = cond (no_node_at s j || no_node_at s g) s (taken_at s (j - 1) (g - 1))
