-- 256 packets from 32 nodes fit: over every list of events from an accepted table no node has sent more than 8 packets in a phase, and the
-- area has the part of every packet that is sent.
-- Assumes nothing.
use Rattle.std.specs.Prelude.{◌≡◌, true, List, ℕ, ◌≤◌}
use Rattle.node.specs.Negotiation.{packet_of}
use Rattle.node.specs.Answers.{Done}
use Rattle.wire.specs.Reads.{placed, has_part}
use Rattle.site.specs.Counts.{top_sent, top_packets, sent_of, packets}
use Rattle.site.specs.Members.{header_of, member_at}
use Rattle.site.specs.Parts.{next_index}
use Rattle.site.specs.Load.{load_answer}
use Rattle.site.specs.Answers.{answer_of}
use Rattle.site.specs.Steps.{area_after}
use Rattle.site.specs.Run.{RunState, run}
use Rattle.node.specs.declared.Config.{Config}
use Rattle.site.specs.declared.Table.{Table}
use Rattle.site.specs.declared.Event.{Event}
use Rattle.site.specs.declared.Event.TheVariants.{Send}
use Rattle.histories.specs.Reached.{begin}

-- the packet of a send lies behind those sent before it, in a part that the area has, and no other byte changes
pub record Lies (w : RunState) (j : ℕ) : Type 0 where
  pub part : has_part w.area (next_index (header_of w.site)) ≡ true
  pub area : area_after w.site w.area (Send j) ≡ placed w.area (next_index (header_of w.site))
      (packet_of (member_at w.site j).node)

-- at most 8 packets of each node, 256 of all, and each accepted send's in its own part
pub record Room (w : RunState) : Type 0 where
  pub each : (j : ℕ) → sent_of w.site.sent j ≤ top_sent
  pub all : packets w.site.sent ≤ top_packets
  pub lies : (j : ℕ) → answer_of w.site w.area (Send j) ≡ Done → Lies w j

-- the law's statement: proved in proofs/Counted.antt
pub record Counted : Type 0 where
  pub room : (f : Config) (t : Table) → load_answer f t ≡ Done → (area : List ℕ) (es : List Event) → Room (run (begin f t area) es)
