-- Refusals 11, 12 and 13 in a list of events: there are none. What lies in the area for a packet of the phase is what a node of the site
-- sent, and within a round no node is known with two requests; so a live node that hears a packet of the phase answers 0, or 9 to its own.
-- Assumes nothing.
use Rattle.std.specs.Prelude.{◌≡◌, not, cond, List, ℕ, eqb, ltb, length}
use Rattle.node.specs.Answers.{Answer}
use Rattle.node.specs.Answers.{Done, NoSuchNode, WrongPhase, NotLive, NoSuchPacket, OwnPacket, NoRoom}
use Rattle.wire.specs.Layout.{packet_in}
use Rattle.site.specs.Members.{header_of, member_at, outside, is_live}
use Rattle.site.specs.Parts.{packet_part}
use Rattle.site.specs.Load.{load_answer}
use Rattle.site.specs.Answers.{area_size, is_packet, answer_of}
use Rattle.site.specs.Run.{RunState, run}
use Rattle.node.specs.declared.Config.{Config}
use Rattle.site.specs.declared.Table.{Table}
use Rattle.site.specs.declared.Event.{Event}
use Rattle.site.specs.declared.Event.TheVariants.{Hear}
use Rattle.histories.specs.Reached.{begin}

-- who sent the packet of number p, by the bytes in its part
abbrev pub sender_of : RunState → ℕ → ℕ
sender_of w p = (packet_in (packet_part (header_of w.site) w.area p)).sender

-- an answer to a hearing that looks at no byte of the packet but its sender: 15, 3, 4, 5, 8, 9, or 0
abbrev pub plain_hear : RunState → ℕ → ℕ → Answer
plain_hear w j p =
    let s = w.site in
    cond (ltb (length w.area) area_size) NoRoom
    (cond (outside s.config j) NoSuchNode
    (cond (not s.negotiates) WrongPhase
    (cond (not (is_live (member_at s j))) NotLive
    (cond (not (is_packet (header_of s) p)) NoSuchPacket
    (cond (eqb (sender_of w p) j) OwnPacket Done)))))

-- the law's statement, over every list of events from an accepted table: proved in proofs/Once.antt
pub record HeardOnce : Type 0 where
  pub hears : (f : Config) (t : Table) → load_answer f t ≡ Done → (area : List ℕ) (es : List Event) (j p : ℕ)
      → answer_of (run (begin f t area) es).site (run (begin f t area) es).area (Hear j p) ≡ plain_hear (run (begin f t area) es) j p
