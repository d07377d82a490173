-- Specification, 5 Bytes on the air: what is accepted, and the refusals 11 and 12.
-- Assumes nothing.
use Rattle.std.specs.Prelude.{Bool, not, cond, ◌&&◌, List, Result, ℕ, ◌+◌, ◌*◌, ◌^◌, eqb, ltb, leb, length}
use Rattle.words.specs.Bits.{is_in}
use Rattle.lists.specs.Bytes.{span, written}
use Rattle.membership.specs.requests.Requests.{entry_of, requests_within, none}
use Rattle.node.specs.Figures.{top_version}
use Rattle.range.specs.Range.{schedule_ok}
use Rattle.node.specs.declared.Setup.{Setup}
use Rattle.node.specs.declared.Packet.{Packet}
use Rattle.node.specs.Model.{Versioned}
use Rattle.node.specs.Answers.{Answer, answered}
use Rattle.node.specs.Answers.{Done, WrongLength, BadContents}
use Rattle.wire.specs.Layout.{packet_size, schedule_size, packet_bytes, packet_in, schedule_in}
use Rattle.node.specs.declared.Refusal.{Refusal}

-- the sender is 1 to N and has a flag and a request; lowest ≤ highest ≤ the top version; no flag from N up; no request without its flag
unfoldable pub packet_ok : ℕ → Packet → Bool
packet_ok N p =
    leb p.sender N
    && ((leb p.lowest p.highest && leb p.highest top_version)
    && ((ltb p.flags (2 ^ N) && is_in p.flags p.sender)
    && (requests_within p.requests p.flags && not (eqb (entry_of p.requests p.sender) none))))

-- 11 for another length, 12 for contents that break the layout
abbrev pub read_answer : Bool → Bool → Answer
read_answer sized good = cond sized (cond good Done BadContents) WrongLength

unfoldable pub packet_answer : ℕ → List ℕ → Answer
packet_answer N l = read_answer (eqb (length l) packet_size) (packet_ok N (packet_in l))

-- the packet in bytes that were accepted
abbrev pub packet_read : ℕ → List ℕ → Result Packet Refusal
packet_read N l = answered (packet_answer N l) (packet_in l)

-- each owner is 0 to N; a slot beyond K is free, and so is every slot at version 0
unfoldable pub versioned_ok : Setup → Versioned → Bool
versioned_ok s v = leb v.version top_version && schedule_ok v.schedule (ltb 0 v.version) s

unfoldable pub schedule_answer : Setup → List ℕ → Answer
schedule_answer s l = read_answer (eqb (length l) schedule_size) (versioned_ok s (schedule_in l))

-- the part of an area that the packet of an index has to itself
abbrev pub part_of : List ℕ → ℕ → List ℕ
part_of area index = span area (packet_size * index) packet_size

-- an area with a packet in its own part, and every other byte as it was
abbrev pub placed : List ℕ → ℕ → Packet → List ℕ
placed area index p = written area (packet_size * index) (packet_bytes p)

-- whether an area has the whole part of an index
abbrev pub has_part : List ℕ → ℕ → Bool
has_part area index = leb (packet_size * index + packet_size) (length area)
