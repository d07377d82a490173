-- Specification, 9 Refusals: what is answered to each event, by its order there.
-- Assumes nothing.
use Rattle.std.specs.Prelude.{Bool, not, cond, ◌&&◌, ◌||◌, List, ℕ, ltb, leb, length}
use Rattle.allotment.specs.Allotment.{top_request}
use Rattle.node.specs.Answers.{is_done}
use Rattle.node.specs.Figures.{flags_ok, sending}
use Rattle.node.specs.Negotiation.{send_answer, hear_answer}
use Rattle.node.specs.Distribution.{take_answer}
use Rattle.node.specs.Answers.{Answer}
use Rattle.node.specs.Answers.{Done, OutOfRange, NoSuchNode, WrongPhase, NotLive, NotDown, TooManyPackets}
use Rattle.node.specs.Answers.{NoSuchPacket, WrongSender, NoRoom}
use Rattle.wire.specs.Layout.{packet_in}
use Rattle.wire.specs.Reads.{packet_answer}
use Rattle.site.specs.Counts.{top_sent, sent_of, packets}
use Rattle.site.specs.Members.{setup_of, header_of, member_at, outside, is_live}
use Rattle.site.specs.Parts.{packet_part}
use Rattle.site.specs.declared.SiteHeader.{SiteHeader}
use Rattle.site.specs.Model.{Member}
use Rattle.site.specs.Model.{Site}
use Rattle.site.specs.declared.Event.{Event}
use Rattle.site.specs.declared.Event.TheVariants.{Send, Hear, Close, Take, End, Want, Crash, Restart}

-- the bytes of the lent area: 256 packets
abbrev pub area_size : ℕ
area_size = 11520

-- whether node j has sent its 8 packets of this phase; what the others have sent makes no difference
abbrev pub is_full : SiteHeader → ℕ → Bool
is_full k j = leb top_sent (sent_of k.sent j)

-- whether p is the number of a packet of this phase, from 1
abbrev pub is_packet : SiteHeader → ℕ → Bool
is_packet k p = leb 1 p && leb p (packets k.sent)

-- The answers to an event of node j, whose member is m.
-- 3, 4, 5, 7
abbrev pub answer_send : SiteHeader → Member → ℕ → Answer
answer_send k m j =
    cond (outside k.config j) NoSuchNode
    (cond (not k.negotiates) WrongPhase
    (cond (not (is_live m)) NotLive
    (cond (is_full k j) TooManyPackets
    (send_answer m.node))))

-- the bytes found in the packet's part, as bytes off the air: 12, then the node's own 9 and 13
unfoldable pub answer_part : SiteHeader → Member → List ℕ → Answer
answer_part k m part =
    cond (is_done (packet_answer k.config.nodes part))
    (hear_answer m.node (packet_in part))
    (packet_answer k.config.nodes part)

-- 3, 4, 5, 8, then the part's: the bytes of packet p, wherever they lie
abbrev pub answer_heard : SiteHeader → List ℕ → Member → ℕ → ℕ → Answer
answer_heard k part m j p =
    cond (outside k.config j) NoSuchNode
    (cond (not k.negotiates) WrongPhase
    (cond (not (is_live m)) NotLive
    (cond (not (is_packet k p)) NoSuchPacket
    (answer_part k m part))))

abbrev pub answer_hear : SiteHeader → List ℕ → Member → ℕ → ℕ → Answer
answer_hear k area m j p = answer_heard k (packet_part k area p) m j p

-- 3, 4, 5 of either node; 10 where the taker sends or the sender doesn't; o is the member of the sender i
abbrev pub answer_take : SiteHeader → Member → ℕ → Member → ℕ → Answer
answer_take k m j o i =
    cond (outside k.config j || outside k.config i) NoSuchNode
    (cond k.negotiates WrongPhase
    (cond (not (is_live m) || not (is_live o)) NotLive
    (cond (sending m.node.phase || not (sending o.node.phase)) WrongSender
    (take_answer m.node))))

-- 2, 3, 5 where the node is down
abbrev pub answer_want : SiteHeader → Member → ℕ → ℕ → Answer
answer_want k m j d = cond (ltb top_request d) OutOfRange (cond (outside k.config j) NoSuchNode (cond m.up Done NotLive))

-- 3, 5 where the node is down
abbrev pub answer_crash : SiteHeader → Member → ℕ → Answer
answer_crash k m j = cond (outside k.config j) NoSuchNode (cond m.up Done NotLive)

-- 2 on the flags, 3, 6 where the node isn't down
abbrev pub answer_restart : SiteHeader → Member → ℕ → ℕ → Answer
answer_restart k m j flags =
    cond (flags_ok (setup_of k.config j) flags) (cond (outside k.config j) NoSuchNode (cond m.up NotDown Done)) OutOfRange

-- The answers of a site: close and end are an event of all nodes.
unfoldable pub site_send : Site → ℕ → Answer
site_send s j = answer_send (header_of s) (member_at s j) j

unfoldable pub site_hear : Site → List ℕ → ℕ → ℕ → Answer
site_hear s area j p = answer_hear (header_of s) area (member_at s j) j p

-- 4
unfoldable pub site_close : Site → Answer
site_close s = cond s.negotiates Done WrongPhase

unfoldable pub site_take : Site → ℕ → ℕ → Answer
site_take s j i = answer_take (header_of s) (member_at s j) j (member_at s i) i

-- 4
unfoldable pub site_end : Site → Answer
site_end s = cond s.negotiates WrongPhase Done

unfoldable pub site_want : Site → ℕ → ℕ → Answer
site_want s j d = answer_want (header_of s) (member_at s j) j d

unfoldable pub site_crash : Site → ℕ → Answer
site_crash s j = answer_crash (header_of s) (member_at s j) j

unfoldable pub site_restart : Site → ℕ → ℕ → Answer
site_restart s j flags = answer_restart (header_of s) (member_at s j) j flags

-- the answer to an event
abbrev pub event_answer : Site → List ℕ → Event → Answer
event_answer s area (Send j) = site_send s j
event_answer s area (Hear j p) = site_hear s area j p
event_answer s area Close = site_close s
event_answer s area (Take j i) = site_take s j i
event_answer s area End = site_end s
event_answer s area (Want j d) = site_want s j d
event_answer s area (Crash j) = site_crash s j
event_answer s area (Restart j flags) = site_restart s j flags

-- 15 for an area under 11,520 bytes, before anything else
unfoldable pub answer_of : Site → List ℕ → Event → Answer
answer_of s area e = cond (ltb (length area) area_size) NoRoom (event_answer s area e)
