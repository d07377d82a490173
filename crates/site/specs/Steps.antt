-- What an accepted event makes of a site and of the packet area (specification, 7 Script and 5 Bytes on the air).
-- Assumes nothing.
use Rattle.std.specs.Prelude.{true, false, cond, List, map, ℕ, ◌+◌}
use Rattle.node.specs.Answers.{is_done}
use Rattle.node.specs.Figures.{is_last}
use Rattle.node.specs.Negotiation.{packet_of, heard_node}
use Rattle.node.specs.Distribution.{sent_by, taken_node}
use Rattle.node.specs.Begin.{waiting}
use Rattle.node.specs.Steps.{close_outcome, end_outcome, wanted_node}
use Rattle.node.specs.declared.Packet.{Packet}
use Rattle.wire.specs.Layout.{packet_in}
use Rattle.wire.specs.Reads.{placed, has_part}
use Rattle.site.specs.Counts.{none_sent, one_more}
use Rattle.site.specs.Members.{setup_of, header_of, member_at, is_live, with_node, down_member, put}
use Rattle.site.specs.Parts.{next_index, packet_part}
use Rattle.site.specs.Answers.{answer_of}
use Rattle.site.specs.declared.SiteHeader.{SiteHeader}
use Rattle.site.specs.Model.{Member}
use Rattle.site.specs.Model.{Site}
use Rattle.site.specs.declared.Event.{Event}
use Rattle.site.specs.declared.Event.TheVariants.{Send, Hear, Close, Take, End, Want, Crash, Restart}

-- node j has sent one more packet
unfoldable pub sent_site : Site → ℕ → Site
sent_site s j = record {
  config = s.config;
  negotiates = s.negotiates;
  place = s.place;
  sent = one_more s.sent j;
  members = s.members;
}

-- a packet in the part of an index, and no other byte changed; an area without that part stays as it was, which no list of events comes to
-- (crates/histories, Counted)
abbrev pub stored : List ℕ → ℕ → Packet → List ℕ
stored area index p = cond (has_part area index) (placed area index p) area

-- the new packet in its own part
unfoldable pub sent_area : Site → List ℕ → ℕ → List ℕ
sent_area s area j = stored area (next_index (header_of s)) (packet_of (member_at s j).node)

-- a member that has heard the packet of a part
abbrev pub heard_member : List ℕ → Member → Member
heard_member part m = with_node m (heard_node m.node (packet_in part))

unfoldable pub heard_site : Site → List ℕ → ℕ → ℕ → Site
heard_site s area j p = put s j (heard_member (packet_part (header_of s) area p) (member_at s j))

-- a close acts on a live node
abbrev pub close_member : Member → Member
close_member m = cond (is_live m) (with_node m (close_outcome m.node)) m

-- close acts on all live nodes; the packets lapse, and every count is 0 again
unfoldable pub closed_site : Site → Site
closed_site s = record {
  config = s.config;
  negotiates = false;
  place = s.place;
  sent = none_sent;
  members = map close_member s.members;
}

-- a member that has taken the version and schedule of the sender o
abbrev pub taken_member : Member → Member → Member
taken_member m o = with_node m (taken_node m.node (sent_by o.node))

unfoldable pub taken_site : Site → ℕ → ℕ → Site
taken_site s j i = put s j (taken_member (member_at s j) (member_at s i))

-- an end acts on a live node, and counts for a waiting one
abbrev pub end_member : Member → Member
end_member m = cond m.up (with_node m (end_outcome m.node)) m

-- the place goes on also when no node is live
abbrev pub place_after : Site → ℕ
place_after s = cond (is_last s.config s.place) 0 (s.place + 1)

unfoldable pub ended_site : Site → Site
ended_site s = record {
  config = s.config;
  negotiates = true;
  place = place_after s;
  sent = none_sent;
  members = map end_member s.members;
}

-- a member with another demand
abbrev pub wanted_member : Member → ℕ → Member
wanted_member m d = with_node m (wanted_node m.node d)

unfoldable pub wanted_site : Site → ℕ → ℕ → Site
wanted_site s j d = put s j (wanted_member (member_at s j) d)

-- all is lost
unfoldable pub crashed_site : Site → ℕ → Site
crashed_site s j = put s j (down_member s.config j)

-- a restarted node waits until the epoch is over, with the flags of its restart; its demand is 0
abbrev pub restarted_member : SiteHeader → ℕ → ℕ → Member
restarted_member k j flags = record { up = true; node = waiting (setup_of k.config j) flags k.place 0 }

unfoldable pub restarted_site : Site → ℕ → ℕ → Site
restarted_site s j flags = put s j (restarted_member (header_of s) j flags)

-- the site after an accepted event
abbrev pub next_site : Site → List ℕ → Event → Site
next_site s area (Send j) = sent_site s j
next_site s area (Hear j p) = heard_site s area j p
next_site s area Close = closed_site s
next_site s area (Take j i) = taken_site s j i
next_site s area End = ended_site s
next_site s area (Want j d) = wanted_site s j d
next_site s area (Crash j) = crashed_site s j
next_site s area (Restart j flags) = restarted_site s j flags

-- the packet area after an accepted event
abbrev pub next_area : Site → List ℕ → Event → List ℕ
next_area s area (Send j) = sent_area s area j
next_area s area (Hear j p) = area
next_area s area Close = area
next_area s area (Take j i) = area
next_area s area End = area
next_area s area (Want j d) = area
next_area s area (Crash j) = area
next_area s area (Restart j flags) = area

-- a refused call changes nothing
unfoldable pub site_after : Site → List ℕ → Event → Site
site_after s area e = cond (is_done (answer_of s area e)) (next_site s area e) s

unfoldable pub area_after : Site → List ℕ → Event → List ℕ
area_after s area e = cond (is_done (answer_of s area e)) (next_area s area e) area
