-- A site by its outline, with the packets of the phase by theirs: the answer to each event that is no want, what an accepted one makes
-- of it, and what its nodes report. Nothing here reads a demand, a request or a schedule.
-- Assumes nothing.
use mathlib.Core.Bool.{Bool, true, false, not, cond, ◌&&◌, ◌||◌}
use mathlib.Core.List.{List, [], ◌∷◌, ◌++◌, map}
use Prim.Native.Nat.{ℕ, ◌+◌, ◌-◌}
use lib.Dec.{eqb, leb, ltb}
use lib.ListN.{get_or, set, length}
use Rattle.lists.specs.All.{tab}
use Rattle.node.specs.Answers.{is_done}
use Rattle.node.specs.Figures.{is_last, flags_ok, is_waiting, sending}
use Rattle.node.specs.Negotiation.{in_negotiation}
use Rattle.node.specs.Distribution.{may_take}
use Rattle.node.specs.Begin.{waiting}
use Rattle.node.specs.declared.Packet.{Packet}
use Rattle.node.specs.Answers.{Answer}
use Rattle.node.specs.Answers.{Done, OutOfRange, NoSuchNode, WrongPhase, NotLive, NotDown, TooManyPackets}
use Rattle.node.specs.Answers.{NoSuchPacket, OwnPacket, WrongSender, NoRoom}
use Rattle.site.specs.Counts.{top_sent, sent_of, packets, none_sent, one_more}
use Rattle.site.specs.Members.{nobody, setup_of, outside, down_member}
use Rattle.site.specs.Answers.{area_size}
use Rattle.site.specs.Events.{is_close}
use Rattle.node.specs.declared.Config.{Config}
use Rattle.site.specs.Model.{Site}
use Rattle.site.specs.declared.Event.{Event}
use Rattle.site.specs.declared.Event.TheVariants.{Send, Hear, Close, Take, End, Want, Crash, Restart}
use Rattle.machine.specs.reports.Reports.{closes_with}
use Rattle.std.specs.Prelude.{Option, Some, None}
use Rattle.node.specs.declared.Ground.{Ground}
use Rattle.machine.specs.declared.Report.{Report}
use Rattle.histories.proofs.Sound.{no_packet}
use Rattle.node.specs.Outline.{outline_of}
use Rattle.wants.specs.Outline.{MemberOutline, member_outline, SiteOutline, site_outline}
use Rattle.wants.specs.Wants.{is_want, prepended_if}
use Rattle.node.proofs.Outline.{PacketOutline, packet_outline, sent_outline, heard_outline, close_by, taken_outline, end_by, ground_by}

-- the outline of a site, those of the packets of the phase, and whether the area is too short
pub record Scene : Type 0 where
  pub site : SiteOutline
  pub air : List PacketOutline
  pub short : Bool

abbrev pub scene_of : Site → List ℕ → List Packet → Scene
scene_of s area air = record { site = site_outline s; air = map packet_outline air; short = ltb (length area) area_size }

abbrev pub member_in : SiteOutline → ℕ → MemberOutline
member_in s j = get_or s.members (j - 1) (member_outline nobody)

abbrev pub packet_at : Scene → ℕ → PacketOutline
packet_at c p = get_or c.air (p - 1) (packet_outline no_packet)

abbrev pub live_by : MemberOutline → Bool
live_by m = m.up && not (is_waiting m.node.phase)

-- Answers

abbrev pub send_by : SiteOutline → ℕ → MemberOutline → Answer
send_by s j m =
    cond (outside s.config j) NoSuchNode
    (cond (not s.negotiates) WrongPhase
    (cond (not (live_by m)) NotLive
    (cond (leb top_sent (sent_of s.sent j)) TooManyPackets
    (in_negotiation m.node.phase))))

-- the sender of packet p is all that is read of it
abbrev pub hear_by : SiteOutline → ℕ → ℕ → MemberOutline → ℕ → Answer
hear_by s j p m sender =
    cond (outside s.config j) NoSuchNode
    (cond (not s.negotiates) WrongPhase
    (cond (not (live_by m)) NotLive
    (cond (not (leb 1 p && leb p (packets s.sent))) NoSuchPacket
    (cond (eqb sender j) OwnPacket Done))))

abbrev pub take_by : SiteOutline → ℕ → ℕ → MemberOutline → MemberOutline → Answer
take_by s j i m o =
    cond (outside s.config j || outside s.config i) NoSuchNode
    (cond s.negotiates WrongPhase
    (cond (not (live_by m) || not (live_by o)) NotLive
    (cond (sending m.node.phase || not (sending o.node.phase)) WrongSender
    (may_take m.node.phase))))

abbrev pub crash_by : SiteOutline → ℕ → MemberOutline → Answer
crash_by s j m = cond (outside s.config j) NoSuchNode (cond m.up Done NotLive)

abbrev pub restart_by : SiteOutline → ℕ → ℕ → MemberOutline → Answer
restart_by s j flags m =
    cond (flags_ok (setup_of s.config j) flags) (cond (outside s.config j) NoSuchNode (cond m.up NotDown Done)) OutOfRange

-- of a want nothing is said here: Done stands in
abbrev event_by : Scene → Event → Answer
event_by c (Send j) = send_by c.site j (member_in c.site j)
event_by c (Hear j p) = hear_by c.site j p (member_in c.site j) (packet_at c p).sender
event_by c Close = cond c.site.negotiates Done WrongPhase
event_by c (Take j i) = take_by c.site j i (member_in c.site j) (member_in c.site i)
event_by c End = cond c.site.negotiates WrongPhase Done
event_by c (Want j d) = Done
event_by c (Crash j) = crash_by c.site j (member_in c.site j)
event_by c (Restart j flags) = restart_by c.site j flags (member_in c.site j)

abbrev pub answer_by : Scene → Event → Answer
answer_by c e = cond c.short NoRoom (event_by c e)

-- Steps

abbrev pub put_by : SiteOutline → ℕ → MemberOutline → SiteOutline
put_by s j m =
    record { config = s.config; negotiates = s.negotiates; place = s.place; sent = s.sent; members = set s.members (j - 1) m }

abbrev pub heard_member_by : MemberOutline → PacketOutline → MemberOutline
heard_member_by m q = record { up = m.up; node = heard_outline m.node q }

abbrev pub taken_member_by : MemberOutline → MemberOutline → MemberOutline
taken_member_by m o = record { up = m.up; node = taken_outline m.node o.node.version }

abbrev pub close_member_by : MemberOutline → MemberOutline
close_member_by m = cond (live_by m) (record { up = m.up; node = close_by m.node }) m

abbrev pub end_member_by : MemberOutline → MemberOutline
end_member_by m = cond m.up (record { up = m.up; node = end_by m.node }) m

abbrev pub restarted_by : Config → ℕ → ℕ → ℕ → MemberOutline
restarted_by f place j flags = record { up = true; node = outline_of (waiting (setup_of f j) flags place 0) }

abbrev pub sent_by : SiteOutline → ℕ → SiteOutline
sent_by s j =
    record { config = s.config; negotiates = s.negotiates; place = s.place; sent = one_more s.sent j; members = s.members }

abbrev pub closed_by : SiteOutline → SiteOutline
closed_by s =
    record { config = s.config; negotiates = false; place = s.place; sent = none_sent; members = map close_member_by s.members }

abbrev pub ended_by : SiteOutline → SiteOutline
ended_by s =
    record {
      config = s.config;
      negotiates = true;
      place = cond (is_last s.config s.place) 0 (s.place + 1);
      sent = none_sent;
      members = map end_member_by s.members;
    }

-- with another site, and the same packets
abbrev pub with_site : Scene → SiteOutline → Scene
with_site c s = record { site = s; air = c.air; short = c.short }

-- after an accepted event; a want changes nothing here
abbrev pub next_by : Scene → Event → Scene
next_by c (Send j) = record { site = sent_by c.site j; air = c.air ++ (sent_outline (member_in c.site j).node ∷ []); short = c.short }
next_by c (Hear j p) = with_site c (put_by c.site j (heard_member_by (member_in c.site j) (packet_at c p)))
next_by c Close = record { site = closed_by c.site; air = []; short = c.short }
next_by c (Take j i) = with_site c (put_by c.site j (taken_member_by (member_in c.site j) (member_in c.site i)))
next_by c End = record { site = ended_by c.site; air = []; short = c.short }
next_by c (Want j d) = c
next_by c (Crash j) = with_site c (put_by c.site j (member_outline (down_member c.site.config j)))
next_by c (Restart j flags) = with_site c (put_by c.site j (restarted_by c.site.config c.site.place j flags))

abbrev pub after_by : Scene → Event → Scene
after_by c e = cond (is_done (answer_by c e)) (next_by c e) c

-- Reports

unfoldable pub told_for : Bool → MemberOutline → Option Ground
told_for accepted m = cond (accepted && live_by m) (Some (ground_by m.node)) None

unfoldable pub report_for : Bool → List MemberOutline → Report
report_for accepted ms = record { nodes = tab 32 (λ i. told_for accepted (get_or ms i (member_outline nobody))) }

abbrev pub report_in : Scene → Event → Report
report_in c e = report_for (closes_with e (answer_by c e)) c.site.members

-- Lists of events

unfoldable pub scene_after : Scene → List Event → Scene
scene_after c [] = c
scene_after c (e ∷ es) = scene_after (after_by c e) es

unfoldable pub reports_in : Scene → List Event → List Report
reports_in c [] = []
reports_in c (e ∷ es) = prepended_if (is_close e) (report_in c e) (reports_in (after_by c e) es)

unfoldable pub answers_in : Scene → List Event → List Answer
answers_in c [] = []
answers_in c (e ∷ es) = prepended_if (not (is_want e)) (answer_by c e) (answers_in (after_by c e) es)
