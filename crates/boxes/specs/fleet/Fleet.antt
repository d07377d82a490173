-- Boxes in the field. Each has a node area of its own and makes the C calls on it; what one box sends reaches another as bytes.
-- The eight events act through the definitions of the C calls alone (crates/host, specs/Calls.antt). What the host program must test itself
-- is named under "The answers".
-- Assumes nothing.
use Rattle.std.specs.Prelude.{Bool, true, false, not, cond, ◌&&◌, ◌||◌, List, [], ◌∷◌, ◌++◌, ℕ, ◌+◌, ◌-◌, eqb, ltb, leb, length, get_or, replicate}
use Rattle.lists.specs.Bytes.{word32, window, span}
use Rattle.allotment.specs.Allotment.{top_request}
use Rattle.node.specs.Answers.{is_done}
use Rattle.node.specs.Figures.{flags_ok, is_last}
use Rattle.node.specs.Answers.{Answer}
use Rattle.node.specs.Answers.{Done, OutOfRange, NoSuchNode, WrongPhase, NotLive, NotDown, TooManyPackets}
use Rattle.node.specs.Answers.{NoSuchPacket, WrongSender}
use Rattle.wire.specs.Layout.{packet_size, schedule_size}
use Rattle.area.specs.Area.{node_size}
use Rattle.host.specs.Report.{report_size}
use Rattle.host.specs.Calls.{after_begin, restarting, after_restart, sending_of, out_send, hearing_of, after_hear, ground_size, after_close}
use Rattle.host.specs.Calls.{out_close, taking_of, after_take, after_end, wanting_of, after_want, out_read, slots_size, out_slots}
use Rattle.site.specs.Counts.{top_sent, sent_of, none_sent, one_more}
use Rattle.site.specs.Members.{setup_of, outside}
use Rattle.site.specs.Load.{no_row}
use Rattle.node.specs.declared.Config.{Config}
use Rattle.site.specs.declared.Row.{Row}
use Rattle.site.specs.declared.Table.{Table}
use Rattle.site.specs.declared.Event.{Event}
use Rattle.site.specs.declared.Event.TheVariants.{Send, Hear, Close, Take, End, Want, Crash, Restart}

-- a box: whether it is up, its node area, and the 84 bytes that it lends to its closes
pub record Box : Type 0 where
  pub up : Bool
  pub area : List ℕ
  pub out : List ℕ

-- N, K and F; the shared clock, its phase and its place f; the packets sent in this phase, in order, each as its bytes; how many of them
-- each box has sent; and the box of each number
pub record Fleet : Type 0 where
  pub config : Config
  pub negotiates : Bool
  pub place : ℕ
  pub air : List (List ℕ)
  pub sent : List ℕ
  pub boxes : ℕ → Box

-- an event; and, if it is a crash, the bytes that it leaves in the box's memory, whatever they are
pub record Act : Type 0 where
  pub event : Event
  pub left : List ℕ

-- an output lent to a call; what it held before makes no difference (`Plain` in Claim.antt)
abbrev pub zeros : ℕ → List ℕ
zeros n = replicate n 0

-- What the host program knows of a box: `hydra_read` writes 96 bytes. Version 4, 80 owners, flags 4, place 4, demand, request, phase, mark

abbrev pub reading : Box → List ℕ
reading b = out_read b.area (zeros report_size)

abbrev pub version_in : List ℕ → ℕ
version_in r = word32 r 0

abbrev pub box_owners : List ℕ → List ℕ
box_owners r = span r 4 80

-- the owner of the slot at index k
abbrev pub slot_in : List ℕ → ℕ → ℕ
slot_in r k = get_or (box_owners r) k 0

abbrev pub request_in : List ℕ → ℕ
request_in r = get_or r 93 0

-- 0 negotiation, 1 distribution without sending, 2 distribution and sending, 3 waiting
abbrev pub box_phase : List ℕ → ℕ
box_phase r = get_or r 94 0

-- and `hydra_slots` writes 3 numbers: the box's own slots as two words, and how many they are
abbrev pub box_slots : Box → List ℕ
box_slots b = out_slots b.area (zeros slots_size)

-- a packet's first byte
abbrev pub sender_in : List ℕ → ℕ
sender_in q = get_or q 0 0

-- live: up and not waiting
unfoldable pub live : Box → Bool
live b = b.up && not (eqb (box_phase (reading b)) 3)

-- sending: what it wrote at this round's close is to be taken
unfoldable pub sends : Box → Bool
sends b = eqb (box_phase (reading b)) 2

-- The answers
--
-- What the host program tests itself before it makes the call (specification, 9 Refusals), the lowest number first; every other number is
-- the call's own.
--   2  a demand up to 15 and a restart's flags: the calls test both too, but here they come before 3
--   3  a number of a box, and of a taking's sender, is 1 to N
--   4  by the clock: send, hear and close in negotiation, take and end in distribution
--   5  the box, and a taking's sender, is live: up, and not waiting by `hydra_read`; for a demand and a crash it is up
--   6  a box that restarts is down
--   7  a box sends at most 8 packets in a phase
--   8  the packet is one of this phase
--   10 a taking's sender sends, by `hydra_read`

-- the packet of number p, from 1
abbrev pub packet : Fleet → ℕ → List ℕ
packet x p = get_or x.air (p - 1) []

-- 3, 4, 5 of a send or a hearing of box j; then a
abbrev pub acting : Fleet → ℕ → Answer → Answer
acting x j a = cond (outside x.config j) NoSuchNode (cond (not x.negotiates) WrongPhase (cond (not (live (x.boxes j))) NotLive a))

-- 7, then the call's
unfoldable pub fleet_send : Fleet → ℕ → Answer
fleet_send x j = acting x j (cond (leb top_sent (sent_of x.sent j)) TooManyPackets (sending_of (x.boxes j).area (zeros packet_size)))

-- 8, then the call's
unfoldable pub fleet_hear : Fleet → ℕ → ℕ → Answer
fleet_hear x j p = acting x j (cond (not (leb 1 p && leb p (length x.air))) NoSuchPacket (hearing_of (x.boxes j).area (packet x p)))

-- 3, 4, 5 of either box, 10 of the sender, then the call's on the bytes that box i sent
unfoldable pub fleet_take : Fleet → ℕ → ℕ → Answer
fleet_take x j i =
    cond (outside x.config j || outside x.config i) NoSuchNode
    (cond x.negotiates WrongPhase
    (cond (not (live (x.boxes j)) || not (live (x.boxes i))) NotLive
    (cond (not (sends (x.boxes i))) WrongSender
    (taking_of (x.boxes j).area (x.boxes i).out))))

-- 2, 3, 5, then the call's
unfoldable pub fleet_want : Fleet → ℕ → ℕ → Answer
fleet_want x j d = cond (ltb top_request d) OutOfRange (cond (outside x.config j) NoSuchNode
    (cond (x.boxes j).up (wanting_of (x.boxes j).area d) NotLive))

-- 3, 5
unfoldable pub fleet_crash : Fleet → ℕ → Answer
fleet_crash x j = cond (outside x.config j) NoSuchNode (cond (x.boxes j).up Done NotLive)

-- 2, 3, 6, then the call's
unfoldable pub fleet_restart : Fleet → ℕ → ℕ → Answer
fleet_restart x j flags =
    cond (flags_ok (setup_of x.config j) flags)
    (cond (outside x.config j) NoSuchNode
    (cond (x.boxes j).up NotDown
    (restarting (x.boxes j).area (setup_of x.config j) flags x.place)))
    OutOfRange

-- of a close and an end the clock decides
abbrev pub fleet_answer : Fleet → Event → Answer
fleet_answer x (Send j) = fleet_send x j
fleet_answer x (Hear j p) = fleet_hear x j p
fleet_answer x Close = cond x.negotiates Done WrongPhase
fleet_answer x (Take j i) = fleet_take x j i
fleet_answer x End = cond x.negotiates WrongPhase Done
fleet_answer x (Want j d) = fleet_want x j d
fleet_answer x (Crash j) = fleet_crash x j
fleet_answer x (Restart j flags) = fleet_restart x j flags

-- The events

-- a box with another area
abbrev pub box_holding : Box → List ℕ → Box
box_holding b a = record { up = b.up; area = a; out = b.out }

-- another box of number j
abbrev pub change : Fleet → ℕ → Box → Fleet
change x j b = record {
  config = x.config;
  negotiates = x.negotiates;
  place = x.place;
  air = x.air;
  sent = x.sent;
  boxes = λ k. cond (eqb k j) b (x.boxes k);
}

-- a live box closes: its area, and what it sends; the two bytes that it lends for the ground are read by no call
abbrev pub close_box : Box → Box
close_box b = cond (live b) (record {
  up = b.up;
  area = after_close b.area b.out (zeros ground_size);
  out = out_close b.area b.out (zeros ground_size);
}) b

-- a box that is up ends its round
abbrev pub end_box : Box → Box
end_box b = cond b.up (box_holding b (after_end b.area)) b

-- a crash leaves anything in memory
abbrev pub crashed : List ℕ → Box
crashed left = record { up = false; area = window node_size left 0; out = window schedule_size left node_size }

-- after an accepted event; left is what a crash leaves
abbrev pub next_fleet : Fleet → Event → List ℕ → Fleet
next_fleet x (Send j) left =
    record {
      config = x.config;
      negotiates = x.negotiates;
      place = x.place;
      air = x.air ++ (out_send (x.boxes j).area (zeros packet_size) ∷ []);
      sent = one_more x.sent j;
      boxes = x.boxes;
    }
next_fleet x (Hear j p) left = change x j (box_holding (x.boxes j) (after_hear (x.boxes j).area (packet x p)))
next_fleet x Close left = record
    { config = x.config; negotiates = false; place = x.place; air = []; sent = none_sent; boxes = λ k. close_box (x.boxes k) }
next_fleet x (Take j i) left = change x j (box_holding (x.boxes j) (after_take (x.boxes j).area (x.boxes i).out))
next_fleet x End left =
    record {
      config = x.config;
      negotiates = true;
      place = cond (is_last x.config x.place) 0 (x.place + 1);
      air = [];
      sent = none_sent;
      boxes = λ k. end_box (x.boxes k);
    }
next_fleet x (Want j d) left = change x j (box_holding (x.boxes j) (after_want (x.boxes j).area d))
next_fleet x (Crash j) left = change x j (crashed left)
next_fleet x (Restart j flags) left =
    change x j (record {
      up = true;
      area = after_restart (x.boxes j).area (setup_of x.config j) flags x.place;
      out = (x.boxes j).out;
    })

-- a refused event changes nothing
unfoldable pub fleet_after : Fleet → Act → Fleet
fleet_after x a = cond (is_done (fleet_answer x a.event)) (next_fleet x a.event a.left) x

-- after a list of events
unfoldable pub fleet_run : Fleet → List Act → Fleet
fleet_run x [] = x
fleet_run x (a ∷ acts) = fleet_run (fleet_after x a) acts

-- the answers to a list of events
unfoldable pub fleet_answers : Fleet → List Act → List Answer
fleet_answers x [] = []
fleet_answers x (a ∷ acts) = fleet_answer x a.event ∷ fleet_answers (fleet_after x a) acts

-- The beginning: `hydra_begin` in each of the boxes 1 to N with its row of the table, on memory that holds anything

abbrev pub row_of : Table → ℕ → Row
row_of t j = get_or t.rows (j - 1) no_row

abbrev pub begun_box : Config → Table → List ℕ → ℕ → Box
begun_box f t left j =
    record {
      up = not (outside f j);
      area = after_begin (window node_size left 0) (setup_of f j) (row_of t j).version (row_of t j).flags (row_of t j).want;
      out = window schedule_size left node_size;
    }

unfoldable pub begun_fleet : Config → Table → (ℕ → List ℕ) → Fleet
begun_fleet f t left = record { config = f; negotiates = true; place = 0; air = []; sent = none_sent; boxes = λ j. begun_box f t (left j) j }
