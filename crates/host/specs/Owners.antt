-- Every answer, every byte and every number that a call writes, equal to that of a node with owner bytes: the area holds masks, and no
-- caller can tell.
-- All ten calls, with all that they are lent; lists of them, refused ones included.
-- Assumes nothing.
use Rattle.std.specs.Prelude.{◌≡◌, true, cond, List, [], ◌∷◌, ℕ, ltb, length}
use Rattle.allotment.specs.Allotment.{top_request}
use Rattle.node.specs.Answers.{is_done}
use Rattle.node.specs.Negotiation.{packet_of, heard_node}
use Rattle.node.specs.Close.{closed_node}
use Rattle.node.specs.Distribution.{taken_node}
use Rattle.node.specs.Begin.{starting, waiting, start_answer, restart_answer}
use Rattle.node.specs.End.{end_answer, ended_node}
use Rattle.node.specs.Steps.{wanted_node}
use Rattle.node.specs.Grounds.{ground_of}
use Rattle.node.specs.declared.Setup.{Setup}
use Rattle.node.specs.Model.{Node}
use Rattle.node.specs.Answers.{Answer}
use Rattle.node.specs.Answers.{Done, OutOfRange}
use Rattle.wire.specs.Layout.{packet_bytes, packet_in, schedule_in}
use Rattle.area.specs.Area.{node_size, encoded, decoded, valid}
use Rattle.host.specs.Report.{report_size, report}
use Rattle.host.specs.Calls.{output, beginning, after_begin, restarting, after_restart, sent_answer, sending_of, out_send, heard_answer}
use Rattle.host.specs.Calls.{hearing_of, after_hear, ground_bytes, closed_answer, closing_of, after_close, close_bytes, out_close}
use Rattle.host.specs.Calls.{ground_close}
use Rattle.host.specs.Calls.{taken_answer, taking_of, after_take, ending_of, after_end, wanting_of, after_want, room_answer, reading_of}
use Rattle.host.specs.Calls.{out_read}
use Rattle.host.specs.Calls.{own_slots, output_answer, slots_answer, out_slots}

-- a call, with its numbers and with what it is lent beside the area
pub data BoxCall : Type 0 where
  begins : Setup → ℕ → ℕ → ℕ → BoxCall
  restarts : Setup → ℕ → ℕ → BoxCall
  sends : List ℕ → BoxCall
  hears : List ℕ → BoxCall
  closes : List ℕ → List ℕ → BoxCall
  takes : List ℕ → BoxCall
  ends : BoxCall
  wants : ℕ → BoxCall
  reads : List ℕ → BoxCall
  slots : List ℕ → BoxCall

-- what a caller sees of a call: the answer, and what each output holds then
pub record Seen : Type 0 where
  pub answer : Answer
  pub outputs : List (List ℕ)

-- On an area, by the definitions of the C calls

abbrev pub seen_on : List ℕ → BoxCall → Seen
seen_on a (begins s v flags d) = record { answer = beginning a s v flags d; outputs = [] }
seen_on a (restarts s flags f) = record { answer = restarting a s flags f; outputs = [] }
seen_on a (sends out) = record { answer = sending_of a out; outputs = out_send a out ∷ [] }
seen_on a (hears p) = record { answer = hearing_of a p; outputs = [] }
seen_on a (closes out grounds) = record { answer = closing_of a out grounds; outputs = out_close a out grounds ∷ ground_close a out grounds ∷ [] }
seen_on a (takes q) = record { answer = taking_of a q; outputs = [] }
seen_on a ends = record { answer = ending_of a; outputs = [] }
seen_on a (wants d) = record { answer = wanting_of a d; outputs = [] }
seen_on a (reads out) = record { answer = reading_of a out; outputs = out_read a out ∷ [] }
seen_on a (slots out) = record { answer = slots_answer a out; outputs = out_slots a out ∷ [] }

abbrev pub area_after_call : List ℕ → BoxCall → List ℕ
area_after_call a (begins s v flags d) = after_begin a s v flags d
area_after_call a (restarts s flags f) = after_restart a s flags f
area_after_call a (sends out) = a
area_after_call a (hears p) = after_hear a p
area_after_call a (closes out grounds) = after_close a out grounds
area_after_call a (takes q) = after_take a q
area_after_call a ends = after_end a
area_after_call a (wants d) = after_want a d
area_after_call a (reads out) = a
area_after_call a (slots out) = a

-- On a node, whose schedules are owner bytes: no area and no mask is looked at

abbrev pub node_call_answer : Node → BoxCall → Answer
node_call_answer n (begins s v flags d) = start_answer s v flags d
node_call_answer n (restarts s flags f) = restart_answer s flags f
node_call_answer n (sends out) = sent_answer n out
node_call_answer n (hears p) = heard_answer n p
node_call_answer n (closes out grounds) = closed_answer n out grounds
node_call_answer n (takes q) = taken_answer n q
node_call_answer n ends = end_answer n
node_call_answer n (wants d) = cond (ltb top_request d) OutOfRange Done
node_call_answer n (reads out) = room_answer report_size out
node_call_answer n (slots out) = output_answer n out

abbrev pub node_outputs : Node → BoxCall → List (List ℕ)
node_outputs n (begins s v flags d) = []
node_outputs n (restarts s flags f) = []
node_outputs n (sends out) = output (sent_answer n out) (packet_bytes (packet_of n)) out ∷ []
node_outputs n (hears p) = []
node_outputs n (closes out grounds) = output (closed_answer n out grounds) (close_bytes (closed_node n)) out
    ∷ output (closed_answer n out grounds) (ground_bytes (ground_of n)) grounds ∷ []
node_outputs n (takes q) = []
node_outputs n ends = []
node_outputs n (wants d) = []
node_outputs n (reads out) = output (room_answer report_size out) (report n) out ∷ []
node_outputs n (slots out) = output (output_answer n out) (own_slots n) out ∷ []

abbrev pub seen_of : Node → BoxCall → Seen
seen_of n c = record { answer = node_call_answer n c; outputs = node_outputs n c }

-- the node after an accepted call; a refused one leaves it
abbrev pub next_node : Node → BoxCall → Node
next_node n (begins s v flags d) = starting s v flags d
next_node n (restarts s flags f) = waiting s flags f 0
next_node n (sends out) = n
next_node n (hears p) = heard_node n (packet_in p)
next_node n (closes out grounds) = closed_node n
next_node n (takes q) = taken_node n (schedule_in q)
next_node n ends = ended_node n
next_node n (wants d) = wanted_node n d
next_node n (reads out) = n
next_node n (slots out) = n

abbrev pub node_after_call : Node → BoxCall → Node
node_after_call n c = cond (is_done (node_call_answer n c)) (next_node n c) n

-- Lists of calls

unfoldable pub area_after_all : List ℕ → List BoxCall → List ℕ
area_after_all a [] = a
area_after_all a (c ∷ cs) = area_after_all (area_after_call a c) cs

unfoldable pub seen_on_all : List ℕ → List BoxCall → List Seen
seen_on_all a [] = []
seen_on_all a (c ∷ cs) = seen_on a c ∷ seen_on_all (area_after_call a c) cs

unfoldable pub node_after_all : Node → List BoxCall → Node
node_after_all n [] = n
node_after_all n (c ∷ cs) = node_after_all (node_after_call n c) cs

unfoldable pub seen_of_all : Node → List BoxCall → List Seen
seen_of_all n [] = []
seen_of_all n (c ∷ cs) = seen_of n c ∷ seen_of_all (node_after_call n c) cs

-- the statement: proved in proofs/Owners.antt
pub record ByOwners : Type 0 where
  -- on an area that a call accepts: all that is seen of a list of calls, and the node that the area holds then
  pub seen : (a : List ℕ) → valid a ≡ true → (cs : List BoxCall) → seen_on_all a cs ≡ seen_of_all (decoded a) cs
  pub held : (a : List ℕ) → valid a ≡ true → (cs : List BoxCall) → area_after_all a cs ≡ encoded (node_after_all (decoded a) cs)
  -- and the next call accepts it again
  pub accepted : (a : List ℕ) → valid a ≡ true → (cs : List BoxCall) → valid (area_after_all a cs) ≡ true
  -- a beginning or a restart on 828 bytes of anything does what it does on a node
  pub begun : (a : List ℕ) → length a ≡ node_size → (s : Setup) (v flags d : ℕ) → start_answer s v flags d ≡ Done
      → (beginning a s v flags d ≡ Done) × (after_begin a s v flags d ≡ encoded (starting s v flags d))
      × (valid (after_begin a s v flags d) ≡ true)
  pub restarted : (a : List ℕ) → length a ≡ node_size → (s : Setup) (flags f : ℕ) → restart_answer s flags f ≡ Done
      → (restarting a s flags f ≡ Done) × (after_restart a s flags f ≡ encoded (waiting s flags f 0))
      × (valid (after_restart a s flags f) ≡ true)
