-- The calls of the C service (specification, 6 Node calls and node area: tested are 2 and 3 on plain numbers, then 14, 4, 10, 15, 11, 12,
-- 9, 13).
-- Of each call: its answer, and what the lent bytes, or for the own slots the lent numbers, hold then. A refusal changes none of them.
-- Assumes nothing.
use Rattle.std.specs.Prelude.{Bool, cond, List, [], ◌∷◌, ℕ, ◌+◌, eqb, ltb, leb, length}
use Rattle.words.specs.Bits.{word_of, how_many}
use Rattle.lists.specs.Bytes.{written}
use Rattle.allotment.specs.Allotment.{top_request, owner_of}
use Rattle.node.specs.Answers.{is_done}
use Rattle.node.specs.Figures.{sending}
use Rattle.node.specs.Negotiation.{packet_of, send_answer, hear_answer, heard_node}
use Rattle.node.specs.Close.{close_answer, closed_node}
use Rattle.node.specs.Distribution.{sent_by, take_answer, taken_node}
use Rattle.node.specs.Begin.{starting, waiting, start_answer, restart_answer}
use Rattle.node.specs.End.{end_answer, ended_node}
use Rattle.node.specs.Steps.{wanted_node}
use Rattle.node.specs.Grounds.{rule_number, ground_of}
use Rattle.node.specs.declared.Setup.{Setup}
use Rattle.node.specs.Model.{Node}
use Rattle.node.specs.declared.Ground.{Ground}
use Rattle.node.specs.Answers.{Answer}
use Rattle.node.specs.Answers.{Done, OutOfRange, NotANode, NoRoom}
use Rattle.wire.specs.Layout.{packet_size, schedule_size, packet_bytes, packet_in, schedule_bytes, schedule_in}
use Rattle.wire.specs.Reads.{packet_answer, schedule_answer}
use Rattle.area.specs.Area.{node_size, encoded, decoded, valid}
use Rattle.host.specs.Report.{report_size, report}

-- the first answer, unless it is Done: then the second
abbrev pub and_then : Answer → Answer → Answer
and_then a b = cond (is_done a) b a

-- 14 unless the area is a node's
abbrev pub is_node_area : List ℕ → Answer
is_node_area a = cond (valid a) Done NotANode

-- 15 unless an output has room for n bytes, or n numbers
abbrev pub room_answer : ℕ → List ℕ → Answer
room_answer n out = cond (leb n (length out)) Done NoRoom

-- an area of another length is no node's
abbrev pub is_sized : List ℕ → Answer
is_sized a = cond (eqb (length a) node_size) Done NotANode

-- what an area holds after a call: the next node's bytes, or after a refusal the bytes it held before
abbrev pub unless_refused : Answer → Node → List ℕ → List ℕ
unless_refused x n a = cond (is_done x) (encoded n) a

-- what an output holds after a call: bytes at its start, and those behind them as they were
abbrev pub output : Answer → List ℕ → List ℕ → List ℕ
output x bytes out = cond (is_done x) (written out 0 bytes) out

-- the plain numbers of a beginning
abbrev pub setup_from : ℕ → ℕ → ℕ → ℕ → ℕ → ℕ → Setup
setup_from node nodes slots rounds heard split =
    record { node = node; config = record { nodes = nodes; slots = slots; rounds = rounds; min_heard = heard; split = split } }

-- begin: 2, 3, then the area's length; the demand is within its range before it is a byte
unfoldable pub beginning : List ℕ → Setup → ℕ → ℕ → ℕ → Answer
beginning a s v flags demand = and_then (start_answer s v flags demand) (is_sized a)

unfoldable pub after_begin : List ℕ → Setup → ℕ → ℕ → ℕ → List ℕ
after_begin a s v flags demand = unless_refused (beginning a s v flags demand) (starting s v flags demand) a

-- restart: 2, 3, then the area's length
unfoldable pub restarting : List ℕ → Setup → ℕ → ℕ → Answer
restarting a s flags place = and_then (restart_answer s flags place) (is_sized a)

unfoldable pub after_restart : List ℕ → Setup → ℕ → ℕ → List ℕ
after_restart a s flags place = unless_refused (restarting a s flags place) (waiting s flags place 0) a

-- a node's answer to a send with an output: 4, 15
abbrev pub sent_answer : Node → List ℕ → Answer
sent_answer n out = and_then (send_answer n) (room_answer packet_size out)

-- send: 14, 4, 15
unfoldable pub sending_of : List ℕ → List ℕ → Answer
sending_of a out = and_then (is_node_area a) (sent_answer (decoded a) out)

unfoldable pub out_send : List ℕ → List ℕ → List ℕ
out_send a out = output (sending_of a out) (packet_bytes (packet_of (decoded a))) out

-- a node's answer to a packet's bytes: 4, 11, 12, 9, 13; the phase is tested before the bytes
abbrev pub heard_answer : Node → List ℕ → Answer
heard_answer n p = and_then (send_answer n) (and_then (packet_answer n.setup.config.nodes p) (hear_answer n (packet_in p)))

-- hear: 14, 4, 11, 12, 9, 13
unfoldable pub hearing_of : List ℕ → List ℕ → Answer
hearing_of a p = and_then (is_node_area a) (heard_answer (decoded a) p)

unfoldable pub after_hear : List ℕ → List ℕ → List ℕ
after_hear a p = unless_refused (hearing_of a p) (heard_node (decoded a) (packet_in p)) a

-- a close that sends needs room for the 84 bytes, and one that doesn't needs none
abbrev pub close_room : Node → List ℕ → Answer
close_room n out = cond (sending n.phase) (room_answer schedule_size out) Done

-- the ground of a close, 2 bytes: the rule's number, and the lowest missing node
abbrev pub ground_size : ℕ
ground_size = 2

abbrev pub ground_bytes : Ground → List ℕ
ground_bytes g = rule_number g.rule ∷ g.missing ∷ []

-- a node's answer to a close with an output and a place for its ground: 4, 15
abbrev pub closed_answer : Node → List ℕ → List ℕ → Answer
closed_answer n out grounds = and_then (close_answer n) (and_then (room_answer ground_size grounds) (close_room (closed_node n) out))

-- close: 14, 4, 15
unfoldable pub closing_of : List ℕ → List ℕ → List ℕ → Answer
closing_of a out grounds = and_then (is_node_area a) (closed_answer (decoded a) out grounds)

unfoldable pub after_close : List ℕ → List ℕ → List ℕ → List ℕ
after_close a out grounds = unless_refused (closing_of a out grounds) (closed_node (decoded a)) a

-- what a close sends: version and schedule, or nothing
abbrev pub close_bytes : Node → List ℕ
close_bytes n = cond (sending n.phase) (schedule_bytes (sent_by n)) []

unfoldable pub out_close : List ℕ → List ℕ → List ℕ → List ℕ
out_close a out grounds = output (closing_of a out grounds) (close_bytes (closed_node (decoded a))) out

-- what the place of the ground holds then
unfoldable pub ground_close : List ℕ → List ℕ → List ℕ → List ℕ
ground_close a out grounds = output (closing_of a out grounds) (ground_bytes (ground_of (decoded a))) grounds

-- a node's answer to a schedule's bytes: 4, 10, 11, 12
abbrev pub taken_answer : Node → List ℕ → Answer
taken_answer n q = and_then (take_answer n) (schedule_answer n.setup q)

-- take: 14, 4, 10, 11, 12
unfoldable pub taking_of : List ℕ → List ℕ → Answer
taking_of a q = and_then (is_node_area a) (taken_answer (decoded a) q)

unfoldable pub after_take : List ℕ → List ℕ → List ℕ
after_take a q = unless_refused (taking_of a q) (taken_node (decoded a) (schedule_in q)) a

-- end: 14, 4
unfoldable pub ending_of : List ℕ → Answer
ending_of a = and_then (is_node_area a) (end_answer (decoded a))

unfoldable pub after_end : List ℕ → List ℕ
after_end a = unless_refused (ending_of a) (ended_node (decoded a)) a

-- the change of the demand: 2, 14
unfoldable pub wanting_of : List ℕ → ℕ → Answer
wanting_of a d = cond (ltb top_request d) OutOfRange (is_node_area a)

unfoldable pub after_want : List ℕ → ℕ → List ℕ
after_want a d = unless_refused (wanting_of a d) (wanted_node (decoded a) d) a

-- the read of what a node holds: 14, 15
unfoldable pub reading_of : List ℕ → List ℕ → Answer
reading_of a out = and_then (is_node_area a) (room_answer report_size out)

unfoldable pub out_read : List ℕ → List ℕ → List ℕ
out_read a out = output (reading_of a out) (report (decoded a)) out

-- The slots of a node's own, 3 numbers: the first has bit k for the slot of index k, the second bit k for the slot of index 64 + k, the
-- third is how many they are
abbrev pub slots_size : ℕ
slots_size = 3

-- whether the node owns the slot of index k
abbrev pub is_own : Node → ℕ → Bool
is_own n k = eqb (owner_of n.schedule k) n.setup.node

unfoldable pub own_slots : Node → List ℕ
own_slots n = word_of 64 (is_own n) ∷ word_of 16 (λ k. is_own n (64 + k)) ∷ how_many 80 (is_own n) ∷ []

-- a node's answer to the call with an output: 4, 15
abbrev pub output_answer : Node → List ℕ → Answer
output_answer n out = and_then (send_answer n) (room_answer slots_size out)

-- slots: 14, 4, 15
unfoldable pub slots_answer : List ℕ → List ℕ → Answer
slots_answer a out = and_then (is_node_area a) (output_answer (decoded a) out)

unfoldable pub out_slots : List ℕ → List ℕ → List ℕ
out_slots a out = output (slots_answer a out) (own_slots (decoded a)) out
