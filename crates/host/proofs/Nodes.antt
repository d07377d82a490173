-- The calls on the bytes of a node within the ranges: each answers what its node answers, and leaves the bytes of the node's next step.
-- What one box writes another reads: a sent packet and a sent schedule are never refused as 11 or 12 by a box with the same N and K, which
-- does with them what its node does with the sender's packet or schedule.
-- Assumes nothing.
use mathlib.Core.Path.{◌≡◌, refl, sym, ap, ap₂, ◌∙◌}
use mathlib.Core.Bool.{Bool, true, false, cond}
use mathlib.Core.List.{List, [], ◌++◌, append-nil}
use Prim.Native.Nat.{ℕ, ◌+◌, ◌≤◌, ◌<◌}
use native.Mathlib.Omega.{arith}
use borrow.Author.Tests.{le-leb}
use lib.Dec.{leb, ltb}
use lib.ListN.{length, get_or, length-append, drop_of_length-le}
use lib.Seq.{take_at, get_or-append-add}
use Rattle.words.proofs.Tests.{hit, skip, both, read_same}
use Rattle.lists.specs.Bytes.{word32, bytes32, span, written}
use Rattle.lists.proofs.Laws.{word_bytes}
use Rattle.allotment.specs.Allotment.{top_request}
use Rattle.allotment.specs.Allotment.{owners_of}
use Rattle.node.specs.Answers.{is_done}
use Rattle.node.specs.Figures.{negotiates, sending}
use Rattle.node.specs.Negotiation.{packet_of, send_answer, hear_answer, heard_node}
use Rattle.node.specs.Close.{close_answer, closed_node}
use Rattle.node.specs.Distribution.{sent_by, take_answer, taken_node}
use Rattle.node.specs.End.{end_answer, ended_node}
use Rattle.node.specs.Steps.{wanted_node}
use Rattle.range.specs.Range.{in_range}
use Rattle.node.specs.declared.Setup.{Setup}
use Rattle.node.specs.Model.{Node}
use Rattle.node.specs.Answers.{Answer}
use Rattle.node.specs.declared.Packet.{Packet}
use Rattle.node.specs.Model.{Versioned}
use Rattle.node.specs.Answers.{Done, OutOfRange, WrongPhase, NotANode, NoRoom}
use Rattle.node.proofs.Answers.{done-is, test-met, both-done}
use Rattle.range.proofs.Lengths.{Lengths, words, long-close}
use Rattle.range.proofs.Ranges.{ranges}
use Rattle.node.proofs.Laws as law
use Rattle.node.proofs.Bare.{send-phase, hear-first}
use Rattle.node.proofs.Tested.{send-done}
use Rattle.node.proofs.Made.{carries, sends-so}
use Rattle.allotment.specs.Model.{Schedule}
use Rattle.range.proofs.Laws as ranged
use Rattle.wire.specs.Layout.{packet_size, schedule_size, packet_bytes, packet_in, schedule_bytes, schedule_in}
use Rattle.wire.specs.Reads.{packet_ok, packet_answer, versioned_ok, schedule_answer}
use Rattle.wire.proofs.Laws as wire
use Rattle.wire.specs.Phases.{phase_byte}
use Rattle.area.specs.Area.{small_of, encoded, decoded, valid}
use Rattle.host.specs.Report.{report_size, report}
use Rattle.host.specs.Calls.{and_then, is_node_area, room_answer, unless_refused, output, sent_answer, sending_of, out_send, heard_answer}
use Rattle.host.specs.Calls.{hearing_of, after_hear, close_room, ground_size, closed_answer, closing_of, after_close, close_bytes, out_close}
use Rattle.host.specs.Calls.{taken_answer, taking_of, after_take, ending_of, after_end, wanting_of, after_want, reading_of, out_read}
use Rattle.host.specs.Calls.{slots_size, own_slots, output_answer, slots_answer, out_slots}
use Rattle.area.proofs.Valid.{range-of}
use Rattle.host.proofs.Answers.{a-node}
use Rattle.area.proofs.Canon.{lengths, round_trip, accepted}
use Rattle.host.proofs.Stays.{close-range}

-- Answers and outputs

-- an answer with Done behind it
pub then-done : (x : Answer) → and_then x Done ≡ x
then-done x = go (is_done x) refl
  where
    go : (t : Bool) → is_done x ≡ t → cond t Done x ≡ x
    go true e = sym (done-is x e)
    go false e = refl

-- a node that sends is in negotiation
pub talks : (n : Node) → send_answer n ≡ Done → negotiates n.phase ≡ true
talks n d = (test-met (negotiates n.phase) Done WrongPhase refl (sym (send-phase n) ∙ d)).0

pub roomy : (n : ℕ) (out : List ℕ) → n ≤ length out → room_answer n out ≡ Done
roomy n out h = hit (leb n (length out)) Done NoRoom (le-leb n (length out) h)

-- bytes that fill an output are what it holds then
pub filled : (b out : List ℕ) → length b ≡ length out → written out 0 b ≡ b
filled b out e =
    let h : length out ≤ 0 + length b = omega arith in
    ap (λ (t : List ℕ). b ++ t) (drop_of_length-le out h) ∙ append-nil b

-- what a node sends in distribution has 80 owners
pub sent-long : (n : Node) → Lengths n → length (owners_of (sent_by n).schedule) ≡ 80
sent-long n l = ap (λ (s : Schedule). length (owners_of s)) (carries n).schedule ∙ l.schedule

-- The report: version and owners as on the air, and the phase

pub length-report : (n : Node) → Lengths n → length (report n) ≡ report_size
unfolding report
length-report n l = simp length-append (omega (arith, wire.length-schedule (sent_by n) (sent-long n l)))

pub version-in : (n : Node) → in_range n ≡ true → word32 (report n) 0 ≡ n.version
unfolding report schedule_bytes
version-in n h = ap (λ (v : Versioned). word32 (schedule_bytes v ++ (bytes32 n.flags ++ (bytes32 n.epoch.place ++ small_of n))) 0)
    (sends-so n) ∙ word_bytes n.version (words n h).version

pub owners-in : (n : Node) → Lengths n → span (report n) 4 80 ≡ owners_of n.schedule
unfolding report schedule_bytes
owners-in n l = ap (λ (v : Versioned). span (schedule_bytes v ++ (bytes32 n.flags ++ (bytes32 n.epoch.place ++ small_of n))) 4 80)
    (sends-so n) ∙ take_at (owners_of n.schedule) _ 80 l.schedule

-- a small byte behind flags and place
small_at : (n : Node) → Lengths n → (k : ℕ) → get_or (report n) (84 + k) 0
    ≡ get_or (bytes32 n.flags ++ (bytes32 n.epoch.place ++ small_of n)) k 0
unfolding report
small_at n l k =
    let e : length (schedule_bytes (sent_by n)) ≡ 84 = wire.length-schedule (sent_by n) (sent-long n l) in
    ap (λ (i : ℕ). get_or (report n) (i + k) 0) (sym e) ∙ get_or-append-add (schedule_bytes (sent_by n)) _ k 0

pub request-in : (n : Node) → Lengths n → get_or (report n) 93 0 ≡ n.request
request-in n l = small_at n l 9

pub phase-in : (n : Node) → Lengths n → get_or (report n) 94 0 ≡ phase_byte n.phase
phase-in n l = small_at n l 10

-- The calls

module _ (n : Node) (long : Lengths n) (range : in_range n ≡ true) where
  pub node-area : valid (encoded n) ≡ true
  node-area = accepted n long range

  pub back_is : decoded (encoded n) ≡ n
  back_is = round_trip n long range

  -- the answer is the node's own, and what the area and an output hold then
  pub its_own : (x : Node → Answer) → and_then (is_node_area (encoded n)) (x (decoded (encoded n))) ≡ x n
  its_own x = a-node (encoded n) (x (decoded (encoded n))) node-area ∙ ap x back_is

  its-bytes : (x : Node → Answer) (b : Node → List ℕ) (out : List ℕ)
      → output (and_then (is_node_area (encoded n)) (x (decoded (encoded n)))) (b (decoded (encoded n))) out ≡ output (x n) (b n) out
  its-bytes x b out = ap₂ (λ (y : Answer) (m : Node). output y (b m) out) (its_own x) back_is

  -- send
  pub send-answers : (out : List ℕ) → packet_size ≤ length out → sending_of (encoded n) out ≡ send_answer n
  unfolding sending_of
  send-answers out h = its_own (λ m. sent_answer m out) ∙ ap (and_then (send_answer n)) (roomy packet_size out h) ∙ then-done (send_answer n)

  pub send-writes : (out : List ℕ) → length out ≡ packet_size → send_answer n ≡ Done → out_send (encoded n) out ≡ packet_bytes (packet_of n)
  unfolding out_send sending_of
  send-writes out h d =
      its-bytes (λ m. sent_answer m out) (λ m. packet_bytes (packet_of m)) out
      ∙ ap (λ (y : Answer). output (and_then y (room_answer packet_size out)) (packet_bytes (packet_of n)) out) d
      ∙ ap (λ (y : Answer). output y (packet_bytes (packet_of n)) out) (roomy packet_size out (omega arith))
      ∙ filled (packet_bytes (packet_of n)) out (wire.length-packet (packet_of n) (ranged.packet-long n long) ∙ sym h)

  -- hear
  pub hear-answers : (p : List ℕ) → negotiates n.phase ≡ true
      → hearing_of (encoded n) p ≡ and_then (packet_answer n.setup.config.nodes p) (hear_answer n (packet_in p))
  unfolding hearing_of
  hear-answers p t = its_own (λ m. heard_answer m p)
      ∙ ap (λ (y : Answer). and_then y (and_then (packet_answer n.setup.config.nodes p) (hear_answer n (packet_in p)))) (send-phase n)
      ∙ ap (λ (b : Bool). and_then (cond b Done WrongPhase) (and_then (packet_answer n.setup.config.nodes p)
      (hear_answer n (packet_in p)))) t

  pub hear-leaves : (p : List ℕ) → hearing_of (encoded n) p ≡ Done → after_hear (encoded n) p ≡ encoded (heard_node n (packet_in p))
  unfolding after_hear
  hear-leaves p d = ap₂ (λ (y : Answer) (m : Node). unless_refused y (heard_node m (packet_in p)) (encoded n)) d back_is

  -- close
  pub close-answers : (out told : List ℕ) → schedule_size ≤ length out → ground_size ≤ length told
      → closing_of (encoded n) out told ≡ close_answer n
  unfolding closing_of
  close-answers out told h k =
      its_own (λ m. closed_answer m out told)
      ∙ ap (λ (y : Answer). and_then (close_answer n) (and_then y (close_room (closed_node n) out))) (roomy ground_size told k)
      ∙ ap (and_then (close_answer n))
      (read_same (λ (y : Answer). y) (sending (closed_node n).phase) (room_answer schedule_size out) Done Done
      (roomy schedule_size out h) refl)
      ∙ then-done (close_answer n)

  pub close-leaves : (out told : List ℕ) → closing_of (encoded n) out told ≡ Done → after_close (encoded n) out told ≡ encoded (closed_node n)
  unfolding after_close
  close-leaves out told d = ap₂ (λ (y : Answer) (m : Node). unless_refused y (closed_node m) (encoded n)) d back_is

  pub close-writes : (out told : List ℕ) → closing_of (encoded n) out told ≡ Done
      → out_close (encoded n) out told ≡ written out 0 (close_bytes (closed_node n))
  unfolding out_close
  close-writes out told d = ap₂ (λ (y : Answer) (m : Node). output y (close_bytes (closed_node m)) out) d back_is

  -- take
  pub take-answers : (q : List ℕ) → schedule_answer n.setup q ≡ Done → taking_of (encoded n) q ≡ take_answer n
  unfolding taking_of
  take-answers q d = its_own (λ m. taken_answer m q) ∙ ap (and_then (take_answer n)) d ∙ then-done (take_answer n)

  pub take-leaves : (q : List ℕ) → taking_of (encoded n) q ≡ Done → after_take (encoded n) q ≡ encoded (taken_node n (schedule_in q))
  unfolding after_take
  take-leaves q d = ap₂ (λ (y : Answer) (m : Node). unless_refused y (taken_node m (schedule_in q)) (encoded n)) d back_is

  -- end
  pub end-answers : ending_of (encoded n) ≡ end_answer n
  unfolding ending_of
  end-answers = its_own end_answer

  pub end_leaves : ending_of (encoded n) ≡ Done → after_end (encoded n) ≡ encoded (ended_node n)
  unfolding after_end
  end_leaves d = ap₂ (λ (y : Answer) (m : Node). unless_refused y (ended_node m) (encoded n)) d back_is

  -- want
  pub want-answers : (d : ℕ) → ltb top_request d ≡ false → wanting_of (encoded n) d ≡ Done
  unfolding wanting_of
  want-answers d h = skip (ltb top_request d) OutOfRange (is_node_area (encoded n)) Done h (hit (valid (encoded n)) Done NotANode node-area)

  pub want-leaves : (d : ℕ) → wanting_of (encoded n) d ≡ Done → after_want (encoded n) d ≡ encoded (wanted_node n d)
  unfolding after_want
  want-leaves d e = ap₂ (λ (y : Answer) (m : Node). unless_refused y (wanted_node m d) (encoded n)) e back_is

  -- read
  pub read-writes : (out : List ℕ) → length out ≡ report_size → out_read (encoded n) out ≡ report n
  unfolding out_read reading_of
  read-writes out h =
      its-bytes (λ m. room_answer report_size out) report out
      ∙ ap (λ (y : Answer). output y (report n) out) (roomy report_size out (omega arith))
      ∙ filled (report n) out (length-report n long ∙ sym h)

  -- slots
  pub slots-answers : (out : List ℕ) → slots_size ≤ length out → negotiates n.phase ≡ true → slots_answer (encoded n) out ≡ Done
  unfolding slots_answer
  slots-answers out h t = its_own (λ m. output_answer m out) ∙ ap (λ (y : Answer). and_then y (room_answer slots_size out)) (send-done n t)
      ∙ roomy slots_size out h

  pub slots-writes : (out : List ℕ) → length out ≡ slots_size → negotiates n.phase ≡ true → out_slots (encoded n) out ≡ own_slots n
  unfolding out_slots own_slots
  slots-writes out h t =
      ap₂ (λ (y : Answer) (m : Node). output y (own_slots m) out) (slots-answers out (omega arith) t) back_is
      ∙ filled (own_slots n) out (sym h)

-- What one box writes, another reads

-- a packet that a node in negotiation sends is accepted by each node with the same N, and is read back
packet-kept : (n : Node) → in_range n ≡ true → negotiates n.phase ≡ true → packet_ok n.setup.config.nodes (packet_of n) ≡ true
packet-kept n range t =
    let h = ranged.packet-lawful n range t in
    wire.kept n.setup.config.nodes (packet_of n)
    (record {
      sender = h.sender-to;
      versions = h.sound.low;
      top = h.sound.high;
      flags = h.sound.flags;
      flag = h.flag;
      asked = h.sound.asked;
      own = h.asked;
    })

pub sent-packet : (n : Node) → Lengths n → in_range n ≡ true → negotiates n.phase ≡ true
    → (packet_answer n.setup.config.nodes (packet_bytes (packet_of n)) ≡ Done) × (packet_in (packet_bytes (packet_of n)) ≡ packet_of n)
sent-packet n long range t =
    let N = n.setup.config.nodes in
    let k = packet-kept n range t in
    let l = ranged.packet-long n long in
    let small = (ranges n range).setting.bounds.nodes-to in (
      wire.packet-accepted N (packet_of n) small k l,
      wire.packet-back (packet_of n)
          (wire.keeps-fits N (packet_of n) small (wire.keeps N (packet_of n) k) l),
    )

-- a version and schedule that a node sends are accepted by each node with the same N and K, and are read back
pub sent-schedule : (n : Node) (s : Setup) → Lengths n → in_range n ≡ true → s.config.nodes ≡ n.setup.config.nodes
    → s.config.slots ≡ n.setup.config.slots
    → (schedule_answer s (schedule_bytes (sent_by n)) ≡ Done) × (schedule_in (schedule_bytes (sent_by n)) ≡ sent_by n)
unfolding versioned_ok
sent-schedule n s long range a b =
    let v = ranged.sent-version n range in
    let w : (sent_by n).version < 4294967296 = omega arith in (
      wire.schedule-accepted s (sent_by n) (both (le-leb _ _ v) (ranged.sent-schedule n s range a b)) (sent-long n long),
      wire.schedule-back
          (sent_by n) w (sent-long n long),
    )

-- the bytes at the start of an output
front : (b out : List ℕ) (n : ℕ) → length b ≡ n → span (written out 0 b) 0 n ≡ b
front b out n e = take_at b _ n e

-- two areas that are accepted, with the same N: box a sends, box b hears
module _ (a b : List ℕ) (at_a : valid a ≡ true) (at_b : valid b ≡ true)
    (N : (decoded b).setup.config.nodes ≡ (decoded a).setup.config.nodes) where
  abbrev sender : Node
  sender = decoded a

  abbrev hearer : Node
  hearer = decoded b

  module _ (out : List ℕ) (sent : sending_of a out ≡ Done) where
    abbrev packet : List ℕ
    packet = span (out_send a out) 0 packet_size

    talking : negotiates sender.phase ≡ true
    unfolding sending_of
    talking =
        let d = sym (a-node a (sent_answer sender out) at_a) ∙ sent in
        talks sender (both-done (send_answer sender) (room_answer packet_size out) d).0

    sent_is : packet ≡ packet_bytes (packet_of sender)
    unfolding out_send
    sent_is =
        ap (λ (y : Answer). span (output y (packet_bytes (packet_of sender)) out) 0 packet_size) sent
        ∙ front (packet_bytes (packet_of sender)) out packet_size
        (wire.length-packet (packet_of sender) (ranged.packet-long sender (lengths a)))

    -- a hearing answers what its node answers to the sender's packet: 4, 9, 13 or 0, and leaves the node's next step
    pub heard-as-sent : hearing_of b packet ≡ hear_answer hearer (packet_of sender)
    unfolding hearing_of
    heard-as-sent =
        let k = sent-packet sender (lengths a) (range-of a at_a) talking in
        let d : packet_answer hearer.setup.config.nodes packet ≡ Done = ap₂ packet_answer N sent_is ∙ k.0 in
        let q : packet_in packet ≡ packet_of sender = ap packet_in sent_is ∙ k.1 in
        a-node b (heard_answer hearer packet) at_b
        ∙ ap₂ (λ (y : Answer) (p : Packet). and_then (send_answer hearer) (and_then y (hear_answer hearer p))) d q
        ∙ hear-first hearer (packet_of sender)

    pub hears-as-sent : after_hear b packet ≡ unless_refused (hear_answer hearer (packet_of sender)) (heard_node hearer (packet_of sender)) b
    unfolding after_hear
    hears-as-sent =
        let q = ap packet_in sent_is ∙ (sent-packet sender (lengths a) (range-of a at_a) talking).1 in
        ap₂ (λ (y : Answer) (p : Packet). unless_refused y (heard_node hearer p) b) heard-as-sent q

-- with the same N and K: box a closes and sends, box b takes
module _ (a b : List ℕ) (at_a : valid a ≡ true) (at_b : valid b ≡ true)
    (N : (decoded b).setup.config.nodes ≡ (decoded a).setup.config.nodes)
    (K : (decoded b).setup.config.slots ≡ (decoded a).setup.config.slots)
    (out told : List ℕ) (done : closing_of a out told ≡ Done) (sends : sending (closed_node (decoded a)).phase ≡ true) where
  abbrev closed : Node
  closed = closed_node (decoded a)

  abbrev taker : Node
  taker = decoded b

  abbrev schedule : List ℕ
  schedule = span (out_close a out told) 0 schedule_size

  closed-long : Lengths closed
  closed-long = long-close (decoded a) (lengths a)

  accepted-back : (schedule_answer taker.setup (schedule_bytes (sent_by closed)) ≡ Done)
      × (schedule_in (schedule_bytes (sent_by closed)) ≡ sent_by closed)
  accepted-back =
      let e = (law.closes-so (decoded a)).setup in
      sent-schedule closed taker.setup closed-long (close-range a at_a out told done) (N ∙ sym (ap (λ (s : Setup). s.config.nodes) e))
      (K ∙ sym (ap (λ (s : Setup). s.config.slots) e))

  schedule-is : schedule ≡ schedule_bytes (sent_by closed)
  unfolding out_close
  schedule-is =
      let bytes = schedule_bytes (sent_by closed) in
      ap (λ (y : Answer). span (output y (close_bytes closed) out) 0 schedule_size) done
      ∙ ap (λ (x : List ℕ). span (written out 0 x) 0 schedule_size) (hit (sending closed.phase) bytes [] sends)
      ∙ front bytes out schedule_size (wire.length-schedule (sent_by closed) (sent-long closed closed-long))

  -- a taking answers what its node answers: 4, 10 or 0, and leaves the node's next step with what the sender sent
  pub taken-as-sent : taking_of b schedule ≡ take_answer taker
  unfolding taking_of
  taken-as-sent =
      let d : schedule_answer taker.setup schedule ≡ Done = ap (schedule_answer taker.setup) schedule-is ∙ accepted-back.0 in
      a-node b (taken_answer taker schedule) at_b ∙ ap (and_then (take_answer taker)) d ∙ then-done (take_answer taker)

  pub takes-as-sent : after_take b schedule ≡ unless_refused (take_answer taker) (taken_node taker (sent_by closed)) b
  unfolding after_take
  takes-as-sent = ap₂ (λ (y : Answer) (v : Versioned). unless_refused y (taken_node taker v) b) taken-as-sent
      (ap schedule_in schedule-is ∙ accepted-back.1)
