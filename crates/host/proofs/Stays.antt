-- Every call leaves an accepted area that the next call accepts again; begin and restart make one.
-- Assumes nothing.
use mathlib.Core.Path.{◌≡◌, refl, sym, ap, ◌∙◌}
use mathlib.Core.Bool.{Bool, true, false, cond, ◌&&◌}
use mathlib.Core.List.{List}
use Prim.Native.Nat.{ℕ, ◌≤◌}
use native.Mathlib.Omega.{arith}
use borrow.Author.Tests.{leb-true, ltb-false}
use lib.Dec.{eqb, leb, ltb}
use lib.ListN.{length}
use Rattle.words.proofs.Tests.{and_left, and_right}
use Rattle.lists.proofs.Laws.{length-tab}
use Rattle.allotment.specs.Allotment.{top_request}
use Rattle.allotment.specs.Allotment.{owners_of}
use Rattle.allotment.proofs.Schedules.{owners-made}
use Rattle.node.specs.Answers.{is_done}
use Rattle.node.specs.Figures.{top_version}
use Rattle.node.specs.Begin.{starting, waiting, start_answer, restart_answer}
use Rattle.node.specs.Negotiation.{send_answer, hear_answer, heard_node}
use Rattle.node.specs.Close.{close_answer, closed_node}
use Rattle.node.specs.Distribution.{take_answer, taken_node}
use Rattle.node.specs.End.{end_answer, ended_node}
use Rattle.node.specs.Steps.{wanted_node}
use Rattle.range.specs.Range.{in_range, schedule_ok}
use Rattle.node.specs.Answers.{Answer}
use Rattle.node.specs.Answers.{Done, OutOfRange}
use Rattle.node.specs.Model.{Node}
use Rattle.node.specs.declared.Setup.{Setup}
use Rattle.range.proofs.Keeps.{PacketRanges, keeps-start, keeps-restart, keeps-hear, keeps-close, keeps-take, keeps-end, keeps-want}
use Rattle.range.proofs.Lengths.{Lengths, long-start, long-restart, long-close, long-end}
use Rattle.node.proofs.Answers.{both-done, done-is, test-passed}
use Rattle.wire.specs.Layout.{packet_size, schedule_size, packet_in, schedule_in}
use Rattle.wire.specs.Reads.{packet_ok, packet_answer, versioned_ok, schedule_answer}
use Rattle.wire.proofs.Laws.{keeps, read-accepted}
use Rattle.area.specs.Area.{decoded, encoded, valid}
use Rattle.host.specs.Calls.{and_then, is_node_area, is_sized, unless_refused, beginning, after_begin, restarting, after_restart}
use Rattle.host.specs.Calls.{heard_answer, hearing_of, room_answer, ground_size, close_room, closed_answer, closing_of}
use Rattle.host.specs.Calls.{after_close}
use Rattle.host.specs.Calls.{taken_answer, taking_of, ending_of, after_end, wanting_of}
use Rattle.area.proofs.Valid.{range-of}
use Rattle.host.proofs.Answers.{a-node}
use Rattle.area.proofs.Canon.{lengths, accepted}

-- a call on a valid area is Done where its node's answer is
node_done : (a : List ℕ) (x : Answer) → valid a ≡ true → and_then (is_node_area a) x ≡ Done → x ≡ Done
node_done a x v e = sym (a-node a x v) ∙ e

-- the bytes of a next node in range are valid, and a refusal keeps those that were
module _ (a : List ℕ) (x : Answer) (n : Node) (l : Lengths n) (f : x ≡ Done → in_range n ≡ true) where
  kept-valid : valid a ≡ true → valid (unless_refused x n a) ≡ true
  kept-valid v = go (is_done x) refl
    where
      go : (t : Bool) → is_done x ≡ t → valid (cond t (encoded n) a) ≡ true
      go true d = accepted n l (f (done-is x d))
      go false d = v

  made-valid : x ≡ Done → valid (unless_refused x n a) ≡ true
  made-valid e = ap (λ (y : Answer). valid (unless_refused y n a)) e ∙ accepted n l (f e)

-- begin and restart make a valid area, whatever it held; refused, they leave it as it was

starts : (a : List ℕ) (s : Setup) (v flags demand : ℕ) → beginning a s v flags demand ≡ Done → in_range (starting s v flags demand) ≡ true
unfolding beginning
starts a s v flags demand e = keeps-start s v flags demand (both-done (start_answer s v flags demand) (is_sized a) e).0

pub begin-makes : (a : List ℕ) (s : Setup) (v flags demand : ℕ) → beginning a s v flags demand ≡ Done
    → valid (after_begin a s v flags demand) ≡ true
unfolding after_begin
begin-makes a s v flags demand = made-valid a (beginning a s v flags demand) (starting s v flags demand) (long-start s v flags demand)
    (starts a s v flags demand)

restarts : (a : List ℕ) (s : Setup) (flags place : ℕ) → restarting a s flags place ≡ Done → in_range (waiting s flags place 0) ≡ true
unfolding restarting
restarts a s flags place e = keeps-restart s flags place 0 (both-done (restart_answer s flags place) (is_sized a) e).0 (omega arith)

pub restart-makes : (a : List ℕ) (s : Setup) (flags place : ℕ) → restarting a s flags place ≡ Done
    → valid (after_restart a s flags place) ≡ true
unfolding after_restart
restart-makes a s flags place = made-valid a (restarting a s flags place) (waiting s flags place 0) (long-restart s flags place 0)
    (restarts a s flags place)

-- what an accepted packet and an accepted schedule keep to

packet-sound : (N : ℕ) (p : List ℕ) → packet_answer N p ≡ Done → PacketRanges (packet_in p) N
unfolding packet_answer
packet-sound N p e =
    let k = keeps N (packet_in p) (read-accepted (eqb (length p) packet_size) (packet_ok N (packet_in p)) e).1 in
    record { low = k.versions; high = k.top; flags = k.flags; asked = k.asked }

pub schedule-sound : (s : Setup) (q : List ℕ) → schedule_answer s q ≡ Done
    → ((schedule_in q).version ≤ top_version) × (schedule_ok (schedule_in q).schedule (ltb 0 (schedule_in q).version) s ≡ true)
unfolding schedule_answer versioned_ok
schedule-sound s q e =
    let v = leb (schedule_in q).version top_version in
    let o = schedule_ok (schedule_in q).schedule (ltb 0 (schedule_in q).version) s in
    let k : (v && o) ≡ true = (read-accepted (eqb (length q) schedule_size) (versioned_ok s (schedule_in q)) e).1 in
    (leb-true _ _ (and_left v o k), and_right v o k)

pub long-schedule : (q : List ℕ) → length (owners_of (schedule_in q).schedule) ≡ 80
unfolding schedule_in
long-schedule q = ap length (owners-made _) ∙ length-tab 80 _

-- the calls on a node's area: the next node is within the ranges, and its bytes are valid

module _ (a : List ℕ) (v : valid a ≡ true) where
  pub hear-range : (p : List ℕ) → hearing_of a p ≡ Done → in_range (heard_node (decoded a) (packet_in p)) ≡ true
  unfolding hearing_of
  hear-range p e =
      let n = decoded a in
      let d = (both-done (send_answer n) (and_then (packet_answer n.setup.config.nodes p) (hear_answer n (packet_in p)))
      (node_done a (heard_answer n p) v e)).1 in
      let h = both-done (packet_answer n.setup.config.nodes p) (hear_answer n (packet_in p)) d in
      keeps-hear n (packet_in p) (range-of a v) h.1 (packet-sound n.setup.config.nodes p h.0)

  pub close-range : (out told : List ℕ) → closing_of a out told ≡ Done → in_range (closed_node (decoded a)) ≡ true
  unfolding closing_of
  close-range out told e =
      let n = decoded a in
      keeps-close n (range-of a v)
      (both-done (close_answer n) (and_then (room_answer ground_size told) (close_room (closed_node n) out))
      (node_done a (closed_answer n out told) v e)).0

  pub close-stays : (out told : List ℕ) → valid (after_close a out told) ≡ true
  unfolding after_close
  close-stays out told = kept-valid a (closing_of a out told) (closed_node (decoded a)) (long-close (decoded a) (lengths a))
      (close-range out told) v

  pub take_range : (q : List ℕ) → taking_of a q ≡ Done → in_range (taken_node (decoded a) (schedule_in q)) ≡ true
  unfolding taking_of
  take_range q e =
      let n = decoded a in
      let d = both-done (take_answer n) (schedule_answer n.setup q) (node_done a (taken_answer n q) v e) in
      let s = schedule-sound n.setup q d.1 in
      keeps-take n (schedule_in q) (range-of a v) d.0 s.0 s.1

  pub end-range : ending_of a ≡ Done → in_range (ended_node (decoded a)) ≡ true
  unfolding ending_of
  end-range e = let n = decoded a in keeps-end n (range-of a v) (node_done a (end_answer n) v e)

  pub end_stays : valid (after_end a) ≡ true
  unfolding after_end
  end_stays = kept-valid a (ending_of a) (ended_node (decoded a)) (long-end (decoded a) (lengths a)) end-range v

  pub want-range : (d : ℕ) → wanting_of a d ≡ Done → in_range (wanted_node (decoded a) d) ≡ true
  unfolding wanting_of
  want-range d e = keeps-want (decoded a) d (range-of a v)
      (ltb-false top_request d (test-passed (ltb top_request d) OutOfRange (is_node_area a) refl e).0)
