-- Demand 3 on the bytes of the boxes. N boxes are begun by `hydra_begin`, each call answered by 0, on memory that holds anything; then any
-- list of the eight events, some of them refused, with any packets lost and any order of hearings, a crash leaving any bytes. Nothing else
-- is asked.
-- Assumes nothing.
use Rattle.std.specs.Prelude.{◌≡◌, true, false, cond, ◌≢◌, ℕ, ◌+◌, ◌*◌, ◌≤◌, ◌<◌, eqb, length, get_or}
use mathlib.Core.List.{List, [], ◌∷◌, map, Memᴰ}
use Rattle.std.specs.Int.Bits
use Rattle.words.specs.Bits.{size, is_in, how_many}
use Rattle.membership.specs.requests.Requests.{entry_of}
use Rattle.node.specs.Answers.{Answer}
use Rattle.node.specs.Answers.{Done, WrongSender, OwnPacket}
use Rattle.wire.specs.Layout.{packet_size}
use Rattle.area.specs.Area.{node_size, encoded, valid}
use Rattle.host.specs.Report.{report_size}
use Rattle.host.specs.Calls.{beginning, out_send, hearing_of, ground_size, closing_of, taking_of, ending_of, out_read, slots_size, slots_answer}
use Rattle.host.specs.Calls.{out_slots}
use Rattle.host.specs.Slots.{slot_shown, count_shown}
use Rattle.lists.specs.Bytes.{window}
use Rattle.site.specs.Members.{setup_of, member_at, outside, is_live}
use Rattle.site.specs.Answers.{area_size, answer_of}
use Rattle.site.specs.Run.{RunState, after}
use Rattle.node.specs.declared.Config.{Config}
use Rattle.site.specs.declared.Table.{Table}
use Rattle.site.specs.Model.{Member}
use Rattle.site.specs.declared.Event.{Event}
use Rattle.histories.specs.Reached.{begin}
use Rattle.agreement.specs.Demand.{Demand3, final}
use Rattle.boxes.specs.fleet.Fleet.{Box, Fleet, Act, zeros, reading, version_in, box_owners, slot_in, request_in, box_phase, box_slots}
use Rattle.boxes.specs.fleet.Fleet.{sender_in}
use Rattle.boxes.specs.fleet.Fleet.{live}
use Rattle.boxes.specs.fleet.Fleet.{sends, fleet_run, fleet_answers, row_of, begun_fleet}
use Rattle.boxes.specs.fleet.Past.{BoxDetermination, box_trace, no_box_past}

-- there is a box, and each `hydra_begin` answers 0
pub record Begins (f : Config) (t : Table) (left : ℕ → List ℕ) : Type 0 where
  pub some : 1 ≤ f.nodes
  pub each : (j : ℕ) → outside f j ≡ false → beginning (window node_size (left j) 0) (setup_of f j) (row_of t j).version (row_of t j).flags
      (row_of t j).want ≡ Done

-- two boxes' reports agree: their versions differ by 1 at most, equal versions have the same owners, and the two give no slot to different
-- nodes
pub record ReportsAgree (q r : List ℕ) : Type 0 where
  pub near : (version_in q ≤ version_in r + 1) × (version_in r ≤ version_in q + 1)
  pub same : version_in q ≡ version_in r → box_owners q ≡ box_owners r
  pub slots : (k : ℕ) → slot_in q k ≢ 0 → slot_in r k ≢ 0 → slot_in q k ≡ slot_in r k

-- what `hydra_slots` wrote for two boxes has no bit in common
pub record SlotsApart (b c : Box) : Type 0 where
  pub low : Bits.bit_and (get_or (box_slots b) 0 0) (get_or (box_slots c) 0 0) ≡ 0
  pub high : Bits.bit_and (get_or (box_slots b) 1 0) (get_or (box_slots c) 1 0) ≡ 0

-- what holds of the boxes whenever the clock is in negotiation
pub record Agreeing (x : Fleet) : Type 0 where
  -- in negotiation any two live boxes whose reports have versions above 0 agree
  pub agreement : x.negotiates ≡ true → (i j : ℕ) → 1 ≤ i → 1 ≤ j → live (x.boxes i) ≡ true → live (x.boxes j) ≡ true
      → 0 < version_in (reading (x.boxes i)) → 0 < version_in (reading (x.boxes j))
      → ReportsAgree (reading (x.boxes i)) (reading (x.boxes j))
  -- no two live boxes each read their own number at the same slot
  pub alone : x.negotiates ≡ true → (i j : ℕ) → 1 ≤ i → 1 ≤ j → live (x.boxes i) ≡ true → live (x.boxes j) ≡ true
      → (k : ℕ) → slot_in (reading (x.boxes i)) k ≡ i → slot_in (reading (x.boxes j)) k ≡ j → i ≡ j
  -- and the masks that `hydra_slots` gives to two live boxes share no slot
  pub masks : x.negotiates ≡ true → (i j : ℕ) → 1 ≤ i → 1 ≤ j → live (x.boxes i) ≡ true → live (x.boxes j) ≡ true → i ≢ j
      → SlotsApart (x.boxes i) (x.boxes j)

-- a box was live at a round's start, and its report held this request, and a version just below
pub record BoxHeld (b : Box) (r v : ℕ) : Type 0 where
  pub live : live b ≡ true
  pub request : request_in (reading b) ≡ r
  pub version : version_in (reading b) + 1 ≡ v

-- a version that a box determined rests on requests of a majority of the N boxes; each box held that request at the round's start, at the
-- version just below
pub record BoxJustified (N : ℕ) (d : BoxDetermination) : Type 0 where
  pub most : N < 2 * size d.nodes
  pub held : (j : ℕ) → is_in d.nodes j ≡ true → BoxHeld (d.start j) (entry_of d.requests j) d.version

-- two boxes determined the same: version, schedule, nodes, and the requests of these nodes
pub record SameBoxDetermination (d e : BoxDetermination) : Type 0 where
  pub version : d.version ≡ e.version
  pub schedule : d.schedule ≡ e.schedule
  pub nodes : d.nodes ≡ e.nodes
  pub requests : (j : ℕ) → is_in d.nodes j ≡ true → entry_of d.requests j ≡ entry_of e.requests j

-- each version that a box determines at an accepted close, and any two of one epoch
pub record BoxesJustified (N : ℕ) (log : List BoxDetermination) : Type 0 where
  pub justified : (d : BoxDetermination) → Memᴰ d log → BoxJustified N d
  pub unique : (d e : BoxDetermination) → Memᴰ d log → Memᴰ e log → d.epoch ≡ e.epoch → SameBoxDetermination d e

-- `hydra_slots` is answered by 0 for box j, and tells just the slots for which `hydra_read` shows the number j, and how many these are
pub record SlotsAsRead (b : Box) (j : ℕ) : Type 0 where
  pub answer : slots_answer b.area (zeros slots_size) ≡ Done
  pub slots : (k : ℕ) → slot_shown (box_slots b) k ≡ eqb (slot_in (reading b) k) j
  pub count : count_shown (box_slots b) ≡ how_many 80 (λ k. eqb (slot_in (reading b) k) j)

-- the calls work
pub record Working (x : Fleet) : Type 0 where
  -- the area of a box that is up is a node's, so that no call on it is refused as 14
  pub node : (j : ℕ) → 1 ≤ j → (x.boxes j).up ≡ true → valid (x.boxes j).area ≡ true
  -- live boxes are in the clock's phase, so that no call that the clock allows is refused as 4
  pub phase : (j : ℕ) → 1 ≤ j → live (x.boxes j) ≡ true → eqb (box_phase (reading (x.boxes j))) 0 ≡ x.negotiates
  -- where the clock closes a negotiation or ends a round, each call is done
  pub closes : x.negotiates ≡ true → (j : ℕ) → 1 ≤ j → live (x.boxes j) ≡ true
      → closing_of (x.boxes j).area (x.boxes j).out (zeros ground_size) ≡ Done
  pub ends : x.negotiates ≡ false → (j : ℕ) → 1 ≤ j → (x.boxes j).up ≡ true → ending_of (x.boxes j).area ≡ Done
  -- a live box that hears a packet of this phase answers 0, or 9 to its own: never 11, 12 or 13
  pub hears : x.negotiates ≡ true → (j p : ℕ) → 1 ≤ j → live (x.boxes j) ≡ true → p < length x.air
      → hearing_of (x.boxes j).area (get_or x.air p []) ≡ cond (eqb (sender_in (get_or x.air p [])) j) OwnPacket Done
  -- a live box that takes what a live box sent at this round's close answers 0, or 10 where it sends itself: never 11 or 12
  pub takes : x.negotiates ≡ false → (i j : ℕ) → 1 ≤ i → 1 ≤ j → live (x.boxes i) ≡ true → sends (x.boxes i) ≡ true
      → live (x.boxes j) ≡ true
      → taking_of (x.boxes j).area (x.boxes i).out ≡ cond (sends (x.boxes j)) WrongSender Done
  -- a live box gets its own slots in negotiation, and no box gets them elsewhere
  pub slots : x.negotiates ≡ true → (j : ℕ) → 1 ≤ j → live (x.boxes j) ≡ true → SlotsAsRead (x.boxes j) j
  pub slots-only : (j : ℕ) → 1 ≤ j → (x.boxes j).up ≡ true → slots_answer (x.boxes j).area (zeros slots_size) ≡ Done
      → (live (x.boxes j) ≡ true) × (x.negotiates ≡ true)

-- nothing hangs on what a lent output held before a read, a send or a call for the own slots
pub record Plain (x : Fleet) : Type 0 where
  pub reads : (j : ℕ) → 1 ≤ j → (x.boxes j).up ≡ true → (out : List ℕ) → length out ≡ report_size
      → out_read (x.boxes j).area out ≡ reading (x.boxes j)
  pub sends : x.negotiates ≡ true → (j : ℕ) → 1 ≤ j → live (x.boxes j) ≡ true → (out : List ℕ) → length out ≡ packet_size
      → out_send (x.boxes j).area out ≡ out_send (x.boxes j).area (zeros packet_size)
  pub slots : x.negotiates ≡ true → (j : ℕ) → 1 ≤ j → live (x.boxes j) ≡ true → (out : List ℕ) → length out ≡ slots_size
      → out_slots (x.boxes j).area out ≡ box_slots (x.boxes j)

-- the field after a list of events from boxes just begun, and what was determined in it
abbrev pub fleet_final : Config → Table → (ℕ → List ℕ) → List Act → Fleet
fleet_final f t left acts = fleet_run (begun_fleet f t left) acts

abbrev pub box_determinations : Config → Table → (ℕ → List ℕ) → List Act → List BoxDetermination
box_determinations f t left acts = (box_trace (no_box_past (begun_fleet f t left)) (begun_fleet f t left) acts).log

-- The desk's replay of the same events

-- a box and a member of the replay's site: both up or both down, both live or neither, and the area of one that is up holds the bytes of
-- the member's node
pub record Shows (m : Member) (b : Box) : Type 0 where
  pub up : b.up ≡ m.up
  pub live : live b ≡ is_live m
  pub area : b.up ≡ true → b.area ≡ encoded m.node

unfoldable pub site_answers : RunState → List Event → List Answer
site_answers w [] = []
site_answers w (e ∷ es) = answer_of w.site w.area e ∷ site_answers (after w e) es

abbrev pub events : List Act → List Event
events acts = map (λ (a : Act). a.event) acts

-- the replay, with any packet area of 11,520 bytes or more, answers each event as the boxes do, and shows what they hold; and of its list
-- demand 3 holds whole where the site may not split
pub record Replayed (f : Config) (t : Table) (left : ℕ → List ℕ) (area : List ℕ) (acts : List Act) : Type 0 where
  pub answers : fleet_answers (begun_fleet f t left) acts ≡ site_answers (begin f t area) (events acts)
  pub phase : (fleet_final f t left acts).negotiates ≡ (final f t area (events acts)).negotiates
  pub shows : (j : ℕ) → 1 ≤ j → Shows (member_at (final f t area (events acts)) j) ((fleet_final f t left acts).boxes j)
  pub demand3 : f.split ≡ 0 → Demand3 f t area (events acts)

-- demand 3 of the boxes where the site may not split, and what their owners have in either form
pub record FieldDemand3 (f : Config) (t : Table) (left : ℕ → List ℕ) (acts : List Act) : Type 0 where
  pub agreeing : f.split ≡ 0 → Agreeing (fleet_final f t left acts)
  pub justified : f.split ≡ 0 → BoxesJustified f.nodes (box_determinations f t left acts)
  pub working : Working (fleet_final f t left acts)
  pub plain : Plain (fleet_final f t left acts)
  pub replayed : (area : List ℕ) → area_size ≤ length area → Replayed f t left area acts

-- the theorem's statement: proved in proofs/fleet/Theorem.antt
pub record FleetHolds : Type 0 where
  pub demand3 : (f : Config) (t : Table) (left : ℕ → List ℕ) → Begins f t left → (acts : List Act) → FieldDemand3 f t left acts
