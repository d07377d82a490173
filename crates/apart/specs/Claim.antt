-- Demand 3 of boxes with a clock each. N boxes are begun by `hydra_begin`, each call answered by 0, on memory that holds anything; then
-- comes any list of steps, in any order among the boxes, whichever packets are lost, a crash leaving any bytes.
-- Of the list itself nothing is asked for the agreement, the grounds of versions and the replay; but the rules R1, R2 and R4 are in the
-- shape of the model (Apart.antt).
-- That no two boxes use one slot at one moment needs a fourth rule:
-- R3 no box that is up ends a round before every box that is up has closed it, and a box restarts abreast of those that are up (`Orderly`).
-- No box sees another's clock, so a service keeps R3 by time (Time.antt).
-- Assumes nothing.
use Rattle.std.specs.Prelude.{◌≡◌, Bool, true, false, not, cond, ◌&&◌, ◌≢◌, List, [], ◌∷◌, ◌++◌, ℕ, ◌+◌, ◌*◌, ◌/◌, ◌≤◌, ◌<◌, eqb, length, get_or}
use Rattle.words.specs.Bits.{is_in}
use Rattle.node.specs.Answers.{Done, OwnPacket, WrongSender}
use Rattle.area.specs.Area.{encoded, decoded, valid}
use Rattle.host.specs.Calls.{hearing_of, taking_of, ground_size, closing_of, ending_of, slots_size, slots_answer}
use Rattle.host.specs.Slots.{slot_shown}
use Rattle.node.specs.declared.Config.{Config}
use Rattle.site.specs.declared.Table.{Table}
use Rattle.site.specs.declared.Event.{Event}
use Rattle.site.specs.declared.Event.TheVariants.{Send, Hear, Close, Take, End, Want, Crash, Restart}
use Rattle.site.specs.Answers.{area_size}
use Rattle.site.specs.Members.{member_at}
use Rattle.site.specs.Steps.{end_member}
use Rattle.windows.specs.declared.Window.{Window}
use Rattle.machine.specs.timed.Timed.{given_member}
use Rattle.host.specs.lookup.Lookup.{demand_answer, demand_after}
use Rattle.boxes.specs.service.Service.{box_member}
use Rattle.histories.specs.Reached.{begin}
use Rattle.agreement.specs.Demand.{final}
use Rattle.boxes.specs.fleet.Fleet.{Box, Act, zeros, reading, version_in, box_owners, slot_in, box_phase, box_slots, sender_in, live, sends}
use Rattle.boxes.specs.fleet.Fleet.{fleet_answers}
use Rattle.boxes.specs.fleet.Fleet.{begun_fleet}
use Rattle.boxes.specs.fleet.Claim.{Begins, ReportsAgree, SlotsApart, SlotsAsRead, BoxJustified, SameBoxDetermination, Shows, site_answers}
use Rattle.boxes.specs.fleet.Claim.{events}
use Rattle.boxes.specs.fleet.Claim.{fleet_final, FieldDemand3}
use Rattle.apart.specs.Determined.{place_of_phase, epoch_of, start_of, node_in_phase, Negotiates, Determines, determined}
use Rattle.apart.specs.Time.{AllInStep, Timetable, AllOnTime, KeepsTime}
use Rattle.apart.specs.Apart.{Step, tick, act, Apart, negotiation, last_phase, box_now, apart_after, apart_run, sorted, sorted_before}
use Rattle.apart.specs.Apart.{sorted_answers, begun_apart}

-- In each phase that it has come to, each box is byte for byte the box of the sorted list under one shared clock, of which all of
-- crates/boxes is proved.
pub record AsOne (f : Config) (t : Table) (left : ℕ → List ℕ) (A : Apart) : Type 0 where
  pub boxes : (s j : ℕ) → s ≤ A.clock j → (A.phases s).boxes j ≡ (fleet_final f t left (sorted A.log s)).boxes j
  -- so also at its own start of the phase
  pub starts : (s j : ℕ) → s ≤ A.clock j → start_of f t left A s j ≡ (fleet_final f t left (sorted_before A.log s)).boxes j
  -- the number of a phase tells whether it is a negotiation, and its place in the epoch
  pub phase : (s : ℕ) → (A.phases s).negotiates ≡ negotiation s
  pub place : (s : ℕ) → (A.phases s).place ≡ place_of_phase f s
  -- each event has the answer that it has in the sorted list
  pub answers : (s : ℕ) → fleet_answers (begun_fleet f t left) (sorted A.log s) ≡ sorted_answers A.answers s
  pub demand3 : (s : ℕ) → FieldDemand3 f t left (sorted A.log s)

-- a box is up as it was, reads the same version, owners and phase, and is told the same own slots
pub record SameReading (b c : Box) : Type 0 where
  pub up : c.up ≡ b.up
  pub version : version_in (reading c) ≡ version_in (reading b)
  pub owners : box_owners (reading c) ≡ box_owners (reading b)
  pub phase : box_phase (reading c) ≡ box_phase (reading b)
  pub answer : slots_answer c.area (zeros slots_size) ≡ slots_answer b.area (zeros slots_size)
  pub own : box_slots c ≡ box_slots b

-- steps in which the clock of box j does not go on and box j does not crash
abbrev pub no_crash : ℕ → Event → Bool
no_crash j (Send i) = true
no_crash j (Hear i p) = true
no_crash j Close = true
no_crash j (Take i h) = true
no_crash j End = true
no_crash j (Want i d) = true
no_crash j (Crash i) = not (eqb i j)
no_crash j (Restart i flags) = true

abbrev pub stays : ℕ → Step → Bool
stays j (tick i) = not (eqb i j)
stays j (act a) = no_crash j a.event

unfoldable pub all_stay : ℕ → List Step → Bool
all_stay j [] = true
all_stay j (m ∷ steps) = stays j m && all_stay j steps

-- box j, live and in negotiation by its own clock, reads its own number at the slot of index k
pub record Reads (A : Apart) (j k : ℕ) : Type 0 where
  pub numbered : 1 ≤ j
  pub phase : negotiation (A.clock j) ≡ true
  pub lives : live (box_now A j) ≡ true
  pub owns : slot_in (reading (box_now A j)) k ≡ j

-- box j, up, calls `hydra_slots`, which answers 0, and the slot of index k is among its own: nothing is asked of its phase, and
-- `hydra_read` is not called
pub record Gets (A : Apart) (j k : ℕ) : Type 0 where
  pub numbered : 1 ≤ j
  pub up : (box_now A j).up ≡ true
  pub answer : slots_answer (box_now A j).area (zeros slots_size) ≡ Done
  pub has : slot_shown (box_slots (box_now A j)) k ≡ true

-- a service knows by either call that the slot is its box's own
pub data Knows (A : Apart) (j k : ℕ) : Type 0 where
  by_read : Reads A j k → Knows A j k
  by_slots : Gets A j k → Knows A j k

-- box j uses a slot after these steps: it was its own by one of the two calls, and the box has neither closed nor crashed since
pub record Uses (f : Config) (t : Table) (left : ℕ → List ℕ) (steps : List Step) (j k : ℕ) : Type 0 where
  pub before : List Step
  pub since : List Step
  pub are : before ++ since ≡ steps
  pub knew : Knows (apart_run (begun_apart f t left) before) j k
  pub stayed : all_stay j since ≡ true

-- what the calls of box j answer at its moment
pub record Works (A : Apart) (j : ℕ) : Type 0 where
  -- a box that is up holds a node, so that no call on it is refused as 14
  pub node : (box_now A j).up ≡ true → valid (box_now A j).area ≡ true
  -- a live one is in the phase of its clock, so that no call in its turn is refused as 4
  pub phase : live (box_now A j) ≡ true → eqb (box_phase (reading (box_now A j))) 0 ≡ negotiation (A.clock j)
  -- its close and its end are done
  pub closes : negotiation (A.clock j) ≡ true → live (box_now A j) ≡ true
      → closing_of (box_now A j).area (box_now A j).out (zeros ground_size) ≡ Done
  pub ends : negotiation (A.clock j) ≡ false → (box_now A j).up ≡ true → ending_of (box_now A j).area ≡ Done
  -- a packet of its own negotiation it hears with 0, and its own with 9: never with 11, 12 or 13
  pub hears : negotiation (A.clock j) ≡ true → live (box_now A j) ≡ true → (p : ℕ) → p < length (A.phases (A.clock j)).air
      → hearing_of (box_now A j).area (get_or (A.phases (A.clock j)).air p [])
      ≡ cond (eqb (sender_in (get_or (A.phases (A.clock j)).air p [])) j) OwnPacket Done
  -- a schedule of its own distribution it takes with 0, or 10 where it sends itself: never with 11 or 12
  pub takes : negotiation (A.clock j) ≡ false → live (box_now A j) ≡ true → (i : ℕ) → 1 ≤ i → A.clock j ≤ A.clock i
      → live ((A.phases (A.clock j)).boxes i) ≡ true → sends ((A.phases (A.clock j)).boxes i) ≡ true
      → taking_of (box_now A j).area ((A.phases (A.clock j)).boxes i).out ≡ cond (sends (box_now A j)) WrongSender Done
  -- `hydra_slots` answers a live one in its negotiation, with the slots that it reads as its own, and answers none elsewhere
  pub slots : negotiation (A.clock j) ≡ true → live (box_now A j) ≡ true → SlotsAsRead (box_now A j) j
  pub slots-only : (box_now A j).up ≡ true → slots_answer (box_now A j).area (zeros slots_size) ≡ Done
      → (live (box_now A j) ≡ true) × (negotiation (A.clock j) ≡ true)

-- two clocks: where one has come to a round, the other has closed the round before
pub record Abreast (c d : ℕ) : Type 0 where
  pub one : 3 * (c / 3) ≤ d + 2
  pub other : 3 * (d / 3) ≤ c + 2

pub record AllAbreast (A : Apart) : Type 0 where
  pub any : (i j : ℕ) → (box_now A i).up ≡ true → (box_now A j).up ≡ true → Abreast (A.clock i) (A.clock j)

-- R3 of one step: a box that is up ends a round only where every box that is up has closed it, and a box comes up with a clock that is
-- abreast
pub record Waits (A : Apart) (m : Step) : Type 0 where
  pub ends : (j : ℕ) → m ≡ tick j → last_phase (A.clock j) ≡ true → (box_now A j).up ≡ true → (i : ℕ) → (box_now A i).up ≡ true
      → A.clock j ≤ A.clock i + 1
  pub restarts : (a : Act) (j flags : ℕ) → m ≡ act a → a.event ≡ Restart j flags → (box_now A j).up ≡ false → (i : ℕ)
      → (box_now A i).up ≡ true → Abreast (A.clock i) (A.clock j)

pub data Orderly : Apart → List Step → Type 0 where
  none : {A : Apart} → Orderly A []
  then : {A : Apart} {m : Step} {steps : List Step} → Waits A m → Orderly (apart_after A m) steps → Orderly A (m ∷ steps)

-- The desk's replay of the sorted list up to phase s, with any packet area of 11,520 bytes or more: each event has the answer that it had,
-- and the listing shows each box that has come to this phase. Of a box that has not come to it the listing shows nothing that the box
-- holds.
pub record Replays (f : Config) (t : Table) (A : Apart) (area : List ℕ) (s : ℕ) : Type 0 where
  pub answers : site_answers (begin f t area) (events (sorted A.log s)) ≡ sorted_answers A.answers s
  pub shows : (j : ℕ) → 1 ≤ j → s ≤ A.clock j → Shows (member_at (final f t area (events (sorted A.log s))) j) ((A.phases s).boxes j)

-- what box j reads in phase s, as it last was in it
abbrev pub reading_in : Apart → ℕ → ℕ → List ℕ
reading_in A s j = reading ((A.phases s).boxes j)

-- what holds after any list of steps
pub record ApartDemand3 (f : Config) (t : Table) (left : ℕ → List ℕ) (A : Apart) : Type 0 where
  pub as_one : AsOne f t left A
  -- any two boxes agree in each negotiation that both have come to, at whatever moments they read
  pub agreement : f.split ≡ 0 → (s i j : ℕ) → Negotiates A s i → Negotiates A s j → 0 < version_in (reading_in A s i)
      → 0 < version_in (reading_in A s j)
      → ReportsAgree (reading_in A s i) (reading_in A s j)
  -- and what `hydra_slots` tells the two in it has no slot in common
  pub masks : f.split ≡ 0 → (s i j : ℕ) → Negotiates A s i → Negotiates A s j → i ≢ j
      → SlotsApart ((A.phases s).boxes i) ((A.phases s).boxes j)
  -- a version that a box determines rests on a majority of the N boxes, each with the request that the box held at its own start of this
  -- round, at the version just below; and each of these boxes has come to this round
  pub justified : f.split ≡ 0 → (s j : ℕ) → Determines f A s j → BoxJustified f.nodes (determined f t left A s j)
  pub came : f.split ≡ 0 → (s j k : ℕ) → Determines f A s j → is_in (node_in_phase A s j).round.merged k ≡ true → s ≤ A.clock k
  -- two boxes that determine in one epoch, in whichever rounds, determine the same
  pub unique : f.split ≡ 0 → (s i r j : ℕ) → Determines f A s i → Determines f A r j → epoch_of f s ≡ epoch_of f r
      → SameBoxDetermination (determined f t left A s i) (determined f t left A r j)
  pub replayed : (area : List ℕ) → area_size ≤ length area → (s : ℕ) → Replays f t A area s
  pub works : (j : ℕ) → 1 ≤ j → Works A j

-- the want that a service makes for box j before the end with which epoch e of a day of D begins: the demand that `hydra_demand` gives,
-- handed the one that the box has
abbrev pub want_by : ℕ → ℕ → List Window → ℕ → ℕ → Box → Step
want_by N D ws e j b = act (record { event = Want j (demand_after N j D ws e (decoded b.area).demand); left = [] })

-- the theorem's statement: proved in proofs/Theorem.antt. Each claim is of the boxes after any steps from the beginning.
pub record ApartHolds : Type 0 where
  pub demand3 : (f : Config) (t : Table) (left : ℕ → List ℕ) → Begins f t left → (steps : List Step)
      → ApartDemand3 f t left (apart_run (begun_apart f t left) steps)
  -- the slots that `hydra_slots` gives to a box are those that it reads as its own in negotiation
  pub same-slots : (f : Config) (t : Table) (left : ℕ → List ℕ) → Begins f t left → (steps : List Step) (j k : ℕ)
      → (Gets (apart_run (begun_apart f t left) steps) j k → Reads (apart_run (begun_apart f t left) steps) j k)
      × (Reads (apart_run (begun_apart f t left) steps) j k → Gets (apart_run (begun_apart f t left) steps) j k)
  -- what a box reads in negotiation it reads until its own close, whatever it hears and wants and whatever the others do
  pub until-close : (f : Config) (t : Table) (left : ℕ → List ℕ) → Begins f t left → (steps more : List Step) (j : ℕ) → 1 ≤ j
      → negotiation ((apart_run (begun_apart f t left) steps).clock j) ≡ true → (box_now (apart_run (begun_apart f t left) steps) j).up ≡ true
      → all_stay j more ≡ true
      → SameReading (box_now (apart_run (begun_apart f t left) steps) j) (box_now (apart_run (apart_run (begun_apart f t left) steps) more) j)
  -- two boxes whose clocks are abreast use no slot in common
  pub alone-two : (f : Config) (t : Table) (left : ℕ → List ℕ) → Begins f t left → f.split ≡ 0 → (steps : List Step) (i j k : ℕ)
      → Abreast ((apart_run (begun_apart f t left) steps).clock i) ((apart_run (begun_apart f t left) steps).clock j) → Uses f t left steps i k
      → Uses f t left steps j k → i ≡ j
  -- so no two boxes use one slot while all that are up are abreast: as they are after an orderly list, and while all are in step
  pub alone : (f : Config) (t : Table) (left : ℕ → List ℕ) → Begins f t left
      → f.split ≡ 0 → (steps : List Step) → AllAbreast (apart_run (begun_apart f t left) steps)
      → (i j k : ℕ) → Uses f t left steps i k → Uses f t left steps j k → i ≡ j
  pub abreast : (f : Config) (t : Table) (left : ℕ → List ℕ) (steps : List Step) → Orderly (begun_apart f t left) steps
      → AllAbreast (apart_run (begun_apart f t left) steps)
  pub in_step : (A : Apart) → AllInStep A → AllAbreast A
  -- boxes in step that are both in negotiation, or both in distribution, are in one round: what is handed over at once is of the right one
  pub at_once : (A : Apart) → AllInStep A → (i j : ℕ) → (box_now A i).up ≡ true → (box_now A j).up ≡ true
      → negotiation (A.clock i) ≡ negotiation (A.clock j) → A.clock i / 3 ≡ A.clock j / 3
  -- by time: where every box that is up is on time and the skew is at most the shortest phase, no two boxes use one slot
  pub keeps-time : KeepsTime
  pub alone-on-time : (f : Config) (t : Table) (left : ℕ → List ℕ) → Begins f t left → f.split ≡ 0
      → (steps : List Step) (shortest skew time : ℕ) (due : ℕ → ℕ)
      → Timetable shortest due → skew ≤ shortest → AllOnTime due skew time (apart_run (begun_apart f t left) steps) → (i j k : ℕ)
      → Uses f t left steps i k → Uses f t left steps j k → i ≡ j
  -- windows: the want that is due is an event like any other, so all of the above holds of lists with it; made right before the end, it
  -- leaves in the area what an end with windows makes of the node
  pub windows : (f : Config) (t : Table) (left : ℕ → List ℕ) → Begins f t left → (steps : List Step) (D e j : ℕ) (ws : List Window)
      → demand_answer f.nodes j D ws e ≡ Done
      → (box_now (apart_run (begun_apart f t left) steps) j).up ≡ true → last_phase ((apart_run (begun_apart f t left) steps).clock j) ≡ true
      → (box_now (apart_run (apart_run (begun_apart f t left) steps) (want_by f.nodes D ws e j
      (box_now (apart_run (begun_apart f t left) steps) j) ∷ tick j ∷ [])) j).area
      ≡ encoded (end_member (given_member ws e j (box_member (box_now (apart_run (begun_apart f t left) steps) j).area))).node
