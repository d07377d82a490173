-- Lists of C calls on the memory of a group, with windows, tallies and reports: what memory and area stand for after the list is the run of
-- the calls that were accepted, from an empty group on; and what is proved over lists of events is said of each number's words and bytes.
-- Refused calls stand in the list too: any number, any list of windows, any tally, memory or an output that is too short.
-- Assumes nothing.
use Rattle.std.specs.Prelude.{◌≡◌, Bool, true, false, cond, ◌&&◌, ◌||◌, List, [], ◌∷◌, ◌++◌, ℕ, ◌-◌, ◌≤◌, eqb, length}
use Rattle.node.specs.Answers.{number}
use Rattle.node.specs.Answers.{Crowded}
use Rattle.site.specs.Answers.{area_size}
use Rattle.site.specs.Run.{RunState}
use Rattle.node.specs.declared.Config.{Config}
use Rattle.site.specs.Model.{Site}
use Rattle.site.specs.declared.Event.{Event}
use Rattle.histories.specs.Past.{Past, no_past}
use Rattle.windows.specs.declared.Window.{Window}
use Rattle.machine.specs.timed.Timed.{Timed}
use Rattle.machine.specs.timed.Calls.{TimedState, run_calls}
use Rattle.machine.specs.timed.Stored.{timed_in}
use Rattle.agreement.specs.daily.Daily.{begin_by, events_of_all}
use Rattle.tally.specs.declared.Tally.{Tally}
use Rattle.recovery.specs.Calm.{live_in, live_set, Ready, Calm, whole, Risen}
use Rattle.calls.specs.lifted.Lifted.{Claim, Agreed, Informed, Completes, Rises, Remains, Settles, SendsAbove, Heirs, FirstHeirs}
use Rattle.script.specs.events.Events.{event_at}
use Rattle.std.specs.Prelude.{Option}
use Rattle.std.specs.Prelude.{None, Some}
use Rattle.sites.specs.one.Memory.{timed_of}
use Rattle.sites.specs.one.Calls.{table_from}
use Rattle.calls.specs.ledger.Lists.{Did, CalledAll, left_by, SiteStep, step_of, steps_by, calls_in, past_by, Threaded}
use Rattle.calls.specs.ledger.Lists.{ClaimsOnce, Accounted}
use Rattle.calls.specs.ledger.Ledger as ledger
use Rattle.group.specs.Group.{Group, Taken, vacant, site_slot_of}
use Rattle.group.specs.Calls.{GroupCall, LoadSite}
use Rattle.group.specs.Steps.{run_group}
use Rattle.group.specs.Fit.{Fit}
use Rattle.sites.specs.many.Memory.{Memory, Lent, store_at, day_at, group_in}
use Rattle.sites.specs.many.Calls.{event_call, rows_answer, group_rows, tally_loaded, group_line_answer, group_after_line, tally_after_line}
use Rattle.sites.specs.many.Calls.{group_node_answer, node_out}

-- the memory of a group with its packet area, and the group that they stand for
pub record Lending : Type 0 where
  pub memory : Memory
  pub area : List ℕ

abbrev pub stands_for : Lending → Group
stands_for l = group_in l.memory l.area

-- the site with its day at a number, in its words and bytes
abbrev pub timed_at : ℕ → Lending → Timed
timed_at a l = timed_in (store_at l.memory (a - 1)) (day_at l.memory.table (a - 1))

abbrev pub site_at : ℕ → Lending → Site
site_at a l = (timed_at a l).site

-- a call of hydra_group_load: a number, figures, rows, a day, its windows, and a tally; and one of hydra_group_event: a number, three
-- numbers, and what is lent with them
pub data GroupMade : Type 0 where
  LoadMade : ℕ → Config → List ℕ → ℕ → List Window → Tally → GroupMade
  EventMade : ℕ → ℕ → ℕ → ℕ → Lent → GroupMade

abbrev pub made_number : GroupMade → ℕ
made_number (LoadMade a f rows D ws t) = a
made_number (EventMade a event node with v) = a

-- what the contract of a call says of its answer, of the group that memory and area stand for then, and of the tally
pub record LoadCalled (m : Lending) (a : ℕ) (f : Config) (rows : List ℕ) (D : ℕ) (ws : List Window) (t : Tally) (n : ℕ) (u : Tally)
    (l : Lending) : Type 0 where
  pub answer : n ≡ number (rows_answer m.memory a f rows D ws)
  pub group : stands_for l ≡ group_rows m.memory m.area a f rows D ws
  pub tally : u ≡ tally_loaded m.memory a f rows D ws t

pub record EventCalled (m : Lending) (a : ℕ) (v : Lent) (p : (Option Event)) (n : ℕ) (u : Tally) (l : Lending) : Type 0 where
  pub answer : n ≡ number (group_line_answer m.memory m.area a v p)
  pub group : stands_for l ≡ group_after_line m.memory m.area a v p
  pub tally : u ≡ tally_after_line m.memory m.area a v p

abbrev pub CallOf : Lending → GroupMade → ℕ → Tally → Lending → Type 0
CallOf m (LoadMade a f rows D ws t) n u l = LoadCalled m a f rows D ws t n u l
CallOf m (EventMade a event node with v) n u l = EventCalled m a v (event_at event node with) n u l

abbrev pub Called : Lending → Did GroupMade Lending → Type 0
Called m d = CallOf m d.call d.answer d.tally d.left

abbrev pub Calls : Type 0
Calls = List (Did GroupMade Lending)

-- the group's call: three numbers that make no event make none
abbrev pub line_call : ℕ → List Window → (Option Event) → List GroupCall
line_call a ws None = []
line_call a ws (Some e) = event_call a ws e ∷ []

abbrev pub group_call : GroupMade → List GroupCall
group_call (LoadMade a f rows D ws t) = LoadSite a f (table_from rows) D ws ∷ []
group_call (EventMade a event node with v) = line_call a v.windows (event_at event node with)

-- the calls that were answered with 0
unfoldable pub accepted : Calls → List GroupCall
accepted [] = []
accepted (d ∷ ds) = cond (eqb d.answer 0) (group_call d.call) [] ++ accepted ds

-- One number: the steps of its site are the accepted events of the number
abbrev pub step_made : ℕ → Lending → GroupMade → Tally → Lending → List SiteStep
step_made a m (LoadMade b f rows D ws t) u l = []
step_made a m (EventMade b event node with v) u l =
    cond (eqb b a) (step_of (event_at event node with) v.windows (site_at a m) (site_at a l) v.tally u) []

abbrev pub step_for : ℕ → Lending → Did GroupMade Lending → List SiteStep
step_for a m d = step_made a m d.call d.tally d.left

abbrev pub steps_of : ℕ → Lending → Calls → List SiteStep
steps_of a m ds = steps_by (step_for a) m ds

-- whether a load of the number is among the calls that were answered with 0
abbrev pub is_load : ℕ → GroupMade → Bool
is_load a (LoadMade b f rows D ws t) = eqb b a
is_load a (EventMade b event node with v) = false

unfoldable pub loads_again : ℕ → Calls → Bool
loads_again a [] = false
loads_again a (d ∷ ds) = (eqb d.answer 0 && is_load a d.call) || loads_again a ds

-- memory as hydra_group_begin left it, calls, a load of a number, and calls behind it
pub record Run : Type 0 where
  pub number : ℕ
  pub config : Config
  pub rows : List ℕ
  pub day : ℕ
  pub windows : List Window
  pub tally : Tally
  pub start : Lending
  pub before : Calls
  pub load : Did GroupMade Lending
  pub behind : Calls

abbrev pub left_in : Run → Lending
left_in r = left_by r.load.left r.behind

-- each call is on the memory that the one before left; the load is answered with 0, and the number is not loaded again
pub record Loaded (r : Run) : Type 0 where
  pub begun : stands_for r.start ≡ vacant r.start.area
  pub room : area_size ≤ length r.start.area
  pub before : CalledAll Called r.start r.before
  pub load : LoadCalled (left_by r.start r.before) r.number r.config r.rows r.day r.windows r.tally
      r.load.answer r.load.tally r.load.left
  pub answer : r.load.answer ≡ 0
  pub behind : CalledAll Called r.load.left r.behind
  pub last : loads_again r.number r.behind ≡ false

-- the site at the number then, its steps since the load, and its past
abbrev pub site_of_run : Run → Site
site_of_run r = site_at r.number (left_in r)

abbrev pub steps_in : Run → List SiteStep
steps_in r = steps_of r.number r.load.left r.behind

abbrev pub past_in : Run → Past
past_in r = past_by (no_past (site_at r.number r.load.left)) (steps_in r)

-- what these steps make of the site alone, with any area of its own
abbrev pub alone_in : Run → List ℕ → TimedState
alone_in r own = run_calls (begin_by r.config (table_from r.rows) r.day r.windows own) (calls_in (steps_in r))

-- the site with that area
abbrev pub run_state_in : Run → List ℕ → RunState
run_state_in r own = record { site = site_of_run r; area = (alone_in r own).area }

-- a claim about a moment (module lifted), of the words and bytes of each number since its load
pub record InGroup (P : Claim) : Type 0 where
  pub holds : (r : Run) → Loaded r → (own : List ℕ) → area_size ≤ length own → P r.config (run_state_in r own) (past_in r)

-- more calls behind
abbrev pub further : Run → Calls → Run
further r es =
    record {
      number = r.number;
      config = r.config;
      rows = r.rows;
      day = r.day;
      windows = r.windows;
      tally = r.tally;
      start = r.start;
      before = r.before;
      load = r.load;
      behind = r.behind ++ es;
    }

-- Two runs: the calls of a number, and whether 17 answered them; and the answers
pub record OwnCall : Type 0 where
  pub call : GroupMade
  pub crowded : Bool

unfoldable pub own_made : ℕ → Calls → List OwnCall
own_made a [] = []
own_made a (d ∷ ds) =
    cond (eqb (made_number d.call) a) (record { call = d.call; crowded = eqb d.answer (number Crowded) } ∷ []) [] ++ own_made a ds

unfoldable pub answers_of : ℕ → Calls → List ℕ
answers_of a [] = []
answers_of a (d ∷ ds) = cond (eqb (made_number d.call) a) (d.answer ∷ []) [] ++ answers_of a ds

-- the same load of the same number, the same calls of it, and 17 answers the same of these
pub record SameCalls (r s : Run) : Type 0 where
  pub number : r.number ≡ s.number
  pub config : r.config ≡ s.config
  pub rows : r.rows ≡ s.rows
  pub day : r.day ≡ s.day
  pub windows : r.windows ≡ s.windows
  pub own : own_made r.number r.behind ≡ own_made s.number s.behind

-- the same answers, the same site with its day, and the same answers and bytes of hydra_group_node for each of its nodes
pub record Alike (r s : Run) : Type 0 where
  pub answers : answers_of r.number r.behind ≡ answers_of s.number s.behind
  pub site : timed_at r.number (left_in r) ≡ timed_at s.number (left_in s)
  pub told : (j : ℕ) (out : List ℕ) → group_node_answer (left_in r).memory r.number j out
      ≡ group_node_answer (left_in s).memory s.number j out
  pub listed : (j : ℕ) (out : List ℕ) → node_out (left_in r).memory r.number j out ≡ node_out (left_in s).memory s.number j out

-- the statement: proved in proofs/register/Theorem.antt
pub record Register : Type 0 where
  -- what memory and area stand for after a list of calls
  pub stands : (m : Lending) (ds : Calls) → CalledAll Called m ds → stands_for (left_by m ds) ≡ run_group (stands_for m) (accepted ds)
  -- from hydra_group_begin on: the group of the accepted calls, with its places
  pub final : (m : Lending) (ds : Calls) → stands_for m ≡ vacant m.area → CalledAll Called m ds
      → stands_for (left_by m ds) ≡ run_group (vacant m.area) (accepted ds)
  pub fits : (m : Lending) (ds : Calls) → stands_for m ≡ vacant m.area → area_size ≤ length m.area → CalledAll Called m ds
      → Fit (stands_for (left_by m ds))
  -- as alone: a site with its day stands at the number, and it is what its own accepted calls make of a site alone, whatever was called for
  -- other numbers before and in between
  pub site_slot_taken : (r : Run) → Loaded r → site_slot_of (stands_for (left_in r)) r.number ≡ Taken (timed_at r.number (left_in r))
  pub alone : (r : Run) → Loaded r → (own : List ℕ) → area_size ≤ length own → timed_at r.number (left_in r) ≡ (alone_in r own).timed
  -- so it is what the memory of one site stands for (module ledger) after the same load and the same accepted calls
  pub beside : (r : Run) → Loaded r → (m : ledger.SiteMemory) (ds : List (Did ledger.Made ledger.SiteMemory)) → area_size ≤ length m.area
      → ledger.Begun r.config r.rows r.day r.windows m → CalledAll ledger.Called m ds
      → calls_in (steps_in r) ≡ calls_in (ledger.steps_of m ds)
      → timed_at r.number (left_in r) ≡ timed_of (ledger.store_of (left_by m ds))
  -- two runs with the same calls of a number
  pub apart : (r s : Run) → Loaded r → Loaded s → SameCalls r s → Alike r s
  -- demand 3, and what follows a determination
  pub demand3 : InGroup Agreed
  pub sends-above : InGroup SendsAbove
  pub heirs : InGroup Heirs
  pub first-heirs : InGroup FirstHeirs
  -- what two nodes know that lack no request, and two that are complete
  pub informed : InGroup Informed
  pub completes : InGroup Completes
  -- how soon after calm
  pub rises : InGroup Rises
  pub remains : InGroup Remains
  pub settles : InGroup Settles
  -- a calm epoch made of the calls es: the number's accepted events among them, with the wants of their windows, are `body` and its end
  pub calm : (r : Run) (es : Calls) → Loaded (further r es) → (own : List ℕ) → area_size ≤ length own → (body : List Event) (v : ℕ)
      → events_of_all (alone_in r own) (calls_in (steps_of r.number (left_in r) es)) ≡ whole body
      → Ready (past_in r) (site_of_run r) v → Calm (live_set (site_of_run r)) (run_state_in r own) body
      → (i j : ℕ) → live_in (site_of_run r) i ≡ true → live_in (site_of_run r) j ≡ true → Risen (site_of_run r) (site_of_run (further r es)) v i j
  -- slots held: no slot is claimed twice; and the sums of the tally that the load left and each accepted event of the number was lent
  pub claims : InGroup ClaimsOnce
  pub accounts : (r : Run) → Loaded r → Threaded r.load.tally (steps_in r)
      → Accounted (site_at r.number r.load.left) (steps_in r)
