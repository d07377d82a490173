-- Lists of C calls on the memory of one site (crate sites), with windows, tallies and reports: what memory stands for after the list is the
-- run of the calls that were accepted, and what is proved over lists of events is said of these words and bytes.
-- Refused calls stand in the list too: any numbers, any list of windows, any tally, an output that is too short.
-- Assumes nothing.
use Rattle.std.specs.Prelude.{◌≡◌, true, List, ℕ}
use Rattle.node.specs.Answers.{number}
use Rattle.site.specs.Run.{RunState}
use Rattle.node.specs.declared.Config.{Config}
use Rattle.site.specs.Model.{Site}
use Rattle.site.specs.declared.Event.{Event}
use Rattle.histories.specs.Past.{Past, no_past}
use Rattle.windows.specs.declared.Window.{Window}
use Rattle.machine.specs.Layout.{Store, store}
use Rattle.machine.specs.timed.Calls.{TimedState, run_calls}
use Rattle.agreement.specs.daily.Daily.{begin_by, events_of_all}
use Rattle.tally.specs.Counting.{first_tally}
use Rattle.tally.specs.declared.Tally.{Tally}
use Rattle.recovery.specs.Calm.{live_in, live_set, Ready, Calm, whole, Risen}
use Rattle.calls.specs.lifted.Lifted.{Claim, Agreed, Informed, Completes, Rises, Remains, Settles, SendsAbove, Heirs, FirstHeirs}
use Rattle.script.specs.events.Events.{event_at}
use Rattle.std.specs.Prelude.{Option}
use Rattle.sites.specs.one.Memory.{timed_of, kept_of}
use Rattle.sites.specs.one.Calls.{table_from, loading_of, timed_after_load, site_event_answer, kept_after_event}
use Rattle.calls.specs.ledger.Lists.{Did, CalledAll, left_by, SiteStep, step_of, steps_by, calls_in, past_by, Threaded}
use Rattle.calls.specs.ledger.Lists.{ClaimsOnce, Accounted}

-- what a tool keeps of a site: words, bytes and packet area
pub record SiteMemory : Type 0 where
  pub words : List ℕ
  pub bytes : List ℕ
  pub area : List ℕ

abbrev pub store_of : SiteMemory → Store
store_of m = store m.words m.bytes

-- what they stand for: the site with its day and its area; the site with its area; the site
abbrev pub stands_for : SiteMemory → TimedState
stands_for m = record { timed = timed_of (store_of m); area = m.area }

abbrev pub run_state_in : SiteMemory → RunState
run_state_in m = record { site = (timed_of (store_of m)).site; area = m.area }

abbrev pub site_in_memory : SiteMemory → Site
site_in_memory m = (timed_of (store_of m)).site

-- a call of hydra_site_event: three numbers, a list of windows, a tally, and an output for reports
pub record Made : Type 0 where
  pub event : ℕ
  pub node : ℕ
  pub with : ℕ
  pub windows : List Window
  pub tally : Tally
  pub reports : List ℕ

abbrev pub parsed : Made → Option Event
parsed c = event_at c.event c.node c.with

-- what the contract of hydra_site_event says of its answer, and of what memory, area and tally stand for after the call
pub record Called (m : SiteMemory) (d : Did Made SiteMemory) : Type 0 where
  pub answer : d.answer
      ≡ number (site_event_answer (store_of m) m.area d.call.windows d.call.tally d.call.reports (parsed d.call))
  pub kept : kept_of (store_of d.left) d.left.area d.tally
      ≡ kept_after_event (store_of m) m.area d.call.windows d.call.tally d.call.reports (parsed d.call)

-- the steps of a list of calls: the site is the one that memory stands for, before and behind each call
abbrev pub step_for : SiteMemory → Did Made SiteMemory → List SiteStep
step_for m d = step_of (parsed d.call) d.call.windows (site_in_memory m) (site_in_memory d.left) d.call.tally d.tally

abbrev pub steps_of : SiteMemory → List (Did Made SiteMemory) → List SiteStep
steps_of m ds = steps_by step_for m ds

abbrev pub past_in : SiteMemory → List (Did Made SiteMemory) → Past
past_in m ds = past_by (no_past (site_in_memory m)) (steps_of m ds)

-- memory after a hydra_site_load that was answered with 0, by its contract, whatever words and bytes held before; with any packet area
pub record Begun (f : Config) (rows : List ℕ) (D : ℕ) (ws : List Window) (m : SiteMemory) : Type 0 where
  pub before : Store
  pub answer : number (loading_of before f rows D ws) ≡ 0
  pub site : timed_of (store_of m) ≡ timed_after_load before f rows D ws

-- a claim about a moment (module lifted), of the words and bytes after every list of calls from an accepted load on
pub record InMemory (P : Claim) : Type 0 where
  pub holds : (f : Config) (rows : List ℕ) (D : ℕ) (ws : List Window) (m : SiteMemory) (ds : List (Did Made SiteMemory))
      → Begun f rows D ws m → CalledAll Called m ds → P f (run_state_in (left_by m ds)) (past_in m ds)

-- the statement: proved in proofs/ledger/Theorem.antt
pub record Ledger : Type 0 where
  -- what memory stands for after a list of calls
  pub stands : (m : SiteMemory) (ds : List (Did Made SiteMemory)) → CalledAll Called m ds
      → stands_for (left_by m ds) ≡ run_calls (stands_for m) (calls_in (steps_of m ds))
  -- from an accepted load on
  pub final : (f : Config) (rows : List ℕ) (D : ℕ) (ws : List Window) (m : SiteMemory) (ds : List (Did Made SiteMemory))
      → Begun f rows D ws m → CalledAll Called m ds
      → stands_for (left_by m ds) ≡ run_calls (begin_by f (table_from rows) D ws m.area) (calls_in (steps_of m ds))
  -- demand 3, and what follows a determination
  pub demand3 : InMemory Agreed
  pub sends-above : InMemory SendsAbove
  pub heirs : InMemory Heirs
  pub first-heirs : InMemory FirstHeirs
  -- what two nodes know that lack no request, and two that are complete
  pub informed : InMemory Informed
  pub completes : InMemory Completes
  -- how soon after calm
  pub rises : InMemory Rises
  pub remains : InMemory Remains
  pub settles : InMemory Settles
  -- a calm epoch made of the calls es: their accepted events, with the wants of their windows, are `body` and its end
  pub calm : (f : Config) (rows : List ℕ) (D : ℕ) (ws : List Window) (m : SiteMemory)
      (ds es : List (Did Made SiteMemory)) (body : List Event)
      (v : ℕ)
      → Begun f rows D ws m → CalledAll Called m ds → CalledAll Called (left_by m ds) es
      → events_of_all (stands_for (left_by m ds)) (calls_in (steps_of (left_by m ds) es)) ≡ whole body
      → Ready (past_in m ds) (site_in_memory (left_by m ds)) v → Calm (live_set (site_in_memory (left_by m ds))) (run_state_in (left_by m ds)) body
      → (i j : ℕ) → live_in (site_in_memory (left_by m ds)) i ≡ true → live_in (site_in_memory (left_by m ds)) j ≡ true
      → Risen (site_in_memory (left_by m ds)) (site_in_memory (left_by (left_by m ds) es)) v i j
  -- slots held: no slot is claimed twice; and the sums of the tally that the load set anew and each accepted call was lent
  pub claims : InMemory ClaimsOnce
  pub accounts : (f : Config) (rows : List ℕ) (D : ℕ) (ws : List Window) (m : SiteMemory) (ds : List (Did Made SiteMemory))
      → Begun f rows D ws m → CalledAll Called m ds → Threaded first_tally (steps_of m ds) → Accounted (site_in_memory m) (steps_of m ds)
