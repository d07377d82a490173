-- Specification, 3.7 Demands by the hour: a load with windows is the load of a table with other wants, and an end with
-- windows is the wants of that epoch followed by the plain end. So a list of calls with windows is a list of the eight
-- events, and demand 3 holds of it where the site may not split, whatever list each call is lent.
-- Assumes nothing.
use Rattle.std.specs.Prelude.{◌≡◌, true, false, cond, ◌&&◌, ℕ, zero, suc, ◌+◌, ◌≤◌, length}
use mathlib.Core.List.{List, [], ◌∷◌, ◌++◌, Memᴰ}
use Rattle.node.specs.Answers.{is_done}
use Rattle.node.specs.Answers.{Done}
use Rattle.site.specs.Answers.{area_size, answer_of}
use Rattle.site.specs.Load.{load_answer, loaded_site}
use Rattle.site.specs.Events.{is_end}
use Rattle.site.specs.Steps.{ended_site}
use Rattle.site.specs.Run.{RunState, run}
use Rattle.node.specs.declared.Config.{Config}
use Rattle.site.specs.declared.Table.{Table}
use Rattle.site.specs.Model.{Site}
use Rattle.site.specs.declared.Event.{Event}
use Rattle.site.specs.declared.Event.TheVariants.{End, Want}
use Rattle.histories.specs.Past.{Determination, Past, no_past, recorded, trace}
use Rattle.agreement.specs.Demand.{Agreement, Justified, SameDetermination, final, determinations}
use Rattle.windows.specs.Windows.{list_ok, has_windows, demand_at}
use Rattle.windows.specs.declared.Window.{Window}
use Rattle.machine.specs.timed.Timed.{epoch_after, given_site, given_table, timed_load_answer, loaded_timed, in_last_round, begins_epoch}
use Rattle.machine.specs.timed.Timed.{timed_answer}
use Rattle.machine.specs.timed.Calls.{Call, TimedState, after_call, run_calls}

-- the wants of an epoch: one for each of the first n nodes that has windows
unfoldable pub wants_of : List Window → ℕ → ℕ → List Event
wants_of ws e zero = []
wants_of ws e (suc n) = wants_of ws e n ++ cond (has_windows ws (n + 1)) (Want (n + 1) (demand_at ws (n + 1) e) ∷ []) []

-- the events that a call stands for: an accepted end that begins an epoch, its wants and then the end; an end refused as 16, none; any
-- other, its own
unfoldable pub events_of : TimedState → Call → List Event
events_of w c =
    cond (is_end c.event && is_done (answer_of w.timed.site w.area c.event))
    (cond (list_ok w.timed.site.config.nodes w.timed.day.length c.windows)
    (cond (in_last_round w.timed.site) (wants_of c.windows (epoch_after w.timed.day) 32 ++ (c.event ∷ [])) (c.event ∷ []))
    [])
    (c.event ∷ [])

unfoldable pub events_of_all : TimedState → List Call → List Event
events_of_all w [] = []
events_of_all w (c ∷ cs) = events_of w c ++ events_of_all (after_call w c) cs

-- a list of calls from a site just loaded with windows
abbrev pub begin_by : Config → Table → ℕ → List Window → List ℕ → TimedState
begin_by f t D ws area = record { timed = loaded_timed f t D ws; area = area }

abbrev pub final_by : Config → Table → ℕ → List Window → List ℕ → List Call → Site
final_by f t D ws area cs = (run_calls (begin_by f t D ws area) cs).timed.site

-- what an accepted call adds to the past; a refused one adds nothing
unfoldable pub past_after_call : Past → TimedState → Call → Past
past_after_call past w c =
    cond (is_done (timed_answer w.timed w.area c.windows c.event))
    (recorded past w.timed.site c.event (after_call w c).timed.site) past

-- the past of a list of calls
unfoldable pub trace_calls : Past → TimedState → List Call → Past
trace_calls past w [] = past
trace_calls past w (c ∷ cs) = trace_calls (past_after_call past w c) (after_call w c) cs

abbrev pub determinations_by : Config → Table → ℕ → List Window → List ℕ → List Call → List Determination
determinations_by f t D ws area cs = (trace_calls (no_past (loaded_timed f t D ws).site) (begin_by f t D ws area) cs).log

-- demand 3 of a list of calls
pub record DailyDemand3 (f : Config) (t : Table) (D : ℕ) (ws : List Window) (area : List ℕ) (cs : List Call) : Type 0 where
  pub agreement : (final_by f t D ws area cs).negotiates ≡ true → Agreement (final_by f t D ws area cs)
  pub justified : (d : Determination) → Memᴰ d (determinations_by f t D ws area cs) → Justified f.nodes d
  pub unique : (d e : Determination) → Memᴰ d (determinations_by f t D ws area cs) → Memᴰ e (determinations_by f t D ws area cs)
      → d.epoch ≡ e.epoch → SameDetermination d e

-- a list of calls is a list of events from a table with other wants: the same site, and the same versions determined
pub record Plain (f : Config) (t : Table) (D : ℕ) (ws : List Window) (area : List ℕ) (cs : List Call) : Type 0 where
  pub loads : load_answer f (given_table ws t) ≡ Done
  pub site : final_by f t D ws area cs ≡ final f (given_table ws t) area (events_of_all (begin_by f t D ws area) cs)
  pub log : determinations_by f t D ws area cs ≡ determinations f (given_table ws t) area (events_of_all (begin_by f t D ws area) cs)

-- the statement: proved in proofs/daily/Theorem.antt
pub record Daily : Type 0 where
  -- an end that begins an epoch is its wants and then the plain end
  pub ended-by-wants : (s : Site) (area : List ℕ) (D e : ℕ) (ws : List Window) → length s.members ≡ 32 → area_size ≤ length area
      → list_ok s.config.nodes D ws ≡ true → s.negotiates ≡ false
      → ended_site (given_site ws e s) ≡ (run (record { site = s; area = area }) (wants_of ws e 32 ++ (End ∷ []))).site
  pub plain : (f : Config) (t : Table) (D : ℕ) (ws : List Window) → timed_load_answer f t D ws ≡ Done → (area : List ℕ) (cs : List Call)
      → Plain f t D ws area cs
  pub demand3 : (f : Config) (t : Table) (D : ℕ) (ws : List Window) → timed_load_answer f t D ws ≡ Done → f.split ≡ 0
      → (area : List ℕ) (cs : List Call) → DailyDemand3 f t D ws area cs
