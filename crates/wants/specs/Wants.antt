-- Specification, 3.6 Ground of a close and 3.7 Demands by the hour: what a site reports at its closes does not depend on demands. Take
-- two lists of events that differ in their wants alone, from two accepted tables that differ in their wants alone: the reports of
-- every close are the same, and so are the answers to all events that are no wants and what is left of the site without demands,
-- requests and schedules. So it is of a list of calls with windows and of the same events without them. `split` may be 0 or 1.
-- Assumes nothing.
use Rattle.std.specs.Prelude.{◌≡◌, Bool, true, false, not, cond, ◌&&◌, ◌||◌, List, [], ◌∷◌, map, ℕ, ◌<◌, get_or}
use Rattle.node.specs.Answers.{Answer}
use Rattle.node.specs.Answers.{Done}
use Rattle.site.specs.Answers.{answer_of}
use Rattle.site.specs.Events.{is_close, is_end}
use Rattle.site.specs.Load.{no_row, load_answer}
use Rattle.site.specs.Run.{RunState, after, run}
use Rattle.node.specs.declared.Config.{Config}
use Rattle.site.specs.declared.Table.{Table}
use Rattle.site.specs.Model.{Site}
use Rattle.site.specs.declared.Event.{Event}
use Rattle.site.specs.declared.Event.TheVariants.{Send, Hear, Close, Take, End, Want, Crash, Restart}
use Rattle.machine.specs.reports.Reports.{report_of, is_reported}
use Rattle.machine.specs.declared.Report.{Report}
use Rattle.histories.specs.Reached.{begin}
use Rattle.windows.specs.Windows.{list_ok}
use Rattle.windows.specs.declared.Window.{Window}
use Rattle.machine.specs.timed.Timed.{timed_load_answer, timed_answer}
use Rattle.machine.specs.timed.Calls.{Call, TimedState, after_call, run_calls}
use Rattle.agreement.specs.daily.Daily.{begin_by}
use Rattle.wants.specs.Outline.{site_outline}

-- whether an event is a want
abbrev pub is_want : Event → Bool
is_want (Send j) = false
is_want (Hear j p) = false
is_want Close = false
is_want (Take j i) = false
is_want End = false
is_want (Want j d) = true
is_want (Crash j) = false
is_want (Restart j flags) = false

-- an element before others where a test is met
abbrev pub prepended_if : {A : Type 0} → Bool → A → List A → List A
prepended_if t x l = cond t (x ∷ l) l

-- a list of events without its wants
unfoldable pub without_wants : List Event → List Event
without_wants [] = []
without_wants (e ∷ es) = prepended_if (not (is_want e)) e (without_wants es)

-- two tables that differ in their wants alone
pub record SameButWants (t u : Table) : Type 0 where
  pub version : (i : ℕ) → i < 32 → (get_or t.rows i no_row).version ≡ (get_or u.rows i no_row).version
  pub flags : (i : ℕ) → i < 32 → (get_or t.rows i no_row).flags ≡ (get_or u.rows i no_row).flags

-- what a site reports of an event
abbrev pub report_at : Site → List ℕ → Event → Report
report_at s area e = report_of (is_reported s area e) s.members

-- the reports of all closes of a list, a refused one's too
unfoldable pub close_reports : RunState → List Event → List Report
close_reports w [] = []
close_reports w (e ∷ es) = prepended_if (is_close e) (report_at w.site w.area e) (close_reports (after w e) es)

-- the answers to all events of a list that are no wants
unfoldable pub answers : RunState → List Event → List Answer
answers w [] = []
answers w (e ∷ es) = prepended_if (not (is_want e)) (answer_of w.site w.area e) (answers (after w e) es)

-- the same of a list of calls with windows
unfoldable pub reports_by : TimedState → List Call → List Report
reports_by w [] = []
reports_by w (c ∷ cs) = prepended_if (is_close c.event) (report_at w.timed.site w.area c.event) (reports_by (after_call w c) cs)

unfoldable pub answers_by : TimedState → List Call → List Answer
answers_by w [] = []
answers_by w (c ∷ cs) =
    prepended_if (not (is_want c.event)) (timed_answer w.timed w.area c.windows c.event) (answers_by (after_call w c) cs)

-- each end is lent a list that keeps the rules of windows: none is refused as 16
unfoldable pub good_lists : ℕ → ℕ → List Call → Bool
good_lists N D [] = true
good_lists N D (c ∷ cs) = (not (is_end c.event) || list_ok N D c.windows) && good_lists N D cs

-- the events of calls, without the windows
abbrev pub events_of_calls : List Call → List Event
events_of_calls cs = map (λ (c : Call). c.event) cs

-- two lists of events, each from its own site and area
pub record SameReports (v : RunState) (es : List Event) (w : RunState) (gs : List Event) : Type 0 where
  pub told : close_reports v es ≡ close_reports w gs
  pub answered : answers v es ≡ answers w gs
  pub left : site_outline (run v es).site ≡ site_outline (run w gs).site

-- a list of calls and a list of events
pub record SameReportsBy (v : TimedState) (cs : List Call) (w : RunState) (gs : List Event) : Type 0 where
  pub told : reports_by v cs ≡ close_reports w gs
  pub answered : answers_by v cs ≡ answers w gs
  pub left : site_outline (run_calls v cs).timed.site ≡ site_outline (run w gs).site

-- the statement, for any content of the packet area: proved in proofs/Theorem.antt
pub record SameWithoutWants : Type 0 where
  pub events : (f : Config) (t u : Table) → load_answer f t ≡ Done → load_answer f u ≡ Done → SameButWants t u
      → (area : List ℕ) (es gs : List Event)
      → without_wants es ≡ without_wants gs → SameReports (begin f t area) es (begin f u area) gs
  pub windows : (f : Config) (t : Table) (D : ℕ) (ws : List Window) → timed_load_answer f t D ws ≡ Done → (area : List ℕ) (cs : List Call)
      → good_lists f.nodes D cs ≡ true → SameReportsBy (begin_by f t D ws area) cs (begin f t area) (events_of_calls cs)
