-- Only the contracts of private functions cite these: no public contract and no theorem does.
-- A line's step, the run of the event lines, and the parts of what a view of the run prints.
-- Assumes nothing.
use Rattle.std.specs.Prelude.{◌≡◌, Bool, true, cond, Option, Some, None, List, [], ◌++◌, ℕ, ◌+◌, ◌≤◌, eqb, length, drop}
use Rattle.lists.specs.Bytes.{Put}
use Rattle.text.specs.Read.{split}
use Rattle.windows.specs.declared.Window.{Window}
use Rattle.node.specs.Answers.{Answer}
use Rattle.node.specs.Answers.{Done, BadWindows}
use Rattle.site.specs.Load.{load_answer}
use Rattle.site.specs.declared.Event.{Event}
use Rattle.site.specs.Model.{Member}
use Rattle.machine.specs.Layout.{Store, site_in}
use Rattle.node.specs.declared.Ground.{Ground}
use Rattle.machine.specs.reports.Reports.{node_report_in}
use Rattle.machine.specs.timed.Calls.{TimedState}
use Rattle.machine.specs.timed.Stored.{timed_in}
use Rattle.machine.specs.declared.Day.{Day}
use Rattle.script.specs.load.Opening.{Opening}
use Rattle.script.specs.declared.Opened.{Opened}
use Rattle.desk.specs.listing.Rows.{first_head, refusal_line, rows_text}
use Rattle.desk.specs.reasons.Reasons.{reason}
use Rattle.desk.specs.listings.Output.{second_head, top_script, events_in, run_by, refused_lines, loaded_state}
use Rattle.desk.specs.listings.Output.{finished}
use Rattle.desk.specs.listings.Output.{day_fits}
use Rattle.desk.specs.listings.Why.{reason_lines, refusal_part, head_part}
use Rattle.desk.specs.declared.View.{View}
use Rattle.desk.specs.declared.View.TheVariants.{Refusals, Reasons}

-- a site in storage and its day, with the area
abbrev pub run_state_in : Store → Day → List ℕ → TimedState
run_state_in s d a = record { timed = timed_in s d; area = a }

-- what is told of an event of a site in storage, were it the next one: where the reasons of a node are asked for, what the node reports
abbrev pub event_node_report : View → Store → List ℕ → Event → Option Ground
event_node_report Refusals s a e = None
event_node_report (Reasons j) s a e = node_report_in s a e j

-- the same of a line: of a malformed one nothing
abbrev pub line_node_report : View → Store → List ℕ → Option Event → Option Ground
line_node_report v s a None = None
line_node_report v s a (Some e) = event_node_report v s a e

-- what is printed of a line
abbrev pub line_text : View → ℕ → Answer → Option Ground → List ℕ
line_text Refusals n a t = refusal_line n a
line_text (Reasons j) n a t = reason n j t

-- of all event lines
abbrev pub lines_text : View → List Window → TimedState → ℕ → List (List ℕ) → List ℕ
lines_text Refusals ws w n ls = refused_lines ws w n ls
lines_text (Reasons j) ws w n ls = reason_lines j ws w n ls

-- the event lines ls were run from a state: what is printed of them stands at a place, and site and area are those of the run
pub record Runs (v : View) (ws : List Window) (w : TimedState) (n : ℕ) (ls : List (List ℕ)) (out : List ℕ) (at to : ℕ) (kept : Store)
    (printed left : List ℕ) : Type 0 where
  pub site : site_in kept ≡ (run_by ws w (events_in ls)).timed.site
  pub area : left ≡ (run_by ws w (events_in ls)).area
  pub put : Put out at (lines_text v ws w n ls) to printed

-- settings and table that were read, and the event lines behind them
abbrev pub opening_of : Opened → Opening
opening_of o = record { config = o.config; table = o.table }

abbrev pub lines_of : List ℕ → Opened → List (List ℕ)
lines_of script o = split 10 (drop o.at script)

-- whether a view has a head: the reasons of a node are a part behind it
abbrev pub has_head : View → Bool
has_head Refusals = true
has_head (Reasons j) = eqb j 0

-- a script that is refused before its events
abbrev pub refusal_text : View → ℕ → ℕ → Answer → List ℕ
refusal_text Refusals split n a = first_head split ++ refusal_line n a
refusal_text (Reasons j) split n a = refusal_part j split n a

-- before the event lines, and behind them
abbrev pub head_text : View → ℕ → List ℕ
head_text Refusals split = first_head split
head_text (Reasons j) split = head_part j

abbrev pub rest_text : View → ℕ → ℕ → List Member → List ℕ
rest_text Refusals nodes slots ms = second_head ++ rows_text nodes 0 ms slots
rest_text (Reasons j) nodes slots ms = []

-- what is printed of a script that opens
abbrev pub ran_text : View → ℕ → List Window → Opening → List ℕ → List (List ℕ) → List ℕ
ran_text v D ws o area ls =
    head_text v o.config.split
    ++ (lines_text v ws (loaded_state D ws o area) (5 + o.config.nodes) ls
    ++ rest_text v o.config.nodes o.config.slots (finished D ws o area ls).timed.site.members)

abbrev pub open_text : View → ℕ → List Window → Opening → List ℕ → List (List ℕ) → List ℕ
open_text v D ws o area ls = cond (day_fits D ws o) (ran_text v D ws o area ls) (refusal_text v o.config.split 0 BadWindows)

-- a script that opens, with figures within their ranges, a table that loads, and room for what is printed
pub record Fits (v : View) (D : ℕ) (ws : List Window) (script : List ℕ) (o : Opened) (area out : List ℕ) : Type 0 where
  pub nodes : o.config.nodes ≤ 32
  pub slots : o.config.slots ≤ 80
  pub loads : load_answer o.config o.table ≡ Done
  pub from : o.at ≤ length script
  pub short : length script ≤ top_script
  pub some : 50 ≤ length out
  pub room : length (open_text v D ws (opening_of o) area (lines_of script o)) ≤ length out
