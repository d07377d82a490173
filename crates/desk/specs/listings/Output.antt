-- The run of a whole script (specification, 7 Script and 8 Listing), with a day of D epochs and a list of windows that
-- is lent to the load and to each end (3.7 Demands by the hour): what is printed, and what the packet area holds then.
-- Assumes nothing.
use Rattle.std.specs.Prelude.{Bool, cond, ◌||◌, Option, Some, None, Err, List, [], ◌∷◌, ◌++◌, map, ℕ, min, ◌+◌, ◌*◌, ltb, length}
use Rattle.text.specs.Ascii.{ascii}
use Rattle.text.specs.Read.{split}
use Rattle.node.specs.Answers.{Answer}
use Rattle.node.specs.Answers.{OutOfRange, NoRoom, BadWindows}
use Rattle.site.specs.Answers.{area_size}
use Rattle.site.specs.declared.Event.{Event}
use Rattle.windows.specs.Windows.{list_ok}
use Rattle.windows.specs.declared.Window.{Window}
use Rattle.machine.specs.timed.Timed.{loaded_timed, timed_answer}
use Rattle.machine.specs.timed.Calls.{Call, TimedState, after_call, run_calls}
use Rattle.script.specs.events.Events.{event_of}
use Rattle.script.specs.load.Opening.{Reading, refused, got, Opening, opening, config_read}
use Rattle.desk.specs.listing.Rows.{first_head, refusal_line, rows_text}

-- the head over the rows
abbrev pub second_head : List ℕ
second_head = ascii "node state version flags request slots\n"

-- the greatest script
abbrev pub top_script : ℕ
top_script = 40000

-- the events among parsed lines: a malformed line is none
abbrev pub event_in : Option Event → List Event
event_in None = []
event_in (Some e) = e ∷ []

-- the events of the lines, in order; what stands behind the last byte 10 is no line that is run
unfoldable pub events_in : List (List ℕ) → List Event
events_in [] = []
events_in (l ∷ []) = []
events_in (l ∷ m ∷ ls) = event_in (event_of l) ++ events_in (m ∷ ls)

-- an event as a call, and events as calls: each is lent the list of windows
abbrev pub call_of : List Window → Event → Call
call_of ws e = record { event = e; windows = ws }

abbrev pub calls_of : List Window → List Event → List Call
calls_of ws es = map (call_of ws) es

-- the state after events
abbrev pub run_by : List Window → TimedState → List Event → TimedState
run_by ws w es = run_calls w (calls_of ws es)

-- the answer to a line
abbrev pub line_answer : List Window → TimedState → Option Event → Answer
line_answer ws w None = OutOfRange
line_answer ws w (Some e) = timed_answer w.timed w.area ws e

-- the state after a line
abbrev pub line_after : List Window → TimedState → Option Event → TimedState
line_after ws w None = w
line_after ws w (Some e) = after_call w (call_of ws e)

-- behind the last byte 10: nothing, or a line without it, refused as 2
abbrev pub last_report : ℕ → List ℕ → List ℕ
last_report n [] = []
last_report n (b ∷ l) = refusal_line n OutOfRange

-- the refused lines with their numbers, the first of which is n
unfoldable pub refused_lines : List Window → TimedState → ℕ → List (List ℕ) → List ℕ
refused_lines ws w n [] = []
refused_lines ws w n (l ∷ []) = last_report n l
refused_lines ws w n (l ∷ m ∷ ls) = refusal_line n (line_answer ws w (event_of l))
    ++ refused_lines ws (line_after ws w (event_of l)) (n + 1) (m ∷ ls)

-- the state in which the events begin, with a day of D epochs, and in which they end: the fold of the events over the loaded site
abbrev pub loaded_state : ℕ → List Window → Opening → List ℕ → TimedState
loaded_state D ws o area = record { timed = loaded_timed o.config o.table D ws; area = area }

abbrev pub finished : ℕ → List Window → Opening → List ℕ → List (List ℕ) → TimedState
finished D ws o area ls = run_by ws (loaded_state D ws o area) (events_in ls)

-- whether the list of windows and the day keep the rules
abbrev pub day_fits : ℕ → List Window → Opening → Bool
day_fits D ws o = list_ok o.config.nodes D ws

-- what is printed under the first head for a script that is run: the refused event lines, the second head, and the rows
abbrev pub ran_text : ℕ → List Window → Opening → List ℕ → List (List ℕ) → List ℕ
ran_text D ws o area ls =
    refused_lines ws (loaded_state D ws o area) (5 + o.config.nodes) ls
    ++ (second_head ++ rows_text o.config.nodes 0 (finished D ws o area ls).timed.site.members o.config.slots)

-- for a script that opens: a list or a day that breaks the rules is refused as 16 with line 0, before the first event
abbrev pub listed : ℕ → List Window → Opening → List ℕ → List (List ℕ) → List ℕ
listed D ws o area ls = cond (day_fits D ws o) (ran_text D ws o area ls) (refusal_line 0 BadWindows)

abbrev pub left_area : ℕ → List Window → Opening → List ℕ → List (List ℕ) → List ℕ
left_area D ws o area ls = cond (day_fits D ws o) (finished D ws o area ls).area area

-- what is printed under the first head: where a line before the events is refused, its refusal alone
abbrev pub body : ℕ → List Window → List ℕ → Reading Opening → List ℕ
body D ws area (refused n r) = refusal_line n (Err r)
body D ws area (got o ls) = listed D ws o area ls

abbrev pub body_area : ℕ → List Window → List ℕ → Reading Opening → List ℕ
body_area D ws area (refused n r) = area
body_area D ws area (got o ls) = left_area D ws o area ls

-- a packet area that is too short, or a script that is too long: refused as 15 with line 0, before anything else
abbrev pub unfit : List ℕ → List ℕ → Bool
unfit script area = ltb (length area) area_size || ltb top_script (length script)

-- whether the first head says that the site may split: by the settings, where their line is accepted; 0 where the script isn't read
abbrev pub split_shown : List ℕ → List ℕ → ℕ
split_shown script area = cond (unfit script area) 0 (config_read (split 10 script)).split

-- what is printed
unfoldable pub output_of : ℕ → List Window → List ℕ → List ℕ → List ℕ
output_of D ws script area = first_head (split_shown script area)
    ++ cond (unfit script area) (refusal_line 0 NoRoom) (body D ws area (opening (split 10 script)))

-- what the packet area holds then
unfoldable pub final_area : ℕ → List Window → List ℕ → List ℕ → List ℕ
final_area D ws script area = cond (unfit script area) area (body_area D ws area (opening (split 10 script)))

-- room that is enough for the output of a script of n bytes: nine bytes for each of its lines, the heads and the rows
abbrev pub room_for : ℕ → ℕ
room_for n = 9 * min n top_script + 30000
